-- Law: numbers and lengths of lists that are padded, joined or listed: how arrays hold words and a table's facts. Assumes nothing.
use Prim.Native.Nat.{ℕ, zero, suc, ◌-◌, ◌≤◌, ◌<◌}
use mathlib.Core.Path.{◌≡◌, refl, ap, ◌∙◌}
use mathlib.Core.Bool.{true}
use mathlib.Core.List.{List, [], ◌∷◌, ◌++◌}
use mathlib.Core.Logic.{inl, inr}
use native.Mathlib.Omega.{arith}
use lib.Dec.{ltb}
use lib.ListN.{length, get_or, replicate, length-append, length-replicate, get_or-append}
use lib.Seq.{get_or_at}
use borrow.Author.Tests.{ltb-true, lt-ltb}
use Rattle.meaning.specs.Choices.{at, padded, listed, all_below}
use Rattle.meaning.specs.Terms.{count, tree}
use Rattle.meaning.specs.declared.Known.{Known}
use Rattle.meaning.specs.Answers.{known_of, known_facts}
use Rattle.meaning.proofs.Tests.{split, both}

pub zeros-at : (n j : ℕ) → at (replicate n 0) j ≡ 0
zeros-at zero j = refl
zeros-at (suc n) zero = refl
zeros-at (suc n) (suc j) = zeros-at n j

-- Zeros after a list change none of its numbers.
pub zeros-after : (l : List ℕ) (n j : ℕ) → at (l ++ replicate n 0) j ≡ at l j
zeros-after [] n j = zeros-at n j
zeros-after (a ∷ l) n zero = refl
zeros-after (a ∷ l) n (suc j) = zeros-after l n j

pub padded-at : (n : ℕ) (l : List ℕ) (j : ℕ) → at (padded n l) j ≡ at l j
padded-at n l j = zeros-after l (n - length l) j

pub padded-length : (n : ℕ) (l : List ℕ) → length l ≤ n → length (padded n l) ≡ n
padded-length n l h = simp (length-append, length-replicate) (omega arith)

-- What holds of every number of two lists holds of every number of both.
pub append-all : (P : ℕ → Type 0) (l m : List ℕ) → ((j : ℕ) → P (at l j)) → ((j : ℕ) → P (at m j)) → (j : ℕ) → P (at (l ++ m) j)
append-all P [] m f g j = g j
append-all P (a ∷ l) m f g zero = f 0
append-all P (a ∷ l) m f g (suc j) = append-all P l m (λ i. f (suc i)) g j

-- f of each number below n.
module _ {A : Type 0} (f : ℕ → A) where
  pub listed-length : (n : ℕ) → length (listed f n) ≡ n
  unfolding listed
  listed-length zero = refl
  listed-length (suc n) = simp length-append (omega (arith, listed-length n))

  pub listed_at : (n k : ℕ) (d : A) → k < n → get_or (listed f n) k d ≡ f k
  unfolding listed
  listed_at zero k d h = absurd (omega arith)
  listed_at (suc n) k d h = elim (split k n) [
    | inl a ↦ get_or-append (listed f n) (f n ∷ []) d k (omega (arith, listed-length n)) ∙ listed_at n k d a
    | inr a ↦ (let q : n ≡ k = omega arith in get_or_at (listed f n) (f n) [] d k (listed-length n ∙ q) ∙ ap f q)
  ]

-- What is known of each term, in an array of 256.
module _ (t : List ℕ) (few : count t ≤ 256) where
  pub facts-length : length (known_facts t) ≡ 256
  facts-length = simp (length-append, length-replicate) (omega (arith, listed-length (λ k. known_of (tree t k)) (count t)))

  pub facts-at : (k : ℕ) (d : Known) → k < count t → get_or (known_facts t) k d ≡ known_of (tree t k)
  facts-at k d h =
      get_or-append (listed (λ j. known_of (tree t j)) (count t)) _ d k (omega (arith, listed-length (λ j. known_of (tree t j)) (count t)))
      ∙ listed_at (λ j. known_of (tree t j)) (count t) k d h

-- The test that all numbers are below a bound.
pub all-below-at : (b : ℕ) (l : List ℕ) → all_below b l ≡ true → (j : ℕ) → j < length l → at l j < b
unfolding all_below
all-below-at b [] h j i = absurd (omega arith)
all-below-at b (a ∷ l) h zero i = ltb-true a b (both (ltb a b) (all_below b l) h).0
all-below-at b (a ∷ l) h (suc j) i = all-below-at b l (both (ltb a b) (all_below b l) h).1 j (omega arith)

pub at-all-below : (b : ℕ) (l : List ℕ) → ((j : ℕ) → j < length l → at l j < b) → all_below b l ≡ true
unfolding all_below
at-all-below b [] h = refl
at-all-below b (a ∷ l) h =
    rw (lt-ltb a b (h 0 (omega arith))) (at-all-below b l (λ j i. h (suc j) (omega arith)))

-- Past the end stands 0, so a positive bound holds of every number.
pub all-below-every : (b : ℕ) (l : List ℕ) → 0 < b → all_below b l ≡ true → (j : ℕ) → at l j < b
unfolding all_below
all-below-every b [] p h j = p
all-below-every b (a ∷ l) p h zero = ltb-true a b (both (ltb a b) (all_below b l) h).0
all-below-every b (a ∷ l) p h (suc j) = all-below-every b l p (both (ltb a b) (all_below b l) h).1 j
