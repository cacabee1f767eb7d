-- Law: how a list of numbers is read byte by byte, that too many numbers stay too many, and what is listed with one more.
-- `close` and `Underway` cite it. Assumes nothing.
use Rattle.std.proofs.Common.{◌≡◌, ℕ, suc, ◌+◌, ◌-◌, ◌^◌, ◌≤◌, ◌<◌, ◌⊎◌, List, [], ◌∷◌, ◌++◌, length, set, replicate, ltb}
use Rattle.std.proofs.Common.{Option, Some, None, refl, sym, arith, length-append}
use Rattle.std.proofs.Math.Seq.{append_snoc, set-append_seam}
use Rattle.std.proofs.lemmas.Bool.Decides.{nat_tests}
use borrow.Author.Tests.{lt-ltb, le-ltb, le-leb, lt-leb}
use mathlib.Core.Logic.{⊎_elim}
use Rattle.meaning.specs.Choices.{padded}
use Rattle.meaning.proofs.Tests.{by-test}
use Rattle.numbers.specs.declared.Listed.{Listed}
use Rattle.numbers.specs.Lists.{is_digit, is_gap, Progress, closed, after_gap, grown, after_digit, read_from, limited, Holds}

-- One byte.
module _ (c : ℕ) (l : List ℕ) (p : Progress) where
  pub read-digit : 48 ≤ c → c ≤ 57 → grown p.current c < 2 ^ 32 → read_from (c ∷ l) p ≡ read_from l (after_digit c p)
  unfolding read_from
  read-digit a b h = rw (le-leb 48 c a, le-leb c 57 b, lt-ltb _ _ h) refl

  pub read-large : 48 ≤ c → c ≤ 57 → 2 ^ 32 ≤ grown p.current c → read_from (c ∷ l) p ≡ None
  unfolding read_from
  read-large a b h = rw (le-leb 48 c a, le-leb c 57 b, le-ltb _ _ h) refl

  pub read-gap : (c ≡ 10) ⊎ (c ≡ 32) → read_from (c ∷ l) p ≡ read_from l (after_gap p)
  unfolding read_from
  read-gap g = ⊎_elim (λ e. rw e refl) (λ e. rw e refl) g

  pub read-other : (48 ≤ c → 57 < c) → ((c ≡ 10) ⊎ (c ≡ 32) → ⊥) → read_from (c ∷ l) p ≡ None
  unfolding read_from
  read-other a b = grind (arith, nat_tests)

-- Too many numbers stay too many.
pub over : (ns : List ℕ) → 1025 < length ns → limited (Some ns) ≡ None
over ns h = rw (lt-leb (length ns) 1025 h, le-leb 1 (length ns) (omega arith)) refl

pub too_many : (l : List ℕ) (p : Progress) → 1025 < length p.ended → limited (read_from l p) ≡ None
unfolding read_from
too_many [] p h = over (closed p) (simp length-append (omega arith))
too_many (c ∷ l) p h =
    by-test (λ (r : Option (List ℕ)). limited r ≡ None) (is_digit c) _ _
    (λ d. by-test (λ (r : Option (List ℕ)). limited r ≡ None) (ltb (grown p.current c) (2 ^ 32)) _ _
    (λ u. too_many l (after_digit c p) h) (λ u. refl))
    (λ d. by-test (λ (r : Option (List ℕ)). limited r ≡ None) (is_gap c) _ _
    (λ g. too_many l (after_gap p) (simp length-append (omega arith))) (λ g. refl))

-- An array with one number more.
zeros-more : (k n : ℕ) → k < n → replicate {A = ℕ} (n - k) 0 ≡ 0 ∷ replicate (n - suc k) 0
zeros-more k n h = let e : n - k ≡ suc (n - suc k) = omega arith in rw e refl

padded-more : (ns : List ℕ) (v : ℕ) → length ns < 1025 → set (padded 1025 ns) (length ns) v ≡ padded 1025 (ns ++ (v ∷ []))
padded-more ns v h =
    let e : length (ns ++ (v ∷ [])) ≡ suc (length ns) = simp length-append (omega arith) in
    rw (zeros-more (length ns) 1025 h, set-append_seam ns 0 (replicate (1025 - suc (length ns)) 0) v, e) (sym (append_snoc ns v _))

pub holds_more : (ns : List ℕ) (v : ℕ) {L : Listed} → L.count < 1025 → Holds ns L →
    Holds (ns ++ (v ∷ [])) (record { count = L.count + 1; numbers = set L.numbers L.count v })
holds_more ns v {L} h p =
    let h : length ns < 1025 = rw p.held at h in
    let e : length ns + 1 ≡ length (ns ++ (v ∷ [])) = simp length-append in
    rw p.held (record { few = omega (arith, e); held = rw (padded-more ns v h, e) refl })
