-- Law: `all` over a list is a test of ever more places, as definitions go on by one. Chains over a range and over an enumerated list.
-- `names_given` and the ports' outputs cite it. Assumes nothing.
use Prim.Native.Nat.{ℕ, zero, suc, ◌≤◌, ◌<◌}
use mathlib.Core.Path.{◌≡◌, refl, sym, ap, ◌∙◌}
use mathlib.Core.Bool.{Bool, true, false}
use mathlib.Core.List.{List}
use native.Mathlib.Nat.{zero-add}
use native.Mathlib.Numerals.{add-one}
use native.Mathlib.Omega.{arith}
use lib.ListN.{length, get_or, take}
use lib.Seq.{take_all}
use Rattle.std.specs.Prelude.{◌&&◌}
use Rattle.std.specs.List.{list_all, range_with_len, enumerate_from}
use Rattle.std.proofs.lemmas.List.Folds.{list_all_more}
use Rattle.std.proofs.lemmas.List.FromFn.{length-range_with_len, get_or-range_with_len, length-enumerate_from, get_or-enumerate_from}
use Rattle.meaning.specs.Choices.{and}

both-and : (a b : Bool) → (a && b) ≡ and a b
both-and true b = refl
both-and false b = refl

-- `here n` is what the test says of element n, and `so_far n` of the first n.
module _ {A : Type 0} (test : A → Bool) (here so_far : ℕ → Bool) (none : so_far 0 ≡ true)
    (more : (n : ℕ) → so_far (suc n) ≡ and (so_far n) (here n)) (xs : List A) (d : A)
    (same : (n : ℕ) → n < length xs → test (get_or xs n d) ≡ here n) where
  first : (n : ℕ) → n ≤ length xs → list_all test (take n xs) ≡ so_far n
  first zero l = sym none
  first (suc n) l =
      let u : n < length xs = omega arith in
      let e : list_all test (take (suc n) xs) ≡ (list_all test (take n xs) && test (get_or xs n d))
      = rw (← add-one n) (list_all_more test xs n d u) in
      e ∙ rw (first n (omega arith), same n u) (both-and (so_far n) (here n)) ∙ sym (more n)

  by_places : list_all test xs ≡ so_far (length xs)
  by_places = ap (list_all test) (sym (take_all (length xs) xs (omega arith))) ∙ first (length xs) (omega arith)

-- The numbers below n, and a list with its places.
module _ (test so_far : ℕ → Bool) (none : so_far 0 ≡ true) (more : (n : ℕ) → so_far (suc n) ≡ and (so_far n) (test n)) where
  pub all_in_range : (n : ℕ) → list_all test (range_with_len 0 n) ≡ so_far n
  all_in_range n =
      by_places test test so_far none more (range_with_len 0 n) 0 (λ k l.
      let u : k < n = omega (arith, length-range_with_len 0 n) in
      ap test (get_or-range_with_len 0 n k 0 u ∙ zero-add k))
      ∙ ap so_far (length-range_with_len 0 n)

module _ {A : Type 0} (test : ℕ × A → Bool) (xs : List A) (d : A) (so_far : ℕ → Bool) (none : so_far 0 ≡ true)
    (more : (n : ℕ) → so_far (suc n) ≡ and (so_far n) (test (n, get_or xs n d))) where
  pub all_enumerated : list_all test (enumerate_from 0 xs) ≡ so_far (length xs)
  all_enumerated =
      by_places test (λ n. test (n, get_or xs n d)) so_far none more (enumerate_from 0 xs) (0, d) (λ k l.
      let u : k < length xs = omega (arith, length-enumerate_from 0 xs) in
      ap test (get_or-enumerate_from 0 xs k (0, d) u ∙ rw zero-add refl))
      ∙ ap so_far (length-enumerate_from 0 xs)
