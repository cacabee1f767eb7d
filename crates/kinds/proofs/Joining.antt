-- Law: check 6 is a fact of each operand, and how many operands a kind has. Cited by the scan and by the shapes. Assumes nothing.
use Prim.Native.Nat.{ℕ, zero, suc, ◌+◌, ◌≤◌, ◌<◌}
use mathlib.Core.Path.{◌≡◌, refl, sym}
use mathlib.Core.Bool.{Bool, true, false}
use mathlib.Core.List.{List}
use mathlib.Core.Logic.{inl, inr}
use native.Mathlib.Omega.{arith}
use lib.Dec.{eqb}
use borrow.Author.Tests.{lt-ltb, le-ltb}
use Rattle.meaning.specs.declared.Kind.TheVariants as kind
use Rattle.meaning.specs.Choices.{and}
use Rattle.meaning.specs.Kinds.{kind_named}
use Rattle.meaning.specs.Terms.{number_of}
use Rattle.meaning.specs.Checks.{operands_of, operands_below}
use Rattle.meaning.proofs.Tests.{split, by-test}
use Rattle.meaning.proofs.Naming.{named}

module _ (t : List ℕ) (k : ℕ) where
  -- Where all are below, the check passes.
  pub all-below : (n : ℕ) → ((j : ℕ) → 1 ≤ j → j ≤ n → number_of t k j < k) → operands_below t k n ≡ true
  unfolding operands_below
  all-below zero h = refl
  all-below (suc n) h =
      rw (all-below n (λ j l u. h j l (omega arith)), lt-ltb (number_of t k (suc n)) k (h (suc n) (omega arith) (omega arith)))

  -- One operand more.
  pub one-more-below : (n : ℕ) → ((j : ℕ) → 1 ≤ j → j < n → number_of t k j < k) → number_of t k n < k →
      (j : ℕ) → 1 ≤ j → j < n + 1 → number_of t k j < k
  one-more-below n h q j l u = elim (split j n) [
    | inl a ↦ h j l a
    | inr a ↦ (let e : j ≡ n = omega arith in rw e q)
  ]

  -- Where one is not, it does not.
  fails : (b : Bool) → and b false ≡ false
  fails true = refl
  fails false = refl

  pub one-above : (n j : ℕ) → 1 ≤ j → j ≤ n → k ≤ number_of t k j → operands_below t k n ≡ false
  unfolding operands_below
  one-above zero j l u h = absurd (omega arith)
  one-above (suc n) j l u h = elim (split j (suc n)) [
    | inl a ↦ rw (one-above n j l (omega arith) h)
    | inr a ↦
        (let e : suc n ≡ j = omega arith in
        let q : k ≤ number_of t k (suc n) = rw e h in
        rw (le-ltb (number_of t k (suc n)) k q) (fails (operands_below t k n)))
  ]

-- How many operands each combinator has; no kind has more than three.
module _ (k : ℕ) where
  pub seq_operands : kind.Seq ≡ kind_named k → operands_of k ≡ 2
  unfolding operands_of
  seq_operands e = let n : k ≡ 1 = named k kind.Seq (sym e) in rw n

  pub par_operands : kind.Par ≡ kind_named k → operands_of k ≡ 2
  unfolding operands_of
  par_operands e = let n : k ≡ 2 = named k kind.Par (sym e) in rw n

  pub ite_operands : kind.Ite ≡ kind_named k → operands_of k ≡ 3
  unfolding operands_of
  ite_operands e = let n : k ≡ 3 = named k kind.Ite (sym e) in rw n

  pub rec_operands : kind.Rec ≡ kind_named k → operands_of k ≡ 3
  unfolding operands_of
  rec_operands e = let n : k ≡ 4 = named k kind.Rec (sym e) in rw n

  pub few_operands : operands_of k ≤ 3
  unfolding operands_of
  few_operands =
      by-test (λ n. n ≤ 3) (eqb k 1) _ _ (λ z. omega arith) (λ z.
      by-test (λ n. n ≤ 3) (eqb k 2) _ _ (λ z. omega arith) (λ z.
      by-test (λ n. n ≤ 3) (eqb k 3) _ _ (λ z. omega arith) (λ z.
      by-test (λ n. n ≤ 3) (eqb k 4) _ _ (λ z. omega arith) (λ z. omega arith))))
