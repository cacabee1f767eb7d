-- Law: where the input cells name given words, each of them does. `proofs.Reading` cites it. Assumes nothing.
use Prim.Native.Nat.{ℕ, zero, suc, ◌<◌}
use mathlib.Core.Path.{◌≡◌, ap, ◌∙◌}
use mathlib.Core.Bool.{Bool, true}
use mathlib.Core.List.{List}
use mathlib.Core.Logic.{⊎_elim}
use native.Mathlib.Nat.{eq-or-lt_of_le}
use native.Mathlib.Omega.{arith}
use lib.Dec.{eqb, ltb}
use borrow.Author.Tests.{eq-eqb, ltb-true}
use Rattle.meaning.specs.Choices.{pick}
use Rattle.meaning.proofs.Tests.{both}
use Rattle.circuit.specs.Cells.{cell_number, kind_at}
use Rattle.circuit.specs.Simulated.{inputs_given}

module _ (net : List ℕ) (m : ℕ) where
  -- Cell n is no input cell, or names one of m words.
  abbrev pub named : ℕ → Bool
  named n = pick (eqb (kind_at net n) 8) (ltb (cell_number net n 1) m) true

  -- Where all do, each does.
  pub given-at : (n count : ℕ) → n < count → inputs_given net m count ≡ true → kind_at net n ≡ 8 → cell_number net n 1 < m
  unfolding inputs_given
  given-at n zero l g e = absurd (omega arith)
  given-at n (suc count) l g e =
      let a = both (inputs_given net m count) (named count) g in
      ⊎_elim
      (λ i. ltb-true _ m (here i a.1))
      (λ k. given-at n count (omega arith) a.0 e)
      (eq-or-lt_of_le {n = n} {m = count} (omega arith))
    where
      here : n ≡ count → named count ≡ true → ltb (cell_number net n 1) m ≡ true
      here i h =
          let b : named n ≡ true = ap named i ∙ h in
          rw (eq-eqb (kind_at net n) 8 e) at b
