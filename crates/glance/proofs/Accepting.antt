-- Law: a step whose cells are sound is accepted. `glance::step` cites it. Assumes nothing.
use Prim.Native.Nat.{ℕ, zero, suc, ◌<◌, ◌^◌}
use mathlib.Core.Path.{◌≡◌, refl}
use mathlib.Core.Bool.{Bool, true, false}
use mathlib.Core.List.{List}
use native.Mathlib.Omega.{arith}
use lib.Dec.{eqb, ltb, leb}
use lib.ListN.{length}
use borrow.Author.Tests.{lt-ltb, eq-eqb, eqb-true}
use Rattle.meaning.specs.Choices.{pick, all_below}
use Rattle.meaning.specs.Words.{Words}
use Rattle.meaning.specs.Refusals.{passed}
use Rattle.meaning.specs.Checks.{width_fits, first_refusal}
use Rattle.circuit.specs.Cells.{cell_number, kind_at, cell_count}
use Rattle.circuit.specs.Netlists.{netlist_fits, cell_refusal, netlist_verdict}
use Rattle.circuit.specs.Simulated.{inputs_given, inputs_verdict, wire_refusal, step_verdict}
use Rattle.meaning.proofs.Verdicts.{scan-passes}
use Rattle.glance.specs.Sound.{AllSound}

module _ (w : ℕ) (net : List ℕ) (given : ℕ) (wires : List ℕ) where
  -- Each of the first m input cells names a word that is given, where the first m cells are sound.
  named : (k x : ℕ) → (k ≡ 8 → x < given) → (b : Bool) → eqb k 8 ≡ b → pick b (ltb x given) true ≡ true
  named k x f true e = lt-ltb x given (f (eqb-true k 8 e))
  named k x f false e = refl

  all-given : (m : ℕ) → AllSound w net given wires m → inputs_given net given m ≡ true
  unfolding inputs_given
  all-given zero all = refl
  all-given (suc m) all =
      rw (all-given m (λ n l. all n (omega arith))) (named (kind_at net m) (cell_number net m 1) (all m (omega arith)).named _ refl)

module _ (w : ℕ) (net earlier : List ℕ) (words : Words) (all : AllSound w net (length words) earlier (cell_count net)) where
  checked : first_refusal (cell_refusal w net) (cell_count net) 0 passed ≡ passed
  checked = scan-passes (cell_refusal w net) (cell_count net) 0 passed (λ j l u. (all j (omega arith)).unrefused)

  ranged : first_refusal (wire_refusal w net earlier) (cell_count net) 0 (inputs_verdict w net words) ≡ inputs_verdict w net words
  ranged = scan-passes (wire_refusal w net earlier) (cell_count net) 0 (inputs_verdict w net words)
      (λ j l u. rw (all j (omega arith)).ranged)

  pub accepted : (room : ℕ) → width_fits w ≡ true → netlist_fits net ≡ true → length earlier ≡ cell_count net → room ≡ cell_count net →
      leb (length words) 16 ≡ true → all_below (2 ^ w) words ≡ true → step_verdict w net earlier words room ≡ passed
  unfolding step_verdict netlist_verdict
  accepted room a b l r few fit = rw (
    a,
    b,
    checked,
    eq-eqb (length earlier) (cell_count net) l,
    eq-eqb room (cell_count net) r,
    ranged,
    few,
    all-given w net (length words) earlier (cell_count net) all,
    fit,
  )
