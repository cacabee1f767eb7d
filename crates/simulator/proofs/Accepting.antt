-- Law: what an accepted call of the simulator knows. Assumes nothing.
use Prim.Native.Nat.{ℕ, ◌^◌}
use mathlib.Core.Path.{◌≡◌, refl}
use mathlib.Core.Bool.{true}
use mathlib.Core.List.{List}
use lib.Dec.{eqb, leb}
use lib.ListN.{length}
use borrow.Author.Tests.{eqb-true}
use Rattle.std.specs.Prelude.{Ok, Err}
use Rattle.meaning.specs.Choices.{and, all_below}
use Rattle.meaning.specs.Words.{Words}
use Rattle.meaning.specs.Refusals.{Verdict, passed, on_verdict}
use Rattle.meaning.specs.Checks.{first_refusal}
use Rattle.meaning.proofs.Tests.{both}
use Rattle.meaning.proofs.Verdicts.{no-error, went_on}
use Rattle.circuit.specs.Cells.{cell_count}
use Rattle.circuit.specs.Netlists.{netlist_verdict}
use Rattle.circuit.specs.Simulated.{inputs_given, inputs_verdict, wire_refusal, power_up_verdict, step_verdict}
use Rattle.simulator.proofs.Judging.{power_up_in_order, step_in_order}
use Rattle.cycles.specs.Ready.{Ready}

-- Where the last of two judgements accepts, both do.
two-accept : (v u : Verdict) → on_verdict v u Err ≡ passed → (v ≡ passed) × (u ≡ passed)
two-accept (Ok tt) u e = (refl, e)
two-accept (Err r) u e = no-error r e

inputs-named : (w : ℕ) (net : List ℕ) (words : Words) → inputs_verdict w net words ≡ passed →
    inputs_given net (length words) (cell_count net) ≡ true
inputs-named w net words e =
    let a = went_on (and (leb (length words) 16) (and (inputs_given net (length words) (cell_count net)) (all_below (2 ^ w) words)))
    passed _ e in
    (both (inputs_given net (length words) (cell_count net)) (all_below (2 ^ w) words) (both (leb (length words) 16) _ a.0).1).0

pub first-ready : (w : ℕ) (net : List ℕ) (words : Words) (room : ℕ) → power_up_verdict w net words room ≡ passed →
    Ready w net (length words) room
first-ready w net words room e =
    let a = two-accept (netlist_verdict w net) _ (rw power_up_in_order at e) in
    let b = went_on (eqb room (cell_count net)) (inputs_verdict w net words) _ a.1 in
    record { checked = a.0; named = inputs-named w net words b.1; fitting = eqb-true _ _ b.0 }

pub step-ready : (w : ℕ) (net earlier : List ℕ) (words : Words) (room : ℕ) → step_verdict w net earlier words room ≡ passed →
    (Ready w net (length words) room) × (length earlier ≡ cell_count net)
step-ready w net earlier words room e =
    let a = two-accept (netlist_verdict w net) _ (rw step_in_order at e) in
    let b = went_on (and (eqb (length earlier) (cell_count net)) (eqb room (cell_count net))) _ _ a.1 in
    let d = both (eqb (length earlier) (cell_count net)) (eqb room (cell_count net)) b.0 in
    let f = two-accept (first_refusal (wire_refusal w net earlier) (cell_count net) 0 passed) (inputs_verdict w net words) b.1 in (
      record { checked = a.0; named = inputs-named w net words f.1; fitting = eqb-true _ _ d.1 },
      eqb-true _ _ d.0,
    )
