-- Law: the simulator's verdicts are its tests in order. Assumes nothing.
use Prim.Native.Nat.{ℕ}
use mathlib.Core.Path.{◌≡◌, refl}
use mathlib.Core.List.{List}
use Rattle.std.specs.Prelude.{eqb, length, Err}
use Rattle.meaning.specs.declared.Cause.TheVariants as cause
use Rattle.meaning.specs.Choices.{pick, and}
use Rattle.meaning.specs.Words.{Words}
use Rattle.meaning.specs.Refusals.{passed, refused, on_verdict}
use Rattle.meaning.specs.Checks.{first_refusal}
use Rattle.circuit.specs.Cells.{cell_count}
use Rattle.circuit.specs.Netlists.{netlist_verdict}
use Rattle.circuit.specs.Simulated.{inputs_verdict, wire_refusal, power_up_verdict, step_verdict}
use Rattle.cells.proofs.Scan.{going_start, going_end, going_on, scan-then}

-- 18, wire by wire.
pub ruleset by_steps = (going_start, going_end, going_on)

pub power_up_in_order : (w : ℕ) (net : List ℕ) (words : Words) (room : ℕ) → power_up_verdict w net words room ≡
    on_verdict (netlist_verdict w net) (pick (eqb room (cell_count net)) (inputs_verdict w net words) (refused cause.WireRoom 0)) Err
unfolding power_up_verdict
power_up_in_order w net words room = refl

-- The words are judged after the last wire.
pub step_in_order : (w : ℕ) (net earlier : List ℕ) (words : Words) (room : ℕ) → step_verdict w net earlier words room ≡
    on_verdict (netlist_verdict w net)
    (pick (and (eqb (length earlier) (cell_count net)) (eqb room (cell_count net)))
    (on_verdict (first_refusal (wire_refusal w net earlier) (cell_count net) 0 passed) (inputs_verdict w net words) Err)
    (refused cause.WireRoom 0))
    Err
unfolding step_verdict
step_in_order w net earlier words room =
    rw (scan-then (wire_refusal w net earlier) (cell_count net) 0 (inputs_verdict w net words)) refl
