-- Law: the verdict of a netlist is its tests in order, and then the scan of its cells. `check` cites the set. Assumes nothing.
use Prim.Native.Nat.{ℕ}
use mathlib.Core.Path.{◌≡◌, refl}
use mathlib.Core.List.{List}
use Rattle.meaning.specs.declared.Cause.TheVariants as cause
use Rattle.meaning.specs.Choices.{pick}
use Rattle.meaning.specs.Refusals.{passed, refused}
use Rattle.meaning.specs.Checks.{width_fits, first_refusal}
use Rattle.circuit.specs.Cells.{cell_count}
use Rattle.circuit.specs.Netlists.{netlist_fits, cell_refusal, netlist_verdict}
use Rattle.cells.proofs.Scan.{going_start, going_end, going-stop, going_on}

pub in_order : (w : ℕ) (net : List ℕ) → netlist_verdict w net ≡
    pick (width_fits w)
    (pick (netlist_fits net) (first_refusal (cell_refusal w net) (cell_count net) 0 passed) (refused cause.NetlistLength 0))
    (refused cause.Width 0)
unfolding netlist_verdict
in_order w net = refl

pub ruleset by_steps = (in_order, going_start, going_end, going-stop, going_on)
