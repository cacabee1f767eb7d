-- Invariant: what is left of the scan gives what all of it gives (`proofs.Scan`).
use Rattle.meaning.specs.Refusals.{passed}
use Rattle.circuit.specs.Cells.{cell_count}
use Rattle.circuit.specs.Netlists.{cell_refusal}
use Rattle.cells.proofs.Scan.{Going}
use Rattle.cells.proofs.check.Given as goal

abbrev pub invariant-loop-n : goal.invariant-loop-n
invariant-loop-n l = Going (cell_refusal l.width.bits l.netlist) (cell_count l.netlist) passed l.n
