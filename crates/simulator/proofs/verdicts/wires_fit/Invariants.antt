-- Invariant: what is left of the scan gives what all of it gives (`cells.proofs.Scan`).
use Rattle.meaning.specs.Refusals.{passed}
use Rattle.circuit.specs.Cells.{cell_count}
use Rattle.circuit.specs.Simulated.{wire_refusal}
use Rattle.cells.proofs.Scan.{Going}
use Rattle.simulator.proofs.verdicts.wires_fit.Given as goal

abbrev pub invariant-loop-n : goal.invariant-loop-n
invariant-loop-n l = Going (wire_refusal l.width.bits l.netlist l.wires) (cell_count l.netlist) passed l.n
