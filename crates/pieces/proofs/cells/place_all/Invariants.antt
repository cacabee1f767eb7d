-- Invariant: the first i cells are written. Mathematics in `proofs.Placing`.
use Rattle.std.proofs.Common.{◌≡◌, map, take}
use Rattle.circuit.specs.Gates.{cell_of}
use Rattle.pieces.specs.Writing.{written}
use Rattle.pieces.proofs.cells.place_all.Given as goal

abbrev pub invariant-loop-i : goal.invariant-loop-i
invariant-loop-i l = l.netlist ≡ written l.initial.netlist l.at (map cell_of (take l.i l.cells))
