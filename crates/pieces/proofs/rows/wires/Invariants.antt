-- Invariant: the row holds the first j wires. Mathematics in `proofs.Turns`.
use Rattle.std.proofs.Common.{◌≡◌}
use Rattle.meaning.specs.Choices.{padded}
use Rattle.circuit.specs.Pieces.{wires_from}
use Rattle.pieces.proofs.rows.wires.Given as goal

abbrev pub invariant-loop-j : goal.invariant-loop-j
invariant-loop-j l = l.row ≡ padded 16 (wires_from l.at l.j)
