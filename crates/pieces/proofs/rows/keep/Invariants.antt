-- Invariant: the first j pairs are written, and the row holds their registers. Mathematics in `proofs.Turns`.
use Rattle.std.proofs.Common.{◌≡◌, take}
use Rattle.meaning.specs.Choices.{padded}
use Rattle.circuit.specs.Pieces.{keeps, kept}
use Rattle.pieces.specs.Writing.{written}
use Rattle.pieces.proofs.rows.keep.Given as goal

abbrev pub invariant-loop-j : goal.invariant-loop-j
invariant-loop-j l =
    let xs = take l.j l.words in
    (l.netlist ≡ written l.initial.netlist l.at (keeps l.at l.start xs)) × (l.row ≡ padded 16 (kept l.at xs))
