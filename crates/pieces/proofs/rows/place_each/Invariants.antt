-- Invariant: the cells below j are written. Mathematics in `proofs.Turns`.
use Rattle.std.proofs.Common.{◌≡◌, ℕ, ◌<◌, map}
use Rattle.std.specs.List.{range_with_len}
use Rattle.circuit.specs.Cells.{Cell}
use Rattle.circuit.specs.Gates.{cell_of}
use Rattle.pieces.specs.Writing.{written}
use Rattle.pieces.proofs.rows.place_each.Given as goal

abbrev pub invariant-loop-j : goal.invariant-loop-j
invariant-loop-j g l =
    (row : ℕ → Cell) → ((j : ℕ) (c : _) → j < l.n → goal.F-post g l.cell j c → cell_of c ≡ row j) →
    l.netlist ≡ written l.initial.netlist l.at (map row (range_with_len 0 l.j))
