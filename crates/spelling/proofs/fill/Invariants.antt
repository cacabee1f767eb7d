-- Invariant: the bytes passed are written, at most ten for each. Mathematics in `proofs.Placing`.
use Rattle.std.proofs.Common.{get_or, ◌+◌, ◌*◌, ◌≤◌}
use Rattle.spelling.specs.Pieces.{rows, spelled, Wrote}
use Rattle.spelling.proofs.fill.Given as goal

abbrev pub invariant-loop-byte : goal.invariant-loop-byte
invariant-loop-byte l = record {
  near : l.next ≤ l.at + l.byte-index * 10;
  wrote : Wrote l.initial.text l.at (rows (λ j. spelled l.blanks (get_or l.template j 0)) l.byte-index) l.next l.text;
}
