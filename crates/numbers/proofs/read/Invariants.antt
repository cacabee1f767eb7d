-- Invariant: what is left to read, with what is listed, gives what the whole text gives. Mathematics in `proofs.Underway`.
use Rattle.numbers.proofs.Underway.{Underway}
use Rattle.numbers.proofs.read.Given as goal

abbrev pub invariant-loop-byte : goal.invariant-loop-byte
invariant-loop-byte l = Underway l.bytes l.listed l.current l.byte-index
