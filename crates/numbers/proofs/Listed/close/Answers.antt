-- One number more. Mathematics in `proofs.ByteByByte`.
use Rattle.numbers.proofs.ByteByByte.{holds_more}
use Rattle.numbers.proofs.Listed.close.Goals as goal

pub returns-else-self-ge-MOST_NUMBERS : goal.returns-else-self-ge-MOST_NUMBERS
returns-else-self-ge-MOST_NUMBERS c ns p = rw c.in-Some.is (holds_more ns c.in-Some.number c.if-self-ge-MOST_NUMBERS.false p)
