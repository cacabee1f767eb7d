-- Each byte of the template is one more row. Mathematics in `proofs.Placing`.
use Rattle.std.proofs.Common.{arith}
use Rattle.spelling.proofs.Placing.{no_rows, row_more}
use Rattle.spelling.proofs.fill.Goals as goal

pub loop-byte-init : goal.loop-byte-init
loop-byte-init c = record { near = omega arith; wrote = no_rows _ _ _ }

pub loop-byte-preserved : goal.loop-byte-preserved
loop-byte-preserved c = record {
  near = omega arith;
  wrote = row_more _ c.loop-byte.invariant.wrote c.spell-next.ensures.wrote;
}
