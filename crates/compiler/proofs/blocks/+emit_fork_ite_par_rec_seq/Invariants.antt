-- Measure: three times the term's number, so that it falls at each call on an operand; within a term, `emit` stands above its kind's
-- function, and that above `fork`.
use Rattle.std.proofs.Common.{◌+◌, ◌*◌}
use Rattle.compiler.proofs.blocks.+emit_fork_ite_par_rec_seq.Given as goal

abbrev pub decreases-emit : goal.decreases-emit
decreases-emit l = 3 * l.k + 2

abbrev pub decreases-fork : goal.decreases-fork
decreases-fork l = 3 * l.k

abbrev pub decreases-ite : goal.decreases-ite
decreases-ite l = 3 * l.k + 1

abbrev pub decreases-par : goal.decreases-par
decreases-par l = 3 * l.k + 1

abbrev pub decreases-rec : goal.decreases-rec
decreases-rec l = 3 * l.k + 1

abbrev pub decreases-seq : goal.decreases-seq
decreases-seq l = 3 * l.k + 1
