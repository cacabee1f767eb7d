-- Measures: the term's number, since operands are lower terms; a term is sized after its parts.
use Rattle.std.proofs.Common.{◌+◌, ◌*◌}
use Rattle.terms.proofs.Accepted.+cells.Given as goal

abbrev pub decreases-cells : goal.decreases-cells
decreases-cells l = 2 * l.k + 1

abbrev pub decreases-part : goal.decreases-part
decreases-part l = 2 * l.k
