-- Measure: the number.
use Rattle.spelling.proofs.+number.Given as goal

abbrev pub decreases-number : goal.decreases-number
decreases-number l = l.value
