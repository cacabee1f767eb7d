-- Measure: twice the term's number, one more for `term`, which hands its own number on. In `rounds`, invariant: the run from the
-- start is the run from here on the words of now (`Going`), and measure: what is left of the budget.
use Rattle.std.proofs.Common.{◌+◌, ◌-◌}
use Rattle.meaning.specs.Terms.{tree}
use Rattle.runs.proofs.Turns.{Going}
use Rattle.runs.proofs.+ite_par_rounds_seq_term.Given as goal

abbrev pub decreases-term : goal.decreases-term
decreases-term l = l.k + l.k + 1

abbrev pub decreases-seq : goal.decreases-seq
decreases-seq l = l.k + l.k

abbrev pub decreases-par : goal.decreases-par
decreases-par l = l.k + l.k

abbrev pub decreases-ite : goal.decreases-ite
decreases-ite l = l.k + l.k

abbrev pub decreases-rounds : goal.decreases-rounds
decreases-rounds l = l.k + l.k

abbrev pub invariant-rounds-loop-tested : goal.invariant-rounds-loop-tested
invariant-rounds-loop-tested l = Going l.table.width (tree l.table.numbers.now l.k) l.start l.limit l.initial.words l.at l.words

abbrev pub decreases-rounds-loop-tested : goal.decreases-rounds-loop-tested
decreases-rounds-loop-tested l = l.limit - l.at
