-- Invariant: the operands passed are below the term.
use Rattle.std.proofs.Common.{ℕ, ◌≤◌, ◌<◌}
use Rattle.meaning.specs.Terms.{number_of}
use Rattle.tables.proofs.lower_operands.Given as goal

abbrev pub invariant-loop-j : goal.invariant-loop-j
invariant-loop-j l = (i : ℕ) → 1 ≤ i → i < l.j → number_of l.table l.k i < l.k
