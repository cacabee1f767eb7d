-- Proof: each turn reads at least one byte more, and no more than there is room for.
use Rattle.std.proofs.Common.{◌-◌, ◌≤◌, length}
use Rattle.termc.proofs.read_full.Given as goal

abbrev pub invariant-loop-count : goal.invariant-loop-count
invariant-loop-count g l = l.count ≤ length l.input

abbrev pub decreases-loop-count : goal.decreases-loop-count
decreases-loop-count g l = length l.input - l.count
