-- An accepted call has all that a cycle needs (`proofs.Accepting`).
use Rattle.std.proofs.Common.{sym}
use Rattle.simulator.proofs.Accepting.{step-ready}
use Rattle.simulator.proofs.step.Goals as goal

pub next-requires : goal.next-requires
next-requires c = step-ready _ _ _ _ _ (sym c.in_ok-step.ensures)
