-- An accepted call has all that a cycle needs (`proofs.Accepting`).
use Rattle.std.proofs.Common.{sym}
use Rattle.simulator.proofs.Accepting.{first-ready}
use Rattle.simulator.proofs.power_up.Goals as goal

pub first-requires : goal.first-requires
first-requires c = first-ready _ _ _ _ (sym c.in_ok-power_up.ensures)
