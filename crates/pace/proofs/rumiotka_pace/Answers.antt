-- An accepted call has all that a pair of steps needs.
use Rattle.std.proofs.Common.{sym}
use Rattle.simulator.proofs.Accepting.{step-ready}
use Rattle.pace.proofs.rumiotka_pace.Goals as goal

pub alternate-requires : goal.alternate-requires
alternate-requires c = step-ready _ _ _ _ _ (sym c.in-Ok.ensures)
