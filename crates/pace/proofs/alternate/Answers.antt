-- A turn takes one pair of steps more (`proofs.Taking`).
use Rattle.pace.proofs.Taking.{taking-on}
use Rattle.pace.proofs.alternate.Goals as goal

pub loop-preserved : goal.loop-preserved
loop-preserved c = taking-on _ _ _ _ _ _ _ c.loop.invariant.0 c.next.ensures c.next-in-loop.ensures
