-- `whole` meets its contract: what stands in front of the main block is written before and after it. Mathematics in
-- `proofs.Circuits`.
use Rattle.compiler.proofs.Circuits.{whole-answer, whole-written}
use Rattle.compiler.proofs.whole.Goals as goal

pub returns : goal.returns
returns c =
    let n = c.takes-n.ensures in
    let m = c.gives.ensures in
    rw (← c.main-main.ensures.last) (
      whole-answer n m _ c.wires.ensures c.place.ensures c.inputs.ensures c.emit-block.ensures c.front.ensures,
      whole-written n m _ c.wires.ensures c.place.ensures c.inputs.ensures c.emit-block.ensures c.front.ensures,
    )
