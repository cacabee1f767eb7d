-- The netlist is checked, and its input cells name given words (`proofs.Reading`).
use Rattle.cycles.proofs.Reading.{reads}
use Rattle.cycles.proofs.Cycle.gate.Goals as goal

pub returns : goal.returns
returns c =
    let s = c.args.self.now in
    rw (c.from.ensures, c.kind.ensures) (reads s.width.bits s.netlist.now _ c.args.n s.checked s.named c.requires)
