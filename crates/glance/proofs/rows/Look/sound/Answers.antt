-- The row is that of the cell's gate (`proofs.Soundness`).
use Rattle.std.proofs.Common.{sym}
use Rattle.glance.proofs.Soundness.{sound-of}
use Rattle.glance.proofs.rows.Look.sound.Goals as goal

pub returns : goal.returns
returns c h =
    sound-of _ c.args.self.now.netlist.now _ _ _ c.args.self.now.few
    (c.kind-kind.ensures, c.number-x.ensures, c.number-y.ensures, c.number-z.ensures) _ (sym c.from.ensures) (c.row.ensures.only_where h)
