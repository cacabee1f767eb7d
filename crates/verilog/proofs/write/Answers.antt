-- A first pass counts the text, and a second writes it where it fits. Mathematics in `proofs.Answering`.
use Rattle.std.proofs.Common.{rules}
use Rattle.verilog.proofs.Answering.{may_write}
use Rattle.verilog.proofs.write.Goals as goal

pub invariant_of-design : goal.invariant_of-design
invariant_of-design c = record { fits = may_write _ _ _ _ c.args.done c.args.outs.now (search rules) (search rules) }
