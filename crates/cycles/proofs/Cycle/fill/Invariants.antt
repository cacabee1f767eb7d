-- Invariant: the first n wires stand in the buffer (`proofs.Passing`).
use Rattle.cycles.specs.Ready.{held_by}
use Rattle.cycles.proofs.Passing.{Passing}
use Rattle.cycles.proofs.Cycle.fill.Given as goal

abbrev pub invariant-loop-n : goal.invariant-loop-n
invariant-loop-n l =
    Passing l.self.width.bits l.self.load l.self.words.now (held_by l.self.before l.self.start) l.self.netlist.now l.wires l.n
