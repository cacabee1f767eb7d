-- Invariant: the ports passed are written, at most 640 bytes for each.
use Rattle.std.proofs.Common.{◌+◌, ◌*◌, ◌≤◌}
use Rattle.spelling.specs.Pieces.{Wrote}
use Rattle.verilog.specs.Texts.{each_of}
use Rattle.verilog.proofs.lines.Design.row.Given as goal

abbrev pub invariant-loop-j : goal.invariant-loop-j
invariant-loop-j l =
    (l.next ≤ l.at + l.j * 640) × Wrote l.initial.text l.at (each_of l.self.width l.self.outs.now l.template l.j) l.next l.text
