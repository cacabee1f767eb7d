-- Invariant: the cells passed have their lines, of at most 640 bytes.
use Rattle.std.proofs.Common.{◌≡◌, ℕ, ◌+◌, ◌*◌, ◌≤◌}
use Rattle.spelling.specs.Pieces.{rows, Wrote}
use Rattle.verilog.specs.Lines.{ByKind}
use Rattle.verilog.specs.Texts.{cell_text}
use Rattle.verilog.proofs.lines.Design.cell_lines.Given as goal

abbrev pub invariant-loop-n : goal.invariant-loop-n
invariant-loop-n g l =
    (l.next ≤ l.at + l.n * 640) × ((line : ByKind) → ((kind : ℕ) (t : _) → goal.F-post g l.template kind t → t.now ≡ line kind)
    → Wrote l.initial.text l.at (rows (cell_text line l.self.width l.self.netlist.now) l.n) l.next l.text)
