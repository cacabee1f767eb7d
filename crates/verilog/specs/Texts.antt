-- Texts: the Verilog text of a netlist with its ports. Definitions only.
-- docs/READING.md: "The Verilog text". Read after: `Lines`, circuit's `Cells`. Assumes nothing.
use Rattle.std.specs.Prelude.{ℕ, ◌-◌, List, ◌++◌}
use Prim.Native.String.{String}
use Rattle.meaning.specs.Choices.{at}
use Rattle.circuit.specs.Cells.{cell_number, kind_at, cell_count}
use Rattle.spelling.specs.declared.Blanks.{Blanks}
use Rattle.spelling.specs.Pieces.{bytes, rows, blanks, filled}
use Rattle.verilog.specs.Lines.{ByKind, declaration, clock_line}

-- A line about the module itself: a template filled with a width and a wire x.
abbrev pub line : ℕ → ℕ → String → List ℕ
line w x t = filled (blanks w 0 x) (bytes t)

-- A template once for each of n ports: N is the port's number, X its wire where it is an output.
abbrev pub each_of : ℕ → List ℕ → List ℕ → ℕ → List ℕ
each_of w outs t n = rows (λ j. filled (blanks w j (at outs j)) t) n

abbrev pub each : ℕ → List ℕ → String → ℕ → List ℕ
each w outs t n = each_of w outs (bytes t) n

-- The ports' names, then a line for the bits and one for each word.
abbrev pub names : ℕ → ℕ → ℕ → List ℕ → List ℕ
names w i o outs =
    line w 0 "module f (clk,load" ++ each w outs ",inpN" i ++ line w 0 ",done" ++ each w outs ",outN" o ++ line w 0 ");\n"

abbrev pub port_lines : ℕ → ℕ → ℕ → List ℕ → List ℕ
port_lines w i o outs =
    line w 0 "  input clk,load;\n" ++ each w outs "  input [T:0] inpN;\n" i ++
    line w 0 "  output done;\n" ++ each w outs "  output [T:0] outN;\n" o

-- A line of each cell, in order, by what its kind's is: declarations, or the registers' clock lines.
abbrev pub cell_blanks : ℕ → List ℕ → ℕ → Blanks
cell_blanks w net n =
    record { n = n; x = cell_number net n 1; y = cell_number net n 2; z = cell_number net n 3; width = w; top = w - 1 }

abbrev pub cell_text : ByKind → ℕ → List ℕ → ℕ → List ℕ
cell_text line_of w net n = filled (cell_blanks w net n) (line_of (kind_at net n))

abbrev pub cell_texts : ByKind → ℕ → List ℕ → List ℕ
cell_texts line_of w net = rows (cell_text line_of w net) (cell_count net)

-- Done and the outputs, and the end.
abbrev pub ending : ℕ → ℕ → ℕ → List ℕ → List ℕ
ending w o d outs = line w d "  assign done = wX;\n" ++ each w outs "  assign outN = wX;\n" o ++ line w 0 "endmodule\n"

unfoldable pub text_of : ℕ → List ℕ → ℕ → ℕ → ℕ → List ℕ → List ℕ
text_of w net i o d outs =
    names w i o outs ++ port_lines w i o outs ++ cell_texts declaration w net ++ cell_texts clock_line w net ++ ending w o d outs
