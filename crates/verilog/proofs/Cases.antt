-- Cases: the text of the complement, every kind of line and the writer's refusals, computed from the definitions. Assumes nothing.
use Prim.Native.Nat.{ℕ}
use Prim.Native.String.{String}
use mathlib.Core.Path.{◌≡◌, refl}
use mathlib.Core.List.{List, [], ◌∷◌, ◌++◌, map}
use lib.ListN.{length, replicate}
use Rattle.meaning.specs.Choices.{padded}
use Rattle.meaning.specs.Terms.{node_of, below, main_of}
use Rattle.meaning.specs.Checks.{first_refusal}
use Rattle.meaning.proofs.Cases.{complement_table}
use Rattle.circuit.specs.Cells.{ports_of}
use Rattle.circuit.specs.Netlists.{cell_refusal, netlist_verdict}
use Rattle.circuit.specs.Simulated.{inputs_given}
use Rattle.circuit.specs.Compiling.{netlist_of}
use Rattle.spelling.specs.Pieces.{bytes, digits_within, digits, rows, spelled}
use Rattle.verilog.specs.Lines.{declaration, operation_line, clock_line}
use Rattle.verilog.specs.Texts.{text_of}
use Rattle.ports.specs.Interface.{outputs_fit, ports_fit}
use Rattle.verilog.specs.Writing.{write_verdict, written_of, written_numbers}

-- One output wire, in an array of 16.
abbrev only : ℕ → List ℕ
only n = padded 16 (n ∷ [])

abbrev lines : List String → List ℕ
lines [] = []
lines (l ∷ ls) = bytes l ++ lines ls

-- Input `8 20 0 0 0`.
abbrev example : List ℕ
example =
    lines
    ("module f (clk,load,inp0,done,out0);\n" ∷
    "  input clk,load;\n" ∷
    "  input [7:0] inp0;\n" ∷
    "  output done;\n" ∷
    "  output [7:0] out0;\n" ∷
    "  wire w0 = load;\n" ∷
    "  wire [7:0] w1 = inp0;\n" ∷
    "  reg w2 = 1;\n" ∷
    "  wire w3 = !w2;\n" ∷
    "  reg w4 = 1;\n" ∷
    "  wire w5 = w0 & w3;\n" ∷
    "  wire w6 = w5 & w4;\n" ∷
    "  wire w7 = !w6;\n" ∷
    "  reg [7:0] w8 = 0;\n" ∷
    "  wire [7:0] w9 = ~w1;\n" ∷
    "  wire [7:0] w10 = w6 ? w9 : w8;\n" ∷
    "  always @(posedge clk) w2 <= w0;\n" ∷
    "  always @(posedge clk) w4 <= w7;\n" ∷
    "  always @(posedge clk) w8 <= w10;\n" ∷
    "  assign done = w7;\n" ∷
    "  assign out0 = w8;\n" ∷
    "endmodule\n" ∷ [])

complement-text : text_of 8 (netlist_of (main_of complement_table)) 1 1 7 (only 8) ≡ example
unfolding node_of below digits_within digits rows spelled declaration operation_line clock_line text_of
complement-text = refl

complement-length : length example ≡ 485
complement-length = refl

-- A netlist with each kind of cell, at W 1, with two inputs and two outputs.
abbrev every_kind : List ℕ
every_kind =
    0 ∷ 0 ∷ 0 ∷ 0 ∷ 8 ∷ 0 ∷ 0 ∷ 0 ∷ 8 ∷ 1 ∷ 0 ∷ 0 ∷ 1 ∷ 0 ∷ 0 ∷ 0 ∷ 2 ∷ 0 ∷ 3 ∷ 0 ∷ 3 ∷ 4 ∷ 3 ∷ 0 ∷ 4 ∷ 7 ∷ 0 ∷ 0 ∷ 5 ∷ 6 ∷ 0 ∷ 0 ∷
    6 ∷ 1 ∷ 0 ∷ 0 ∷ 9 ∷ 1 ∷ 0 ∷ 0 ∷ 10 ∷ 11 ∷ 0 ∷ 0 ∷ 11 ∷ 8 ∷ 9 ∷ 10 ∷ 12 ∷ 11 ∷ 0 ∷ 0 ∷ 13 ∷ 1 ∷ 2 ∷ 0 ∷ 14 ∷ 2 ∷ 1 ∷ 0 ∷
    15 ∷ 1 ∷ 2 ∷ 0 ∷ 16 ∷ 1 ∷ 2 ∷ 0 ∷ 17 ∷ 1 ∷ 2 ∷ 0 ∷ 18 ∷ 1 ∷ 2 ∷ 0 ∷ 19 ∷ 1 ∷ 2 ∷ 0 ∷ 20 ∷ 1 ∷ 0 ∷ 0 ∷ 21 ∷ 1 ∷ 0 ∷ 0 ∷ 22 ∷ 1 ∷ 0 ∷
    0 ∷ []

abbrev every_line : List ℕ
every_line =
    lines
    ("module f (clk,load,inp0,inp1,done,out0,out1);\n" ∷
    "  input clk,load;\n" ∷
    "  input [0:0] inp0;\n" ∷
    "  input [0:0] inp1;\n" ∷
    "  output done;\n" ∷
    "  output [0:0] out0;\n" ∷
    "  output [0:0] out1;\n" ∷
    "  wire w0 = load;\n" ∷
    "  wire [0:0] w1 = inp0;\n" ∷
    "  wire [0:0] w2 = inp1;\n" ∷
    "  wire w3 = !w0;\n" ∷
    "  wire w4 = w0 & w3;\n" ∷
    "  wire w5 = w4 | w3;\n" ∷
    "  reg w6 = 0;\n" ∷
    "  reg w7 = 1;\n" ∷
    "  wire w8 = w1 != 0;\n" ∷
    "  wire [0:0] w9 = 1'd1;\n" ∷
    "  reg [0:0] w10 = 0;\n" ∷
    "  wire [0:0] w11 = w8 ? w9 : w10;\n" ∷
    "  wire [0:0] w12 = w11;\n" ∷
    "  wire [0:0] w13 = w1 + w2;\n" ∷
    "  wire [0:0] w14 = w2 - w1;\n" ∷
    "  wire [0:0] w15 = w1 & w2;\n" ∷
    "  wire [0:0] w16 = w1 | w2;\n" ∷
    "  wire [0:0] w17 = w1 ^ w2;\n" ∷
    "  wire [0:0] w18 = w1 == w2;\n" ∷
    "  wire [0:0] w19 = w1 < w2;\n" ∷
    "  wire [0:0] w20 = ~w1;\n" ∷
    "  wire [0:0] w21 = w1 << 1;\n" ∷
    "  wire [0:0] w22 = w1 >> 1;\n" ∷
    "  always @(posedge clk) w6 <= w7;\n" ∷
    "  always @(posedge clk) w7 <= w6;\n" ∷
    "  always @(posedge clk) w10 <= w11;\n" ∷
    "  assign done = w6;\n" ∷
    "  assign out0 = w22;\n" ∷
    "  assign out1 = w1;\n" ∷
    "endmodule\n" ∷ [])

every-text : text_of 1 every_kind 2 2 6 (padded 16 (22 ∷ 1 ∷ [])) ≡ every_line
unfolding digits_within digits rows spelled declaration operation_line clock_line text_of
every-text = refl

-- A call of the writer on these cells: width, i, o, done, outputs, room.
data Call : Type 0 where
  call : ℕ → ℕ → ℕ → ℕ → List ℕ → ℕ → Call

abbrev answers : List ℕ → Call → List ℕ
answers net (call w i o d outs room) = written_numbers (written_of w net i o d outs room)

-- Refusal number, place, length; 19 and 20 one fault at a time.
calls-answer : map (answers every_kind)
    (call 1 2 2 6 (padded 16 (22 ∷ 1 ∷ [])) (length every_line) ∷
    call 1 2 2 6 (padded 16 (22 ∷ 1 ∷ [])) 0 ∷
    call 33 2 2 6 (only 22) 5000 ∷
    call 1 0 1 6 (only 22) 5000 ∷
    call 1 17 1 6 (only 22) 5000 ∷
    call 1 2 0 6 (only 0) 5000 ∷
    call 1 2 17 6 (replicate 16 1) 5000 ∷
    call 1 1 1 6 (only 22) 5000 ∷
    call 1 2 1 9 (only 22) 5000 ∷
    call 1 2 1 23 (only 22) 5000 ∷
    call 1 2 1 6 (only 6) 5000 ∷
    call 1 2 1 6 (only 23) 5000 ∷
    call 1 2 1 6 (padded 16 (22 ∷ 1 ∷ [])) 5000 ∷ []) ≡
    (0 ∷ 0 ∷ 890 ∷ []) ∷ (20 ∷ 0 ∷ 0 ∷ []) ∷ (1 ∷ 0 ∷ 0 ∷ []) ∷
    (19 ∷ 0 ∷ 0 ∷ []) ∷ (19 ∷ 0 ∷ 0 ∷ []) ∷ (19 ∷ 0 ∷ 0 ∷ []) ∷ (19 ∷ 0 ∷ 0 ∷ []) ∷ (19 ∷ 0 ∷ 0 ∷ []) ∷
    (19 ∷ 0 ∷ 0 ∷ []) ∷ (19 ∷ 0 ∷ 0 ∷ []) ∷ (19 ∷ 0 ∷ 0 ∷ []) ∷ (19 ∷ 0 ∷ 0 ∷ []) ∷ (19 ∷ 0 ∷ 0 ∷ []) ∷ []
unfolding digits_within digits rows spelled declaration operation_line clock_line text_of ports_of first_refusal
    cell_refusal netlist_verdict
    inputs_given
    outputs_fit ports_fit write_verdict written_of
calls-answer = refl
