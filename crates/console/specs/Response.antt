-- Response: what the program prints for the bytes that it reads. Definitions only.
-- docs/READING.md: "The Verilog text". Read after: `Messages`, numbers' `Lists`, verilog's `Writing`, circuit's
-- `Compiling`.
-- Assumes nothing.
use Rattle.std.specs.Prelude.{ℕ, List, drop, Option, Some, None}
use Rattle.meaning.specs.Choices.{at, padded}
use Rattle.meaning.specs.Terms.{Term, main_of}
use Rattle.meaning.specs.Counts.{ins, outs}
use Rattle.meaning.specs.Refusals.{Verdict, on_verdict}
use Rattle.circuit.specs.Compiling.{main_block, netlist_of, compile_verdict}
use Rattle.verilog.specs.Texts.{text_of}
use Rattle.verilog.specs.Writing.{write_verdict}
use Rattle.console.specs.Messages.{refused_line, no_list_line}
use Rattle.numbers.specs.Lists.{numbers_in}

-- How many numbers are lent for cells, and how many bytes for text.
abbrev pub cell_room : ℕ
cell_room = 2400

abbrev pub text_room : ℕ
text_room = 65536

-- The output wires of a term's circuit, in an array of 16.
abbrev pub out_wires : Term → List ℕ
out_wires T = padded 16 (main_block T).outs

-- The text of a term's circuit, and the judgement of it.
unfoldable pub term_text : ℕ → Term → List ℕ
term_text w T = text_of w (netlist_of T) (ins T) (outs T) (main_block T).done (out_wires T)

unfoldable pub text_verdict : ℕ → Term → Verdict
text_verdict w T = write_verdict w (netlist_of T) (ins T) (outs T) (main_block T).done (out_wires T) text_room

-- For a width and a table: the text, or the line of the first refusal.
unfoldable pub printed : ℕ → List ℕ → List ℕ
printed w t =
    on_verdict (compile_verdict w t cell_room)
    (on_verdict (text_verdict w (main_of t)) (term_text w (main_of t)) refused_line)
    refused_line

-- For a list of numbers the width comes first and then the table.
abbrev pub printed_for : Option (List ℕ) → List ℕ
printed_for (Some ns) = printed (at ns 0) (drop 1 ns)
printed_for None = no_list_line

unfoldable pub response_to : List ℕ → List ℕ
response_to input = printed_for (numbers_in input)
