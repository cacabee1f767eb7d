-- Compiling: the whole circuit of a term, and what the compiler answers and writes. Definitions only.
-- docs/READING.md: "Cells".
-- Read after: `Blocks`, meaning's `Refusals`. Assumes nothing.
use Rattle.std.specs.Prelude.{ℕ, zero, suc, ◌*◌, List, [], ◌∷◌, ◌++◌, replicate, leb, length, drop, Result, Ok, Err}
use Rattle.meaning.specs.declared.Cause.TheVariants as cause
use Rattle.meaning.specs.declared.Refusal.{Refusal}
use Rattle.meaning.specs.Choices.{pick, padded}
use Rattle.meaning.specs.Terms.{Term, main_of}
use Rattle.meaning.specs.Counts.{ins, outs, whole_size}
use Rattle.meaning.specs.Checks.{verdict_of}
use Rattle.meaning.specs.Refusals.{refusal_numbers, Verdict, passed, refused, on_verdict}
use Rattle.circuit.specs.declared.Compiled.{Compiled}
use Rattle.circuit.specs.Cells.{stride, Cell, numbers_of, load_cell, not_cell, and_cell, high_register, input_cell}
use Rattle.circuit.specs.Pieces.{◌after◌, Block, wires_from}
use Rattle.circuit.specs.Blocks.{emit}

-- n input cells, from word j on.
abbrev pub input_cells : ℕ → ℕ → List Cell
input_cells j zero = []
input_cells j (suc n) = input_cell j ∷ input_cells (suc j) n

-- After load and the i inputs: load a cycle ago; its not; done a cycle ago; load and the not, which is its rise; that and the previous
-- done, which is start.
abbrev pub front : ℕ → ℕ → List Cell
front i d = high_register 0 ∷ not_cell (1 after i) ∷ high_register d ∷ and_cell 0 (2 after i) ∷ and_cell (4 after i) (3 after i) ∷ []

-- The main block stands behind these 6 + i cells and is started by the last of them.
abbrev pub main_block : Term → Block
main_block T = emit T (6 after ins T) (5 after ins T) (wires_from 1 (ins T))

abbrev pub whole_cells : Term → List Cell
whole_cells T = load_cell ∷ (input_cells 0 (ins T) ++ (front (ins T) (main_block T).done ++ (main_block T).cells))

abbrev pub netlist_of : Term → List ℕ
netlist_of T = numbers_of (whole_cells T)

-- 1 to 9, then 10: a buffer of `room` numbers holds the cells.
unfoldable pub compile_verdict : ℕ → List ℕ → ℕ → Verdict
compile_verdict w t room =
    on_verdict (verdict_of w t)
    (pick (leb (whole_size (main_of t) * stride) room) passed (refused cause.NetlistRoom 0))
    Err

-- The answer: the count of cells, i, o, the done wire, and the output wires in an array of 16.
abbrev pub emitted : Term → Compiled
emitted T = record {
  cells = whole_size T;
  ins = ins T;
  outs = outs T;
  done = (main_block T).done;
  wires = padded 16 (main_block T).outs;
}

unfoldable pub compiled_of : ℕ → List ℕ → ℕ → Result Compiled Refusal
compiled_of w t room = on_verdict (compile_verdict w t room) (Ok (emitted (main_of t))) Err

-- The buffer afterwards: the cells, and past them what was there; all that was there where the call is refused.
unfoldable pub netlist_after : ℕ → List ℕ → List ℕ → List ℕ
netlist_after w t buffer =
    on_verdict (compile_verdict w t (length buffer))
    (netlist_of (main_of t) ++ drop (length (netlist_of (main_of t))) buffer)
    (λ r. buffer)

-- Its 22 numbers: two zeros, how many cells there are, how many input and output words, the done wire, and the array; of a refusal
-- its two numbers, and zeros.
abbrev pub compiled_numbers : Result Compiled Refusal → List ℕ
compiled_numbers (Ok c) = 0 ∷ 0 ∷ c.cells ∷ c.ins ∷ c.outs ∷ c.done ∷ c.wires
compiled_numbers (Err r) = refusal_numbers r ++ replicate 20 0
