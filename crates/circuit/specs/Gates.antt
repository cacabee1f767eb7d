-- Gates: which gate a kind's number names, and which cell a value of the code is. Definitions only.
-- docs/READING.md: "Cells". Read after: `Cells`. Assumes nothing.
use Rattle.std.specs.Prelude.{ℕ, eqb, ltb}
use Rattle.circuit.specs.declared.Gate.{Gate}
use Rattle.circuit.specs.declared.Gate.TheVariants as gate
use Rattle.circuit.specs.declared.Cell.{Cell as Written}
use Rattle.circuit.specs.declared.Cell.TheVariants as written
use Rattle.meaning.specs.Choices.{pick}
use Rattle.circuit.specs.Cells.{Cell, cell, load_cell, not_cell, and_cell, or_cell, low_register, high_register, nonzero_cell}
use Rattle.circuit.specs.Cells.{input_cell, constant_cell, word_register, choice_cell, copy_cell}

-- What the number of a cell's kind names. Numbers of no kind name one too: refusal 13 judges them.
abbrev pub gate_named : ℕ → Gate
gate_named k =
    pick (eqb k 0) gate.Load
    (pick (eqb k 1) gate.Not
    (pick (eqb k 2) gate.And
    (pick (eqb k 3) gate.Or
    (pick (eqb k 4) gate.LowRegister
    (pick (eqb k 5) gate.HighRegister
    (pick (eqb k 6) gate.NonZero
    (pick (eqb k 8) gate.Input
    (pick (eqb k 9) gate.Constant
    (pick (eqb k 10) gate.WordRegister
    (pick (eqb k 11) gate.Choice
    (pick (eqb k 12) gate.Copy
    (pick (ltb k 20) gate.Binary gate.Unary))))))))))))

-- The cell, as numbers, that a value of the code stands for.
abbrev pub cell_of : Written → Cell
cell_of written.Load = load_cell
cell_of (written.Not x) = not_cell x
cell_of (written.And x y) = and_cell x y
cell_of (written.Or x y) = or_cell x y
cell_of (written.LowRegister x) = low_register x
cell_of (written.HighRegister x) = high_register x
cell_of (written.NonZero x) = nonzero_cell x
cell_of (written.Input j) = input_cell j
cell_of (written.Constant v) = constant_cell v
cell_of (written.WordRegister x) = word_register x
cell_of (written.Choice x y z) = choice_cell x y z
cell_of (written.Copy x) = copy_cell x
cell_of (written.Operation k x y) = cell k x y 0
