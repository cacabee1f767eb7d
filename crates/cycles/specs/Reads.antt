-- Reads: what a cell reads, by its gate. Definitions only.
-- docs/READING.md: "Cells". Read after: circuit's `Gates`. Assumes nothing.
use Rattle.std.specs.Prelude.{ℕ, ◌≤◌, ◌<◌, ◌≡◌, List, take}
use Rattle.meaning.specs.Choices.{at}
use Rattle.circuit.specs.declared.Gate.{Gate}
use Rattle.circuit.specs.declared.Gate.TheVariants as gate
use Rattle.circuit.specs.Cells.{Cell, cell, stride, cell_number, cell_count}

-- The kind of cell n by its gate, and that what it reads is there: lower wires, any of so many wires, one of the words given.
abbrev pub Reads : ℕ → ℕ → ℕ → Cell → Gate → Type 0
Reads given cells n (cell k x y z) gate.Load = k ≡ 0
Reads given cells n (cell k x y z) gate.Not = (k ≡ 1) × (x < n)
Reads given cells n (cell k x y z) gate.And = (k ≡ 2) × (x < n) × (y < n)
Reads given cells n (cell k x y z) gate.Or = (k ≡ 3) × (x < n) × (y < n)
Reads given cells n (cell k x y z) gate.LowRegister = (k ≡ 4) × (x < cells)
Reads given cells n (cell k x y z) gate.HighRegister = (k ≡ 5) × (x < cells)
Reads given cells n (cell k x y z) gate.NonZero = (k ≡ 6) × (x < n)
Reads given cells n (cell k x y z) gate.Input = (k ≡ 8) × (x < given)
Reads given cells n (cell k x y z) gate.Constant = k ≡ 9
Reads given cells n (cell k x y z) gate.WordRegister = (k ≡ 10) × (x < cells)
Reads given cells n (cell k x y z) gate.Choice = (k ≡ 11) × (x < n) × (y < n) × (z < n)
Reads given cells n (cell k x y z) gate.Copy = (k ≡ 12) × (x < n)
Reads given cells n (cell k x y z) gate.Binary = (13 ≤ k) × (x < n) × (y < n)
Reads given cells n (cell k x y z) gate.Unary = (13 ≤ k) × (x < n) × (y < n)

-- Number j of cell n names a lower wire, and the lower wires are there.
abbrev pub Lower : List ℕ → ℕ → ℕ → ℕ → Type 0
Lower net n j room = (j < stride) × (n < cell_count net) × (cell_number net n j < n) × (n ≤ room)

-- What that wire shows.
abbrev pub lower_wire : List ℕ → ℕ → ℕ → List ℕ → ℕ
lower_wire net n j wires = at (take n wires) (cell_number net n j)
