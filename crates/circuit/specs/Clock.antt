-- Clock: the wires of a netlist, cycle by cycle, one number a wire. Definitions only.
-- docs/READING.md: "The simulator". Read after: `Cells`. Assumes nothing.
use Rattle.std.specs.Prelude.{ℕ, zero, suc, Bool, List, [], ◌∷◌, ◌++◌, eqb, length}
use Rattle.meaning.specs.Choices.{pick, at}
use Rattle.meaning.specs.Words.{Words}
use Rattle.circuit.specs.Cells.{Cell, cells_of, value}

-- What the register at wire n holds, by its kind and its wire x.
abbrev pub Held : Type 0
Held = ℕ → ℕ → ℕ → ℕ

-- A cycle: the cells in order, each reading the wires `before` it and adding its own.
abbrev pub pass : ℕ → Bool → Words → Held → List ℕ → List Cell → List ℕ
pass w load words held before [] = before
pass w load words held before (c ∷ cs) =
    pass w load words held (before ++ (value w load words (held (length before)) (at before) c ∷ [])) cs

-- At power-up a register of kind 4 holds 0, of kind 5 holds 1, and a word register its starting word.
abbrev pub starting : (ℕ → ℕ) → Held
starting starts n k x = pick (eqb k 4) 0 (pick (eqb k 5) 1 (starts n))

-- Afterwards a register holds what its wire showed in the cycle before.
abbrev pub shown : List ℕ → Held
shown earlier n k x = at earlier x

-- All wires of cycle 0.
abbrev pub power_up : ℕ → (ℕ → ℕ) → List ℕ → Bool → Words → List ℕ
power_up w starts net load words = pass w load words (starting starts) [] (cells_of net)

-- All wires of cycle t + 1, from those of cycle t.
abbrev pub step : ℕ → List ℕ → List ℕ → Bool → Words → List ℕ
step w net earlier load words = pass w load words (shown earlier) [] (cells_of net)

-- All wires of cycle t, where load and the input words are functions of the cycle.
abbrev pub wires : ℕ → (ℕ → ℕ) → List ℕ → (ℕ → Bool) → (ℕ → Words) → ℕ → List ℕ
wires w starts net load inputs zero = power_up w starts net (load 0) (inputs 0)
wires w starts net load inputs (suc t) =
    step w net (wires w starts net load inputs t) (load (suc t)) (inputs (suc t))
