-- Asked: what one look asks of a cell's numbers and its wire, by its gate. Definitions only.
-- docs/READING.md: "Cells". Read after: circuit's `Gates`, `Netlists`. Assumes nothing.
use Rattle.std.specs.Prelude.{ℕ, ◌≤◌, ◌<◌, ◌^◌, ◌≡◌, List, [], ◌∷◌}
use Rattle.circuit.specs.declared.Gate.{Gate}
use Rattle.circuit.specs.declared.Gate.TheVariants as gate
use Rattle.circuit.specs.Cells.{kind_at, cell_count}

-- Wire v is one of the first m, and drives a bit, or a word.
abbrev pub BitBelow : List ℕ → ℕ → ℕ → Type 0
BitBelow net m v = (v < m) × (kind_at net v ≤ 6)

abbrev pub WordBelow : List ℕ → ℕ → ℕ → Type 0
WordBelow net m v = (v < m) × (8 ≤ kind_at net v)

-- What is asked of cell n by its gate, where `given` words may be named: what its wire shows, and then its four numbers.
abbrev pub Row : ℕ → List ℕ → ℕ → ℕ → ℕ → List ℕ → Gate → Type 0
Row w net given n shown (k ∷ x ∷ y ∷ z ∷ []) gate.Load = (shown ≤ 1) × (x ≡ 0) × (y ≡ 0) × (z ≡ 0)
Row w net given n shown (k ∷ x ∷ y ∷ z ∷ []) gate.Not = (shown ≤ 1) × BitBelow net n x × (y ≡ 0) × (z ≡ 0)
Row w net given n shown (k ∷ x ∷ y ∷ z ∷ []) gate.And = (shown ≤ 1) × BitBelow net n x × BitBelow net n y × (z ≡ 0)
Row w net given n shown (k ∷ x ∷ y ∷ z ∷ []) gate.Or = (shown ≤ 1) × BitBelow net n x × BitBelow net n y × (z ≡ 0)
Row w net given n shown (k ∷ x ∷ y ∷ z ∷ []) gate.LowRegister = (shown ≤ 1) × BitBelow net (cell_count net) x × (y ≡ 0) × (z ≡ 0)
Row w net given n shown (k ∷ x ∷ y ∷ z ∷ []) gate.HighRegister = (shown ≤ 1) × BitBelow net (cell_count net) x × (y ≡ 0) × (z ≡ 0)
Row w net given n shown (k ∷ x ∷ y ∷ z ∷ []) gate.NonZero = (shown ≤ 1) × WordBelow net n x × (y ≡ 0) × (z ≡ 0)
Row w net given n shown (k ∷ x ∷ y ∷ z ∷ []) gate.Input = (shown < 2 ^ w) × (x < given) × (y ≡ 0) × (z ≡ 0)
Row w net given n shown (k ∷ x ∷ y ∷ z ∷ []) gate.Constant = (shown < 2 ^ w) × (x < 2 ^ w) × (y ≡ 0) × (z ≡ 0)
Row w net given n shown (k ∷ x ∷ y ∷ z ∷ []) gate.WordRegister = (shown < 2 ^ w) × WordBelow net (cell_count net) x × (y ≡ 0) × (z ≡ 0)
Row w net given n shown (k ∷ x ∷ y ∷ z ∷ []) gate.Choice = (shown < 2 ^ w) × BitBelow net n x × WordBelow net n y × WordBelow net n z
Row w net given n shown (k ∷ x ∷ y ∷ z ∷ []) gate.Copy = (shown < 2 ^ w) × WordBelow net n x × (y ≡ 0) × (z ≡ 0)
Row w net given n shown (k ∷ x ∷ y ∷ z ∷ []) gate.Binary = (13 ≤ k) × (shown < 2 ^ w) × WordBelow net n x × WordBelow net n y × (z ≡ 0)
Row w net given n shown (k ∷ x ∷ y ∷ z ∷ []) gate.Unary = (k ≤ 22) × (shown < 2 ^ w) × WordBelow net n x × (y ≡ 0) × (z ≡ 0)
Row w net given n shown c g = ⊥
