-- Sound: what checks 13 to 16, 11 and 18 ask of one cell and its wire, where none of them refuses. Definitions only.
-- docs/READING.md: "Refusal numbers". Read after: circuit's `Netlists`, `Simulated`. Assumes nothing.
use Rattle.std.specs.Prelude.{ℕ, ◌<◌, ◌^◌, ◌≡◌, true, List, leb, ltb}
use Rattle.meaning.specs.Choices.{pick, at}
use Rattle.meaning.specs.Refusals.{passed}
use Rattle.circuit.specs.Cells.{cell_number, kind_at, bit_kind}
use Rattle.circuit.specs.Netlists.{cell_refusal}

-- Cell n gives no refusal, an input cell names one of the words given, and what its wire shows is a bit or a word as it drives.
pub record Sound (w : ℕ) (net : List ℕ) (n given shown : ℕ) : Type 0 where
  pub unrefused : cell_refusal w net n ≡ passed
  pub named : kind_at net n ≡ 8 → cell_number net n 1 < given
  pub ranged : pick (bit_kind (kind_at net n)) (leb shown 1) (ltb shown (2 ^ w)) ≡ true

-- The first m cells are sound, each with its wire of a cycle.
abbrev pub AllSound : ℕ → List ℕ → ℕ → List ℕ → ℕ → Type 0
AllSound w net given wires m = (n : ℕ) → n < m → Sound w net n given (at wires n)
