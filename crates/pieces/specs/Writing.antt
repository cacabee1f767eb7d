-- Writing: cells in a lent netlist. Definitions only.
-- Read after: circuit's `Pieces`. Assumes nothing.
use Rattle.std.specs.Prelude.{ℕ, ◌+◌, ◌*◌, ◌≤◌, List, [], ◌∷◌, length}
use lib.Seq.{sets}
use Rattle.circuit.specs.Cells.{stride, Cell, numbers_of}
use Rattle.circuit.specs.Pieces.{Block, gates, ending}

-- The list l with the numbers vs from index i on; what would stand past its end is dropped.
unfoldable pub placed : List ℕ → ℕ → List ℕ → List ℕ
placed l i vs = sets l i vs

-- The netlist with cells from cell p on.
unfoldable pub written : List ℕ → ℕ → List Cell → List ℕ
written net p cs = placed net (p * stride) (numbers_of cs)

-- n cells from cell p on stand within the netlist and within the 4,096 that check 9 allows.
pub record Room (net : List ℕ) (p n : ℕ) : Type 0 where
  pub few : p + n ≤ 4096
  pub within : (p + n) * stride ≤ length net

-- A block of which only the done wire and the output wires matter, and the pieces that ask no more of their blocks.
abbrev pub seen_as : ℕ → List ℕ → Block
seen_as d ws = record { cells = []; done = d; outs = ws }

abbrev pub gates_on : ℕ → ℕ → ℕ → List Cell
gates_on p d word = gates p (seen_as d (word ∷ []))

abbrev pub ending_on : ℕ → ℕ → ℕ → ℕ → List Cell
ending_on p e f g = ending p (seen_as e []) (seen_as f []) (seen_as g [])
