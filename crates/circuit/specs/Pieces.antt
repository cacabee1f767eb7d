-- Pieces: what blocks are put together from. Definitions only.
-- docs/READING.md: "Cells". Read after: `Cells`. Assumes nothing.
use Rattle.std.specs.Prelude.{ℕ, zero, suc, List, [], ◌∷◌, ◌++◌}
use Rattle.meaning.specs.Choices.{at}
use Rattle.circuit.specs.Cells.{Cell, not_cell, and_cell, high_register, nonzero_cell, word_register, choice_cell}

infixl 65 ◌after◌
-- `3 after p` is the wire three after p.
abbrev pub ◌after◌ : ℕ → ℕ → ℕ
zero after p = p
suc k after p = suc (k after p)

-- A block: its cells, its done wire, and its output wires.
pub record Block : Type 0 where
  pub cells : List Cell
  pub done : ℕ
  pub outs : List ℕ

-- A block is made from the number of its first wire, its start wire and its input wires.
abbrev pub Emitter : Type 0
Emitter = ℕ → ℕ → List ℕ → Block

-- n wires from p on.
abbrev pub wires_from : ℕ → ℕ → List ℕ
wires_from p zero = []
wires_from p (suc n) = p ∷ wires_from (suc p) n

-- "Rise of d", at p: a register of d that starts high; its not; d and that. The last is high where d is and was not.
abbrev pub rise : ℕ → ℕ → List Cell
rise p d = high_register d ∷ not_cell p ∷ and_cell d (1 after p) ∷ []

-- "Keep" each of the words xs under s, from p on: a register that reads the next cell, and that cell, which takes the word where s is
-- high and the register otherwise.
abbrev pub keeps : ℕ → ℕ → List ℕ → List Cell
keeps p s [] = []
keeps p s (x ∷ xs) = word_register (1 after p) ∷ choice_cell s x p ∷ keeps (2 after p) s xs

-- The kept words are the registers.
abbrev pub kept : ℕ → List ℕ → List ℕ
kept p [] = []
kept p (x ∷ xs) = p ∷ kept (2 after p) xs

-- A choice on s for each pair of words.
abbrev pub choices : ℕ → List ℕ → List ℕ → List Cell
choices s [] ys = []
choices s (x ∷ xs) [] = []
choices s (x ∷ xs) (y ∷ ys) = choice_cell s x y ∷ choices s xs ys

-- A register of each word.
abbrev pub registers : List ℕ → List Cell
registers [] = []
registers (x ∷ xs) = word_register x ∷ registers xs

-- Between a test E and its branches, at p: rise of E's done; E's word is not zero; not; the rise and each of the two, which start
-- the branches.
abbrev pub gates : ℕ → Block → List Cell
gates p E =
    rise p E.done ++
    (nonzero_cell (at E.outs 0) ∷ not_cell (3 after p) ∷ and_cell (2 after p) (3 after p) ∷ and_cell (2 after p) (4 after p) ∷ [])

-- The end of a Rec, at p: rise of g's done; e's done and f's; that and g's; not of g's rise; the last two anded, which is done.
abbrev pub ending : ℕ → Block → Block → Block → List Cell
ending p E F G =
    rise p G.done ++
    (and_cell E.done F.done ∷ and_cell (3 after p) G.done ∷ not_cell (2 after p) ∷ and_cell (4 after p) (5 after p) ∷ [])
