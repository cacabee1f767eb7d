-- Cells: a netlist's numbers, what each is for, and what a cell's wire shows. Definitions only.
-- docs/READING.md: "Cells". Read after: meaning's `Words`. Assumes nothing.
use Rattle.std.specs.Prelude.{ℕ, zero, suc, ◌+◌, ◌*◌, ◌/◌, Bool, List, [], ◌∷◌, eqb, ltb, leb, length}
use Rattle.meaning.specs.Choices.{pick, and, or, not, num, bit, at}
use Rattle.meaning.specs.Words.{Words, arity, operation}
use Rattle.circuit.specs.declared.Port.{Port}
use Rattle.circuit.specs.declared.Port.TheVariants as port

-- A cell: its kind, and its numbers x, y, z. Cell n drives wire n.
pub data Cell : Type 0 where
  cell : ℕ → ℕ → ℕ → ℕ → Cell

-- How many numbers a cell has in a netlist, number j of cell n, and how many cells there are.
abbrev pub stride : ℕ
stride = 4

abbrev pub cell_number : List ℕ → ℕ → ℕ → ℕ
cell_number net n j = at net (n * stride + j)

abbrev pub kind_at : List ℕ → ℕ → ℕ
kind_at net n = cell_number net n 0

abbrev pub cell_count : List ℕ → ℕ
cell_count net = length net / stride

abbrev pub cell_at : List ℕ → ℕ → Cell
cell_at net n = cell (kind_at net n) (cell_number net n 1) (cell_number net n 2) (cell_number net n 3)

-- m cells from cell n on, and all of them.
abbrev pub cells_from : List ℕ → ℕ → ℕ → List Cell
cells_from net n zero = []
cells_from net n (suc m) = cell_at net n ∷ cells_from net (suc n) m

abbrev pub cells_of : List ℕ → List Cell
cells_of net = cells_from net 0 (cell_count net)

-- The numbers of cells, in order.
abbrev pub numbers_of : List Cell → List ℕ
numbers_of [] = []
numbers_of (cell k x y z ∷ cs) = k ∷ x ∷ y ∷ z ∷ numbers_of cs

-- Kinds 0 to 6 drive bits, kinds 8 to 22 words; there are no others.
abbrev pub bit_kind : ℕ → Bool
bit_kind k = leb k 6

abbrev pub word_kind : ℕ → Bool
word_kind k = and (leb 8 k) (leb k 22)

-- What x, y and z are, kind by kind.
pub record Ports : Type 0 where
  pub x : Port
  pub y : Port
  pub z : Port

abbrev pub ports : Port → Port → Port → Ports
ports a b c = record { x = a; y = b; z = c }

-- 0 load; 1 not x; 2 x and y; 3 x or y; 4 and 5 registers of a bit; 6 word x is not zero; 8 input word; 9 constant;
-- 10 register of a word; 11 word y if bit x, else word z; 12 copy; 13 and more the operations.
unfoldable pub ports_of : ℕ → Ports
ports_of k =
    pick (eqb k 0) (ports port.Unused port.Unused port.Unused)
    (pick (eqb k 1) (ports port.Bit port.Unused port.Unused)
    (pick (or (eqb k 2) (eqb k 3)) (ports port.Bit port.Bit port.Unused)
    (pick (or (eqb k 4) (eqb k 5)) (ports port.LaterBit port.Unused port.Unused)
    (pick (or (eqb k 6) (eqb k 12)) (ports port.Word port.Unused port.Unused)
    (pick (eqb k 8) (ports port.Input port.Unused port.Unused)
    (pick (eqb k 9) (ports port.Constant port.Unused port.Unused)
    (pick (eqb k 10) (ports port.LaterWord port.Unused port.Unused)
    (pick (eqb k 11) (ports port.Bit port.Word port.Word)
    (pick (eqb (arity k) 2) (ports port.Word port.Word port.Unused) (ports port.Word port.Unused port.Unused))))))))))

-- The kinds below 13 by name: bits, then words.
abbrev pub load_cell : Cell
load_cell = cell 0 0 0 0

abbrev pub not_cell : ℕ → Cell
not_cell x = cell 1 x 0 0

abbrev pub and_cell : ℕ → ℕ → Cell
and_cell x y = cell 2 x y 0

abbrev pub or_cell : ℕ → ℕ → Cell
or_cell x y = cell 3 x y 0

abbrev pub low_register : ℕ → Cell
low_register x = cell 4 x 0 0

abbrev pub high_register : ℕ → Cell
high_register x = cell 5 x 0 0

abbrev pub nonzero_cell : ℕ → Cell
nonzero_cell x = cell 6 x 0 0

abbrev pub input_cell : ℕ → Cell
input_cell j = cell 8 j 0 0

abbrev pub constant_cell : ℕ → Cell
constant_cell v = cell 9 v 0 0

abbrev pub word_register : ℕ → Cell
word_register x = cell 10 x 0 0

abbrev pub choice_cell : ℕ → ℕ → ℕ → Cell
choice_cell x y z = cell 11 x y z

abbrev pub copy_cell : ℕ → Cell
copy_cell x = cell 12 x 0 0

-- What a cell shows in a cycle with this load and these input words: `read x` is wire x in the same cycle,
-- and `held k x` is what a register of kind k (4, 5 or 10) holds of its wire x.
abbrev pub value : ℕ → Bool → Words → (ℕ → ℕ → ℕ) → (ℕ → ℕ) → Cell → ℕ
value w load words held read (cell k x y z) =
    pick (ltb 12 k) (operation w k (read x) (read y))
    (pick (eqb k 0) (num load)
    (pick (eqb k 1) (num (not (bit (read x))))
    (pick (eqb k 2) (num (and (bit (read x)) (bit (read y))))
    (pick (eqb k 3) (num (or (bit (read x)) (bit (read y))))
    (pick (eqb k 6) (num (bit (read x)))
    (pick (eqb k 8) (at words x)
    (pick (eqb k 9) x
    (pick (eqb k 11) (pick (bit (read x)) (read y) (read z))
    (pick (eqb k 12) (read x)
    (held k x))))))))))
