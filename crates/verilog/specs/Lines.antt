-- Lines: each line of the Verilog text as a template. Definitions only.
-- docs/READING.md: "The Verilog text". Read after: spelling's `Pieces`. Assumes nothing.
-- In a template N is the line's own number, X, Y and Z are a cell's numbers, W is the width and T is W - 1.
use Rattle.std.specs.Prelude.{ℕ, Bool, List, [], eqb}
use Rattle.meaning.specs.Choices.{pick, or}
use Rattle.spelling.specs.Pieces.{bytes}

-- A template for each kind of cell, as its bytes.
abbrev pub ByKind : Type 0
ByKind = ℕ → List ℕ

-- The declaration of a cell that computes, kind by kind. A word's range is written at every width.
unfoldable pub operation_line : ByKind
operation_line k =
    pick (eqb k 13) (bytes "  wire [T:0] wN = wX + wY;\n")
    (pick (eqb k 14) (bytes "  wire [T:0] wN = wX - wY;\n")
    (pick (eqb k 15) (bytes "  wire [T:0] wN = wX & wY;\n")
    (pick (eqb k 16) (bytes "  wire [T:0] wN = wX | wY;\n")
    (pick (eqb k 17) (bytes "  wire [T:0] wN = wX ^ wY;\n")
    (pick (eqb k 18) (bytes "  wire [T:0] wN = wX == wY;\n")
    (pick (eqb k 19) (bytes "  wire [T:0] wN = wX < wY;\n")
    (pick (eqb k 20) (bytes "  wire [T:0] wN = ~wX;\n")
    (pick (eqb k 21) (bytes "  wire [T:0] wN = wX << 1;\n")
    (pick (eqb k 22) (bytes "  wire [T:0] wN = wX >> 1;\n")
    [])))))))))

-- The declaration of any cell: bits, then words.
unfoldable pub declaration : ByKind
declaration k =
    pick (eqb k 0) (bytes "  wire wN = load;\n")
    (pick (eqb k 1) (bytes "  wire wN = !wX;\n")
    (pick (eqb k 2) (bytes "  wire wN = wX & wY;\n")
    (pick (eqb k 3) (bytes "  wire wN = wX | wY;\n")
    (pick (eqb k 4) (bytes "  reg wN = 0;\n")
    (pick (eqb k 5) (bytes "  reg wN = 1;\n")
    (pick (eqb k 6) (bytes "  wire wN = wX != 0;\n")
    (pick (eqb k 8) (bytes "  wire [T:0] wN = inpX;\n")
    (pick (eqb k 9) (bytes "  wire [T:0] wN = W'dX;\n")
    (pick (eqb k 10) (bytes "  reg [T:0] wN = 0;\n")
    (pick (eqb k 11) (bytes "  wire [T:0] wN = wX ? wY : wZ;\n")
    (pick (eqb k 12) (bytes "  wire [T:0] wN = wX;\n")
    (operation_line k))))))))))))

-- The clock line of a register, kinds 4, 5 and 10; other cells have none.
abbrev pub register : ℕ → Bool
register k = or (eqb k 4) (or (eqb k 5) (eqb k 10))

unfoldable pub clock_line : ByKind
clock_line k = pick (register k) (bytes "  always @(posedge clk) wN <= wX;\n") []
