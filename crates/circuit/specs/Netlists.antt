-- Netlists: the refusals 12 to 16 of a netlist, in their order and with their places. Definitions only.
-- docs/READING.md: "Refusal numbers". Read after: `Cells`, meaning's `Checks`. Assumes nothing.
use Rattle.std.specs.Prelude.{ℕ, ◌%◌, ◌^◌, ◌*◌, Bool, true, List, eqb, ltb, leb, length, Err}
use Rattle.meaning.specs.declared.Cause.TheVariants as cause
use Rattle.meaning.specs.Choices.{pick, and, or, not}
use Rattle.meaning.specs.Refusals.{Check, Verdict, passed, refused}
use Rattle.meaning.specs.Checks.{width_fits, first_refusal}
use Rattle.circuit.specs.declared.Port.{Port}
use Rattle.circuit.specs.declared.Port.TheVariants as port
use Rattle.circuit.specs.Cells.{stride, cell_number, kind_at, cell_count, bit_kind, word_kind, ports_of}

-- 12: there are 1 to 4,096 cells, whole ones.
abbrev pub netlist_fits : List ℕ → Bool
netlist_fits net = and (leb 1 (length net)) (and (eqb (length net % stride) 0) (leb (length net) (4096 * stride)))

-- 14: a number without use is 0, an input is 0 to 15, a constant is a word.
abbrev pub number_fits : ℕ → Port → ℕ → Bool
number_fits w port.Unused v = eqb v 0
number_fits w port.Input v = leb v 15
number_fits w port.Constant v = ltb v (2 ^ w)
number_fits w port.Bit v = true
number_fits w port.Word v = true
number_fits w port.LaterBit v = true
number_fits w port.LaterWord v = true

-- 15: cell n of `cells` reads a lower wire, or, as a register, any wire that is there.
abbrev pub wire_fits : ℕ → ℕ → Port → ℕ → Bool
wire_fits n cells port.Unused v = true
wire_fits n cells port.Input v = true
wire_fits n cells port.Constant v = true
wire_fits n cells port.Bit v = ltb v n
wire_fits n cells port.Word v = ltb v n
wire_fits n cells port.LaterBit v = ltb v cells
wire_fits n cells port.LaterWord v = ltb v cells

-- 16: where a bit is due the wire is no word, where a word is due it is no bit. A wire of unknown kind is neither.
abbrev pub sort_fits : List ℕ → Port → ℕ → Bool
sort_fits net port.Unused v = true
sort_fits net port.Input v = true
sort_fits net port.Constant v = true
sort_fits net port.Bit v = not (word_kind (kind_at net v))
sort_fits net port.Word v = not (bit_kind (kind_at net v))
sort_fits net port.LaterBit v = not (word_kind (kind_at net v))
sort_fits net port.LaterWord v = not (bit_kind (kind_at net v))

-- A test of all three numbers of cell n, each as what it is.
abbrev pub all_ports : (Port → ℕ → Bool) → List ℕ → ℕ → Bool
all_ports test net n =
    and (test (ports_of (kind_at net n)).x (cell_number net n 1))
    (and (test (ports_of (kind_at net n)).y (cell_number net n 2))
    (test (ports_of (kind_at net n)).z (cell_number net n 3)))

-- 13 to 16 of cell n: the first that it fails.
unfoldable pub cell_refusal : ℕ → List ℕ → ℕ → Check
cell_refusal w net n =
    pick (or (bit_kind (kind_at net n)) (word_kind (kind_at net n)))
    (pick (all_ports (number_fits w) net n)
    (pick (all_ports (wire_fits n (cell_count net)) net n)
    (pick (all_ports (sort_fits net) net n)
    passed
    (Err cause.WireSort))
    (Err cause.CellWire))
    (Err cause.CellNumber))
    (Err cause.CellKind)

-- 1, then 12 to 16, cell by cell, lowest first.
unfoldable pub netlist_verdict : ℕ → List ℕ → Verdict
netlist_verdict w net =
    pick (width_fits w)
    (pick (netlist_fits net)
    (first_refusal (cell_refusal w net) (cell_count net) 0 passed)
    (refused cause.NetlistLength 0))
    (refused cause.Width 0)
