-- Numbers: what is so of all three numbers of a cell, each as what it is. Definitions only. Assumes nothing.
use Rattle.std.specs.Prelude.{ℕ, List}
use Rattle.circuit.specs.declared.Port.{Port}
use Rattle.circuit.specs.Cells.{cell_number, kind_at, ports_of}

abbrev pub EachPort : (Port → ℕ → Type 0) → List ℕ → ℕ → Type 0
EachPort P net n =
    P (ports_of (kind_at net n)).x (cell_number net n 1) × P (ports_of (kind_at net n)).y (cell_number net n 2)
    × P (ports_of (kind_at net n)).z (cell_number net n 3)
