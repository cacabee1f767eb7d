-- Law: a netlist's cells by number and as a list, and that the cells of written cells are those cells. Assumes nothing.
use Prim.Native.Nat.{ℕ, zero, suc, ◌+◌, ◌*◌, ◌≤◌, ◌<◌}
use mathlib.Core.Path.{◌≡◌, refl, ◌∙◌, ap}
use mathlib.Core.List.{List, [], ◌∷◌}
use mathlib.Core.Logic.{inl, inr}
use native.Mathlib.Omega.{arith}
use lib.ListN.{length}
use Rattle.meaning.specs.Choices.{at}
use Rattle.meaning.proofs.Tests.{split}
use Rattle.circuit.specs.Cells.{Cell, cell, stride, cell_number, cell_count, cell_at, cells_from, cells_of, numbers_of}
use Rattle.circuit.proofs.Lengths.{numbers-length}
use Rattle.circuit.proofs.Places.{Each}

-- What holds of each cell of a netlist by its number holds along the list, and back.
module _ (P : ℕ → Cell → Type 0) (net : List ℕ) where
  each-cell : (m k : ℕ) → ((n : ℕ) → k ≤ n → n < k + m → P n (cell_at net n)) → Each P k (cells_from net k m)
  each-cell zero k h = tt
  each-cell (suc m) k h = (h k (omega arith) (omega arith), each-cell m (suc k) (λ n l u. h n (omega arith) (omega arith)))

  cell-each : (m k : ℕ) → Each P k (cells_from net k m) → (n : ℕ) → k ≤ n → n < k + m → P n (cell_at net n)
  cell-each zero k h n l u = absurd (omega arith)
  cell-each (suc m) k h n l u = elim (split k n) [
    | inl a ↦ cell-each m (suc k) h.1 n a (omega arith)
    | inr a ↦ (let q : n ≡ k = omega arith in rw q h.0)
  ]

  pub by-cells : ((n : ℕ) → n < cell_count net → P n (cell_at net n)) → Each P 0 (cells_of net)
  by-cells h = each-cell (cell_count net) 0 (λ n l u. h n (omega arith))

  pub of-cell : Each P 0 (cells_of net) → (n : ℕ) → n < cell_count net → P n (cell_at net n)
  of-cell h n u = cell-each (cell_count net) 0 h n (omega arith) (omega arith)

-- Behind the first cell stands the rest.
module _ (k x y z : ℕ) (l : List ℕ) where
  number-later : (n j : ℕ) → cell_number (k ∷ x ∷ y ∷ z ∷ l) (suc n) j ≡ cell_number l n j
  number-later n j = ap (at (k ∷ x ∷ y ∷ z ∷ l)) (later n j)
    where
      later : (n j : ℕ) → suc n * stride + j ≡ suc (suc (suc (suc (n * stride + j))))
      later n j = omega arith

  cells-later : (m n : ℕ) → cells_from (k ∷ x ∷ y ∷ z ∷ l) (suc n) m ≡ cells_from l n m
  cells-later zero n = refl
  cells-later (suc m) n = cc (number-later n 0, number-later n 1, number-later n 2, number-later n 3, cells-later m (suc n))

cells-written : (cs : List Cell) → cells_from (numbers_of cs) 0 (length cs) ≡ cs
cells-written [] = refl
cells-written (cell k x y z ∷ cs) =
    ap (λ (l : List Cell). cell k x y z ∷ l) (cells-later k x y z (numbers_of cs) (length cs) 0 ∙ cells-written cs)

pub count-numbers : (cs : List Cell) → cell_count (numbers_of cs) ≡ length cs
count-numbers cs = omega (arith, numbers-length cs)

pub cells-numbers : (cs : List Cell) → cells_of (numbers_of cs) ≡ cs
cells-numbers cs = ap (λ (m : ℕ). cells_from (numbers_of cs) 0 m) (count-numbers cs) ∙ cells-written cs

-- The list has as many cells as the netlist.
from-length : (net : List ℕ) (m k : ℕ) → length (cells_from net k m) ≡ m
from-length net zero k = refl
from-length net (suc m) k = ap suc (from-length net m (suc k))

pub cells-length : (net : List ℕ) → length (cells_of net) ≡ cell_count net
cells-length net = from-length net (cell_count net) 0
