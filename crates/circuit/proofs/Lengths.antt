-- Law: how many wires and cells the pieces of a block have. Assumes nothing.
use Prim.Native.Nat.{ℕ, zero, suc, ◌+◌, ◌*◌}
use mathlib.Core.Path.{◌≡◌, refl, ap}
use mathlib.Core.List.{List, [], ◌∷◌}
use native.Mathlib.Omega.{arith}
use lib.ListN.{length}
use Rattle.circuit.specs.Cells.{Cell, cell, stride, numbers_of}
use Rattle.circuit.specs.Pieces.{◌after◌, wires_from, keeps, kept, choices, registers}
use Rattle.circuit.specs.Compiling.{input_cells}

pub wires-length : (n p : ℕ) → length (wires_from p n) ≡ n
wires-length zero p = refl
wires-length (suc n) p = ap suc (wires-length n (suc p))

pub kept-length : (xs : List ℕ) (p : ℕ) → length (kept p xs) ≡ length xs
kept-length [] p = refl
kept-length (x ∷ xs) p = ap suc (kept-length xs (2 after p))

pub keeps-length : (xs : List ℕ) (p s : ℕ) → length (keeps p s xs) ≡ length xs + length xs
keeps-length [] p s = refl
keeps-length (x ∷ xs) p s = omega (arith, keeps-length xs (2 after p) s)

pub choices-length : (xs ys : List ℕ) (s : ℕ) → length xs ≡ length ys → length (choices s xs ys) ≡ length xs
choices-length [] ys s e = refl
choices-length (x ∷ xs) [] s e = absurd (omega arith)
choices-length (x ∷ xs) (y ∷ ys) s e = ap suc (choices-length xs ys s (omega arith))

pub registers-length : (xs : List ℕ) → length (registers xs) ≡ length xs
registers-length [] = refl
registers-length (x ∷ xs) = ap suc (registers-length xs)

pub inputs-length : (n j : ℕ) → length (input_cells j n) ≡ n
inputs-length zero j = refl
inputs-length (suc n) j = ap suc (inputs-length n (suc j))

pub numbers-length : (cs : List Cell) → length (numbers_of cs) ≡ length cs * stride
numbers-length [] = refl
numbers-length (cell k x y z ∷ cs) = omega (arith, numbers-length cs)
