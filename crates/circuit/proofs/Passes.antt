-- Law: what checks 13 to 16 ask of a cell, a row a kind: its numbers are as the kind asks, and its wires are there, lower where they must
-- be, and of the right sort. Who reads an emitted cell, a cell's value or a wire's range goes by these rows. Assumes nothing.
use Prim.Native.Nat.{ℕ, ◌^◌, ◌≤◌, ◌<◌}
use mathlib.Core.Path.{◌≡◌}
use native.Mathlib.Omega.{arith}
use Rattle.circuit.specs.Cells.{
  Cell,
  cell,
  load_cell,
  not_cell,
  and_cell,
  or_cell,
  low_register,
  high_register,
  nonzero_cell,
  input_cell,
  constant_cell,
  word_register,
  choice_cell,
  copy_cell,
}

-- Wire x is below n, and is a bit or a word.
abbrev pub BitBelow : (ℕ → ℕ) → ℕ → ℕ → Type 0
BitBelow kinds n x = (x < n) × (kinds x ≤ 6)

abbrev pub WordBelow : (ℕ → ℕ) → ℕ → ℕ → Type 0
WordBelow kinds n x = (x < n) × (8 ≤ kinds x)

-- Cell n of `count` cells, where `given` input words may be named: a register reads any wire, all others read lower ones.
pub data Passes (w given count : ℕ) (kinds : ℕ → ℕ) (n : ℕ) : Cell → Type 0 where
  load_passes : Passes w given count kinds n load_cell
  not_passes : (x : ℕ) → BitBelow kinds n x → Passes w given count kinds n (not_cell x)
  and_passes : (x y : ℕ) → BitBelow kinds n x → BitBelow kinds n y → Passes w given count kinds n (and_cell x y)
  or_passes : (x y : ℕ) → BitBelow kinds n x → BitBelow kinds n y → Passes w given count kinds n (or_cell x y)
  low_passes : (x : ℕ) → BitBelow kinds count x → Passes w given count kinds n (low_register x)
  high_passes : (x : ℕ) → BitBelow kinds count x → Passes w given count kinds n (high_register x)
  nonzero_passes : (x : ℕ) → WordBelow kinds n x → Passes w given count kinds n (nonzero_cell x)
  input_passes : (j : ℕ) → j < given → Passes w given count kinds n (input_cell j)
  constant_passes : (v : ℕ) → v < 2 ^ w → Passes w given count kinds n (constant_cell v)
  register_passes : (x : ℕ) → WordBelow kinds count x → Passes w given count kinds n (word_register x)
  choice_passes : (x y z : ℕ) → BitBelow kinds n x → WordBelow kinds n y → WordBelow kinds n z →
      Passes w given count kinds n (choice_cell x y z)
  copy_passes : (x : ℕ) → WordBelow kinds n x → Passes w given count kinds n (copy_cell x)
  two_passes : (k x y : ℕ) → 13 ≤ k → k ≤ 19 → WordBelow kinds n x → WordBelow kinds n y → Passes w given count kinds n (cell k x y 0)
  one_passes : (k x : ℕ) → 20 ≤ k → k ≤ 22 → WordBelow kinds n x → Passes w given count kinds n (cell k x 0 0)

-- More words may be given; and an input cell that passes names one of them.
pub more_given : {w m i count n : ℕ} {kinds : ℕ → ℕ} {c : Cell} → i ≤ m → Passes w i count kinds n c → Passes w m count kinds n c
more_given l load_passes = load_passes
more_given l (not_passes x a) = not_passes x a
more_given l (and_passes x y a b) = and_passes x y a b
more_given l (or_passes x y a b) = or_passes x y a b
more_given l (low_passes x a) = low_passes x a
more_given l (high_passes x a) = high_passes x a
more_given l (nonzero_passes x a) = nonzero_passes x a
more_given l (input_passes j a) = input_passes j (omega arith)
more_given l (constant_passes v a) = constant_passes v a
more_given l (register_passes x a) = register_passes x a
more_given l (choice_passes x y z a b c) = choice_passes x y z a b c
more_given l (copy_passes x a) = copy_passes x a
more_given l (two_passes k x y h u a b) = two_passes k x y h u a b
more_given l (one_passes k x h u a) = one_passes k x h u a

abbrev pub kind_of_cell : Cell → ℕ
kind_of_cell (cell k x y z) = k

abbrev pub x_of_cell : Cell → ℕ
x_of_cell (cell k x y z) = x

pub input-given : {w i count n : ℕ} {kinds : ℕ → ℕ} {c : Cell} → Passes w i count kinds n c → kind_of_cell c ≡ 8 → x_of_cell c < i
input-given load_passes e = absurd (omega arith)
input-given (not_passes x a) e = absurd (omega arith)
input-given (and_passes x y a b) e = absurd (omega arith)
input-given (or_passes x y a b) e = absurd (omega arith)
input-given (low_passes x a) e = absurd (omega arith)
input-given (high_passes x a) e = absurd (omega arith)
input-given (nonzero_passes x a) e = absurd (omega arith)
input-given (input_passes j a) e = a
input-given (constant_passes v a) e = absurd (omega arith)
input-given (register_passes x a) e = absurd (omega arith)
input-given (choice_passes x y z a b c) e = absurd (omega arith)
input-given (copy_passes x a) e = absurd (omega arith)
input-given (two_passes k x y h u a b) e = absurd (omega arith)
input-given (one_passes k x h u a) e = absurd (omega arith)
