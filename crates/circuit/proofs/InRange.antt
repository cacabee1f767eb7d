-- Law: in every cycle of a checked netlist bits are 0 or 1 and words are below 2 ^ w, where the starting words and the given words are.
-- Assumes nothing.
use Prim.Native.Nat.{ℕ, zero, suc, ◌^◌, ◌≤◌, ◌<◌}
use mathlib.Core.Path.{◌≡◌, refl}
use mathlib.Core.Bool.{Bool, true, false}
use mathlib.Core.List.{List}
use native.Mathlib.Omega.{arith}
use borrow.Author.Tests.{lt-ltb, le-ltb}
use Rattle.meaning.specs.Choices.{and, or, not, num, bit, at}
use Rattle.meaning.specs.Words.{Words, operation}
use Rattle.meaning.proofs.Tests.{by-test}
use Rattle.meaning.proofs.Ranges.{operation-lt}
use Rattle.circuit.specs.Cells.{Cell, kind_at, cell_count, cell_at, value}
use Rattle.circuit.specs.Clock.{Held, wires}
use Rattle.circuit.proofs.Streams.{Bits, Wires}
use Rattle.circuit.proofs.Equations.{held_at}
use Rattle.circuit.proofs.Indexed.{of-cell}
use Rattle.circuit.proofs.Passes.{
  BitBelow,
  WordBelow,
  Passes,
  load_passes,
  not_passes,
  and_passes,
  or_passes,
  low_passes,
  high_passes,
  nonzero_passes,
  input_passes,
  constant_passes,
  register_passes,
  choice_passes,
  copy_passes,
  two_passes,
  one_passes,
  kind_of_cell,
}
use Rattle.circuit.proofs.Checked.{Checked}
use Rattle.circuit.proofs.Clocked.{Shows, clocked, shown-now}

num-le : (b : Bool) → num b ≤ 1
num-le true = omega arith
num-le false = omega arith

-- A value that wire n may show: as a bit at most 1, as a word below 2 ^ w.
pub record Ranged (w : ℕ) (kinds : ℕ → ℕ) (n v : ℕ) : Type 0 where
  pub as_bit : kinds n ≤ 6 → v ≤ 1
  pub as_word : 8 ≤ kinds n → v < 2 ^ w

module _ (w given count : ℕ) (kinds : ℕ → ℕ) (wide : 1 ≤ w) where
  bit-ranged : (n v : ℕ) → kinds n ≤ 6 → v ≤ 1 → Ranged w kinds n v
  bit-ranged n v k h = record { as_bit = λ l. h; as_word = λ l. absurd (omega arith) }

  word-ranged : (n v : ℕ) → 8 ≤ kinds n → v < 2 ^ w → Ranged w kinds n v
  word-ranged n v k h = record { as_bit = λ l. absurd (omega arith); as_word = λ l. h }

  -- What a register holds is as the wire that it reads.
  record HeldRanged (held : ℕ → ℕ → ℕ) : Type 0 where
    low : (x : ℕ) → BitBelow kinds count x → held 4 x ≤ 1
    high : (x : ℕ) → BitBelow kinds count x → held 5 x ≤ 1
    word : (x : ℕ) → WordBelow kinds count x → held 10 x < 2 ^ w

  module _ (load : Bool) (words : Words) (small : (j : ℕ) → at words j < 2 ^ w) where
    unary-ranged : (k x y : ℕ) → 20 ≤ k → x < 2 ^ w → operation w k x y < 2 ^ w
    unary-ranged k x y h l = rw (le-ltb k 20 h) (rw (le-ltb k 20 h) at (operation-lt w wide k x x l l))

    -- A cell that passes, where registers and lower wires are in range.
    module _ (n : ℕ) (held : ℕ → ℕ → ℕ) (read : ℕ → ℕ) (g : HeldRanged held) (lower : (j : ℕ) → j < n → Ranged w kinds j (read j)) where
      word_read : (x : ℕ) → WordBelow kinds n x → read x < 2 ^ w
      word_read x a = (lower x a.0).as_word a.1

      cell-ranged : {c : Cell} → Passes w given count kinds n c → kinds n ≡ kind_of_cell c →
          Ranged w kinds n (value w load words held read c)
      cell-ranged load_passes e = bit-ranged n _ (omega arith) (num-le load)
      cell-ranged (not_passes x a) e = bit-ranged n _ (omega arith) (num-le (not (bit (read x))))
      cell-ranged (and_passes x y a b) e = bit-ranged n _ (omega arith) (num-le (and (bit (read x)) (bit (read y))))
      cell-ranged (or_passes x y a b) e = bit-ranged n _ (omega arith) (num-le (or (bit (read x)) (bit (read y))))
      cell-ranged (low_passes x a) e = bit-ranged n _ (omega arith) (g.low x a)
      cell-ranged (high_passes x a) e = bit-ranged n _ (omega arith) (g.high x a)
      cell-ranged (nonzero_passes x a) e = bit-ranged n _ (omega arith) (num-le (bit (read x)))
      cell-ranged (input_passes j a) e = word-ranged n _ (omega arith) (small j)
      cell-ranged (constant_passes v a) e = word-ranged n _ (omega arith) a
      cell-ranged (register_passes x a) e = word-ranged n _ (omega arith) (g.word x a)
      cell-ranged (choice_passes x y z a b d) e =
          word-ranged n _ (omega arith)
          (by-test (λ v. v < 2 ^ w) (bit (read x)) (read y) (read z) (λ q. word_read y b) (λ q. word_read z d))
      cell-ranged (copy_passes x a) e = word-ranged n _ (omega arith) (word_read x a)
      cell-ranged (two_passes k x y h u a b) e =
          word-ranged n _ (omega arith)
          (rw (lt-ltb 12 k h) (operation-lt w wide k (read x) (read y) (word_read x a) (word_read y b)))
      cell-ranged (one_passes k x h u a) e =
          let i : 12 < k = omega arith in
          word-ranged n _ (omega arith) (rw (lt-ltb 12 k i) (unary-ranged k (read x) (read 0) h (word_read x a)))

    -- All wires of a cycle, lowest first.
    below-ranged : (held : Held) (r : List ℕ) → ((n : ℕ) → HeldRanged (held n)) → (c : ℕ → Cell) →
        ((n : ℕ) → n < count → Passes w given count kinds n (c n)) → ((n : ℕ) → n < count → kinds n ≡ kind_of_cell (c n)) →
        ((n : ℕ) → n < count → Shows w load words held r n (c n)) → (m j : ℕ) → j < m → m ≤ count → Ranged w kinds j (at r j)
    below-ranged held r g c p k s zero j h l = absurd (omega arith)
    below-ranged held r g c p k s (suc m) j h l =
        let i : j < count = omega arith in
        rw (s j i)
        (cell-ranged j (held j) (at r) (g j) (λ u o. below-ranged held r g c p k s m u (omega arith) (omega arith)) (p j i) (k j i))

module _ (w : ℕ) (net : List ℕ) (ch : Checked w net) (starts : ℕ → ℕ) (small : (n : ℕ) → starts n < 2 ^ w)
    (load : Bits) (inputs : Wires) (given : (t j : ℕ) → at (inputs t) j < 2 ^ w) where
  abbrev AllRanged : ℕ → Type 0
  AllRanged t = (j : ℕ) → j < cell_count net → Ranged w (kind_at net) j (at (wires w starts net load inputs t) j)

  held-ranged : (t : ℕ) → ((u : ℕ) → t ≡ suc u → AllRanged u) → (n : ℕ) →
      HeldRanged w 16 (cell_count net) (kind_at net) ch.wide.0 (held_at (clocked w starts net load inputs) t n)
  held-ranged zero f n = record { low = λ x a. omega arith; high = λ x a. omega arith; word = λ x a. small n }
  held-ranged (suc t) f n = record {
    low = λ x a. (f t refl x a.0).as_bit a.1;
    high = λ x a. (f t refl x a.0).as_bit a.1;
    word = λ x a. (f t refl x a.0).as_word a.1;
  }

  from-earlier : (t : ℕ) → ((u : ℕ) → t ≡ suc u → AllRanged u) → AllRanged t
  from-earlier t f j h =
      below-ranged w 16 (cell_count net) (kind_at net) ch.wide.0 (load t) (inputs t) (given t)
      (held_at (clocked w starts net load inputs) t) (wires w starts net load inputs t) (held-ranged t f) (cell_at net)
      ch.cells (λ n l. refl) (of-cell _ net (shown-now w starts net load inputs ch t)) (cell_count net) j h (omega arith)

  pub in-range : (t : ℕ) → AllRanged t
  in-range zero = from-earlier zero (λ u e. absurd (omega arith))
  in-range (suc t) = from-earlier (suc t) (λ u e. let q : u ≡ t = omega arith in rw q (in-range t))
