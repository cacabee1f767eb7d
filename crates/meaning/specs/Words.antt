-- Words: what the kinds 13 to 22 compute at width w. Definitions only.
-- docs/READING.md: "Term tables". Read after: `Choices`. Assumes nothing.
-- A word is below 2 ^ w. Where a definition reduces an operand first, it says what is computed of other numbers too,
-- so that no law about it needs to know that its operands are words.
use Rattle.std.specs.Prelude.{ℕ, ◌+◌, ◌*◌, ◌-◌, ◌/◌, ◌%◌, ◌^◌, List, eqb, ltb}
use Rattle.std.specs.Int.Bits.{bit_and, bit_or, bit_xor}
use Rattle.meaning.specs.Choices.{pick, num}

-- The words that a term takes or gives, in order.
abbrev pub Words : Type 0
Words = List ℕ

-- 13 and 14: the sum and the difference, which wrap at 2 ^ w.
abbrev pub sum : ℕ → ℕ → ℕ → ℕ
sum w x y = (x + y) % 2 ^ w

abbrev pub difference : ℕ → ℕ → ℕ → ℕ
difference w x y = (x + (2 ^ w - y % 2 ^ w)) % 2 ^ w

-- 20: each of the w bits turned round.
abbrev pub complement : ℕ → ℕ → ℕ
complement w x = 2 ^ w - 1 - x % 2 ^ w

-- 21 and 22: one place up, where the top bit is lost, and one place down.
abbrev pub shift_left : ℕ → ℕ → ℕ
shift_left w x = x * 2 % 2 ^ w

abbrev pub shift_right : ℕ → ℕ
shift_right x = x / 2

-- 13 to 19 have two operands: add, subtract, and, or, xor, equal, less.
unfoldable pub binary : ℕ → ℕ → ℕ → ℕ → ℕ
binary w k x y =
    pick (eqb k 13) (sum w x y)
    (pick (eqb k 14) (difference w x y)
    (pick (eqb k 15) (bit_and x y)
    (pick (eqb k 16) (bit_or x y)
    (pick (eqb k 17) (bit_xor x y)
    (pick (eqb k 18) (num (eqb x y))
    (num (ltb x y)))))))

-- 20 to 22 have one: complement, shift left, shift right.
unfoldable pub unary : ℕ → ℕ → ℕ → ℕ
unary w k x = pick (eqb k 20) (complement w x) (pick (eqb k 21) (shift_left w x) (shift_right x))

-- How many words an operation reads.
abbrev pub arity : ℕ → ℕ
arity k = pick (ltb k 20) 2 1

-- The operation of kind k on two words, of which a kind with one operand reads the first.
abbrev pub operation : ℕ → ℕ → ℕ → ℕ → ℕ
operation w k x y = pick (eqb (arity k) 2) (binary w k x y) (unary w k x)
