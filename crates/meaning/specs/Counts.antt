-- Counts: how many words a term takes and gives, and how many cells its circuit has. Definitions only.
-- docs/READING.md: "Term tables", "Cells". Read after: `Terms`. Assumes nothing.
use Rattle.std.specs.Prelude.{ℕ, ◌+◌, ◌*◌, min, ltb}
use Rattle.meaning.specs.Choices.{pick}
use Rattle.meaning.specs.Words.{arity}
use Rattle.meaning.specs.Terms.{Term, leaf, seq, par, ite, rec}

-- i: Const and Field say it themselves (m), an operation's is its arity, the combinators take what their first operand takes.
abbrev pub ins : Term → ℕ
ins (leaf k a b) = pick (ltb k 13) a (arity k)
ins (seq f g) = ins f
ins (par f g) = ins f
ins (ite e f g) = ins e
ins (rec e f g) = ins e

-- o: a leaf gives one word.
abbrev pub outs : Term → ℕ
outs (leaf k a b) = 1
outs (seq f g) = outs g
outs (par f g) = outs f + outs g
outs (ite e f g) = outs f
outs (rec e f g) = outs f

-- The cells of a term's own block.
abbrev pub size : Term → ℕ
size (leaf k a b) = 4
size (seq f g) = size f + size g + 4
size (par f g) = size f + size g + 1
size (ite e f g) = 2 * ins e + size e + size f + size g + 9 + outs f
size (rec e f g) = 4 * ins e + size e + size f + size g + 16

-- The cells of the whole circuit: load, the inputs and five more stand before the main block.
abbrev pub whole_size : Term → ℕ
whole_size T = 6 + ins T + size T

-- A size as the arrays keep it: sizes over 4,096 are all alike, so that their sums stay small.
abbrev pub capped : ℕ → ℕ
capped n = min n 4097
