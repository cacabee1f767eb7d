-- Traps: small circuits of wrong wirings, and of one that serves a first load only, each with a run in which it
-- breaks the promise. Assumes nothing.
use Prim.Native.Nat.{ℕ, zero, suc}
use mathlib.Core.Path.{◌≡◌, refl, ap}
use mathlib.Core.Bool.{true, false}
use mathlib.Core.List.{List, [], ◌∷◌}
use native.Mathlib.Omega.{arith}
use Rattle.meaning.specs.Refusals.{passed, refused}
use Rattle.meaning.specs.declared.Cause.TheVariants as cause
use Rattle.meaning.specs.Choices.{bit, at}
use Rattle.meaning.specs.Words.{Words, binary, unary}
use Rattle.meaning.specs.Terms.{Term, leaf, seq, ite, rec}
use Rattle.meaning.specs.Checks.{first_refusal}
use Rattle.meaning.specs.Cycles.{evaluate}
use Rattle.meaning.proofs.Tests.{clash}
use Rattle.circuit.specs.Cells.{
  Cell,
  cell,
  numbers_of,
  ports_of,
  load_cell,
  not_cell,
  and_cell,
  or_cell,
  low_register,
  high_register,
  input_cell,
  word_register,
  choice_cell,
  copy_cell,
}
use Rattle.circuit.specs.Netlists.{cell_refusal, netlist_verdict}
use Rattle.circuit.specs.Compiling.{whole_cells}
use Rattle.circuit.specs.Clock.{wires}
use Rattle.circuit.specs.Promise.{Low, Promise}
use Rattle.circuit.proofs.Streams.{Bits, Wires, low-none, low-more}

-- A list of cells in which cell n is another.
abbrev replaced : List Cell → ℕ → Cell → List Cell
replaced [] n c = []
replaced (a ∷ cs) zero c = c ∷ cs
replaced (a ∷ cs) (suc n) c = a ∷ replaced cs n c

-- Load and a word, cycle by cycle, as lists.
abbrev load_of : List ℕ → Bits
load_of l t = bit (at l t)

abbrev word_of : List ℕ → Wires
word_of l t = at l t ∷ []

-- Cells with done and one output, run at width 8, keep the promise of a term.
abbrev Keeps : Term → List Cell → ℕ → ℕ → List ℕ → List ℕ → Type 0
Keeps T cs done out loads words =
    Promise (evaluate 8 T) (load_of loads)
    (λ t. bit (at (wires 8 (λ n. 0) (numbers_of cs) (load_of loads) (word_of words) t) done)) (word_of words)
    (λ t. at (wires 8 (λ n. 0) (numbers_of cs) (load_of loads) (word_of words) t) out ∷ [])

-- Two words that differ are not both an output.
other_word : {a b : ℕ} → a ∷ [] ≡ b ∷ [] → (a ≡ b → ⊥) → ⊥
other_word p q = q (ap (λ (l : Words). at l 0) p)

-- No run begins at cycle t.
quiet_at : (b : Bits) (t n : ℕ) → n ≡ suc t → b t ≡ false → Low b t n
quiet_at b t n p h = low-more b t t n p (low-none b t t (omega arith)) h

abbrev complement : Term
complement = leaf 20 0 0

abbrev first : Term
first = leaf 12 1 0

-- Starting on an edge in the very cycle done rises: start is the rise of load alone. A load that rises where a run of two cycles ends
-- begins nothing, and here it lowers done.
abbrev eager_cells : List Cell
eager_cells = replaced (whole_cells (seq complement complement)) 6 (and_cell 5 5)

eager-breaks : Keeps (seq complement complement) eager_cells 18 15 (0 ∷ 1 ∷ 0 ∷ 1 ∷ []) (5 ∷ 5 ∷ 5 ∷ 5 ∷ []) → ⊥
unfolding evaluate binary unary
eager-breaks P = clash false (P.high 1 2 2 3 (5 ∷ []) refl refl (omega arith) (quiet_at _ 3 4 refl refl)) refl

-- A loop that goes round once on 0, since 0 is not done and its complement is: five cycles.
abbrev loop : Term
loop = rec first first complement

-- Feeding g's answer back without its register: the cell reads a wire that is not there yet. The checks refuse it, and on the clock the
-- next round begins on 0 for ever.
abbrev looped_cells : List Cell
looped_cells = replaced (whole_cells loop) 8 (copy_cell 29)

looped-refused : netlist_verdict 8 (numbers_of looped_cells) ≡ refused cause.CellWire 8
unfolding netlist_verdict first_refusal cell_refusal ports_of
looped-refused = refl

looped-breaks : Keeps loop looped_cells 38 25 (0 ∷ 1 ∷ []) [] → ⊥
unfolding evaluate binary unary
looped-breaks P = clash false (P.high 1 5 5 6 (255 ∷ []) refl refl (omega arith) (quiet_at _ 6 7 refl refl)) refl

-- Letting done flicker between two rounds: done without the not of g's rise is high at cycle 3 of the run.
abbrev flicker_cells : List Cell
flicker_cells = replaced (whole_cells loop) 38 (and_cell 36 36)

flicker-breaks : Keeps loop flicker_cells 38 25 (0 ∷ 1 ∷ []) [] → ⊥
unfolding evaluate binary unary
flicker-breaks P = clash true refl (P.low 1 5 5 (255 ∷ []) refl refl 3 (omega arith) (omega arith))

-- Keeping a round's words under the start from outside: the second round still has the first one's 0.
abbrev stale_cells : List Cell
stale_cells = replaced (whole_cells loop) 12 (choice_cell 6 10 11)

stale-breaks : Keeps loop stale_cells 38 25 (0 ∷ 1 ∷ []) [] → ⊥
unfolding evaluate binary unary
stale-breaks P = other_word (P.right 1 5 5 6 (255 ∷ []) refl refl (omega arith) (low-none _ 6 6 (omega arith))) (λ q. omega arith)

-- Reading the inputs again for a branch: the caller's 5 has become 7 when f begins.
abbrev live_cells : List Cell
live_cells = replaced (whole_cells (ite first first first)) 22 (copy_cell 1)

live-breaks : Keeps (ite first first first) live_cells 29 30 (0 ∷ 1 ∷ []) (5 ∷ 5 ∷ 7 ∷ 7 ∷ []) → ⊥
unfolding evaluate binary unary
live-breaks P = other_word (P.right 1 2 2 3 (5 ∷ []) refl refl (omega arith) (low-none _ 3 3 (omega arith))) (λ q. omega arith)

-- One circuit for two users: where g is wired to f's circuit there is one complement, and done is high a cycle early.
shared-breaks : Keeps (seq complement complement) (whole_cells complement) 7 8 (0 ∷ 1 ∷ []) (5 ∷ 5 ∷ []) → ⊥
unfolding evaluate binary unary
shared-breaks P = clash true refl (P.low 1 2 2 (5 ∷ []) refl refl 2 (omega arith) (omega arith))

-- A circuit that serves the first load and afterwards only lowers done: cells 10 to 13 let the register take a word only before the first
-- start has passed. The checks accept it; the second run shows the first run's word.
abbrev once_cells : List Cell
once_cells =
    load_cell ∷ input_cell 0 ∷ high_register 0 ∷ not_cell 2 ∷ high_register 7 ∷ and_cell 0 3 ∷ and_cell 5 4 ∷
    not_cell 6 ∷ word_register 14 ∷
    cell 20 1 0 0 ∷ low_register 11 ∷ or_cell 6 10 ∷ not_cell 10 ∷ and_cell 6 12 ∷ choice_cell 13 9 8 ∷ []

once-accepted : netlist_verdict 8 (numbers_of once_cells) ≡ passed
unfolding netlist_verdict first_refusal cell_refusal ports_of
once-accepted = refl

once-breaks : Keeps complement once_cells 7 8 (0 ∷ 1 ∷ 0 ∷ 1 ∷ []) (5 ∷ 5 ∷ 6 ∷ 6 ∷ []) → ⊥
unfolding evaluate binary unary
once-breaks P = other_word (P.right 3 1 1 4 (249 ∷ []) refl refl (omega arith) (low-none _ 4 4 (omega arith))) (λ q. omega arith)
