-- Cycles: what a term gives on words and how long it takes, cut off at a budget. Definitions only.
-- docs/READING.md: "Cycles". Read after: `Terms`. Assumes nothing.
use Rattle.std.specs.Prelude.{ℕ, zero, suc, ◌+◌, ◌-◌, max, Bool, [], ◌∷◌, ◌++◌, eqb, ltb}
use Rattle.meaning.specs.Choices.{pick, bit, at}
use Rattle.meaning.specs.Words.{Words, operation}
use Rattle.meaning.specs.Terms.{Term, leaf, seq, par, ite, rec}

-- What a run within a budget comes to: unfinished, or its cycles and words.
pub data Result : Type 0 where
  unfinished : Result
  ended : ℕ → Words → Result

-- From a budget and input words.
abbrev pub Evaluator : Type 0
Evaluator = ℕ → Words → Result

-- A result after c cycles that went before it.
abbrev pub later : ℕ → Result → Result
later c unfinished = unfinished
later c (ended d ws) = ended (c + d) ws

-- A test holds where its word is not zero.
abbrev pub holds : Words → Bool
holds v = bit (at v 0)

-- The word of a leaf: 9 Const its v, 12 Field the word that it names, the others their operation.
abbrev pub leaf_word : ℕ → ℕ → ℕ → Words → ℕ
leaf_word w k b x = pick (ltb k 13) (pick (eqb k 9) b (at x b)) (operation w k (at x 0) (at x 1))

-- A leaf takes one cycle.
abbrev pub leaf_run : (Words → ℕ) → Evaluator
leaf_run word zero x = unfinished
leaf_run word (suc n) x = ended 1 (word x ∷ [])

-- Seq: g on f's words, with the budget that f leaves; the sum.
abbrev pub seq_rest : Evaluator → ℕ → Result → Result
seq_rest g n unfinished = unfinished
seq_rest g n (ended c v) = later c (g (n - c) v)

abbrev pub seq_run : Evaluator → Evaluator → Evaluator
seq_run f g n x = seq_rest g n (f n x)

-- Par: both on the same words, each with the whole budget; the larger, and the words of f, then of g.
abbrev pub beside : Result → Result → Result
beside unfinished r = unfinished
beside (ended c u) unfinished = unfinished
beside (ended c u) (ended d v) = ended (max c d) (u ++ v)

abbrev pub par_run : Evaluator → Evaluator → Evaluator
par_run f g n x = beside (f n x) (g n x)

-- Ite: e, and the branch that its word takes, on the same words; the sum.
abbrev pub branch : {A : Type 0} → A → A → Words → A
branch f g v = pick (holds v) f g

abbrev pub ite_rest : Evaluator → Evaluator → ℕ → Words → Result → Result
ite_rest f g n x unfinished = unfinished
ite_rest f g n x (ended c v) = later c (branch f g v (n - c) x)

abbrev pub ite_run : Evaluator → Evaluator → Evaluator → Evaluator
ite_run e f g n x = ite_rest f g n x (e n x)

-- Rec, after g's d cycles, with `left` of the budget: one cycle to feed g's words back, and the next round.
abbrev pub feed_back : Evaluator → ℕ → Words → ℕ → Result
feed_back next d v zero = unfinished
feed_back next d v (suc left) = later (suc d) (next left v)

abbrev pub after_body : Evaluator → ℕ → Result → Result
after_body next n unfinished = unfinished
after_body next n (ended d v) = feed_back next d v (n - d)

-- The round after its test: f ends the loop, g goes on.
abbrev pub body : Evaluator → Evaluator → Evaluator
body g next n x = after_body next n (g n x)

abbrev pub after_test : Evaluator → Evaluator → Evaluator → ℕ → Words → Result → Result
after_test f g next n x unfinished = unfinished
after_test f g next n x (ended c v) = later c (branch f (body g next) v (n - c) x)

-- At most m rounds.
abbrev pub rounds : Evaluator → Evaluator → Evaluator → ℕ → Evaluator
rounds e f g zero n x = unfinished
rounds e f g (suc m) n x = after_test f g (rounds e f g m) n x (e n x)

-- A round that goes on takes a cycle of the budget at least, so budget + 1 rounds are enough.
abbrev pub rec_run : Evaluator → Evaluator → Evaluator → Evaluator
rec_run e f g n x = rounds e f g (suc n) n x

-- A term at width w.
unfoldable pub evaluate : ℕ → Term → Evaluator
evaluate w (leaf k a b) = leaf_run (leaf_word w k b)
evaluate w (seq f g) = seq_run (evaluate w f) (evaluate w g)
evaluate w (par f g) = par_run (evaluate w f) (evaluate w g)
evaluate w (ite e f g) = ite_run (evaluate w e) (evaluate w f) (evaluate w g)
evaluate w (rec e f g) = rec_run (evaluate w e) (evaluate w f) (evaluate w g)
