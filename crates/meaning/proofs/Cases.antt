-- Cases: the small runs of docs/READING.md, and each refusal of a table once, computed from the definitions. Assumes nothing.
use Prim.Native.Nat.{ℕ, zero, suc}
use mathlib.Core.Path.{◌≡◌, refl}
use mathlib.Core.Bool.{Bool, true, false}
use mathlib.Core.List.{List, [], ◌∷◌, ◌++◌, map}
use lib.Dec.{eqb}
use Rattle.meaning.specs.Choices.{and, listed, all_below}
use Rattle.meaning.specs.Words.{Words, binary, unary}
use Rattle.meaning.specs.Terms.{node_of, below, main_of}
use Rattle.meaning.specs.Counts.{whole_size}
use Rattle.meaning.specs.Checks.{operands_of, used_of, operands_below, counts_fit, par_small, refusal_at, first_refusal, verdict_of}
use Rattle.meaning.specs.Cycles.{evaluate}
use Rattle.meaning.specs.Answers.{judged, evaluated_of, evaluated_numbers}

-- The same numbers, one by one.
abbrev same : List ℕ → List ℕ → Bool
same [] [] = true
same [] (b ∷ m) = false
same (a ∷ l) [] = false
same (a ∷ l) (b ∷ m) = and (eqb a b) (same l m)

-- A call of the evaluator: width, table, words, budget, and the numbers due, those past them 0.
data Case : Type 0 where
  gives : ℕ → List ℕ → Words → ℕ → List ℕ → Case

abbrev pads_to : List ℕ → List ℕ → Bool
pads_to [] [] = true
pads_to [] (b ∷ m) = and (eqb b 0) (pads_to [] m)
pads_to (a ∷ l) [] = false
pads_to (a ∷ l) (b ∷ m) = and (eqb a b) (pads_to l m)

abbrev agrees : Case → Bool
agrees (gives w t x n due) = pads_to due (evaluated_numbers (evaluated_of w t x n))

abbrev all : List Case → Bool
all [] = true
all (c ∷ cs) = and (agrees c) (all cs)

-- Run 1's complement, run 2's countdown, run 4's multiplier (its answer's first word is Const 0), run 6's loop for ever.
abbrev pub complement_table : List ℕ
complement_table = 20 ∷ 0 ∷ 0 ∷ 0 ∷ []

abbrev pub countdown_table : List ℕ
countdown_table =
    12 ∷ 1 ∷ 0 ∷ 0 ∷ 9 ∷ 1 ∷ 0 ∷ 0 ∷ 2 ∷ 0 ∷ 1 ∷ 0 ∷ 18 ∷ 0 ∷ 0 ∷ 0 ∷ 1 ∷ 2 ∷ 3 ∷ 0 ∷
    9 ∷ 1 ∷ 1 ∷ 0 ∷ 2 ∷ 0 ∷ 5 ∷ 0 ∷ 14 ∷ 0 ∷ 0 ∷ 0 ∷ 1 ∷ 6 ∷ 7 ∷ 0 ∷ 4 ∷ 4 ∷ 0 ∷ 8 ∷ []

abbrev pub multiplier_table : List ℕ
multiplier_table =
    12 ∷ 3 ∷ 0 ∷ 0 ∷ 12 ∷ 3 ∷ 1 ∷ 0 ∷ 12 ∷ 3 ∷ 2 ∷ 0 ∷ 9 ∷ 3 ∷ 0 ∷ 0 ∷ 9 ∷ 3 ∷ 1 ∷ 0 ∷
    2 ∷ 0 ∷ 3 ∷ 0 ∷ 18 ∷ 0 ∷ 0 ∷ 0 ∷ 1 ∷ 5 ∷ 6 ∷ 0 ∷ 2 ∷ 3 ∷ 1 ∷ 0 ∷ 2 ∷ 8 ∷ 2 ∷ 0 ∷
    2 ∷ 0 ∷ 4 ∷ 0 ∷ 14 ∷ 0 ∷ 0 ∷ 0 ∷ 1 ∷ 10 ∷ 11 ∷ 0 ∷ 2 ∷ 1 ∷ 2 ∷ 0 ∷ 13 ∷ 0 ∷ 0 ∷ 0 ∷ 1 ∷ 13 ∷ 14 ∷ 0 ∷
    2 ∷ 12 ∷ 1 ∷ 0 ∷ 2 ∷ 16 ∷ 15 ∷ 0 ∷ 4 ∷ 7 ∷ 9 ∷ 17 ∷ []

abbrev pub endless_table : List ℕ
endless_table = 12 ∷ 1 ∷ 0 ∷ 0 ∷ 9 ∷ 1 ∷ 0 ∷ 0 ∷ 4 ∷ 1 ∷ 0 ∷ 0 ∷ []

-- A table of one operation.
abbrev single : ℕ → List ℕ
single k = k ∷ 0 ∷ 0 ∷ 0 ∷ []

-- Numbers due: refusal number, place, 1 if ended, cycles, o, words.
abbrev runs : List Case
runs =
    -- Run 1.
    gives 8 complement_table (5 ∷ []) 1 (0 ∷ 0 ∷ 1 ∷ 1 ∷ 1 ∷ 250 ∷ []) ∷
    gives 8 complement_table (5 ∷ []) 0 [] ∷
    -- Run 2.
    gives 8 countdown_table (3 ∷ []) 17 [] ∷
    gives 8 countdown_table (3 ∷ []) 18 (0 ∷ 0 ∷ 1 ∷ 18 ∷ 1 ∷ 0 ∷ []) ∷
    gives 8 countdown_table (3 ∷ []) 4294967295 (0 ∷ 0 ∷ 1 ∷ 18 ∷ 1 ∷ 0 ∷ []) ∷
    -- Run 4, and a part of run 6.
    gives 32 multiplier_table (5 ∷ 7 ∷ 0 ∷ []) 28 (0 ∷ 0 ∷ 1 ∷ 28 ∷ 3 ∷ 0 ∷ 7 ∷ 35 ∷ []) ∷
    gives 8 endless_table (3 ∷ []) 100 [] ∷
    -- Run 5.
    gives 8 (single 13) (200 ∷ 100 ∷ []) 1 (0 ∷ 0 ∷ 1 ∷ 1 ∷ 1 ∷ 44 ∷ []) ∷
    gives 8 (single 14) (0 ∷ 1 ∷ []) 1 (0 ∷ 0 ∷ 1 ∷ 1 ∷ 1 ∷ 255 ∷ []) ∷
    gives 8 (single 21) (129 ∷ []) 1 (0 ∷ 0 ∷ 1 ∷ 1 ∷ 1 ∷ 2 ∷ []) ∷
    gives 32 (single 13) (4294967295 ∷ 1 ∷ []) 1 (0 ∷ 0 ∷ 1 ∷ 1 ∷ 1 ∷ 0 ∷ []) ∷
    gives 1 (single 14) (0 ∷ 1 ∷ []) 1 (0 ∷ 0 ∷ 1 ∷ 1 ∷ 1 ∷ 1 ∷ []) ∷
    -- Run 8.
    gives 8 (9 ∷ 1 ∷ 255 ∷ 0 ∷ []) (0 ∷ []) 1 (0 ∷ 0 ∷ 1 ∷ 1 ∷ 1 ∷ 255 ∷ []) ∷
    gives 8 (9 ∷ 1 ∷ 256 ∷ 0 ∷ []) (0 ∷ []) 1 (5 ∷ 0 ∷ []) ∷
    -- 11 comes before unfinished: a count, and a word, that do not fit.
    gives 8 complement_table [] 0 (11 ∷ 0 ∷ []) ∷
    gives 8 complement_table (256 ∷ []) 0 (11 ∷ 0 ∷ []) ∷
    []

runs-agree : all runs ≡ true
unfolding listed all_below binary unary node_of below operands_of used_of operands_below counts_fit par_small refusal_at first_refusal
    verdict_of evaluate evaluated_of
runs-agree = refl

-- Sizes of the whole circuits of runs 1, 2 and 4.
sizes : map (λ (t : List ℕ). whole_size (main_of t)) (complement_table ∷ countdown_table ∷ multiplier_table ∷ []) ≡ 11 ∷ 65 ∷ 108 ∷ []
unfolding node_of below
sizes = refl

-- Run 7: the complement, then n terms, each Seq of the one before with itself.
abbrev doubling : ℕ → List ℕ
doubling zero = complement_table
doubling (suc n) = doubling n ++ (1 ∷ n ∷ n ∷ 0 ∷ [])

doubled : map (λ (n : ℕ). whole_size (main_of (doubling n))) (8 ∷ 9 ∷ []) ≡ 2051 ∷ 4099 ∷ []
unfolding node_of below
doubled = refl

-- A judgement: width, table, number and place due.
data Judgement : Type 0 where
  refuses : ℕ → List ℕ → ℕ → ℕ → Judgement

abbrev judges : Judgement → Bool
judges (refuses w t n p) = same (n ∷ p ∷ []) (judged (verdict_of w t))

abbrev every : List Judgement → Bool
every [] = true
every (j ∷ js) = and (judges j) (every js)

-- Each number from 1 to 9, and where two faults meet, the one that comes first.
abbrev judgements : List Judgement
judgements =
    refuses 8 (doubling 8) 0 0 ∷
    refuses 0 [] 1 0 ∷
    refuses 33 complement_table 1 0 ∷
    refuses 8 [] 2 0 ∷
    refuses 8 (20 ∷ 0 ∷ 0 ∷ []) 2 0 ∷
    refuses 8 (complement_table ++ (5 ∷ 1 ∷ 0 ∷ 0 ∷ [])) 3 1 ∷
    refuses 8 (complement_table ++ (20 ∷ 0 ∷ 0 ∷ 1 ∷ [])) 4 1 ∷
    refuses 8 (9 ∷ 17 ∷ 0 ∷ 1 ∷ []) 4 0 ∷
    refuses 8 (12 ∷ 2 ∷ 2 ∷ 0 ∷ []) 5 0 ∷
    refuses 8 (9 ∷ 0 ∷ 0 ∷ 0 ∷ []) 5 0 ∷
    refuses 8 (complement_table ++ (1 ∷ 0 ∷ 1 ∷ 0 ∷ [])) 6 1 ∷
    refuses 8 (complement_table ++ single 13 ++ (1 ∷ 0 ∷ 1 ∷ 0 ∷ [])) 7 2 ∷
    refuses 8 (complement_table ++ single 13 ++ (4 ∷ 0 ∷ 0 ∷ 1 ∷ [])) 7 2 ∷
    refuses 8 (single 20 ++ (2 ∷ 0 ∷ 0 ∷ 0 ∷ 2 ∷ 1 ∷ 1 ∷ 0 ∷ 2 ∷ 2 ∷ 2 ∷ 0 ∷ 2 ∷ 3 ∷ 3 ∷ 0 ∷ 2 ∷ 4 ∷ 0 ∷ 0 ∷ 99 ∷ 0 ∷ 0 ∷ 0 ∷ [])) 8 5 ∷
    refuses 8 (doubling 9) 9 0 ∷
    []

judgements-agree : every judgements ≡ true
unfolding node_of below operands_of used_of operands_below counts_fit par_small refusal_at first_refusal verdict_of
judgements-agree = refl
