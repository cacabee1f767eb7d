-- Answers: what the checks and the evaluator answer, and each answer's numbers. Definitions only.
-- docs/READING.md: "Cycles", "Refusal numbers". Read after: `Checks`, `Cycles`. Assumes nothing.
use Rattle.std.specs.Prelude.{ℕ, ◌^◌, ◌-◌, Bool, List, ◌∷◌, ◌++◌, replicate, eqb, length, Result, Ok, Err, Option, Some, None}
use Rattle.meaning.specs.declared.Cause.TheVariants as cause
use Rattle.meaning.specs.declared.Refusal.{Refusal}
use Rattle.meaning.specs.declared.Known.{Known}
use Rattle.meaning.specs.declared.Answer.{Answer}
use Rattle.meaning.specs.Choices.{pick, and, padded, listed, all_below}
use Rattle.meaning.specs.Words.{Words}
use Rattle.meaning.specs.Terms.{count, Term, tree, main_of}
use Rattle.meaning.specs.Counts.{ins, outs, size, capped}
use Rattle.meaning.specs.Refusals.{refusal_numbers, Verdict, refused, on_verdict}
use Rattle.meaning.specs.Checks.{verdict_of}
use Rattle.meaning.specs.Cycles.{Result as Run, unfinished, ended, evaluate}

-- A judgement's numbers: refusal number and place, 0 and 0 where it accepts.
abbrev pub judged : Verdict → List ℕ
judged (Ok u) = replicate 2 0
judged (Err r) = refusal_numbers r

-- What is known of a term, and what stands where there is none.
abbrev pub known_of : Term → Known
known_of T = record { ins = ins T; outs = outs T; cells = capped (size T) }

abbrev pub nothing_known : Known
nothing_known = record { ins = 0; outs = 0; cells = 0 }

-- The facts of a table: what is known of each term, in an array of 256.
abbrev pub known_facts : List ℕ → List Known
known_facts t = listed (λ k. known_of (tree t k)) (count t) ++ replicate (256 - count t) nothing_known

unfoldable pub facts_of : ℕ → List ℕ → Result (List Known) Refusal
facts_of w t = on_verdict (verdict_of w t) (Ok (known_facts t)) Err

-- 11: as many words as the main term takes, each below 2 ^ w.
abbrev pub words_fit : ℕ → ℕ → Words → Bool
words_fit w i x = and (eqb (length x) i) (all_below (2 ^ w) x)

-- What a run comes to for the caller: nothing within the budget, or o, the cycles and the words.
abbrev pub answered : ℕ → Run → Option Answer
answered o unfinished = None
answered o (ended c ws) = Some (record { outs = o; cycles = c; words = padded 16 ws })

-- The evaluator's answer: 1 to 9, then 11, then the run.
unfoldable pub evaluated_of : ℕ → List ℕ → Words → ℕ → Result (Option Answer) Refusal
evaluated_of w t x n =
    on_verdict (verdict_of w t)
    (pick (words_fit w (ins (main_of t)) x)
    (Ok (answered (outs (main_of t)) (evaluate w (main_of t) n x)))
    (refused cause.InputWords 0))
    Err

-- Its 21 numbers: refusal number, place, 1 if ended, cycles, o, and 16 words.
abbrev pub evaluated_numbers : Result (Option Answer) Refusal → List ℕ
evaluated_numbers (Ok None) = replicate 21 0
evaluated_numbers (Ok (Some a)) = 0 ∷ 0 ∷ 1 ∷ a.cycles ∷ a.outs ∷ a.words
evaluated_numbers (Err r) = refusal_numbers r ++ replicate 19 0
