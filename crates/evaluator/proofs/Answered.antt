-- Law: the evaluator's answer, from the facts of the table, check 11 and what the run of the main term leaves. Assumes nothing.
use Rattle.std.proofs.Common.{ℕ, ◌-◌, ◌≤◌, ◌≡◌, refl, sym, ◌∙◌, true, false, List, length, eqb-true, Some, None, Result, Ok, Err, arith}
use Rattle.meaning.specs.declared.Cause.TheVariants as cause
use Rattle.meaning.specs.declared.Refusal.{Refusal}
use Rattle.meaning.specs.declared.Known.{Known}
use Rattle.meaning.specs.Choices.{padded}
use Rattle.meaning.specs.Words.{Words}
use Rattle.meaning.specs.Terms.{last_of, tree, main_of}
use Rattle.meaning.specs.Counts.{ins, outs}
use Rattle.meaning.specs.Refusals.{Verdict, passed, refused, on_verdict}
use Rattle.meaning.specs.Checks.{verdict_of}
use Rattle.meaning.specs.Cycles.{Result as Run, unfinished, ended, evaluate}
use Rattle.meaning.specs.Answers.{known_facts, facts_of, words_fit, answered, evaluated_of}
use Rattle.meaning.proofs.Tests.{both}
use Rattle.meaning.proofs.Typed.{ins-few}
use Rattle.meaning.proofs.Alike.{padded-evaluates}
use Rattle.meaning.proofs.Steps.{later-zero}
use Rattle.terms.proofs.Facts.{passes, table}
use Rattle.leaves.specs.Results.{Leaves}
use Rattle.leaves.proofs.Left.{leaves-as}
use Rattle.runs.specs.Runs.{term_from}
use Rattle.evaluator.specs.Answered.{ran_on}

-- A refusal of the checks is the answer's.
fails : (v : Verdict) (f : List Known) (e : Refusal) → ◌≡◌ {A = Result (List Known) Refusal} (Err e) (on_verdict v (Ok f) Err) → v ≡ Err e
fails (Ok u) f e h = cc
fails (Err d) f e h = cc

module _ (w : ℕ) (t : List ℕ) (x : Words) (n : ℕ) where
  pub refused_before : (e : Refusal) → Err e ≡ facts_of w t → Err e ≡ evaluated_of w t x n
  unfolding facts_of evaluated_of
  refused_before e h = rw (fails (verdict_of w t) (known_facts t) e h)

  module _ (facts : List Known) (h : Ok facts ≡ facts_of w t) where
    went : verdict_of w t ≡ passed
    went = passes w t facts (sym h)

    pub words_refused : false ≡ words_fit w (ins (main_of t)) x → refused cause.InputWords 0 ≡ evaluated_of w t x n
    unfolding evaluated_of
    words_refused f = rw (went, ← f)

    module _ (fit : true ≡ words_fit w (ins (main_of t)) x) where
      pub few_words : length x ≤ 16
      few_words =
          let a = table w t facts (sym h) in
          let l : length x ≡ ins (main_of t) = eqb-true _ _ (both _ _ (sym fit)).0 in
          omega (arith, (ins-few w t a (last_of t) (omega (arith, a.some))).1)

      pub words_ran : Ok (ran_on w t x n) ≡ evaluated_of w t x n
      unfolding evaluated_of
      words_ran = rw (went, ← fit)

-- The checks in their order.
pub ruleset in_order = (refused_before, words_refused, few_words, words_ran)

-- What the run of the main term leaves is the answer.
told-unfinished : (o : ℕ) (r : Run) (array : Words) → Leaves r None array → None ≡ answered o r
told-unfinished o unfinished array l = refl
told-unfinished o (ended c ws) array l = let z = l.end in cc

told-ended : (o c : ℕ) (r : Run) (array : Words) → Leaves r (Some c) array →
    Some (record { outs = o; cycles = c; words = array }) ≡ answered o r
told-ended o c unfinished array l = let z = l.end in cc
told-ended o c (ended d ws) array l = let z = l.end in let y = l.words d ws refl in cc

module _ (w : ℕ) (t : List ℕ) (x : Words) (n : ℕ) {m : ℕ} {y : Words} (main : m ≡ last_of t) (pad : y ≡ padded 16 x) where
  same : evaluate w (main_of t) n x ≡ term_from w t m 0 n y
  same =
      let z : n - 0 ≡ n = omega arith in
      rw (main, pad, z) (sym (later-zero _ ∙ padded-evaluates w (main_of t) n 16 x))

  pub ran-unfinished : (array : Words) → Leaves (term_from w t m 0 n y) None array → None ≡ ran_on w t x n
  ran-unfinished array l = told-unfinished (outs (main_of t)) _ array (leaves-as same l)

  pub ran-ended : (o c : ℕ) (array : Words) → o ≡ outs (tree t m) → Leaves (term_from w t m 0 n y) (Some c) array →
      Some (record { outs = o; cycles = c; words = array }) ≡ ran_on w t x n
  ran-ended o c array h l = rw (h, main) (told-ended (outs (main_of t)) c _ array (leaves-as same l))
