-- Law: the evaluator's contract leaves no choice: two results that meet it on the same call are equal. Assumes nothing.
use Rattle.std.proofs.Common.{ℕ, List, ◌≡◌, sym, ◌∙◌, Option, Result}
use Rattle.meaning.specs.declared.Refusal.{Refusal}
use Rattle.meaning.specs.declared.Answer.{Answer}
use Rattle.meaning.specs.Words.{Words}
use Rattle.meaning.specs.Answers.{evaluated_of}

pub evaluate-unique : (w : ℕ) (t : List ℕ) (x : Words) (n : ℕ) (r s : Result (Option Answer) Refusal) →
    r ≡ evaluated_of w t x n → s ≡ evaluated_of w t x n → r ≡ s
evaluate-unique w t x n r s p q = p ∙ sym q
