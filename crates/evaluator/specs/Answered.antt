-- Answered: what the evaluator says of an accepted table on words that fit: the run of the main term. Definitions only.
-- docs/READING.md: "Cycles", "Refusal numbers". Assumes nothing.
use Rattle.std.specs.Prelude.{ℕ, List, Option}
use Rattle.meaning.specs.declared.Answer.{Answer}
use Rattle.meaning.specs.Words.{Words}
use Rattle.meaning.specs.Terms.{main_of}
use Rattle.meaning.specs.Counts.{outs}
use Rattle.meaning.specs.Cycles.{evaluate}
use Rattle.meaning.specs.Answers.{answered}

abbrev pub ran_on : ℕ → List ℕ → Words → ℕ → Option Answer
ran_on w t x n = answered (outs (main_of t)) (evaluate w (main_of t) n x)
