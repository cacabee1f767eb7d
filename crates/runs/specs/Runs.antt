-- Runs: what the term evaluator is asked, and the run that it makes. It counts cycles from the start of the whole run: a term
-- starts at one cycle and has until another. Definitions only. docs/READING.md: "Cycles". Assumes nothing.
use Rattle.std.specs.Prelude.{ℕ, ◌≤◌, ◌<◌, ◌≡◌, List}
use Rattle.meaning.specs.Words.{Words}
use Rattle.meaning.specs.Refusals.{passed}
use Rattle.meaning.specs.Terms.{count, tree}
use Rattle.meaning.specs.Checks.{verdict_of}
use Rattle.meaning.specs.Cycles.{Result as Run, evaluate}
use Rattle.leaves.specs.Results.{run_from}

-- Term k of a table that is accepted at width w may start at a cycle that is not past its limit.
pub record Startable (w : ℕ) (t : List ℕ) (k start limit : ℕ) : Type 0 where
  pub accepted : verdict_of w t ≡ passed
  pub there : k < count t
  pub within : start ≤ limit

-- The run of term k from one cycle to another.
abbrev pub term_from : ℕ → List ℕ → ℕ → ℕ → ℕ → Words → Run
term_from w t k = run_from (evaluate w (tree t k))
