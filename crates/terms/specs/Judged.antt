-- Judged: a table that some width accepts, and an array that has how many words its terms take, or how many they give. Definitions
-- only. docs/READING.md: "Term tables". Read after: meaning's `Answers`. Assumes nothing.
use Rattle.std.specs.Prelude.{ℕ, ◌<◌, ◌≡◌, List, get_or}
use Rattle.meaning.specs.declared.Known.{Known}
use Rattle.meaning.specs.Refusals.{passed}
use Rattle.meaning.specs.Terms.{count, tree}
use Rattle.meaning.specs.Counts.{ins, outs}
use Rattle.meaning.specs.Checks.{verdict_of}
use Rattle.meaning.specs.Answers.{nothing_known}

-- A width that accepts the table.
pub record Passing (t : List ℕ) : Type 0 where
  pub width : ℕ
  pub accepted : verdict_of width t ≡ passed

-- How many words each term takes, as an array has it; and how many it gives.
abbrev pub Takes : List ℕ → List Known → Type 0
Takes t known = (k : ℕ) → k < count t → (get_or known k nothing_known).ins ≡ ins (tree t k)

abbrev pub Gives : List ℕ → List Known → Type 0
Gives t known = (k : ℕ) → k < count t → (get_or known k nothing_known).outs ≡ outs (tree t k)
