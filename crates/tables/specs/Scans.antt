-- Scans: what the scan of a table answers. Definitions only.
-- docs/READING.md: "Refusal numbers". Read after: `Readings`. Assumes nothing.
use Rattle.std.specs.Prelude.{ℕ, ◌≤◌, ◌<◌, ◌≡◌, List, Result, Ok, Err}
use Rattle.meaning.specs.declared.Refusal.{Refusal}
use Rattle.meaning.specs.declared.Known.{Known}
use Rattle.meaning.specs.Refusals.{passed, on_verdict}
use Rattle.meaning.specs.Terms.{count, tree}
use Rattle.meaning.specs.Counts.{ins}
use Rattle.meaning.specs.Checks.{refusal_at, first_refusal}
use Rattle.meaning.specs.Answers.{known_facts}

-- The first refusal of 3 to 8; where there is none, what is known of every term, none of which takes more than 16 words.
pub record Scanned (w : ℕ) (t : List ℕ) (r : Result (List Known) Refusal) : Type 0 where
  pub first : r ≡ on_verdict (first_refusal (refusal_at w t) (count t) 0 passed) (Ok (known_facts t)) Err
  pub few : (terms : List Known) → r ≡ Ok terms → (k : ℕ) → k < count t → ins (tree t k) ≤ 16
