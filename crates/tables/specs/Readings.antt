-- Readings: what is known of the lower terms, and what term k of a table gives. Definitions only.
-- docs/READING.md: "Term tables", "Refusal numbers". Assumes nothing.
use Rattle.std.specs.Prelude.{ℕ, ◌+◌, ◌*◌, ◌≤◌, ◌<◌, ◌≡◌, List, length, get_or, Result, Ok, Err}
use Rattle.meaning.specs.declared.Cause.{Cause}
use Rattle.meaning.specs.declared.Cause.TheVariants as cause
use Rattle.meaning.specs.declared.Known.{Known}
use Rattle.meaning.specs.Choices.{pick}
use Rattle.meaning.specs.Refusals.{Check, passed}
use Rattle.meaning.specs.Terms.{number_of, kind_of, tree}
use Rattle.meaning.specs.Checks.{operands_of, operands_below, counts_fit, par_small}
use Rattle.meaning.specs.Answers.{known_of, nothing_known}
use Rattle.kinds.specs.Early.{early_of}
use Rattle.shapes.specs.Shapes.{Small}

-- 3 to 5 of term k.
abbrev pub early_at : ℕ → List ℕ → ℕ → Check
early_at w t k = early_of w (kind_of t k) (number_of t k 1) (number_of t k 2) (number_of t k 3)

-- 6 of term k.
abbrev pub lower_operands_at : List ℕ → ℕ → Check
lower_operands_at t k = pick (operands_below t k (operands_of (kind_of t k))) passed (Err cause.Operand)

-- What an array holds of term f.
abbrev pub read_at : List Known → ℕ → Known
read_at terms f = get_or terms f nothing_known

-- Term k: 7, 8, or what its tree has.
unfoldable pub shape_of : List ℕ → ℕ → Result Known Cause
shape_of t k =
    pick (counts_fit t k) (pick (par_small t k) (Ok (known_of (tree t k))) (Err cause.ParOutputs)) (Err cause.WordCounts)

-- An array holds what is known of the terms below k.
pub record Ready (t : List ℕ) (k : ℕ) (terms : List Known) : Type 0 where
  pub inside : k * 4 + 4 ≤ length t
  pub few : k < 256
  pub known : (j : ℕ) → j < k → read_at terms j ≡ known_of (tree t j)
  pub small : (j : ℕ) → j < k → Small (known_of (tree t j))
