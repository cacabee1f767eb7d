-- Early: the refusals 3 to 5, which a term's own numbers decide. Definitions only.
-- docs/READING.md: "Refusal numbers". Assumes nothing.
use Rattle.std.specs.Prelude.{ℕ, List, [], ◌∷◌, Err}
use Rattle.meaning.specs.declared.Cause.TheVariants as cause
use Rattle.meaning.specs.Choices.{pick}
use Rattle.meaning.specs.Refusals.{Check, passed}
use Rattle.meaning.specs.Checks.{known_kind, unused_zero, values_fit}

-- A table of one term, of these numbers.
abbrev pub alone : ℕ → ℕ → ℕ → ℕ → List ℕ
alone kind a b c = kind ∷ a ∷ b ∷ c ∷ []

-- The first of them that such a term gives, if one does.
abbrev pub early_of : ℕ → ℕ → ℕ → ℕ → ℕ → Check
early_of w kind a b c =
    pick (known_kind kind)
    (pick (unused_zero (alone kind a b c) 0)
    (pick (values_fit w (alone kind a b c) 0)
    passed
    (Err cause.TermValue))
    (Err cause.UnusedNumber))
    (Err cause.TermKind)
