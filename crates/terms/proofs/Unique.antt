-- Theorem: the contract of `check` leaves no choice: any two conforming answers are equal, in every number.
-- Cited by no contract. Assumes nothing.
use Prim.Native.Nat.{ℕ}
use mathlib.Core.Path.{◌≡◌, sym, ◌∙◌}
use mathlib.Core.List.{List}
use Rattle.std.specs.Prelude.{Result}
use Rattle.meaning.specs.declared.Refusal.{Refusal}
use Rattle.meaning.specs.declared.Known.{Known}
use Rattle.meaning.specs.Answers.{facts_of}

pub check-unique : (w : ℕ) (t : List ℕ) (r s : Result (List Known) Refusal) → r ≡ facts_of w t → s ≡ facts_of w t → r ≡ s
check-unique w t r s p q = p ∙ sym q
