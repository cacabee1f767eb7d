-- Refusals: why a call is refused, as a value and as its number, and what a check and a judgement answer. Definitions only.
-- docs/READING.md: "Refusal numbers". Assumes nothing.
use Rattle.std.specs.Prelude.{ℕ, ⊤, List, [], ◌∷◌, Result, Ok, Err}
use Rattle.meaning.specs.declared.Cause.{Cause}
use Rattle.meaning.specs.declared.Cause.TheVariants as cause
use Rattle.meaning.specs.declared.Refusal.{Refusal}

-- The number of a cause.
abbrev pub cause_number : Cause → ℕ
cause_number cause.Width = 1
cause_number cause.TableLength = 2
cause_number cause.TermKind = 3
cause_number cause.UnusedNumber = 4
cause_number cause.TermValue = 5
cause_number cause.Operand = 6
cause_number cause.WordCounts = 7
cause_number cause.ParOutputs = 8
cause_number cause.CircuitSize = 9
cause_number cause.NetlistRoom = 10
cause_number cause.InputWords = 11
cause_number cause.NetlistLength = 12
cause_number cause.CellKind = 13
cause_number cause.CellNumber = 14
cause_number cause.CellWire = 15
cause_number cause.WireSort = 16
cause_number cause.WireRoom = 17
cause_number cause.WireValue = 18
cause_number cause.Ports = 19
cause_number cause.TextRoom = 20

-- A refusal, and its two numbers.
abbrev pub refusal : Cause → ℕ → Refusal
refusal c p = record { cause = c; place = p }

abbrev pub refusal_numbers : Refusal → List ℕ
refusal_numbers r = cause_number r.cause ∷ r.place ∷ []

-- What one check answers: that it passes, or the cause for which it does not.
abbrev pub Check : Type 0
Check = Result ⊤ Cause

-- A judgement: accepted, or refused.
abbrev pub Verdict : Type 0
Verdict = Result ⊤ Refusal

abbrev pub passed : {E : Type 0} → Result ⊤ E
passed = Ok tt

abbrev pub refused : {A : Type 0} → Cause → ℕ → Result A Refusal
refused c p = Err (refusal c p)

-- What follows a check or a judgement: what is asked for, or what stands for an error.
abbrev pub on_verdict : {E A : Type 0} → Result ⊤ E → A → (E → A) → A
on_verdict (Ok u) a r = a
on_verdict (Err e) a r = r e
