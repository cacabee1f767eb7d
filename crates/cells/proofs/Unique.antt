-- Theorem: the contract of `check` leaves no choice: any two conforming verdicts are equal. Cited by no contract. Assumes nothing.
use Prim.Native.Nat.{ℕ}
use mathlib.Core.Path.{◌≡◌, sym, ◌∙◌}
use mathlib.Core.List.{List}
use Rattle.meaning.specs.Refusals.{Verdict}
use Rattle.circuit.specs.Netlists.{netlist_verdict}

pub check-unique : (w : ℕ) (net : List ℕ) (r s : Verdict) → r ≡ netlist_verdict w net → s ≡ netlist_verdict w net → r ≡ s
check-unique w net r s p q = p ∙ sym q
