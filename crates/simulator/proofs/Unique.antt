-- Theorem: the contracts of `power_up` and `step` leave no choice: any two conforming calls give the same verdict and leave the
-- same wires, refused or not. Cited by no contract. Assumes nothing.
use Prim.Native.Nat.{ℕ}
use mathlib.Core.Path.{◌≡◌, sym, ◌∙◌}
use mathlib.Core.Bool.{Bool}
use mathlib.Core.List.{List}
use lib.ListN.{length}
use Rattle.meaning.specs.Refusals.{Verdict}
use Rattle.meaning.specs.Words.{Words}
use Rattle.circuit.specs.Simulated.{power_up_verdict, step_verdict, wires_at_start, wires_after}

module _ (w : ℕ) (net : List ℕ) (load : Bool) (words : Words) (buffer : List ℕ) (r s : Verdict) (v u : List ℕ) where
  -- What each contract says of a verdict and the wires left behind.
  abbrev PoweredUp : Verdict → List ℕ → Type 0
  PoweredUp verdict wires = (verdict ≡ power_up_verdict w net words (length buffer)) × (wires ≡ wires_at_start w net load words buffer)

  abbrev Stepped : List ℕ → Verdict → List ℕ → Type 0
  Stepped earlier verdict wires =
      (verdict ≡ step_verdict w net earlier words (length buffer)) × (wires ≡ wires_after w net earlier load words buffer)

  pub power-up-unique : PoweredUp r v → PoweredUp s u → (r ≡ s) × (v ≡ u)
  power-up-unique p q = (p.0 ∙ sym q.0, p.1 ∙ sym q.1)

  pub step-unique : (earlier : List ℕ) → Stepped earlier r v → Stepped earlier s u → (r ≡ s) × (v ≡ u)
  step-unique earlier p q = (p.0 ∙ sym q.0, p.1 ∙ sym q.1)
