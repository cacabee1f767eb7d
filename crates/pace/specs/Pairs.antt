-- Pairs: pairs of steps, from one buffer into another and back, under one load and the same words. Definitions only.
-- docs/READING.md: "The simulator". Read after: circuit's `Clock`, `Simulated`. Assumes nothing.
use Rattle.std.specs.Prelude.{ℕ, zero, suc, Bool, List, length}
use Rattle.meaning.specs.Words.{Words}
use Rattle.meaning.specs.Refusals.{on_verdict}
use Rattle.circuit.specs.Clock.{step}
use Rattle.circuit.specs.Simulated.{step_verdict}

module _ (w : ℕ) (net : List ℕ) (load : Bool) (words : Words) (even : List ℕ) where
  -- The wires in the first buffer after n pairs.
  unfoldable pub evens : ℕ → List ℕ
  evens zero = even
  evens (suc n) = step w net (step w net (evens n) load words) load words

  -- The wires in the second buffer after n pairs: those between the last two steps, or what it had.
  unfoldable pub odds : List ℕ → ℕ → List ℕ
  odds odd zero = odd
  odds odd (suc n) = step w net (evens n) load words

  -- Both buffers after a call that is judged as a step: as they were where it is refused.
  unfoldable pub even_after : List ℕ → ℕ → List ℕ
  even_after odd n = on_verdict (step_verdict w net even words (length odd)) (evens n) (λ r. even)

  unfoldable pub odd_after : List ℕ → ℕ → List ℕ
  odd_after odd n = on_verdict (step_verdict w net even words (length odd)) (odds odd n) (λ r. odd)
