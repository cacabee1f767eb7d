-- Law: what the buffers hold after one pair of steps more. `alternate` cites it. Assumes nothing.
use Prim.Native.Nat.{ℕ, ◌+◌}
use mathlib.Core.Path.{◌≡◌, ap, ◌∙◌}
use mathlib.Core.Bool.{Bool}
use mathlib.Core.List.{List}
use native.Mathlib.Numerals.{add-one}
use Rattle.meaning.specs.Words.{Words}
use Rattle.circuit.specs.Clock.{step}
use Rattle.pace.specs.Pairs.{evens, odds}

module _ (w : ℕ) (net : List ℕ) (load : Bool) (words : Words) (even odd : List ℕ) where
  abbrev after : List ℕ → List ℕ
  after earlier = step w net earlier load words

  pub taking-on : (n : ℕ) {e p f : List ℕ} → e ≡ evens w net load words even n → p ≡ step w net e load words → f ≡ step w net p load words →
      (f ≡ evens w net load words even (n + 1)) × (p ≡ odds w net load words even odd (n + 1))
  unfolding evens odds
  taking-on n a b c = let d = b ∙ ap after a in rw (add-one n) (c ∙ ap after d, d)
