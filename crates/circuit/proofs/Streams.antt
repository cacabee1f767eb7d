-- Law: bits and words as functions of the cycle: stretches in which a bit is low, the rise of a bit, words that are kept. Assumes nothing.
use Prim.Native.Nat.{ℕ, zero, suc, ◌-◌, ◌≤◌, ◌<◌}
use mathlib.Core.Path.{◌≡◌, refl, ◌∙◌, ap}
use mathlib.Core.Bool.{Bool, true, false}
use mathlib.Core.Logic.{inl, inr}
use native.Mathlib.Omega.{arith}
use Rattle.meaning.specs.Choices.{pick, and, or, not}
use Rattle.meaning.specs.Words.{Words}
use Rattle.meaning.proofs.Tests.{split}
use Rattle.circuit.specs.Promise.{Low}

abbrev pub Bits : Type 0
Bits = ℕ → Bool

abbrev pub Wires : Type 0
Wires = ℕ → Words

pub and-false : (a : Bool) → and a false ≡ false
and-false true = refl
and-false false = refl

pub or-true : (a : Bool) → or a true ≡ true
or-true true = refl
or-true false = refl

-- Stretches: an empty one, one made longer at its end or at its beginning, and a part of one.
module _ (b : Bits) where
  pub low-none : (i j : ℕ) → j ≤ i → Low b i j
  low-none i j h u f g = absurd (omega arith)

  pub low-more : (i j n : ℕ) → n ≡ suc j → Low b i j → b j ≡ false → Low b i n
  low-more i j n p l h u f g = elim (split u j) [ inl a ↦ l u f a | inr a ↦ (let q : u ≡ j = omega arith in cc) ]

  pub low-from : (i j : ℕ) → b i ≡ false → Low b (suc i) j → Low b i j
  low-from i j h l u f g = elim (split i u) [ inl a ↦ l u a g | inr a ↦ (let q : u ≡ i = omega arith in cc) ]

  pub low_part : {i j : ℕ} → Low b i j → (k n : ℕ) → i ≤ k → n ≤ j → Low b k n
  low_part l k n h o u f g = l u (omega arith) (omega arith)

-- r is the rise of d: d is high and the register p, which shows d a cycle ago and starts high, is not.
pub record Rise (d p r : Bits) : Type 0 where
  pub starts : p 0 ≡ true
  pub follows : (t : ℕ) → p (suc t) ≡ d t
  pub rises : (t : ℕ) → r t ≡ and (d t) (not (p t))

module _ {d p r : Bits} (R : Rise d p r) where
  pub register : (u : ℕ) → 1 ≤ u → p u ≡ d (u - 1)
  register zero h = absurd (omega arith)
  register (suc t) h = R.follows t ∙ ap d (omega arith)

  pub rise-low : (u : ℕ) → d u ≡ false → r u ≡ false
  rise-low u h = cc (R.rises u)

  pub rise-held : (u : ℕ) → d u ≡ true → p u ≡ true → r u ≡ false
  rise-held u h k = cc (R.rises u)

  pub rise-high : (u : ℕ) → d u ≡ true → p u ≡ false → r u ≡ true
  rise-high u h k = cc (R.rises u)

-- Words that are taken where s is high are still there until s is high again.
module _ (s : Bits) (x k : Wires) (keep : (t : ℕ) → k (suc t) ≡ pick (s t) (x t) (k t)) where
  pub kept_word : (t m : ℕ) → t < m → s t ≡ true → Low s (suc t) m → k m ≡ x t
  kept_word t zero h z l = absurd (omega arith)
  kept_word t (suc m) h z l = elim (split t m) [
    | inl a ↦
        (let ih : k m ≡ x t = kept_word t m a z (low_part s l (suc t) m (omega arith) (omega arith)) in
        let n : s m ≡ false = l m a (omega arith) in
        cc (keep m))
    | inr a ↦ (let q : t ≡ m = omega arith in cc (keep m))
  ]
