-- Theorem: the promise leaves no choice. Whatever keeps it, under the same load and inputs, shows the same done in every cycle, and the
-- same words from the end of a first run on, wherever done is high. Assumes nothing.
use Prim.Native.Nat.{ℕ, zero, suc, ◌+◌, ◌-◌, ◌≤◌, ◌<◌}
use mathlib.Core.Path.{◌≡◌, refl, sym, ◌∙◌}
use mathlib.Core.Bool.{Bool, true, false}
use native.Mathlib.Omega.{arith}
use Rattle.meaning.specs.Words.{Words}
use Rattle.meaning.specs.Terms.{Term}
use Rattle.meaning.specs.Cycles.{Result, unfinished, ended, evaluate}
use Rattle.meaning.proofs.Tests.{clash}
use Rattle.meaning.proofs.Runs.{positive}
use Rattle.meaning.proofs.Exact.{ended-runs}
use Rattle.circuit.specs.Promise.{Low, begins, Promise}
use Rattle.circuit.proofs.Streams.{Bits, Wires, low-none, low-more, low_part}

-- The last cycle up to t in which b is high, if there is one.
pub data Last (b : Bits) (t : ℕ) : Type 0 where
  none_yet : Low b 0 (suc t) → Last b t
  last_at : (s : ℕ) → s ≤ t → b s ≡ true → Low b (suc s) (suc t) → Last b t

module _ (b : Bits) where
  last-next : (t : ℕ) (v : Bool) → b (suc t) ≡ v → Last b t → Last b (suc t)
  last-next t true e l = last_at (suc t) (omega arith) e (low-none b (suc (suc t)) (suc (suc t)) (omega arith))
  last-next t false e (none_yet l) = none_yet (low-more b 0 (suc t) (suc (suc t)) refl l e)
  last-next t false e (last_at s h z l) = last_at s (omega arith) z (low-more b (suc s) (suc t) (suc (suc t)) refl l e)

  last-first : (v : Bool) → b 0 ≡ v → Last b 0
  last-first true e = last_at 0 (omega arith) e (low-none b 1 1 (omega arith))
  last-first false e = none_yet (low-more b 0 0 1 refl (low-none b 0 0 (omega arith)) e)

  pub last : (t : ℕ) → Last b t
  last zero = last-first (b 0) refl
  last (suc t) = last-next t (b (suc t)) refl (last t)

module _ (w : ℕ) (T : Term) (load d d' : Bits) (x y y' : Wires)
    (P : Promise (evaluate w T) load d x y) (Q : Promise (evaluate w T) load d' x y') where
  -- Where done is alike before t, runs begin alike up to t.
  begins-alike : (t : ℕ) → ((u : ℕ) → u < t → d u ≡ d' u) → (u : ℕ) → u ≤ t → begins load d u ≡ begins load d' u
  begins-alike t h zero k = refl
  begins-alike t h (suc u) k = let q : d u ≡ d' u = h u (omega arith) in cc

  module _ (t : ℕ) (h : (u : ℕ) → u < t → d u ≡ d' u) where
    low_alike : (i j : ℕ) → j ≤ suc t → Low (begins load d) i j → Low (begins load d') i j
    low_alike i j k l u a b = sym (begins-alike t h u (omega arith)) ∙ l u a b

    -- After the last beginning the evaluator tells whether done is low or high.
    in-run : (s : ℕ) → s ≤ t → begins load d s ≡ true → Low (begins load d) (suc s) (suc t) →
        (o : Result) → evaluate w T (t - s) (x s) ≡ o → d t ≡ d' t
    in-run s k b l unfinished r =
        let b' : begins load d' s ≡ true = sym (begins-alike t h s k) ∙ b in
        P.lasts s (t - s) b r t k (omega arith) ∙ sym (Q.lasts s (t - s) b' r t k (omega arith))
    in-run s k b l (ended c ws) r =
        let b' : begins load d' s ≡ true = sym (begins-alike t h s k) ∙ b in
        let m = ended-runs w T (t - s) (x s) c ws r in
        let n : c ≤ t - s = m.1 in
        let l' : Low (begins load d) (s + c) (suc t) = low_part _ l (s + c) (suc t) (omega (arith, positive m.0)) (omega arith) in
        P.high s (t - s) c t ws b r (omega arith) l' ∙
        sym (Q.high s (t - s) c t ws b' r (omega arith) (low_alike (s + c) (suc t) (omega arith) l'))

    alike_at : Last (begins load d) t → d t ≡ d' t
    alike_at (none_yet l) = P.first t l ∙ sym (Q.first t (low_alike 0 (suc t) (omega arith) l))
    alike_at (last_at s k b l) = in-run s k b l (evaluate w T (t - s) (x s)) refl

  alike-below : (t u : ℕ) → u < t → d u ≡ d' u
  alike-below zero u h = absurd (omega arith)
  alike-below (suc t) u h = alike_at u (λ v k. alike-below t v (omega arith)) (last (begins load d) u)

  pub done-unique : (t : ℕ) → d t ≡ d' t
  done-unique t = alike-below (suc t) t (omega arith)

  pub begins-unique : (t : ℕ) → begins load d t ≡ begins load d' t
  begins-unique t = begins-alike t (λ u k. done-unique u) t (omega arith)

  -- From the end of a run up to and in the cycle in which the next begins.
  pub words-unique : (t n c u : ℕ) (ws : Words) → begins load d t ≡ true → evaluate w T n (x t) ≡ ended c ws →
      t + c ≤ u → Low (begins load d) (t + c) u → y u ≡ y' u
  words-unique t n c u ws b r k l =
      P.right t n c u ws b r k l ∙
      sym (Q.right t n c u ws (sym (begins-unique t) ∙ b) r k (λ v f g. sym (begins-unique v) ∙ l v f g))

  -- So wherever done is high after a beginning.
  pub shown-unique : (s u : ℕ) → s ≤ u → begins load d s ≡ true → d u ≡ true → y u ≡ y' u
  shown-unique s u k b high = from_last (last (begins load d) u)
    where
      at_last : (t : ℕ) → t ≤ u → begins load d t ≡ true → Low (begins load d) (suc t) (suc u) →
          (o : Result) → evaluate w T (u - t) (x t) ≡ o → y u ≡ y' u
      at_last t f z l unfinished r = clash (d u) high (P.lasts t (u - t) z r u f (omega arith))
      at_last t f z l (ended c ws) r =
          let m = ended-runs w T (u - t) (x t) c ws r in
          let n : c ≤ u - t = m.1 in
          words-unique t (u - t) c u ws z r (omega arith) (low_part _ l (t + c) u (omega (arith, positive m.0)) (omega arith))

      from_last : Last (begins load d) u → y u ≡ y' u
      from_last (none_yet l) = clash (begins load d s) b (l s (omega arith) (omega arith))
      from_last (last_at t f z l) = at_last t f z l (evaluate w T (u - t) (x t)) refl
