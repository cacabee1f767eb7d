-- Theorem: what the promise says of loads in a row, and of one table's circuit with other starting words. Assumes nothing.
use Prim.Native.Nat.{ℕ, zero, suc, ◌+◌, ◌-◌, ◌≤◌, ◌<◌}
use mathlib.Core.Path.{◌≡◌, refl, ◌∙◌, ap}
use mathlib.Core.Bool.{Bool, true, false}
use mathlib.Core.List.{List}
use mathlib.Core.Logic.{inl, inr}
use native.Mathlib.Omega.{arith}
use borrow.Author.Tests.{not-true}
use Rattle.meaning.specs.Refusals.{passed}
use Rattle.meaning.specs.Choices.{and, not}
use Rattle.meaning.specs.Words.{Words}
use Rattle.meaning.specs.Terms.{Term, main_of}
use Rattle.meaning.specs.Counts.{ins}
use Rattle.meaning.specs.Checks.{verdict_of}
use Rattle.meaning.specs.Cycles.{Result, unfinished, ended, evaluate}
use Rattle.meaning.specs.Answers.{words_fit}
use Rattle.meaning.proofs.Tests.{clash, split, both}
use Rattle.meaning.proofs.Runs.{positive}
use Rattle.meaning.proofs.Exact.{ended-runs}
use Rattle.circuit.specs.Promise.{Low, begins, Promise, done_of, outputs_of}
use Rattle.circuit.proofs.Streams.{Bits, Wires, and-false, low_part}
use Rattle.promise.proofs.Holds.{promise-holds}
use Rattle.promise.proofs.Unique.{done-unique, shown-unique}

-- Load that is held high begins nothing more, whatever done does.
pub held-load : (load done : Bits) (t u : ℕ) → ((k : ℕ) → t ≤ k → k ≤ u → load k ≡ true) → Low (begins load done) (suc t) (suc u)
held-load load done t u h zero f g = refl
held-load load done t u h (suc k) f g = cc (h k (omega arith) (omega arith), and-false (load (suc k)))

-- A bit rises at a cycle where it is high and was low the cycle before.
abbrev pub rises : Bits → ℕ → Bool
rises d zero = false
rises d (suc t) = and (d (suc t)) (not (d t))

-- Between t and t' a bit rises at one cycle only.
pub record RisesOnce (d : Bits) (t t' : ℕ) : Type 0 where
  pub cycle : ℕ
  pub within : (t < cycle) × (cycle < t')
  pub rise : rises d cycle ≡ true
  pub only : (u : ℕ) → t < u → u ≤ t' → rises d u ≡ true → u ≡ cycle

module _ (w : ℕ) (T : Term) (load d : Bits) (x y : Wires) (P : Promise (evaluate w T) load d x y) where
  -- No run begins a cycle after done was low.
  after-low-none : (u : ℕ) → d u ≡ false → begins load d (suc u) ≡ false
  after-low-none u h = cc (and-false (and (load (suc u)) (not (load u))))

  -- Loads while a run of c cycles is under way begin nothing: one beginning, one answer.
  pub busy-begins-none : (t n c : ℕ) (ws : Words) → begins load d t ≡ true → evaluate w T n (x t) ≡ ended c ws →
      Low (begins load d) (suc t) (suc (t + c))
  busy-begins-none t n c ws b r zero f g = absurd (omega arith)
  busy-begins-none t n c ws b r (suc u) f g = after-low-none u (P.low t n c ws b r u (omega arith) (omega arith))

  -- Done is low where a run begins.
  low-at-beginning : (t : ℕ) → begins load d t ≡ true → d t ≡ false
  low-at-beginning t b = from (evaluate w T 0 (x t)) refl
    where
      from : (o : Result) → evaluate w T 0 (x t) ≡ o → d t ≡ false
      from unfinished r = P.lasts t 0 b r t (omega arith) (omega arith)
      from (ended c ws) r = absurd (omega (arith, (ended-runs w T 0 (x t) c ws r).1, positive (ended-runs w T 0 (x t) c ws r).0))

  -- From one beginning to the next done rises exactly once, where the first run ends.
  module _ (t k : ℕ) (b : begins load d t ≡ true) (b' : begins load d (suc k) ≡ true) (l : Low (begins load d) (suc t) (suc k))
      (before : t ≤ k) where
    high-before : d k ≡ true
    high-before = (both (and (load (suc k)) (not (load k))) (d k) b').1

    module _ (c : ℕ) (ws : Words) (r : evaluate w T (k - t) (x t) ≡ ended c ws) where
      its-cycles : (1 ≤ c) × (c ≤ k - t)
      its-cycles = let z = ended-runs w T (k - t) (x t) c ws r in (positive z.0, z.1)

      high-from : (u : ℕ) → t + c ≤ u → u ≤ k → d u ≡ true
      high-from u f g =
          let z = its-cycles in
          P.high t (k - t) c u ws b r f (low_part (begins load d) l (t + c) (suc u) (omega arith) (omega arith))

      rise-at : rises d (t + c) ≡ true
      rise-at = at_suc (t + c) (omega (arith, its-cycles)) (high-from (t + c) (omega arith) (omega (arith, its-cycles)))
          (P.low t (k - t) c ws b r (t + c - 1) (omega (arith, its-cycles)) (omega (arith, its-cycles)))
        where
          at_suc : (u : ℕ) → 1 ≤ u → d u ≡ true → d (u - 1) ≡ false → rises d u ≡ true
          at_suc zero h p q = absurd (omega arith)
          at_suc (suc u) h p q =
              let e : d u ≡ false = ap d (omega arith) ∙ q in
              cc

      only_at : (u : ℕ) → t < u → u ≤ suc k → rises d u ≡ true → u ≡ t + c
      only_at zero f g h = absurd (omega arith)
      only_at (suc u) f g h =
          let z = both (d (suc u)) (not (d u)) h in
          let low : d u ≡ false = not-true (d u) z.1 in
          elim (split (suc u) (t + c)) [
            | inl a ↦ clash (d (suc u)) z.0 (P.low t (k - t) c ws b r (suc u) (omega arith) a)
            | inr a ↦ elim (split u (t + c)) [
              | inl e ↦ omega arith
              | inr e ↦ clash (d u) (high-from u e (omega arith)) low
            ]
          ]

    by_result : (o : Result) → evaluate w T (k - t) (x t) ≡ o → RisesOnce d t (suc k)
    by_result unfinished r = clash (d k) high-before (P.lasts t (k - t) b r k before (omega arith))
    by_result (ended c ws) r = record {
      cycle = t + c;
      within = omega (arith, its-cycles c ws r);
      rise = rise-at c ws r;
      only = only_at c ws r;
    }

    pub rises-once : RisesOnce d t (suc k)
    rises-once = by_result (evaluate w T (k - t) (x t)) refl

-- Two runs of one table's circuit that differ in their starting words.
module _ (w : ℕ) (t : List ℕ) (ok : verdict_of w t ≡ passed) (starts starts' : ℕ → ℕ) (load : Bits) (inputs : Wires)
    (fit : (k : ℕ) → words_fit w (ins (main_of t)) (inputs k) ≡ true) where
  pub starts-done : (k : ℕ) → done_of w starts (main_of t) load inputs k ≡ done_of w starts' (main_of t) load inputs k
  starts-done =
      done-unique w (main_of t) load _ _ inputs _ _ (promise-holds w t ok starts load inputs fit)
      (promise-holds w t ok starts' load inputs fit)

  pub starts-outputs : (s u : ℕ) → s ≤ u → begins load (done_of w starts (main_of t) load inputs) s ≡ true →
      done_of w starts (main_of t) load inputs u ≡ true →
      outputs_of w starts (main_of t) load inputs u ≡ outputs_of w starts' (main_of t) load inputs u
  starts-outputs =
      shown-unique w (main_of t) load _ _ inputs _ _ (promise-holds w t ok starts load inputs fit)
      (promise-holds w t ok starts' load inputs fit)
