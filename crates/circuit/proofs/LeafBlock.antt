-- Law: a block of one cycle, whatever it computes, behaves as one cycle's meaning, and a leaf's block as a leaf. Assumes nothing.
use Prim.Native.Nat.{ℕ, suc, ◌+◌}
use mathlib.Core.Path.{◌≡◌}
use mathlib.Core.Bool.{false}
use mathlib.Core.List.{[], ◌∷◌}
use native.Mathlib.Omega.{arith}
use Rattle.meaning.specs.Choices.{pick, not}
use Rattle.meaning.specs.Words.{Words}
use Rattle.meaning.specs.Terms.{leaf}
use Rattle.meaning.specs.Cycles.{leaf_word}
use Rattle.meaning.specs.Published.{Runs, leaf_runs, Lasts, leaf_lasts}
use Rattle.circuit.specs.Promise.{Low}
use Rattle.circuit.proofs.Streams.{Bits, Wires}
use Rattle.circuit.proofs.Behaves.{Starts, Behaves, BehavesAs, weaker}

-- Done is the not of start; the outputs take what is computed of the inputs where start is high.
pub record OneCycle (compute : Words → Words) (s : Bits) (x : Wires) (d : Bits) (y : Wires) : Type 0 where
  pub done : (t : ℕ) → d t ≡ not (s t)
  pub take : (t : ℕ) → y (suc t) ≡ pick (s t) (compute (x t)) (y t)

abbrev pub OnceRuns : (Words → Words) → Words → ℕ → Words → Type 0
OnceRuns compute v c ws = (c ≡ 1) × (ws ≡ compute v)

abbrev pub OnceLasts : Words → ℕ → Type 0
OnceLasts v k = k ≡ 0

module _ (compute : Words → Words) (s d : Bits) (x y : Wires) (W : OneCycle compute s x d y) where
  abbrev Always : ℕ → Type 0
  Always t = Unit {0}

  once-busy : (t k u : ℕ) (v : Words) → Starts Always s x t v → u ≡ t + k → Low s (suc t) (suc u) → OnceLasts v k → d u ≡ false
  once-busy t k u v a p l h = let q : u ≡ t = omega arith in cc (W.done u, a.high)

  once-ends : (t c e : ℕ) (v ws : Words) → Starts Always s x t v → e ≡ t + c → Low s (suc t) e → OnceRuns compute v c ws →
      Always e × (y e ≡ ws)
  once-ends t c e v ws a p l r = let q : e ≡ suc t = omega arith in (tt, cc (W.take t, a.high, a.given, r.1))

  pub one-cycle : Behaves (OnceRuns compute) OnceLasts s x d y
  one-cycle = record {
    Idle = Always;
    first = tt;
    done = λ t i z. cc (W.done t);
    next = λ t i z. tt;
    hold = λ t i z. cc (W.take t);
    busy = once-busy;
    ends = once-ends;
  }

-- A leaf runs in one cycle, with its word.
leaf-once : {w k a b c : ℕ} {v ws : Words} → Runs w (leaf k a b) v c ws → OnceRuns (λ x. leaf_word w k b x ∷ []) v c ws
leaf-once (leaf_runs e q) = (e, q)

leaf-short : {w k a b n : ℕ} {v : Words} → Lasts w (leaf k a b) v n → OnceLasts v n
leaf-short (leaf_lasts e) = e

pub leaf-behaves : (w k a b : ℕ) (s d : Bits) (x y : Wires) → OneCycle (λ v. leaf_word w k b v ∷ []) s x d y →
    BehavesAs w (leaf k a b) s x d y
leaf-behaves w k a b s d x y W =
    weaker (one-cycle (λ v. leaf_word w k b v ∷ []) s d x y W) (λ v c ws r. leaf-once r) (λ v n l. leaf-short l)
