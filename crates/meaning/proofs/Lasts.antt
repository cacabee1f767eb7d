-- Law: a term lasts at every count of cycles below those of its run, and at no other; what lasts, lasts at fewer too.
-- Assumes nothing.
use Prim.Native.Nat.{ℕ, ◌+◌, ◌-◌, ◌≤◌, ◌<◌}
use mathlib.Core.Path.{◌≡◌, sym, ap, ◌∙◌}
use mathlib.Core.Logic.{inl, inr}
use native.Mathlib.Omega.{arith}
use Rattle.meaning.specs.Words.{Words}
use Rattle.meaning.specs.Terms.{Term}
use Rattle.meaning.specs.Cycles.{holds}
use Rattle.meaning.specs.Published.{Runs, leaf_runs, seq_runs, par_runs, then_runs, else_runs, last_runs, more_runs, Lasts}
use Rattle.meaning.specs.Published.{leaf_lasts, first_lasts, second_lasts, left_lasts, right_lasts, if_lasts, then_lasts, else_lasts}
use Rattle.meaning.specs.Published.{test_lasts, last_lasts, body_lasts, feed_lasts, more_lasts}
use Rattle.meaning.proofs.Tests.{clash, split}
use Rattle.meaning.proofs.Runs.{once}

-- Before the end of a run.
pub before : {w : ℕ} {T : Term} {x ws : Words} {n : ℕ} → Runs w T x n ws → (k : ℕ) → k < n → Lasts w T x k
before (leaf_runs e q) k h = leaf_lasts {n = k} (omega arith)
before (seq_runs c d v r s e) k h = elim (split k c) [
  | inl a ↦ first_lasts (before r k a)
  | inr a ↦ second_lasts {n = k} c (k - c) v r (before s (k - c) (omega arith)) (omega arith)
]
before (par_runs c d u v r s e q) k h = elim (split k c) [
  | inl a ↦ left_lasts (before r k a)
  | inr a ↦ right_lasts (before s k (omega arith))
]
before (then_runs c d v r t s e) k h = elim (split k c) [
  | inl a ↦ if_lasts (before r k a)
  | inr a ↦ then_lasts {n = k} c (k - c) v r t (before s (k - c) (omega arith)) (omega arith)
]
before (else_runs c d v r t s e) k h = elim (split k c) [
  | inl a ↦ if_lasts (before r k a)
  | inr a ↦ else_lasts {n = k} c (k - c) v r t (before s (k - c) (omega arith)) (omega arith)
]
before (last_runs c d v r t s e) k h = elim (split k c) [
  | inl a ↦ test_lasts (before r k a)
  | inr a ↦ last_lasts {n = k} c (k - c) v r t (before s (k - c) (omega arith)) (omega arith)
]
before (more_runs c d m v u r t s o e) k h = elim (split k c) [
  | inl a ↦ test_lasts (before r k a)
  | inr a ↦
      elim (split k (c + d)) [
        | inl b ↦ body_lasts {n = k} c (k - c) v r t (before s (k - c) (omega arith)) (omega arith)
        | inr b ↦
            elim (split k (c + d + 1)) [
              | inl i ↦ feed_lasts {n = k} c d v u r t s (omega arith)
              | inr i ↦ more_lasts {n = k} c d (k - (c + d + 1)) v u r t s (before o (k - (c + d + 1)) (omega arith)) (omega arith)
            ]
      ]
]

-- At fewer cycles.
pub down : {w : ℕ} {T : Term} {x : Words} {n : ℕ} → Lasts w T x n → (k : ℕ) → k ≤ n → Lasts w T x k
down (leaf_lasts e) k h = leaf_lasts {n = k} (omega arith)
down (first_lasts l) k h = first_lasts (down l k h)
down (second_lasts c d v r l e) k h = elim (split k c) [
  | inl a ↦ first_lasts (before r k a)
  | inr a ↦ second_lasts {n = k} c (k - c) v r (down l (k - c) (omega arith)) (omega arith)
]
down (left_lasts l) k h = left_lasts (down l k h)
down (right_lasts l) k h = right_lasts (down l k h)
down (if_lasts l) k h = if_lasts (down l k h)
down (then_lasts c d v r t l e) k h = elim (split k c) [
  | inl a ↦ if_lasts (before r k a)
  | inr a ↦ then_lasts {n = k} c (k - c) v r t (down l (k - c) (omega arith)) (omega arith)
]
down (else_lasts c d v r t l e) k h = elim (split k c) [
  | inl a ↦ if_lasts (before r k a)
  | inr a ↦ else_lasts {n = k} c (k - c) v r t (down l (k - c) (omega arith)) (omega arith)
]
down (test_lasts l) k h = test_lasts (down l k h)
down (last_lasts c d v r t l e) k h = elim (split k c) [
  | inl a ↦ test_lasts (before r k a)
  | inr a ↦ last_lasts {n = k} c (k - c) v r t (down l (k - c) (omega arith)) (omega arith)
]
down (body_lasts c d v r t l e) k h = elim (split k c) [
  | inl a ↦ test_lasts (before r k a)
  | inr a ↦ body_lasts {n = k} c (k - c) v r t (down l (k - c) (omega arith)) (omega arith)
]
down (feed_lasts c d v u r t s e) k h = elim (split k c) [
  | inl a ↦ test_lasts (before r k a)
  | inr a ↦
      elim (split k (c + d)) [
        | inl b ↦ body_lasts {n = k} c (k - c) v r t (before s (k - c) (omega arith)) (omega arith)
        | inr b ↦ feed_lasts {n = k} c d v u r t s (omega arith)
      ]
]
down (more_lasts c d m v u r t s l e) k h = elim (split k c) [
  | inl a ↦ test_lasts (before r k a)
  | inr a ↦
      elim (split k (c + d)) [
        | inl b ↦ body_lasts {n = k} c (k - c) v r t (before s (k - c) (omega arith)) (omega arith)
        | inr b ↦
            elim (split k (c + d + 1)) [
              | inl i ↦ feed_lasts {n = k} c d v u r t s (omega arith)
              | inr i ↦ more_lasts {n = k} c d (k - (c + d + 1)) v u r t s (down l (k - (c + d + 1)) (omega arith)) (omega arith)
            ]
      ]
]

-- The same, on words that are equal.
on-words : {w : ℕ} {T : Term} {x y : Words} {n : ℕ} → x ≡ y → Lasts w T x n → Lasts w T y n
on-words e l = rw e at l

-- Only before the end of a run.
pub over : {w : ℕ} {T : Term} {x ws : Words} {n k : ℕ} → Runs w T x n ws → Lasts w T x k → k < n
over (leaf_runs e q) (leaf_lasts z) = omega arith
over (seq_runs c d v r s e) (first_lasts l) = omega (arith, over r l)
over (seq_runs c d v r s e) (second_lasts c' d' v' r' l e') =
    let a = once r r' in
    omega (arith, over s (on-words (sym a.1) l))
over (par_runs c d u v r s e q) (left_lasts l) = omega (arith, over r l)
over (par_runs c d u v r s e q) (right_lasts l) = omega (arith, over s l)
over (then_runs c d v r h s e) (if_lasts l) = omega (arith, over r l)
over (then_runs c d v r h s e) (then_lasts c' d' v' r' h' l e') = let a = once r r' in omega (arith, over s l)
over (then_runs c d v r h s e) (else_lasts c' d' v' r' h' l e') = clash (holds v) h (ap holds (once r r').1 ∙ h')
over (else_runs c d v r h s e) (if_lasts l) = omega (arith, over r l)
over (else_runs c d v r h s e) (then_lasts c' d' v' r' h' l e') = clash (holds v) (ap holds (once r r').1 ∙ h') h
over (else_runs c d v r h s e) (else_lasts c' d' v' r' h' l e') = let a = once r r' in omega (arith, over s l)
over (last_runs c d v r h s e) (test_lasts l) = omega (arith, over r l)
over (last_runs c d v r h s e) (last_lasts c' d' v' r' h' l e') = let a = once r r' in omega (arith, over s l)
over (last_runs c d v r h s e) (body_lasts c' d' v' r' h' l e') = clash (holds v) h (ap holds (once r r').1 ∙ h')
over (last_runs c d v r h s e) (feed_lasts c' d' v' u' r' h' s' e') = clash (holds v) h (ap holds (once r r').1 ∙ h')
over (last_runs c d v r h s e) (more_lasts c' d' k' v' u' r' h' s' l e') = clash (holds v) h (ap holds (once r r').1 ∙ h')
over (more_runs c d m v u r h s o e) (test_lasts l) = omega (arith, over r l)
over (more_runs c d m v u r h s o e) (last_lasts c' d' v' r' h' l e') = clash (holds v) (ap holds (once r r').1 ∙ h') h
over (more_runs c d m v u r h s o e) (body_lasts c' d' v' r' h' l e') = let a = once r r' in omega (arith, over s l)
over (more_runs c d m v u r h s o e) (feed_lasts c' d' v' u' r' h' s' e') =
    let a = once r r' in
    let b = once s s' in
    omega arith
over (more_runs c d m v u r h s o e) (more_lasts c' d' k' v' u' r' h' s' l e') =
    let a = once r r' in
    let b = once s s' in
    omega (arith, over o (on-words (sym b.1) l))
