-- Law: a published run takes a cycle at least, and a term runs in one way only on given words. Assumes nothing.
use Prim.Native.Nat.{ℕ, ◌≤◌}
use mathlib.Core.Path.{◌≡◌, sym, ap, ◌∙◌}
use native.Mathlib.Omega.{arith}
use Rattle.meaning.specs.Words.{Words}
use Rattle.meaning.specs.Terms.{Term}
use Rattle.meaning.specs.Cycles.{holds}
use Rattle.meaning.specs.Published.{Runs, leaf_runs, seq_runs, par_runs, then_runs, else_runs, last_runs, more_runs}
use Rattle.meaning.proofs.Tests.{clash}

pub positive : {w : ℕ} {T : Term} {x ws : Words} {n : ℕ} → Runs w T x n ws → 1 ≤ n
positive (leaf_runs e q) = omega arith
positive (seq_runs c d v r s e) = omega (arith, positive r)
positive (par_runs c d u v r s e q) = omega (arith, positive r)
positive (then_runs c d v r h s e) = omega (arith, positive r)
positive (else_runs c d v r h s e) = omega (arith, positive r)
positive (last_runs c d v r h s e) = omega (arith, positive r)
positive (more_runs c d k v u r h s m e) = omega (arith, positive r)

-- The same run, on words that are equal.
pub on-words : {w : ℕ} {T : Term} {x y ws : Words} {n : ℕ} → x ≡ y → Runs w T x n ws → Runs w T y n ws
on-words e r = rw e at r

-- Two runs on the same words agree.
pub once : {w : ℕ} {T : Term} {x ws vs : Words} {n m : ℕ} → Runs w T x n ws → Runs w T x m vs → (n ≡ m) × (ws ≡ vs)
once (leaf_runs e q) (leaf_runs e' q') = (omega arith, cc)
once (seq_runs c d v r s e) (seq_runs c' d' v' r' s' e') =
    let a = once r r' in
    let b = once s (on-words (sym a.1) s') in
    (omega arith, b.1)
once (par_runs c d u v r s e q) (par_runs c' d' u' v' r' s' e' q') =
    let a = once r r' in
    let b = once s s' in
    (omega arith, cc (a.1, b.1))
once (then_runs c d v r h s e) (then_runs c' d' v' r' h' s' e') =
    let a = once r r' in
    let b = once s s' in
    (omega arith, b.1)
once (then_runs c d v r h s e) (else_runs c' d' v' r' h' s' e') = clash (holds v) h (ap holds (once r r').1 ∙ h')
once (else_runs c d v r h s e) (then_runs c' d' v' r' h' s' e') = clash (holds v) (ap holds (once r r').1 ∙ h') h
once (else_runs c d v r h s e) (else_runs c' d' v' r' h' s' e') =
    let a = once r r' in
    let b = once s s' in
    (omega arith, b.1)
once (last_runs c d v r h s e) (last_runs c' d' v' r' h' s' e') =
    let a = once r r' in
    let b = once s s' in
    (omega arith, b.1)
once (last_runs c d v r h s e) (more_runs c' d' k' v' u' r' h' s' m' e') = clash (holds v) h (ap holds (once r r').1 ∙ h')
once (more_runs c d k v u r h s m e) (last_runs c' d' v' r' h' s' e') = clash (holds v) (ap holds (once r r').1 ∙ h') h
once (more_runs c d k v u r h s m e) (more_runs c' d' k' v' u' r' h' s' m' e') =
    let a = once r r' in
    let b = once s s' in
    let o = once m (on-words (sym b.1) m') in
    (omega arith, o.1)
