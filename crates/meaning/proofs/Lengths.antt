-- Law: a well-typed term gives as many words as its type says. Assumes nothing.
use Prim.Native.Nat.{ℕ}
use mathlib.Core.Path.{◌≡◌, ◌∙◌, ap}
use lib.ListN.{length, length-append}
use Rattle.meaning.specs.Words.{Words}
use Rattle.meaning.specs.Terms.{Term}
use Rattle.meaning.specs.Counts.{outs}
use Rattle.meaning.specs.Cycles.{ended, evaluate}
use Rattle.meaning.specs.Published.{Runs, leaf_runs, seq_runs, par_runs, then_runs, else_runs, last_runs, more_runs}
use Rattle.meaning.proofs.Typed.{Typed, leaf_typed, seq_typed, par_typed, ite_typed, rec_typed, typed-outs}
use Rattle.meaning.proofs.Exact.{ended-runs}

pub runs-length : {w : ℕ} {T : Term} {i o : ℕ} {x ws : Words} {n : ℕ} → Typed w T i o → Runs w T x n ws → length ws ≡ o
runs-length (leaf_typed z l u h) (leaf_runs e q) = ap length q
runs-length (seq_typed m f g) (seq_runs c d v r s e) = runs-length g s
runs-length (par_typed a b l f g) (par_runs c d u v r s e q) =
    ap length q ∙ (length-append u v ∙ cc (runs-length f r, runs-length g s))
runs-length (ite_typed t f g) (then_runs c d v r h s e) = runs-length f s
runs-length (ite_typed t f g) (else_runs c d v r h s e) = runs-length g s
runs-length (rec_typed t f g) (last_runs c d v r h s e) = runs-length f s
runs-length (rec_typed t f g) (more_runs c d k v u r h s m e) = runs-length (rec_typed t f g) m

pub evaluate-length : {w : ℕ} {T : Term} {i o : ℕ} → Typed w T i o → (n c : ℕ) (x ws : Words) → evaluate w T n x ≡ ended c ws →
    length ws ≡ outs T
evaluate-length {w} {T} h n c x ws e = runs-length h (ended-runs w T n x c ws e).0 ∙ typed-outs h
