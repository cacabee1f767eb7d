-- Law: evaluation within a budget answers exactly what is published: a result `ended c ws` is a run of c cycles within the
-- budget, and `unfinished` is that the term lasts past it. So the budget is an exact cut. Assumes nothing.
use Prim.Native.Nat.{ℕ, ◌≤◌, ◌<◌}
use mathlib.Core.Path.{◌≡◌, refl, sym}
use mathlib.Core.Logic.{◌↔◌}
use native.Mathlib.Omega.{arith}
use Rattle.meaning.specs.Words.{Words}
use Rattle.meaning.specs.Terms.{Term}
use Rattle.meaning.specs.Cycles.{Result, unfinished, ended, evaluate}
use Rattle.meaning.specs.Published.{Runs, Lasts}
use Rattle.meaning.proofs.Runs.{once}
use Rattle.meaning.proofs.Lasts.{before, over}
use Rattle.meaning.proofs.Sound.{Says, sound}

module _ (w : ℕ) (T : Term) (n : ℕ) (x : Words) where
  -- From a result to what is published.
  pub ended-runs : (c : ℕ) (ws : Words) → evaluate w T n x ≡ ended c ws → Runs w T x c ws × (c ≤ n)
  ended-runs c ws e = rw e at (sound w T n x)

  pub unfinished-lasts : evaluate w T n x ≡ unfinished → Lasts w T x n
  unfinished-lasts e = rw e at (sound w T n x)

  -- And back, where a result says what it says.
  reached : (c : ℕ) (ws : Words) → Runs w T x c ws → c ≤ n → (r : Result) → Says w T x n r → r ≡ ended c ws
  reached c ws r h unfinished l = absurd (omega (arith, over r l))
  reached c ws r h (ended d vs) s = let q = once r s.0 in cc (q.0, q.1)

  missed : Lasts w T x n → (r : Result) → Says w T x n r → r ≡ unfinished
  missed l unfinished s = refl
  missed l (ended d vs) s = let q = s.1 in absurd (omega (arith, over s.0 l))

  pub runs-ended : (c : ℕ) (ws : Words) → Runs w T x c ws → c ≤ n → evaluate w T n x ≡ ended c ws
  runs-ended c ws r h = reached c ws r h (evaluate w T n x) (sound w T n x)

  pub lasts-unfinished : Lasts w T x n → evaluate w T n x ≡ unfinished
  lasts-unfinished l = missed l (evaluate w T n x) (sound w T n x)

  -- Two results that say what the term does are the same.
  pub same-said : {r s : Result} → Says w T x n r → Says w T x n s → r ≡ s
  same-said {r} {s} p q = go r p
    where
      go : (a : Result) → Says w T x n a → a ≡ s
      go unfinished l = sym (missed l s q)
      go (ended c ws) a = sym (reached c ws a.0 a.1 s q)

  -- The two theorems.
  pub exactly-ended : (c : ℕ) (ws : Words) → (evaluate w T n x ≡ ended c ws) ↔ (Runs w T x c ws × (c ≤ n))
  exactly-ended c ws = (ended-runs c ws, (λ p. runs-ended c ws p.0 p.1))

  pub exactly-unfinished : (evaluate w T n x ≡ unfinished) ↔ Lasts w T x n
  exactly-unfinished = (unfinished-lasts, lasts-unfinished)

-- What one budget answers, every budget that reaches the cycles answers, and no other.
module _ (w : ℕ) (T : Term) (n c : ℕ) (x ws : Words) (e : evaluate w T n x ≡ ended c ws) (m : ℕ) where
  pub ended-from : c ≤ m → evaluate w T m x ≡ ended c ws
  ended-from h = runs-ended w T m x c ws (ended-runs w T n x c ws e).0 h

  pub unfinished-below : m < c → evaluate w T m x ≡ unfinished
  unfinished-below h = lasts-unfinished w T m x (before (ended-runs w T n x c ws e).0 m h)
