-- Published: the four combinators, with their cycles, and no budget. Definitions only.
-- docs/READING.md: "Term tables", "Cycles". Read after: `Cycles`. Assumes nothing.
use Rattle.std.specs.Prelude.{ℕ, ◌+◌, max, ◌≡◌, true, false, [], ◌∷◌, ◌++◌}
use Rattle.meaning.specs.Words.{Words}
use Rattle.meaning.specs.Terms.{Term, leaf, seq, par, ite, rec}
use Rattle.meaning.specs.Cycles.{holds, leaf_word}

-- On words x the term ends in n cycles with the words ws.
pub data Runs (w : ℕ) : Term → Words → ℕ → Words → Type 0 where
  -- A leaf: its word, in one cycle.
  leaf_runs : {k a b n : ℕ} {x ws : Words} → n ≡ 1 → ws ≡ leaf_word w k b x ∷ [] → Runs w (leaf k a b) x n ws
  -- Seq: g of f; the sum.
  seq_runs : {f g : Term} {x ws : Words} {n : ℕ} (c d : ℕ) (v : Words) →
      Runs w f x c v → Runs w g v d ws → n ≡ c + d → Runs w (seq f g) x n ws
  -- Par: the words of both; the larger.
  par_runs : {f g : Term} {x ws : Words} {n : ℕ} (c d : ℕ) (u v : Words) →
      Runs w f x c u → Runs w g x d v → n ≡ max c d → ws ≡ u ++ v → Runs w (par f g) x n ws
  -- Ite: e plus the branch taken.
  then_runs : {e f g : Term} {x ws : Words} {n : ℕ} (c d : ℕ) (v : Words) →
      Runs w e x c v → holds v ≡ true → Runs w f x d ws → n ≡ c + d → Runs w (ite e f g) x n ws
  else_runs : {e f g : Term} {x ws : Words} {n : ℕ} (c d : ℕ) (v : Words) →
      Runs w e x c v → holds v ≡ false → Runs w g x d ws → n ≡ c + d → Runs w (ite e f g) x n ws
  -- Rec: e plus f where the test holds; else e, plus g, plus 1, plus the same again on g's words.
  last_runs : {e f g : Term} {x ws : Words} {n : ℕ} (c d : ℕ) (v : Words) →
      Runs w e x c v → holds v ≡ true → Runs w f x d ws → n ≡ c + d → Runs w (rec e f g) x n ws
  more_runs : {e f g : Term} {x ws : Words} {n : ℕ} (c d r : ℕ) (v u : Words) →
      Runs w e x c v → holds v ≡ false → Runs w g x d u → Runs w (rec e f g) u r ws → n ≡ c + d + 1 + r →
      Runs w (rec e f g) x n ws

-- On words x the term takes more than n cycles, whether it ends or not.
pub data Lasts (w : ℕ) : Term → Words → ℕ → Type 0 where
  leaf_lasts : {k a b n : ℕ} {x : Words} → n ≡ 0 → Lasts w (leaf k a b) x n
  -- Seq: in f, or in g after f.
  first_lasts : {f g : Term} {x : Words} {n : ℕ} → Lasts w f x n → Lasts w (seq f g) x n
  second_lasts : {f g : Term} {x : Words} {n : ℕ} (c d : ℕ) (v : Words) →
      Runs w f x c v → Lasts w g v d → n ≡ c + d → Lasts w (seq f g) x n
  -- Par: on either side.
  left_lasts : {f g : Term} {x : Words} {n : ℕ} → Lasts w f x n → Lasts w (par f g) x n
  right_lasts : {f g : Term} {x : Words} {n : ℕ} → Lasts w g x n → Lasts w (par f g) x n
  -- Ite: in the test, or in the branch taken.
  if_lasts : {e f g : Term} {x : Words} {n : ℕ} → Lasts w e x n → Lasts w (ite e f g) x n
  then_lasts : {e f g : Term} {x : Words} {n : ℕ} (c d : ℕ) (v : Words) →
      Runs w e x c v → holds v ≡ true → Lasts w f x d → n ≡ c + d → Lasts w (ite e f g) x n
  else_lasts : {e f g : Term} {x : Words} {n : ℕ} (c d : ℕ) (v : Words) →
      Runs w e x c v → holds v ≡ false → Lasts w g x d → n ≡ c + d → Lasts w (ite e f g) x n
  -- Rec: in the test; in f; in g; in the cycle that feeds g's words back; in a later round.
  test_lasts : {e f g : Term} {x : Words} {n : ℕ} → Lasts w e x n → Lasts w (rec e f g) x n
  last_lasts : {e f g : Term} {x : Words} {n : ℕ} (c d : ℕ) (v : Words) →
      Runs w e x c v → holds v ≡ true → Lasts w f x d → n ≡ c + d → Lasts w (rec e f g) x n
  body_lasts : {e f g : Term} {x : Words} {n : ℕ} (c d : ℕ) (v : Words) →
      Runs w e x c v → holds v ≡ false → Lasts w g x d → n ≡ c + d → Lasts w (rec e f g) x n
  feed_lasts : {e f g : Term} {x : Words} {n : ℕ} (c d : ℕ) (v u : Words) →
      Runs w e x c v → holds v ≡ false → Runs w g x d u → n ≡ c + d → Lasts w (rec e f g) x n
  more_lasts : {e f g : Term} {x : Words} {n : ℕ} (c d r : ℕ) (v u : Words) →
      Runs w e x c v → holds v ≡ false → Runs w g x d u → Lasts w (rec e f g) u r → n ≡ c + d + 1 + r →
      Lasts w (rec e f g) x n
