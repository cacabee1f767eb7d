-- Law: at every width from 1 on, each operation of words gives a word below 2 ^ w, and so does every run of a well-typed term.
-- Assumes nothing.
use Prim.Native.Nat.{ℕ, zero, suc, ◌+◌, ◌*◌, ◌-◌, ◌%◌, ◌^◌, ◌≤◌, ◌<◌}
use mathlib.Core.Path.{◌≡◌}
use mathlib.Core.Bool.{Bool, true, false}
use mathlib.Core.List.{[], ◌∷◌}
use native.Mathlib.Omega.{arith}
use native.Mathlib.Nat.{mod-lt}
use lib.Dec.{eqb, ltb}
use lib.Bits.{and_lt, or_lt, xor_lt}
use lib.Pow.{pow_pos}
use borrow.Author.Tests.{le-ltb}
use Rattle.meaning.specs.Choices.{pick, num, at}
use Rattle.meaning.specs.Words.{Words, binary, unary, arity, operation}
use Rattle.meaning.specs.Terms.{Term}
use Rattle.meaning.specs.Cycles.{ended, leaf_word, evaluate}
use Rattle.meaning.specs.Published.{Runs, leaf_runs, seq_runs, par_runs, then_runs, else_runs, last_runs, more_runs}
use Rattle.meaning.proofs.Lists.{append-all}
use Rattle.meaning.proofs.Typed.{LeafFits, const_leaf, field_leaf, op_leaf, Typed, leaf_typed, seq_typed, par_typed, ite_typed}
use Rattle.meaning.proofs.Typed.{rec_typed}
use Rattle.meaning.proofs.Exact.{ended-runs}

num-le : (b : Bool) → num b ≤ 1
num-le true = omega arith
num-le false = omega arith

pick-lt : (b : Bool) (x y n : ℕ) → x < n → y < n → pick b x y < n
pick-lt true x y n h k = h
pick-lt false x y n h k = k

two-le : (w : ℕ) → 1 ≤ w → 2 ≤ 2 ^ w
two-le zero h = absurd (omega arith)
two-le (suc w) h = omega (arith, pow_pos w)

module _ (w : ℕ) (wide : 1 ≤ w) where
  num-lt : (b : Bool) → num b < 2 ^ w
  num-lt b = omega (arith, num-le b, two-le w wide)

  binary-lt : (k x y : ℕ) → x < 2 ^ w → y < 2 ^ w → binary w k x y < 2 ^ w
  unfolding binary
  binary-lt k x y h i =
      pick-lt (eqb k 13) _ _ _ (mod-lt (x + y) (pow_pos w))
      (pick-lt (eqb k 14) _ _ _ (mod-lt (x + (2 ^ w - y % 2 ^ w)) (pow_pos w))
      (pick-lt (eqb k 15) _ _ _ (and_lt w x y h i)
      (pick-lt (eqb k 16) _ _ _ (or_lt w x y h i)
      (pick-lt (eqb k 17) _ _ _ (xor_lt w x y h i)
      (pick-lt (eqb k 18) _ _ _ (num-lt (eqb x y)) (num-lt (ltb x y)))))))

  unary-lt : (k x : ℕ) → x < 2 ^ w → unary w k x < 2 ^ w
  unfolding unary
  unary-lt k x h =
      pick-lt (eqb k 20) _ _ _ (omega (arith, pow_pos w))
      (pick-lt (eqb k 21) _ _ _ (mod-lt (x * 2) (pow_pos w)) (omega arith))

  -- Every operation, of every kind.
  pub operation-lt : (k x y : ℕ) → x < 2 ^ w → y < 2 ^ w → operation w k x y < 2 ^ w
  operation-lt k x y h i = pick-lt (eqb (arity k) 2) _ _ _ (binary-lt k x y h i) (unary-lt k x h)

  -- Words that are all below 2 ^ w; past the last stands 0.
  leaf-lt : (k b i : ℕ) (x : Words) → LeafFits w k b i → ((j : ℕ) → at x j < 2 ^ w) → leaf_word w k b x < 2 ^ w
  leaf-lt k b i x (const_leaf e v) h = rw e v
  leaf-lt k b i x (field_leaf e v) h = rw e (h b)
  leaf-lt k b i x (op_leaf l u e) h = rw (le-ltb k 13 l) (operation-lt k (at x 0) (at x 1) (h 0) (h 1))

  one-lt : (a j : ℕ) → a < 2 ^ w → at (a ∷ []) j < 2 ^ w
  one-lt a zero h = h
  one-lt a (suc j) h = pow_pos w

  pub runs-lt : {T : Term} {i o : ℕ} {x ws : Words} {n : ℕ} → Typed w T i o → Runs w T x n ws →
      ((j : ℕ) → at x j < 2 ^ w) → (j : ℕ) → at ws j < 2 ^ w
  runs-lt {x = x} (leaf_typed {k} {a} {b} {i} z l u f) (leaf_runs e q) h j = rw q (one-lt _ j (leaf-lt k b i x f h))
  runs-lt (seq_typed m f g) (seq_runs c d v r s e) h j = runs-lt g s (runs-lt f r h) j
  runs-lt (par_typed a b l f g) (par_runs c d u v r s e q) h j =
      rw q (append-all (λ a. a < 2 ^ w) u v (runs-lt f r h) (runs-lt g s h) j)
  runs-lt (ite_typed t f g) (then_runs c d v r p s e) h j = runs-lt f s h j
  runs-lt (ite_typed t f g) (else_runs c d v r p s e) h j = runs-lt g s h j
  runs-lt (rec_typed t f g) (last_runs c d v r p s e) h j = runs-lt f s h j
  runs-lt (rec_typed t f g) (more_runs c d k v u r p s m e) h j = runs-lt (rec_typed t f g) m (runs-lt g s h) j

  pub evaluate-lt : {T : Term} {i o : ℕ} → Typed w T i o → (n c : ℕ) (x ws : Words) → evaluate w T n x ≡ ended c ws →
      ((j : ℕ) → at x j < 2 ^ w) → (j : ℕ) → at ws j < 2 ^ w
  evaluate-lt {T} f n c x ws e = runs-lt f (ended-runs w T n x c ws e).0
