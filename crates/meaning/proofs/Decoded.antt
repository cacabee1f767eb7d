-- Law: the tree of term k, kind by kind: its node over the trees of its operands. Assumes nothing.
use Prim.Native.Nat.{ℕ, zero, suc, ◌≤◌, ◌<◌}
use mathlib.Core.Path.{◌≡◌, refl, ap}
use mathlib.Core.Bool.{false}
use mathlib.Core.List.{List}
use mathlib.Core.Logic.{inl, inr}
use native.Mathlib.Omega.{arith}
use lib.Dec.{eqb}
use borrow.Author.Tests.{eq-eqb, ne_eqb}
use Rattle.meaning.specs.Terms.{number_of, kind_of, leaf, seq, par, ite, rec, node_of, below, tree}
use Rattle.meaning.proofs.Tests.{split}

-- The terms below n hold term k, whatever n is above k.
pub below-tree : (t : List ℕ) (n k : ℕ) → k < n → below t n k ≡ tree t k
unfolding below
below-tree t zero k h = absurd (omega arith)
below-tree t (suc n) k h = elim (split k n) [
  | inl a ↦ (let e : eqb k n ≡ false = ne_eqb k n (λ q. omega arith) in rw e (below-tree t n k a))
  | inr a ↦ (let q : n ≡ k = omega arith in ap (λ (m : ℕ). below t (suc m) k) q)
]

tree-node : (t : List ℕ) (k : ℕ) → tree t k ≡ node_of (kind_of t k) t (below t k) k
unfolding below
tree-node t k = rw (eq-eqb k k refl)

-- The law of each kind.
module _ (t : List ℕ) (k : ℕ) where
  pub tree-seq : kind_of t k ≡ 1 → number_of t k 1 < k → number_of t k 2 < k →
      tree t k ≡ seq (tree t (number_of t k 1)) (tree t (number_of t k 2))
  unfolding node_of
  tree-seq e a b = cc (tree-node t k, below-tree t k (number_of t k 1) a, below-tree t k (number_of t k 2) b)

  pub tree-par : kind_of t k ≡ 2 → number_of t k 1 < k → number_of t k 2 < k →
      tree t k ≡ par (tree t (number_of t k 1)) (tree t (number_of t k 2))
  unfolding node_of
  tree-par e a b = cc (tree-node t k, below-tree t k (number_of t k 1) a, below-tree t k (number_of t k 2) b)

  pub tree-ite : kind_of t k ≡ 3 → number_of t k 1 < k → number_of t k 2 < k → number_of t k 3 < k →
      tree t k ≡ ite (tree t (number_of t k 1)) (tree t (number_of t k 2)) (tree t (number_of t k 3))
  unfolding node_of
  tree-ite e a b c = cc (
    tree-node t k,
    below-tree t k (number_of t k 1) a,
    below-tree t k (number_of t k 2) b,
    below-tree t k (number_of t k 3) c,
  )

  pub tree-rec : kind_of t k ≡ 4 → number_of t k 1 < k → number_of t k 2 < k → number_of t k 3 < k →
      tree t k ≡ rec (tree t (number_of t k 1)) (tree t (number_of t k 2)) (tree t (number_of t k 3))
  unfolding node_of
  tree-rec e a b c = cc (
    tree-node t k,
    below-tree t k (number_of t k 1) a,
    below-tree t k (number_of t k 2) b,
    below-tree t k (number_of t k 3) c,
  )

  -- Whatever is none of the four is a leaf, and so is all from 9 on.
  pub tree-leaf : (kind_of t k ≡ 1 → ⊥) → (kind_of t k ≡ 2 → ⊥) → (kind_of t k ≡ 3 → ⊥) → (kind_of t k ≡ 4 → ⊥) →
      tree t k ≡ leaf (kind_of t k) (number_of t k 1) (number_of t k 2)
  unfolding node_of
  tree-leaf a b c d = cc (
    tree-node t k,
    ne_eqb (kind_of t k) 1 a,
    ne_eqb (kind_of t k) 2 b,
    ne_eqb (kind_of t k) 3 c,
    ne_eqb (kind_of t k) 4 d,
  )

  pub tree-leaf-from : 9 ≤ kind_of t k → tree t k ≡ leaf (kind_of t k) (number_of t k 1) (number_of t k 2)
  tree-leaf-from h = tree-leaf (λ q. omega arith) (λ q. omega arith) (λ q. omega arith) (λ q. omega arith)
