-- Law: what a kind makes of an accepted table's term: its operands are lower terms, and its tree is made of theirs.
-- Cited by the proof of `cells`. Assumes nothing.
use Prim.Native.Nat.{ℕ, ◌≤◌, ◌<◌}
use mathlib.Core.Path.{◌≡◌, refl, sym, subst}
use mathlib.Core.List.{List}
use native.Mathlib.Omega.{arith}
use Rattle.meaning.specs.declared.Kind.{Kind}
use Rattle.meaning.specs.declared.Kind.TheVariants as kind
use Rattle.meaning.specs.Kinds.{kind_named}
use Rattle.meaning.specs.Terms.{number_of, kind_of, leaf, seq, par, ite, rec, tree}
use Rattle.meaning.specs.Checks.{operand_tree}
use Rattle.meaning.proofs.Decoded.{tree-seq, tree-par, tree-ite, tree-rec, tree-leaf-from}
use Rattle.meaning.proofs.Accepted.{Fits, seq-fits, par-fits, ite-fits, rec-fits, const_fits, field_fits, op_fits}
use Rattle.meaning.proofs.Naming.{Named, named}

module _ (t : List ℕ) (k : ℕ) where
  -- Lower terms, and the tree over theirs.
  abbrev pub Parts : Kind → Type 0
  Parts kind.Seq = (number_of t k 1 < k) × (number_of t k 2 < k) × (tree t k ≡ seq (operand_tree t k 1) (operand_tree t k 2))
  Parts kind.Par = (number_of t k 1 < k) × (number_of t k 2 < k) × (tree t k ≡ par (operand_tree t k 1) (operand_tree t k 2))
  Parts kind.Ite = (number_of t k 1 < k) × (number_of t k 2 < k) × (number_of t k 3 < k) ×
      (tree t k ≡ ite (operand_tree t k 1) (operand_tree t k 2) (operand_tree t k 3))
  Parts kind.Rec = (number_of t k 1 < k) × (number_of t k 2 < k) × (number_of t k 3 < k) ×
      (tree t k ≡ rec (operand_tree t k 1) (operand_tree t k 2) (operand_tree t k 3))
  Parts kind.Const = tree t k ≡ leaf (kind_of t k) (number_of t k 1) (number_of t k 2)
  Parts kind.Field = tree t k ≡ leaf (kind_of t k) (number_of t k 1) (number_of t k 2)
  Parts kind.Binary = tree t k ≡ leaf (kind_of t k) (number_of t k 1) (number_of t k 2)
  Parts kind.Unary = tree t k ≡ leaf (kind_of t k) (number_of t k 1) (number_of t k 2)

  -- From 9 on the kinds are those of leaves.
  leaf-parts : (K : Kind) → Named (kind_of t k) K → 9 ≤ kind_of t k → Parts K
  leaf-parts kind.Seq e l = absurd (omega arith)
  leaf-parts kind.Par e l = absurd (omega arith)
  leaf-parts kind.Ite e l = absurd (omega arith)
  leaf-parts kind.Rec e l = absurd (omega arith)
  leaf-parts kind.Const e l = tree-leaf-from t k l
  leaf-parts kind.Field e l = tree-leaf-from t k l
  leaf-parts kind.Binary e l = tree-leaf-from t k l
  leaf-parts kind.Unary e l = tree-leaf-from t k l

  from-nine : 9 ≤ kind_of t k → Parts (kind_named (kind_of t k))
  from-nine l = leaf-parts (kind_named (kind_of t k)) (named (kind_of t k) (kind_named (kind_of t k)) refl) l

  module _ {w : ℕ} where
    by-row : Fits w t k → Parts (kind_named (kind_of t k))
    by-row (seq-fits e z a b p) = rw e (a, b, tree-seq t k e a b)
    by-row (par-fits e z a b p q) = rw e (a, b, tree-par t k e a b)
    by-row (ite-fits e a b c p q r s) = rw e (a, b, c, tree-ite t k e a b c)
    by-row (rec-fits e a b c p q r s) = rw e (a, b, c, tree-rec t k e a b c)
    by-row (const_fits e z l u v) = from-nine (omega arith)
    by-row (field_fits e z l u v) = from-nine (omega arith)
    by-row (op_fits l u a b c) = from-nine (omega arith)

    pub parts : (K : Kind) → K ≡ kind_named (kind_of t k) → Fits w t k → Parts K
    parts K e f = subst Parts (sym e) (by-row f)
