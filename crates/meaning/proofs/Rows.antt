-- Law: what a term of an accepted table has, by its kind: operands below it, the counts that fit, and its tree.
-- The code that goes by kinds cites this. Assumes nothing.
use Prim.Native.Nat.{ℕ, ◌+◌, ◌^◌, ◌≤◌, ◌<◌}
use mathlib.Core.Path.{◌≡◌}
use mathlib.Core.List.{List}
use native.Mathlib.Omega.{arith}
use Rattle.meaning.specs.Terms.{number_of, kind_of, leaf, seq, par, ite, rec, tree}
use Rattle.meaning.specs.Counts.{ins, outs}
use Rattle.meaning.specs.Checks.{operand_tree}
use Rattle.meaning.proofs.Decoded.{tree-seq, tree-par, tree-ite, tree-rec, tree-leaf-from}
use Rattle.meaning.proofs.Accepted.{Fits, seq-fits, par-fits, ite-fits, rec-fits, const_fits, field_fits, op_fits}

-- 1 Seq.
pub record SeqRow (t : List ℕ) (k : ℕ) : Type 0 where
  pub f_below : number_of t k 1 < k
  pub g_below : number_of t k 2 < k
  pub meet : outs (operand_tree t k 1) ≡ ins (operand_tree t k 2)
  pub decoded : tree t k ≡ seq (operand_tree t k 1) (operand_tree t k 2)

-- 2 Par.
pub record ParRow (t : List ℕ) (k : ℕ) : Type 0 where
  pub f_below : number_of t k 1 < k
  pub g_below : number_of t k 2 < k
  pub same : ins (operand_tree t k 1) ≡ ins (operand_tree t k 2)
  pub few : outs (operand_tree t k 1) + outs (operand_tree t k 2) ≤ 16
  pub decoded : tree t k ≡ par (operand_tree t k 1) (operand_tree t k 2)

-- 3 Ite.
pub record IteRow (t : List ℕ) (k : ℕ) : Type 0 where
  pub e_below : number_of t k 1 < k
  pub f_below : number_of t k 2 < k
  pub g_below : number_of t k 3 < k
  pub same_f : ins (operand_tree t k 1) ≡ ins (operand_tree t k 2)
  pub same_g : ins (operand_tree t k 1) ≡ ins (operand_tree t k 3)
  pub test : outs (operand_tree t k 1) ≡ 1
  pub same_outs : outs (operand_tree t k 2) ≡ outs (operand_tree t k 3)
  pub decoded : tree t k ≡ ite (operand_tree t k 1) (operand_tree t k 2) (operand_tree t k 3)

-- 4 Rec.
pub record RecRow (t : List ℕ) (k : ℕ) : Type 0 where
  pub e_below : number_of t k 1 < k
  pub f_below : number_of t k 2 < k
  pub g_below : number_of t k 3 < k
  pub same_f : ins (operand_tree t k 1) ≡ ins (operand_tree t k 2)
  pub same_g : ins (operand_tree t k 1) ≡ ins (operand_tree t k 3)
  pub test : outs (operand_tree t k 1) ≡ 1
  pub back : outs (operand_tree t k 3) ≡ ins (operand_tree t k 1)
  pub decoded : tree t k ≡ rec (operand_tree t k 1) (operand_tree t k 2) (operand_tree t k 3)

-- 9 and above.
pub record LeafRow (w : ℕ) (t : List ℕ) (k : ℕ) : Type 0 where
  pub known : (9 ≤ kind_of t k) × (kind_of t k ≤ 22)
  pub const : kind_of t k ≡ 9 → (1 ≤ number_of t k 1) × (number_of t k 1 ≤ 16) × (number_of t k 2 < 2 ^ w)
  pub field : kind_of t k ≡ 12 → (1 ≤ number_of t k 1) × (number_of t k 1 ≤ 16) × (number_of t k 2 < number_of t k 1)
  pub between : kind_of t k < 13 → (kind_of t k ≡ 9 → ⊥) → kind_of t k ≡ 12
  pub decoded : tree t k ≡ leaf (kind_of t k) (number_of t k 1) (number_of t k 2)

-- The row that the kind names.
pub record Rows (w : ℕ) (t : List ℕ) (k : ℕ) : Type 0 where
  pub on_seq : kind_of t k ≡ 1 → SeqRow t k
  pub on_par : kind_of t k ≡ 2 → ParRow t k
  pub on_ite : kind_of t k ≡ 3 → IteRow t k
  pub on_rec : kind_of t k ≡ 4 → RecRow t k
  pub on_leaf : (kind_of t k ≡ 1 → ⊥) → (kind_of t k ≡ 2 → ⊥) → (kind_of t k ≡ 3 → ⊥) → (kind_of t k ≡ 4 → ⊥) → LeafRow w t k

module _ (w : ℕ) (t : List ℕ) (k : ℕ) where
  -- A leaf is no other row.
  leaf-rows : 9 ≤ kind_of t k → LeafRow w t k → Rows w t k
  leaf-rows h r = record {
    on_seq = λ q. absurd (omega arith);
    on_par = λ q. absurd (omega arith);
    on_ite = λ q. absurd (omega arith);
    on_rec = λ q. absurd (omega arith);
    on_leaf = λ _ _ _ _. r;
  }

  pub rows : Fits w t k → Rows w t k
  rows (seq-fits e z a b p) = record {
    on_seq = λ _. record { f_below = a; g_below = b; meet = p; decoded = tree-seq t k e a b };
    on_par = λ q. absurd (omega arith);
    on_ite = λ q. absurd (omega arith);
    on_rec = λ q. absurd (omega arith);
    on_leaf = λ q _ _ _. absurd (q e);
  }
  rows (par-fits e z a b p l) = record {
    on_seq = λ q. absurd (omega arith);
    on_par = λ _. record { f_below = a; g_below = b; same = p; few = l; decoded = tree-par t k e a b };
    on_ite = λ q. absurd (omega arith);
    on_rec = λ q. absurd (omega arith);
    on_leaf = λ _ q _ _. absurd (q e);
  }
  rows (ite-fits e a b c p q r s) = record {
    on_seq = λ d. absurd (omega arith);
    on_par = λ d. absurd (omega arith);
    on_ite = λ _. record {
      e_below = a;
      f_below = b;
      g_below = c;
      same_f = p;
      same_g = q;
      test = r;
      same_outs = s;
      decoded = tree-ite t k e a b c;
    };
    on_rec = λ d. absurd (omega arith);
    on_leaf = λ _ _ d _. absurd (d e);
  }
  rows (rec-fits e a b c p q r s) = record {
    on_seq = λ d. absurd (omega arith);
    on_par = λ d. absurd (omega arith);
    on_ite = λ d. absurd (omega arith);
    on_rec = λ _. record {
      e_below = a;
      f_below = b;
      g_below = c;
      same_f = p;
      same_g = q;
      test = r;
      back = s;
      decoded = tree-rec t k e a b c;
    };
    on_leaf = λ _ _ _ d. absurd (d e);
  }
  rows (const_fits e z l u v) = leaf-rows (omega arith) record {
    known = (omega arith, omega arith);
    const = λ _. (l, u, v);
    field = λ q. absurd (omega arith);
    between = λ _ q. absurd (q e);
    decoded = tree-leaf-from t k (omega arith);
  }
  rows (field_fits e z l u v) = leaf-rows (omega arith) record {
    known = (omega arith, omega arith);
    const = λ q. absurd (omega arith);
    field = λ _. (l, u, v);
    between = λ _ _. e;
    decoded = tree-leaf-from t k (omega arith);
  }
  rows (op_fits l u a b c) = leaf-rows (omega arith) record {
    known = (omega arith, u);
    const = λ q. absurd (omega arith);
    field = λ q. absurd (omega arith);
    between = λ q _. absurd (omega arith);
    decoded = tree-leaf-from t k (omega arith);
  }
