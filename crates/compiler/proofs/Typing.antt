-- Law: what the typing of a term says of its operands. Assumes nothing.
use Prim.Native.Nat.{ℕ, ◌+◌, ◌≤◌, ◌<◌}
use mathlib.Core.Path.{◌≡◌, sym, ◌∙◌}
use native.Mathlib.Omega.{arith}
use Rattle.meaning.specs.Terms.{Term, leaf, seq, par, ite, rec}
use Rattle.meaning.specs.Counts.{ins, outs}
use Rattle.meaning.proofs.Typed.{LeafFits, const_leaf, field_leaf, op_leaf, Typed, leaf_typed, seq_typed, par_typed, ite_typed}
use Rattle.meaning.proofs.Typed.{rec_typed, typed-ins, typed-outs, Well, typed-well}

-- A leaf: what its numbers may be.
pub leaf-fits : {w k a b i o : ℕ} → Typed w (leaf k a b) i o → LeafFits w k b i
leaf-fits (leaf_typed e l u h) = h

-- The word that a Field gives is one of 16.
value-few : {w k b i : ℕ} → i ≤ 16 → LeafFits w k b i → k < 13 → (k ≡ 9 → ⊥) → b < 16
value-few u (const_leaf e v) l n = absurd (n e)
value-few u (field_leaf e v) l n = omega arith
value-few u (op_leaf a b e) l n = absurd (omega arith)

pub leaf-few : {w k a b i o : ℕ} → Typed w (leaf k a b) i o → k < 13 → (k ≡ 9 → ⊥) → b < 16
leaf-few (leaf_typed e l u h) = value-few u h

-- Seq: g takes what f gives.
pub seq-meets : {w : ℕ} {f g : Term} {i o : ℕ} → Typed w (seq f g) i o → Well w f × Well w g × (outs f ≡ ins g)
seq-meets (seq_typed m a b) = (typed-well a, typed-well b, sym (typed-outs a) ∙ typed-ins b)

-- Par: both take the same, and give few words.
pub par-shares : {w : ℕ} {f g : Term} {i o : ℕ} → Typed w (par f g) i o →
    Well w f × Well w g × (ins f ≡ ins g) × (outs f + outs g ≤ 16)
par-shares (par_typed m n l a b) =
    (typed-well a, typed-well b, sym (typed-ins a) ∙ typed-ins b, omega (arith, l, typed-outs a, typed-outs b))

-- A test and two branches, on the same words; as Ite has them, where both give the same, and Rec, where the last gives what the next
-- round takes.
pub record Branches (w : ℕ) (e f g : Term) : Type 0 where
  pub test : Well w e
  pub yes : Well w f
  pub no : Well w g
  pub same_f : ins e ≡ ins f
  pub same_g : ins e ≡ ins g

branches : {w : ℕ} {e f g : Term} {i l m n : ℕ} → Typed w e i l → Typed w f i m → Typed w g i n → Branches w e f g
branches a b c = record {
  test = typed-well a;
  yes = typed-well b;
  no = typed-well c;
  same_f = sym (typed-ins a) ∙ typed-ins b;
  same_g = sym (typed-ins a) ∙ typed-ins c;
}

pub ite-branches : {w : ℕ} {e f g : Term} {i o : ℕ} → Typed w (ite e f g) i o → Branches w e f g
ite-branches (ite_typed a b c) = branches a b c

pub ite-joins : {w : ℕ} {e f g : Term} {i o : ℕ} → Typed w (ite e f g) i o → outs f ≡ outs g
ite-joins (ite_typed a b c) = sym (typed-outs b) ∙ typed-outs c

pub rec-branches : {w : ℕ} {e f g : Term} {i o : ℕ} → Typed w (rec e f g) i o → Branches w e f g
rec-branches (rec_typed a b c) = branches a b c

pub rec-returns : {w : ℕ} {e f g : Term} {i o : ℕ} → Typed w (rec e f g) i o → outs g ≡ ins e
rec-returns (rec_typed a b c) = sym (typed-outs c) ∙ typed-ins a
