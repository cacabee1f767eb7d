-- Law: the size of a term of a table that some width accepts, by those of its operands, which are lower terms. Cited by the proof of
-- `cells`. Assumes nothing.
use Prim.Native.Nat.{ℕ, ◌+◌, ◌*◌, ◌<◌}
use mathlib.Core.Path.{◌≡◌, refl}
use mathlib.Core.List.{List}
use Rattle.meaning.specs.declared.Kind.{Kind}
use Rattle.meaning.specs.declared.Kind.TheVariants as kind
use Rattle.meaning.specs.Kinds.{kind_named}
use Rattle.meaning.specs.Terms.{number_of, kind_of, count, tree}
use Rattle.meaning.specs.Counts.{ins, outs, size}
use Rattle.terms.specs.Judged.{Passing}
use Rattle.terms.proofs.Facts.{widest}
use Rattle.terms.proofs.Parts.{Parts, parts}

module _ (t : List ℕ) (k : ℕ) (somewhere : ∥ Passing t ∥₁) (inside : k < count t) where
  of-kind : (K : Kind) → K ≡ kind_named (kind_of t k) → Parts t k K
  of-kind K e = parts t k K e ((widest t somewhere).fits k inside)

  pub seq_cells : kind.Seq ≡ kind_named (kind_of t k) → (number_of t k 1 < k) × (number_of t k 2 < k) ×
      (size (tree t k) ≡ size (tree t (number_of t k 1)) + size (tree t (number_of t k 2)) + 4)
  seq_cells e = let p = of-kind kind.Seq e in (p.0, p.1, rw p.2)

  pub par_cells : kind.Par ≡ kind_named (kind_of t k) → (number_of t k 1 < k) × (number_of t k 2 < k) ×
      (size (tree t k) ≡ size (tree t (number_of t k 1)) + size (tree t (number_of t k 2)) + 1)
  par_cells e = let p = of-kind kind.Par e in (p.0, p.1, rw p.2)

  pub ite_cells : kind.Ite ≡ kind_named (kind_of t k) → (number_of t k 1 < k) × (number_of t k 2 < k) × (number_of t k 3 < k) ×
      (size (tree t k) ≡ 2 * ins (tree t k) + size (tree t (number_of t k 1)) + size (tree t (number_of t k 2))
      + size (tree t (number_of t k 3)) + 9 + outs (tree t k))
  ite_cells e = let p = of-kind kind.Ite e in (p.0, p.1, p.2, rw p.3)

  pub rec_cells : kind.Rec ≡ kind_named (kind_of t k) → (number_of t k 1 < k) × (number_of t k 2 < k) × (number_of t k 3 < k) ×
      (size (tree t k) ≡ 4 * ins (tree t k) + size (tree t (number_of t k 1)) + size (tree t (number_of t k 2))
      + size (tree t (number_of t k 3)) + 16)
  rec_cells e = let p = of-kind kind.Rec e in (p.0, p.1, p.2, rw p.3)

  pub leaf_cells : (kind.Seq ≡ kind_named (kind_of t k) → ⊥) → (kind.Par ≡ kind_named (kind_of t k) → ⊥) →
      (kind.Ite ≡ kind_named (kind_of t k) → ⊥) → (kind.Rec ≡ kind_named (kind_of t k) → ⊥) → size (tree t k) ≡ 4
  leaf_cells a b c d = sized (kind_named (kind_of t k)) refl
    where
      sized : (K : Kind) → K ≡ kind_named (kind_of t k) → size (tree t k) ≡ 4
      sized kind.Seq e = absurd (a e)
      sized kind.Par e = absurd (b e)
      sized kind.Ite e = absurd (c e)
      sized kind.Rec e = absurd (d e)
      sized kind.Const e = let p = of-kind kind.Const e in rw p
      sized kind.Field e = let p = of-kind kind.Field e in rw p
      sized kind.Binary e = let p = of-kind kind.Binary e in rw p
      sized kind.Unary e = let p = of-kind kind.Unary e in rw p

-- Kind by kind.
pub ruleset cells_by_kind = (seq_cells, par_cells, ite_cells, rec_cells, leaf_cells)
