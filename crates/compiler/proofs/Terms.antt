-- Law: what it says of a term that its table is accepted: its tree and typing, by the operands that the code names, and what the search is
-- given of its operands and counts, the ruleset `parts`. The code cites this. Assumes nothing.
use Prim.Native.Nat.{ℕ, ◌+◌, ◌*◌, ◌≤◌, ◌<◌}
use mathlib.Core.Path.{◌≡◌, refl, sym, ap, ◌∙◌}
use mathlib.Core.List.{List}
use native.Mathlib.Omega.{arith}
use lib.Seq.{length-take-le}
use Rattle.meaning.specs.declared.Kind.{Kind}
use Rattle.meaning.specs.declared.Kind.TheVariants as kind
use Rattle.meaning.specs.declared.Known.{Known}
use Rattle.meaning.specs.Kinds.{kind_named}
use Rattle.meaning.specs.Terms.{number_of, kind_of, count, last_of, leaf, seq, par, ite, rec, tree, main_of}
use Rattle.meaning.specs.Counts.{ins, outs, size, whole_size}
use Rattle.meaning.specs.Checks.{operand_tree}
use Rattle.meaning.proofs.Accepted.{Accepted}
use Rattle.meaning.proofs.Typed.{Well, well, ins-few, outs-few}
use Rattle.meaning.proofs.Rows.{rows}
use Rattle.terms.specs.Judged.{Passing}
use Rattle.terms.proofs.Facts.{widest}
use Rattle.terms.proofs.Parts.{Parts, parts as parts_of}
use Rattle.compiler.specs.Building.{ForkReady, fork_size}
use Rattle.compiler.proofs.Typing.{leaf-few, par-shares, Branches, ite-branches, rec-branches}

-- Its terms are well typed, and a kind says what its term is made of.
module _ {w : ℕ} {t : List ℕ} (judged : Accepted w t) where
  module _ (k : ℕ) (there : k < count t) where
    typed : Well w (tree t k)
    typed = well w t judged k there

    of-kind : (K : Kind) → kind_named (kind_of t k) ≡ K → Parts t k K
    of-kind K e = parts_of t k K (sym e) (judged.fits k there)

    -- The tree of a Seq or a Par, of the terms f and g.
    module _ {f g : ℕ} (ef : f ≡ number_of t k 1) (eg : g ≡ number_of t k 2) where
      pub seq-tree : kind_named (kind_of t k) ≡ kind.Seq → (tree t k ≡ seq (tree t f) (tree t g)) × Well w (seq (tree t f) (tree t g))
      seq-tree e = let p = of-kind kind.Seq e in rw (ef, eg) (p.2, rw p.2 at typed)

      pub par-tree : kind_named (kind_of t k) ≡ kind.Par → (tree t k ≡ par (tree t f) (tree t g)) × Well w (par (tree t f) (tree t g))
      par-tree e = let p = of-kind kind.Par e in rw (ef, eg) (p.2, rw p.2 at typed)

    -- Of an Ite and a Rec.
    pub ite-tree : kind_named (kind_of t k) ≡ kind.Ite →
        (tree t k ≡ ite (operand_tree t k 1) (operand_tree t k 2) (operand_tree t k 3)) ×
        Well w (ite (operand_tree t k 1) (operand_tree t k 2) (operand_tree t k 3))
    ite-tree e = let p = of-kind kind.Ite e in (p.3, rw p.3 at typed)

    pub rec-tree : kind_named (kind_of t k) ≡ kind.Rec →
        (tree t k ≡ rec (operand_tree t k 1) (operand_tree t k 2) (operand_tree t k 3)) ×
        Well w (rec (operand_tree t k 1) (operand_tree t k 2) (operand_tree t k 3))
    rec-tree e = let p = of-kind kind.Rec e in (p.3, rw p.3 at typed)

    -- Of a leaf, which is what no other kind is.
    pub leaf-tree : {K : Kind} → K ≡ kind_named (kind_of t k) → (K ≡ kind.Seq → ⊥) → (K ≡ kind.Par → ⊥) → (K ≡ kind.Ite → ⊥) →
        (K ≡ kind.Rec → ⊥) → (tree t k ≡ leaf (kind_of t k) (number_of t k 1) (number_of t k 2)) ×
        Well w (leaf (kind_of t k) (number_of t k 1) (number_of t k 2))
    leaf-tree n a b c d =
        let r =
        (rows w t k (judged.fits k there)).on_leaf (λ x. a (n ∙ ap kind_named x)) (λ x. b (n ∙ ap kind_named x))
        (λ x. c (n ∙ ap kind_named x)) (λ x. d (n ∙ ap kind_named x)) in
        (r.decoded, rw r.decoded at typed)

    -- The operands of a fork.
    pub fork-tree : {known : List Known} {net : List ℕ} {p e f g : ℕ} → ForkReady t known k net p → e ≡ number_of t k 1 →
        f ≡ number_of t k 2 → g ≡ number_of t k 3 → Branches w (tree t e) (tree t f) (tree t g)
    fork-tree r ee ef eg = rw (ee, ef, eg) record {
      test = well w t judged _ (omega (arith, r.lower));
      yes = well w t judged _ (omega (arith, r.lower));
      no = well w t judged _ (omega (arith, r.lower));
      same_f = r.same.0;
      same_g = r.same.1;
    }

-- What the search is given: all that it reads of a width is that some width accepts the table.
module _ (t : List ℕ) (somewhere : ∥ Passing t ∥₁) where
  abbrev judged : Accepted 32 t
  judged = widest t somewhere

  module _ (k : ℕ) (there : k < count t) where
    -- Kind by kind, the size by the operands', which are lower terms, how few words there are, and which operands take the same.
    pub seq-parts : kind_named (kind_of t k) ≡ kind.Seq → (size (tree t k) ≡ size (operand_tree t k 1) + size (operand_tree t k 2) + 4) ×
        (number_of t k 1 < k) × (number_of t k 2 < k)
    seq-parts e = let p = of-kind judged k there kind.Seq e in (ap size p.2, p.0, p.1)

    pub par-parts : kind_named (kind_of t k) ≡ kind.Par → (size (tree t k) ≡ size (operand_tree t k 1) + size (operand_tree t k 2) + 1) ×
        (number_of t k 1 < k) × (number_of t k 2 < k) × (outs (operand_tree t k 1) + outs (operand_tree t k 2) ≤ 16)
    par-parts e = let p = of-kind judged k there kind.Par e in (ap size p.2, p.0, p.1, (par-shares (rw p.2 at (typed judged k there))).3)

    pub ite-parts : kind_named (kind_of t k) ≡ kind.Ite → (size (tree t k) ≡ 2 * ins (tree t k) + fork_size t k + 2 + outs (tree t k)) ×
        (ins (tree t k) ≤ 16) × (outs (tree t k) ≤ 16) × (number_of t k 1 < k) × (number_of t k 2 < k) × (number_of t k 3 < k) ×
        (ins (operand_tree t k 1) ≡ ins (operand_tree t k 2)) × (ins (operand_tree t k 1) ≡ ins (operand_tree t k 3))
    ite-parts e =
        let p = of-kind judged k there kind.Ite e in
        let b = ite-branches (ite-tree judged k there e).1 in (
          omega (arith, ap size p.3, ap ins p.3, ap outs p.3),
          (ins-few 32 t judged k there).1,
          (outs-few 32 t judged k there).1,
          p.0,
          p.1,
          p.2,
          b.same_f,
          b.same_g,
        )

    pub rec-parts : kind_named (kind_of t k) ≡ kind.Rec → (size (tree t k) ≡ 4 * ins (tree t k) + fork_size t k + 9) ×
        (ins (tree t k) ≤ 16) × (number_of t k 1 < k) × (number_of t k 2 < k) × (number_of t k 3 < k) ×
        (ins (operand_tree t k 1) ≡ ins (operand_tree t k 2)) × (ins (operand_tree t k 1) ≡ ins (operand_tree t k 3))
    rec-parts e =
        let p = of-kind judged k there kind.Rec e in
        let b = rec-branches (rec-tree judged k there e).1 in
        (omega (arith, ap size p.3, ap ins p.3), (ins-few 32 t judged k there).1, p.0, p.1, p.2, b.same_f, b.same_g)

    pub leaf-parts : (kind_named (kind_of t k) ≡ kind.Seq → ⊥) → (kind_named (kind_of t k) ≡ kind.Par → ⊥) →
        (kind_named (kind_of t k) ≡ kind.Ite → ⊥) → (kind_named (kind_of t k) ≡ kind.Rec → ⊥) →
        (size (tree t k) ≡ 4) × (kind_of t k < 13 → (kind_of t k ≡ 9 → ⊥) → number_of t k 2 < 16)
    leaf-parts a b c d = let z = leaf-tree judged k there refl a b c d in (ap size z.0, leaf-few z.1)

  -- The main term, and the cells of its circuit.
  pub main-few : (k : ℕ) → k ≡ last_of t →
      (ins (tree t k) ≤ 16) × (whole_size (tree t k) ≤ 4096) × (whole_size (main_of t) ≡ whole_size (tree t k))
  main-few k e = let s = judged.some in rw e ((ins-few 32 t judged (last_of t) (omega arith)).1, judged.small, refl)

  pub ruleset parts = (seq-parts, par-parts, ite-parts, rec-parts, leaf-parts, main-few, length-take-le)
