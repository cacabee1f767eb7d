-- Law: what a combinator makes of what is known of its operands is what the definitions say of its tree.
-- Cited by the proofs of `readings`. Assumes nothing.
use Prim.Native.Nat.{ℕ, ◌+◌, ◌*◌, ◌≤◌, ◌<◌}
use mathlib.Core.Path.{◌≡◌, sym, ap}
use mathlib.Core.Bool.{true}
use mathlib.Core.List.{List}
use native.Mathlib.Nat.{min-le_right}
use native.Mathlib.Omega.{arith}
use borrow.Author.Tests.{ne_eqb}
use Rattle.std.specs.Prelude.{Ok}
use Rattle.meaning.specs.declared.Kind.TheVariants as kind
use Rattle.meaning.specs.Kinds.{kind_named}
use Rattle.meaning.specs.Terms.{number_of, kind_of, Term, leaf}
use Rattle.meaning.specs.Counts.{ins, outs, size, capped}
use Rattle.meaning.specs.Checks.{operands_of, operands_below, operand_tree, counts_fit, par_small}
use Rattle.meaning.specs.Answers.{known_of}
use Rattle.meaning.proofs.Decoded.{tree-seq, tree-par, tree-ite, tree-rec, tree-leaf}
use Rattle.meaning.proofs.Accepted.{operand_below}
use Rattle.meaning.proofs.Naming.{named}
use Rattle.shapes.specs.Shapes.{Small, seq_shape, par_shape, ite_shape, rec_shape}
use Rattle.tables.specs.Readings.{shape_of}
use Rattle.kinds.proofs.Joining.{few_operands, seq_operands, par_operands, ite_operands, rec_operands}

-- A sum of capped sizes is capped as the sum of the sizes.
capped-two : (a b c : ℕ) → capped (capped a + capped b + c) ≡ capped (a + b + c)
capped-two a b c = omega arith

capped-three : (i a b c o : ℕ) → capped (i + capped a + capped b + capped c + o) ≡ capped (i + a + b + c + o)
capped-three i a b c o = omega arith

capped-four : (i a b c n o : ℕ) → capped (i + capped a + capped b + capped c + n + o) ≡ capped (i + a + b + c + n + o)
capped-four i a b c n o = omega arith

pub known_small : (T : Term) → ins T ≤ 16 → outs T ≤ 16 → Small (known_of T)
known_small T a b = record { few_ins = a; few_outs = b; few_cells = min-le_right _ _ }

-- Term k, whose operands are lower terms.
module _ (t : List ℕ) (k : ℕ) (below : operands_below t k (operands_of (kind_of t k)) ≡ true) where
  pub operand_low : (j : ℕ) → 1 ≤ j → j ≤ operands_of (kind_of t k) → number_of t k j < k
  operand_low j l u = operand_below t k (operands_of (kind_of t k)) below j l u

  pub seq_found : kind.Seq ≡ kind_named (kind_of t k) →
      shape_of t k ≡ seq_shape (known_of (operand_tree t k 1)) (known_of (operand_tree t k 2))
  unfolding seq_shape shape_of counts_fit par_small
  seq_found h =
      let e : kind_of t k ≡ 1 = named _ _ (sym h) in
      let n = seq_operands (kind_of t k) h in
      rw (
        e,
        tree-seq t k e (operand_low 1 (omega arith) (omega arith)) (operand_low 2 (omega arith) (omega arith)),
        capped-two (size (operand_tree t k 1)) (size (operand_tree t k 2)) 4,
      )

  pub par_found : kind.Par ≡ kind_named (kind_of t k) →
      shape_of t k ≡ par_shape (known_of (operand_tree t k 1)) (known_of (operand_tree t k 2))
  unfolding par_shape shape_of counts_fit par_small
  par_found h =
      let e : kind_of t k ≡ 2 = named _ _ (sym h) in
      let n = par_operands (kind_of t k) h in
      rw (
        e,
        tree-par t k e (operand_low 1 (omega arith) (omega arith)) (operand_low 2 (omega arith) (omega arith)),
        capped-two (size (operand_tree t k 1)) (size (operand_tree t k 2)) 1,
      )

  pub ite_found : kind.Ite ≡ kind_named (kind_of t k) →
      shape_of t k ≡ ite_shape (known_of (operand_tree t k 1)) (known_of (operand_tree t k 2)) (known_of (operand_tree t k 3))
  unfolding ite_shape shape_of counts_fit par_small
  ite_found h =
      let e : kind_of t k ≡ 3 = named _ _ (sym h) in
      let n = ite_operands (kind_of t k) h in
      let E = operand_tree t k 1 in
      let F = operand_tree t k 2 in
      let G = operand_tree t k 3 in
      rw (
        e,
        tree-ite t k e (operand_low 1 (omega arith) (omega arith)) (operand_low 2 (omega arith) (omega arith))
            (operand_low 3 (omega arith) (omega arith)),
        capped-four (2 * ins E) (size E) (size F) (size G) 9 (outs F),
      )

  pub rec_found : kind.Rec ≡ kind_named (kind_of t k) →
      shape_of t k ≡ rec_shape (known_of (operand_tree t k 1)) (known_of (operand_tree t k 2)) (known_of (operand_tree t k 3))
  unfolding rec_shape shape_of counts_fit par_small
  rec_found h =
      let e : kind_of t k ≡ 4 = named _ _ (sym h) in
      let n = rec_operands (kind_of t k) h in
      let E = operand_tree t k 1 in
      let F = operand_tree t k 2 in
      let G = operand_tree t k 3 in
      rw (
        e,
        tree-rec t k e (operand_low 1 (omega arith) (omega arith)) (operand_low 2 (omega arith) (omega arith))
            (operand_low 3 (omega arith) (omega arith)),
        capped-three (4 * ins E) (size E) (size F) (size G) 16,
      )

-- Every other kind is a leaf.
pub leaf_found : (t : List ℕ) (k : ℕ) → (kind.Seq ≡ kind_named (kind_of t k) → ⊥) →
    (kind.Par ≡ kind_named (kind_of t k) → ⊥) → (kind.Ite ≡ kind_named (kind_of t k) → ⊥) →
    (kind.Rec ≡ kind_named (kind_of t k) → ⊥) → shape_of t k ≡ Ok (known_of (leaf (kind_of t k) (number_of t k 1) 0))
unfolding shape_of counts_fit par_small
leaf_found t k a b c d =
    let p : kind_of t k ≡ 1 → ⊥ = λ e. a (sym (ap kind_named e)) in
    let q : kind_of t k ≡ 2 → ⊥ = λ e. b (sym (ap kind_named e)) in
    let r : kind_of t k ≡ 3 → ⊥ = λ e. c (sym (ap kind_named e)) in
    let s : kind_of t k ≡ 4 → ⊥ = λ e. d (sym (ap kind_named e)) in
    rw (tree-leaf t k p q r s, ne_eqb (kind_of t k) 1 p, ne_eqb (kind_of t k) 2 q, ne_eqb (kind_of t k) 3 r, ne_eqb (kind_of t k) 4 s)

-- Kind by kind, and what reading an operand asks.
pub ruleset found_by_kind =
    (seq_found, par_found, ite_found, rec_found, leaf_found, seq_operands, par_operands, ite_operands, rec_operands)

pub ruleset low_operands = (operand_low, few_operands)
