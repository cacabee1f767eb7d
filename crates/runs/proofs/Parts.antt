-- Law: the parts of a term of an accepted table, by the numbers that the code has read. Assumes nothing.
use Rattle.std.proofs.Common.{ℕ, ◌≤◌, ◌<◌, ◌≡◌, refl, sym, ap, ◌∙◌, List, arith}
use Rattle.meaning.specs.declared.Kind.{Kind}
use Rattle.meaning.specs.declared.Kind.TheVariants as kind
use Rattle.meaning.specs.Words.{Words}
use Rattle.meaning.specs.Refusals.{passed}
use Rattle.meaning.specs.Terms.{number_of, kind_of, count, seq, par, ite, rec, tree}
use Rattle.meaning.specs.Kinds.{kind_named}
use Rattle.meaning.specs.Counts.{outs}
use Rattle.meaning.specs.Checks.{verdict_of}
use Rattle.meaning.specs.Cycles.{leaf_word, leaf_run, evaluate}
use Rattle.meaning.proofs.Accepted.{accepted}
use Rattle.meaning.proofs.Rows.{LeafRow, rows}
use Rattle.meaning.proofs.Typed.{Well, well, outs-few}
use Rattle.terms.proofs.Parts.{Parts, parts}
use Rattle.leaves.specs.Results.{run_from}
use Rattle.runs.specs.Runs.{Startable, term_from}

-- By its kind: lower terms, and the tree over theirs; and a term gives few words.
module _ (w : ℕ) (t : List ℕ) (passes : verdict_of w t ≡ passed) (k : ℕ) (there : k < count t) where
  of-kind : (K : Kind) (n : ℕ) → K ≡ kind_named n → kind_of t k ≡ n → Parts t k K
  of-kind K n e h = parts t k K (e ∙ sym (ap kind_named h)) ((accepted w t passes).fits k there)

  pub seq_parts : kind_of t k ≡ 1 → Parts t k kind.Seq
  seq_parts = of-kind kind.Seq 1 refl

  pub par_parts : kind_of t k ≡ 2 → Parts t k kind.Par
  par_parts = of-kind kind.Par 2 refl

  pub ite_parts : kind_of t k ≡ 3 → Parts t k kind.Ite
  ite_parts = of-kind kind.Ite 3 refl

  pub rec_parts : kind_of t k ≡ 4 → Parts t k kind.Rec
  rec_parts = of-kind kind.Rec 4 refl

  pub few : outs (tree t k) ≤ 16
  few = (outs-few w t (accepted w t passes) k there).1

pub ruleset by_kind = (seq_parts, par_parts, ite_parts, rec_parts, few)

-- What the numbers of a term make of it, by its kind.
module _ {w : ℕ} {t : List ℕ} {k start limit : ℕ} (s : Startable w t k start limit) where
  pub typed : Well w (tree t k)
  typed = well w t (accepted w t s.accepted) k s.there

  module _ {f g : ℕ} (p : f ≡ number_of t k 1) (q : g ≡ number_of t k 2) where
    pub seq-tree : kind_of t k ≡ 1 → tree t k ≡ seq (tree t f) (tree t g)
    seq-tree e = rw (p, q) (seq_parts w t s.accepted k s.there e).2

    pub par-tree : kind_of t k ≡ 2 → tree t k ≡ par (tree t f) (tree t g)
    par-tree e = rw (p, q) (par_parts w t s.accepted k s.there e).2

  module _ {e f g : ℕ} (o : e ≡ number_of t k 1) (p : f ≡ number_of t k 2) (q : g ≡ number_of t k 3) where
    pub ite-tree : kind_of t k ≡ 3 → tree t k ≡ ite (tree t e) (tree t f) (tree t g)
    ite-tree n = rw (o, p, q) (ite_parts w t s.accepted k s.there n).3

    pub rec-tree : kind_of t k ≡ 4 → tree t k ≡ rec (tree t e) (tree t f) (tree t g)
    rec-tree n = rw (o, p, q) (rec_parts w t s.accepted k s.there n).3

  pub leaf-row : {K : Kind} → K ≡ kind_named (kind_of t k) → (K ≡ kind.Seq → ⊥) → (K ≡ kind.Par → ⊥) → (K ≡ kind.Ite → ⊥) →
      (K ≡ kind.Rec → ⊥) → LeafRow w t k
  leaf-row n a b c d =
      let row = rows w t k ((accepted w t s.accepted).fits k s.there) in
      row.on_leaf (λ e. a (n ∙ ap kind_named e)) (λ e. b (n ∙ ap kind_named e)) (λ e. c (n ∙ ap kind_named e))
      (λ e. d (n ∙ ap kind_named e))

-- A leaf, of which the code has read the kind and b: a Field names one of 16 words, and the tree is the leaf of these numbers.
module _ {w : ℕ} {t : List ℕ} {k : ℕ} (row : LeafRow w t k) {n b : ℕ} (p : n ≡ kind_of t k) (q : b ≡ number_of t k 2) where
  pub leaf-small : n < 13 → (n ≡ 9 → ⊥) → b < 16
  leaf-small h e =
      let f = row.field (row.between (rw p at h) (λ z. e (p ∙ z))) in
      omega (arith, f.1, f.2)

  pub leaf-from : {v : ℕ} → v ≡ w → (start limit : ℕ) (x : Words) →
      term_from w t k start limit x ≡ run_from (leaf_run (leaf_word v n b)) start limit x
  unfolding evaluate
  leaf-from e start limit x = rw (p, q, e, row.decoded)
