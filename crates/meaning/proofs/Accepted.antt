-- Law: checks 3 to 8 pass exactly where a row of the table of kinds holds, and the verdict accepts exactly where
-- every row, the width, the length and the size do. Assumes nothing.
use Prim.Native.Nat.{ℕ, zero, suc, ◌+◌, ◌*◌, ◌%◌, ◌^◌, ◌≤◌, ◌<◌}
use mathlib.Core.Path.{◌≡◌}
use mathlib.Core.Bool.{true}
use mathlib.Core.List.{List}
use mathlib.Core.Logic.{inl, inr}
use native.Mathlib.Omega.{arith}
use lib.Dec.{eqb, leb}
use lib.ListN.{length}
use borrow.Author.Tests.{ltb-true, eqb-true, leb-true, lt-leb, ne_eqb}
use Rattle.meaning.specs.Choices.{or}
use Rattle.meaning.specs.Terms.{number_of, kind_of, count, main_of}
use Rattle.meaning.specs.Refusals.{passed as no_refusal}
use Rattle.meaning.specs.Counts.{ins, outs, whole_size}
use Rattle.meaning.specs.Checks.{known_kind, operands_of, used_of, unused_zero, values_fit, operands_below, operand_tree, test_fits}
use Rattle.meaning.specs.Checks.{counts_fit, par_small, refusal_at, size_verdict, verdict_of}
use Rattle.meaning.proofs.Tests.{clash, split, both, either}
use Rattle.meaning.proofs.Verdicts.{went_on, none-refused}

-- Term k passes checks 3 to 8: a row of the table of kinds each.
pub data Fits (w : ℕ) (t : List ℕ) (k : ℕ) : Type 0 where
  seq-fits : kind_of t k ≡ 1 → number_of t k 3 ≡ 0 → number_of t k 1 < k → number_of t k 2 < k →
      outs (operand_tree t k 1) ≡ ins (operand_tree t k 2) → Fits w t k
  par-fits : kind_of t k ≡ 2 → number_of t k 3 ≡ 0 → number_of t k 1 < k → number_of t k 2 < k →
      ins (operand_tree t k 1) ≡ ins (operand_tree t k 2) →
      outs (operand_tree t k 1) + outs (operand_tree t k 2) ≤ 16 → Fits w t k
  ite-fits : kind_of t k ≡ 3 → number_of t k 1 < k → number_of t k 2 < k → number_of t k 3 < k →
      ins (operand_tree t k 1) ≡ ins (operand_tree t k 2) → ins (operand_tree t k 1) ≡ ins (operand_tree t k 3) →
      outs (operand_tree t k 1) ≡ 1 → outs (operand_tree t k 2) ≡ outs (operand_tree t k 3) → Fits w t k
  rec-fits : kind_of t k ≡ 4 → number_of t k 1 < k → number_of t k 2 < k → number_of t k 3 < k →
      ins (operand_tree t k 1) ≡ ins (operand_tree t k 2) → ins (operand_tree t k 1) ≡ ins (operand_tree t k 3) →
      outs (operand_tree t k 1) ≡ 1 → outs (operand_tree t k 3) ≡ ins (operand_tree t k 1) → Fits w t k
  const_fits : kind_of t k ≡ 9 → number_of t k 3 ≡ 0 → 1 ≤ number_of t k 1 → number_of t k 1 ≤ 16 →
      number_of t k 2 < 2 ^ w → Fits w t k
  field_fits : kind_of t k ≡ 12 → number_of t k 3 ≡ 0 → 1 ≤ number_of t k 1 → number_of t k 1 ≤ 16 →
      number_of t k 2 < number_of t k 1 → Fits w t k
  op_fits : 13 ≤ kind_of t k → kind_of t k ≤ 22 → number_of t k 1 ≡ 0 → number_of t k 2 ≡ 0 → number_of t k 3 ≡ 0 →
      Fits w t k

-- The whole table: the width, 1 to 256 terms of four numbers, every term, and the main term's cells.
pub record Accepted (w : ℕ) (t : List ℕ) : Type 0 where
  pub wide : (1 ≤ w) × (w ≤ 32)
  pub four : length t ≡ count t * 4
  pub some : (1 ≤ count t) × (count t ≤ 256)
  pub fits : (k : ℕ) → k < count t → Fits w t k
  pub small : whole_size (main_of t) ≤ 4096

-- A known kind is one of the table's rows.
four-kinds : {P : Type 0} (k : ℕ) → 1 ≤ k → k ≤ 4 → (k ≡ 1 → P) → (k ≡ 2 → P) → (k ≡ 3 → P) → (k ≡ 4 → P) → P
four-kinds k l u s p i r = elim (split k 2) [
  | inl a ↦ s (omega arith)
  | inr a ↦
      elim (split k 3) [
        | inl b ↦ p (omega arith)
        | inr b ↦ elim (split k 4) [ inl c ↦ i (omega arith) | inr c ↦ r (omega arith) ]
      ]
]

by_kind : {P : Type 0} (k : ℕ) → known_kind k ≡ true → (k ≡ 1 → P) → (k ≡ 2 → P) → (k ≡ 3 → P) → (k ≡ 4 → P) →
    (k ≡ 9 → P) → (k ≡ 12 → P) → (13 ≤ k → k ≤ 22 → P) → P
by_kind k h s p i r c f o =
    either _ _ h (λ a. let q = both _ _ a in four-kinds k (leb-true _ _ q.0) (leb-true _ _ q.1) s p i r) (λ a.
    either _ _ a (λ e. c (eqb-true _ _ e)) (λ b.
    let q = both _ _ b in
    let l : 12 ≤ k = leb-true _ _ q.0 in
    let u : k ≤ 22 = leb-true _ _ q.1 in
    elim (split k 13) [ inl d ↦ f (omega arith) | inr d ↦ o d u ]))

-- The six tests of a term.
record Passed (w : ℕ) (t : List ℕ) (k : ℕ) : Type 0 where
  known : known_kind (kind_of t k) ≡ true
  unused : unused_zero t k ≡ true
  values : values_fit w t k ≡ true
  below : operands_below t k (operands_of (kind_of t k)) ≡ true
  counts : counts_fit t k ≡ true
  few : par_small t k ≡ true

passed : (w : ℕ) (t : List ℕ) (k : ℕ) → refusal_at w t k ≡ no_refusal → Passed w t k
unfolding refusal_at
passed w t k h =
    let a = went_on _ _ _ h in
    let b = went_on _ _ _ a.1 in
    let c = went_on _ _ _ b.1 in
    let d = went_on _ _ _ c.1 in
    let e = went_on _ _ _ d.1 in
    let f = went_on _ _ _ e.1 in
    record { known = a.0; unused = b.0; values = c.0; below = d.0; counts = e.0; few = f.0 }

-- An unused number is 0; an operand is below its term.
unused-zero : (j u x : ℕ) → or (leb j u) (eqb x 0) ≡ true → u < j → x ≡ 0
unused-zero j u x h l = either _ _ h (λ a. clash _ a (lt-leb j u l)) (λ a. eqb-true _ _ a)

pub operand_below : (t : List ℕ) (k n : ℕ) → operands_below t k n ≡ true → (j : ℕ) → 1 ≤ j → j ≤ n → number_of t k j < k
unfolding operands_below
operand_below t k zero h j l u = absurd (omega arith)
operand_below t k (suc n) h j l u =
    let p = both _ _ h in
    elim (split j (suc n)) [
      | inl a ↦ operand_below t k n p.0 j l (omega arith)
      | inr a ↦ (let q : j ≡ suc n = omega arith in rw q (ltb-true _ _ p.1))
    ]

-- Row by row, from the six tests.
module _ (w : ℕ) (t : List ℕ) (k : ℕ) (p : Passed w t k) where
  spare : (n : ℕ) → used_of (kind_of t k) ≡ n → (n < 1 → number_of t k 1 ≡ 0) × (n < 2 → number_of t k 2 ≡ 0) ×
      (n < 3 → number_of t k 3 ≡ 0)
  spare n e =
      let a = both _ _ p.unused in
      let b = both _ _ a.1 in (
        (λ l. unused-zero 1 (used_of (kind_of t k)) _ a.0 (rw e l)),
        (λ l. unused-zero 2 (used_of (kind_of t k)) _ b.0 (rw e l)),
        (λ l. unused-zero 3 (used_of (kind_of t k)) _ b.1 (rw e l)),
      )

  operand : (n : ℕ) → operands_of (kind_of t k) ≡ n → (j : ℕ) → 1 ≤ j → j ≤ n → number_of t k j < k
  operand n e j l u = operand_below t k _ p.below j l (omega arith)

  on_seq : kind_of t k ≡ 1 → Fits w t k
  unfolding operands_of used_of counts_fit
  on_seq e =
      let u : used_of (kind_of t k) ≡ 2 = rw e in
      let o : operands_of (kind_of t k) ≡ 2 = rw e in
      seq-fits e ((spare 2 u).2 (omega arith)) (operand 2 o 1 (omega arith) (omega arith))
      (operand 2 o 2 (omega arith) (omega arith)) (eqb-true _ _ (rw e at p.counts))

  on_par : kind_of t k ≡ 2 → Fits w t k
  unfolding operands_of used_of counts_fit par_small
  on_par e =
      let u : used_of (kind_of t k) ≡ 2 = rw e in
      let o : operands_of (kind_of t k) ≡ 2 = rw e in
      par-fits e ((spare 2 u).2 (omega arith)) (operand 2 o 1 (omega arith) (omega arith))
      (operand 2 o 2 (omega arith) (omega arith)) (eqb-true _ _ (rw e at p.counts)) (leb-true _ _ (rw e at p.few))

  tested : test_fits (operand_tree t k 1) (operand_tree t k 2) (operand_tree t k 3) ≡ true →
      (ins (operand_tree t k 1) ≡ ins (operand_tree t k 2)) × (ins (operand_tree t k 1) ≡ ins (operand_tree t k 3)) ×
      (outs (operand_tree t k 1) ≡ 1)
  tested h =
      let a = both _ _ h in
      let b = both _ _ a.1 in
      (eqb-true _ _ a.0, eqb-true _ _ b.0, eqb-true _ _ b.1)

  on_ite : kind_of t k ≡ 3 → Fits w t k
  unfolding operands_of counts_fit
  on_ite e =
      let o : operands_of (kind_of t k) ≡ 3 = rw e in
      let c = both _ _ (rw e at p.counts) in
      let s = tested c.0 in
      ite-fits e (operand 3 o 1 (omega arith) (omega arith)) (operand 3 o 2 (omega arith) (omega arith))
      (operand 3 o 3 (omega arith) (omega arith)) s.0 s.1 s.2 (eqb-true _ _ c.1)

  on_rec : kind_of t k ≡ 4 → Fits w t k
  unfolding operands_of counts_fit
  on_rec e =
      let o : operands_of (kind_of t k) ≡ 3 = rw e in
      let c = both _ _ (rw e at p.counts) in
      let s = tested c.0 in
      rec-fits e (operand 3 o 1 (omega arith) (omega arith)) (operand 3 o 2 (omega arith) (omega arith))
      (operand 3 o 3 (omega arith) (omega arith)) s.0 s.1 s.2 (eqb-true _ _ c.1)

  on-const : kind_of t k ≡ 9 → Fits w t k
  unfolding used_of
  on-const e =
      let u : used_of (kind_of t k) ≡ 2 = rw e in
      let z : number_of t k 3 ≡ 0 = (spare 2 u).2 (omega arith) in
      let v = both _ _ (rw e at p.values) in
      let m = both _ _ v.0 in
      const_fits e z (leb-true _ _ m.0) (leb-true _ _ m.1) (ltb-true _ _ v.1)

  on-field : kind_of t k ≡ 12 → Fits w t k
  unfolding used_of
  on-field e =
      let u : used_of (kind_of t k) ≡ 2 = rw e in
      let z : number_of t k 3 ≡ 0 = (spare 2 u).2 (omega arith) in
      let v = both _ _ (rw e at p.values) in
      let m = both _ _ v.0 in
      field_fits e z (leb-true _ _ m.0) (leb-true _ _ m.1) (ltb-true _ _ v.1)

  on_op : 13 ≤ kind_of t k → kind_of t k ≤ 22 → Fits w t k
  unfolding operands_of used_of
  on_op l h =
      let u : used_of (kind_of t k) ≡ 0 =
      rw (
        ne_eqb (kind_of t k) 9 (λ q. omega arith),
        ne_eqb (kind_of t k) 12 (λ q. omega arith),
        ne_eqb (kind_of t k) 1 (λ q. omega arith),
        ne_eqb (kind_of t k) 2 (λ q. omega arith),
        ne_eqb (kind_of t k) 3 (λ q. omega arith),
        ne_eqb (kind_of t k) 4 (λ q. omega arith),
      ) in
      let z = spare 0 u in
      op_fits l h (z.0 (omega arith)) (z.1 (omega arith)) (z.2 (omega arith))

pub fits : (w : ℕ) (t : List ℕ) (k : ℕ) → refusal_at w t k ≡ no_refusal → Fits w t k
fits w t k h =
    let p : Passed w t k = passed w t k h in
    by_kind (kind_of t k) p.known (on_seq w t k p) (on_par w t k p) (on_ite w t k p) (on_rec w t k p) (on-const w t k p)
    (on-field w t k p) (on_op w t k p)

pub accepted : (w : ℕ) (t : List ℕ) → verdict_of w t ≡ no_refusal → Accepted w t
unfolding verdict_of
accepted w t h =
    let a = went_on _ _ _ h in
    let b = went_on _ _ _ a.1 in
    let c = none-refused (refusal_at w t) (count t) 0 (size_verdict t) b.1 in
    let width = both _ _ a.0 in
    let long = both _ _ b.0 in
    let whole = both _ _ long.1 in
    let l : 1 ≤ length t = leb-true _ _ long.0 in
    let m : length t % 4 ≡ 0 = eqb-true _ _ whole.0 in
    let u : length t ≤ 1024 = leb-true _ _ whole.1 in
    record {
      wide = (leb-true _ _ width.0, leb-true _ _ width.1);
      four = omega arith;
      some = (omega arith, omega arith);
      fits = λ k i. fits w t k (c.0 k (omega arith) (omega arith));
      small = leb-true _ _ (went_on _ _ _ c.1).0;
    }
