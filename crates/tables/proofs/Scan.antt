-- Law: the scan of a table from term k on, with what is known of the terms below: where it ends, refuses and goes on.
-- Cited by the proofs of `judge` and `scanned`. Assumes nothing.
use Prim.Native.Nat.{ℕ, zero, suc, ◌+◌, ◌≤◌, ◌<◌}
use mathlib.Core.Path.{◌≡◌, refl, ap}
use mathlib.Core.Bool.{Bool, true, false}
use mathlib.Core.List.{List}
use mathlib.Core.Logic.{inl, inr}
use native.Mathlib.Omega.{arith}
use lib.Dec.{ltb}
use lib.ListN.{length, set, replicate}
use borrow.Author.Tests.{le-ltb}
use Rattle.std.specs.Prelude.{Result, Ok, Err}
use Rattle.meaning.specs.declared.Cause.{Cause}
use Rattle.meaning.specs.declared.Cause.TheVariants as cause
use Rattle.meaning.specs.declared.Refusal.{Refusal}
use Rattle.meaning.specs.declared.Known.{Known}
use Rattle.meaning.specs.Choices.{pick, listed}
use Rattle.meaning.specs.Refusals.{Check, Verdict, passed, refused, on_verdict}
use Rattle.meaning.specs.Terms.{number_of, kind_of, count, Term, leaf, tree}
use Rattle.meaning.specs.Counts.{ins, outs}
use Rattle.meaning.specs.Checks.{known_kind, unused_zero, values_fit, operands_of, operands_below, counts_fit, par_small}
use Rattle.meaning.specs.Checks.{refusal_at, first_refusal}
use Rattle.meaning.specs.Answers.{known_of, nothing_known}
use Rattle.meaning.proofs.Tests.{split, by-test}
use Rattle.meaning.proofs.Verdicts.{scan-passes}
use Rattle.meaning.proofs.Decoded.{tree-seq, tree-par, tree-ite, tree-rec, tree-leaf-from}
use Rattle.meaning.proofs.Accepted.{Fits, seq-fits, par-fits, ite-fits, rec-fits, const_fits, field_fits, op_fits, fits}
use Rattle.kinds.proofs.Joining.{seq_operands, par_operands, ite_operands, rec_operands}
use Rattle.tables.specs.Readings.{early_at, lower_operands_at, shape_of, Ready}
use Rattle.tables.specs.Scans.{Scanned}
use Rattle.tables.proofs.Combined.{known_small, leaf_found}
use Rattle.tables.proofs.Filled.{filled, filled_at, filled_next}

-- What a shape says of the check.
abbrev shape_check : Result Known Cause → Check
shape_check (Ok known) = passed
shape_check (Err c) = Err c

-- The checks of term k, from what the code finds of it, in their order.
steps : (a b c d e f : Bool) (known : Known) →
    pick a (pick b (pick c (pick d (pick e (pick f passed (Err cause.ParOutputs)) (Err cause.WordCounts)) (Err cause.Operand))
    (Err cause.TermValue)) (Err cause.UnusedNumber)) (Err cause.TermKind)
    ≡ on_verdict (pick a (pick b (pick c passed (Err cause.TermValue)) (Err cause.UnusedNumber)) (Err cause.TermKind))
    (on_verdict (pick d passed (Err cause.Operand))
    (shape_check (pick e (pick f (Ok known) (Err cause.ParOutputs)) (Err cause.WordCounts))) Err) Err
steps true true true true true true known = refl
steps true true true true true false known = refl
steps true true true true false f known = refl
steps true true true false e f known = refl
steps true true false d e f known = refl
steps true false c d e f known = refl
steps false b c d e f known = refl

pub judged_by : (w : ℕ) (t : List ℕ) (k : ℕ) →
    refusal_at w t k ≡ on_verdict (early_at w t k) (on_verdict (lower_operands_at t k) (shape_check (shape_of t k)) Err) Err
unfolding refusal_at shape_of
judged_by w t k =
    steps (known_kind (kind_of t k)) (unused_zero t k) (values_fit w t k) (operands_below t k (operands_of (kind_of t k)))
    (counts_fit t k) (par_small t k) (known_of (tree t k))

-- A shape that is given is that of the tree.
given : (e f : Bool) (known g : Known) →
    ◌≡◌ {A = Result Known Cause} (pick e (pick f (Ok known) (Err cause.ParOutputs)) (Err cause.WordCounts)) (Ok g) → g ≡ known
given true true known g h = cc
given true false known g h = let z : ◌≡◌ {A = ℕ} 0 1 = cc in absurd (omega arith)
given false f known g h = let z : ◌≡◌ {A = ℕ} 0 1 = cc in absurd (omega arith)

pub shape_given : (t : List ℕ) (k : ℕ) (g : Known) → shape_of t k ≡ Ok g → g ≡ known_of (tree t k)
unfolding shape_of
shape_given t k g h = given (counts_fit t k) (par_small t k) (known_of (tree t k)) g h

-- A term that names no others is a leaf, and passes 6 to 8.
leaf_shape : (t : List ℕ) (k : ℕ) → operands_of (kind_of t k) ≡ 0 →
    shape_of t k ≡ Ok (known_of (leaf (kind_of t k) (number_of t k 1) 0))
leaf_shape t k none =
    leaf_found t k (λ h. let n = seq_operands (kind_of t k) h in absurd (omega arith))
    (λ h. let n = par_operands (kind_of t k) h in absurd (omega arith))
    (λ h. let n = ite_operands (kind_of t k) h in absurd (omega arith))
    (λ h. let n = rec_operands (kind_of t k) h in absurd (omega arith))

pub leaf_judged : (t : List ℕ) (k : ℕ) → operands_of (kind_of t k) ≡ 0 →
    on_verdict (lower_operands_at t k) (shape_check (shape_of t k)) Err ≡ passed
unfolding operands_below
leaf_judged t k none = rw (none, leaf_shape t k none)

pub leaf_given : (t : List ℕ) (k : ℕ) → operands_of (kind_of t k) ≡ 0 →
    known_of (leaf (kind_of t k) (number_of t k 1) 0) ≡ known_of (tree t k)
leaf_given t k none = shape_given t k _ (leaf_shape t k none)

pub ruleset judging = (judged_by, shape_given, leaf_judged, leaf_given)

-- A term that passes takes and gives at most 16 words.
record Few (T : Term) : Type 0 where
  few_ins : ins T ≤ 16
  few_outs : outs T ≤ 16

few-leaf : (t : List ℕ) (k : ℕ) → 9 ≤ kind_of t k → ins (tree t k) ≤ 16 → Few (tree t k)
few-leaf t k l h = record { few_ins = h; few_outs = rw (tree-leaf-from t k l) (omega arith) }

few-next : (w : ℕ) (t : List ℕ) (k : ℕ) → ((j : ℕ) → j < k → Few (tree t j)) → Fits w t k → Few (tree t k)
few-next w t k ih (seq-fits e z a b p) =
    rw (tree-seq t k e a b) (record { few_ins = (ih _ a).few_ins; few_outs = (ih _ b).few_outs })
few-next w t k ih (par-fits e z a b p q) = rw (tree-par t k e a b) (record { few_ins = (ih _ a).few_ins; few_outs = q })
few-next w t k ih (ite-fits e a b c p q r s) =
    rw (tree-ite t k e a b c) (record { few_ins = (ih _ a).few_ins; few_outs = (ih _ b).few_outs })
few-next w t k ih (rec-fits e a b c p q r s) =
    rw (tree-rec t k e a b c) (record { few_ins = (ih _ a).few_ins; few_outs = (ih _ b).few_outs })
few-next w t k ih (const_fits e z l u v) = few-leaf t k (omega arith) (rw (tree-leaf-from t k (omega arith), e) u)
few-next w t k ih (field_fits e z l u v) = few-leaf t k (omega arith) (rw (tree-leaf-from t k (omega arith), e) u)
few-next w t k ih (op_fits l u a b c) =
    few-leaf t k (omega arith) (rw (tree-leaf-from t k (omega arith), le-ltb (kind_of t k) 13 l)
    (by-test (λ n. n ≤ 16) (ltb (kind_of t k) 20) 2 1 (λ z. omega arith) (λ z. omega arith)))

-- A scan that passes up to place m is refused there where m's check fails.
scan-refuses : (check : ℕ → Check) (n k m : ℕ) (v : Verdict) (c : Cause) → k ≤ m → m < k + n →
    ((j : ℕ) → k ≤ j → j < m → check j ≡ passed) → check m ≡ Err c → first_refusal check n k v ≡ refused c m
unfolding first_refusal
scan-refuses check zero k m v c l u h e = absurd (omega arith)
scan-refuses check (suc n) k m v c l u h e = elim (split k m) [
  | inl a ↦ rw (h k (omega arith) a) (scan-refuses check n (suc k) m v c a (omega arith) (λ j x y. h j (omega arith) y) e)
  | inr a ↦ (let q : k ≡ m = omega arith in rw (q, e))
]

-- What is known of the terms below k, in an array of 256.
abbrev kept : List ℕ → ℕ → List Known
kept t k = filled (λ j. known_of (tree t j)) nothing_known k

-- At term k: the terms below have passed, and the array holds what is known of them.
pub record Going (w : ℕ) (t : List ℕ) (terms : List Known) (k : ℕ) : Type 0 where
  pub passing : (j : ℕ) → j < k → refusal_at w t j ≡ passed
  pub holds : terms ≡ kept t k
  few : (j : ℕ) → j < k → Few (tree t j)

pub starts : (w : ℕ) (t : List ℕ) → Going w t (replicate 256 nothing_known) 0
unfolding listed
starts w t = record { passing = λ j l. absurd (omega arith); holds = refl; few = λ j l. absurd (omega arith) }

module _ {w : ℕ} {t : List ℕ} {terms : List Known} {k : ℕ} (G : Going w t terms k) where
  pub ends : k ≡ count t → Scanned w t (Ok terms)
  ends e = record {
    first = rw (scan-passes (refusal_at w t) (count t) 0 passed (λ j l u. G.passing j (omega arith)), G.holds, e);
    few = λ f z j l. (G.few j (omega arith)).few_ins;
  }

  module _ (l : k < count t) where
    pub refuses : (r : Refusal) → r.place ≡ k → refusal_at w t k ≡ Err r.cause → Scanned w t (Err r)
    refuses r p h =
        record {
          first = rw (scan-refuses (refusal_at w t) (count t) 0 k passed r.cause (omega arith) (omega arith) (λ j x y. G.passing j y) h)
              (ap (λ (n : ℕ). refused r.cause n) p);
          few = λ f z. let y : ◌≡◌ {A = ℕ} 0 1 = cc in absurd (omega arith);
        }

    module _ (long : length t ≤ 1024) where
      pub ready : Ready t k terms
      ready = record {
        inside = omega arith;
        few = omega arith;
        known = λ j u. rw G.holds (filled_at (λ i. known_of (tree t i)) nothing_known k j u);
        small = λ j u. known_small (tree t j) (G.few j u).few_ins (G.few j u).few_outs;
      }

      pub goes_on : refusal_at w t k ≡ passed → Going w t (set terms k (known_of (tree t k))) (k + 1)
      goes_on h =
          record {
            passing = λ j u. elim (split j k) [
              | inl a ↦ G.passing j a
              | inr a ↦ (let z : j ≡ k = omega arith in rw z h)
            ];
            holds = rw G.holds (filled_next (λ j. known_of (tree t j)) nothing_known k (omega arith));
            few = λ j u. elim (split j k) [
              | inl a ↦ G.few j a
              | inr a ↦ (let z : j ≡ k = omega arith in rw z (few-next w t k G.few (fits w t k h)))
            ];
          }
