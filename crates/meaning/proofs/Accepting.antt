-- Law: a table whose terms all fit, with its width, length and size, is accepted: with `Accepted`, exactly those
-- do. Assumes nothing.
use Prim.Native.Nat.{ℕ, ◌%◌, ◌≤◌}
use mathlib.Core.Path.{◌≡◌}
use mathlib.Core.Bool.{true}
use mathlib.Core.List.{List}
use native.Mathlib.Omega.{arith}
use lib.ListN.{length}
use borrow.Author.Tests.{lt-ltb, le-leb, lt-leb, eq-eqb, ne_eqb}
use Rattle.meaning.specs.Terms.{number_of, kind_of, count, main_of}
use Rattle.meaning.specs.Counts.{whole_size}
use Rattle.meaning.specs.Refusals.{passed}
use Rattle.meaning.specs.Checks.{known_kind, operands_of, used_of, values_fit, operands_below, counts_fit, par_small, refusal_at}
use Rattle.meaning.specs.Checks.{verdict_of}
use Rattle.meaning.proofs.Verdicts.{scan-passes}
use Rattle.meaning.proofs.Accepted.{Fits, seq-fits, par-fits, ite-fits, rec-fits, const_fits, field_fits, op_fits, Accepted}

module _ (w : ℕ) (t : List ℕ) (k : ℕ) where
  -- An operation has no operands and no numbers, and nothing to judge but its kind.
  record Plain : Type 0 where
    known : known_kind (kind_of t k) ≡ true
    used : used_of (kind_of t k) ≡ 0
    operands : operands_of (kind_of t k) ≡ 0
    values : values_fit w t k ≡ true
    counts : counts_fit t k ≡ true
    few : par_small t k ≡ true

  plain : 13 ≤ kind_of t k → kind_of t k ≤ 22 → Plain
  unfolding operands_of used_of counts_fit par_small
  plain l u =
      let one = ne_eqb (kind_of t k) 1 (λ q. omega arith) in
      let two = ne_eqb (kind_of t k) 2 (λ q. omega arith) in
      let three = ne_eqb (kind_of t k) 3 (λ q. omega arith) in
      let four = ne_eqb (kind_of t k) 4 (λ q. omega arith) in
      let nine = ne_eqb (kind_of t k) 9 (λ q. omega arith) in
      let twelve = ne_eqb (kind_of t k) 12 (λ q. omega arith) in
      record {
        known = rw (
          le-leb 1 (kind_of t k) (omega arith),
          lt-leb (kind_of t k) 4 (omega arith),
          nine,
          le-leb 12 (kind_of t k) (omega arith),
          le-leb (kind_of t k) 22 u,
        );
        used = rw (nine, twelve, one, two, three, four);
        operands = rw (one, two, three, four);
        values = rw (nine, twelve);
        counts = rw (one, two, three, four);
        few = rw two;
      }

  op-passes : Plain → number_of t k 1 ≡ 0 → number_of t k 2 ≡ 0 → number_of t k 3 ≡ 0 → refusal_at w t k ≡ passed
  unfolding operands_below refusal_at
  op-passes p a b c = rw (p.known, p.used, eq-eqb _ _ a, eq-eqb _ _ b, eq-eqb _ _ c, p.values, p.operands, p.counts, p.few)

  pub fits-passes : Fits w t k → refusal_at w t k ≡ passed
  unfolding operands_of used_of operands_below counts_fit par_small refusal_at
  fits-passes (seq-fits e z a b p) = cc (eq-eqb _ _ z, lt-ltb _ _ a, lt-ltb _ _ b, eq-eqb _ _ p)
  fits-passes (par-fits e z a b p q) = cc (eq-eqb _ _ z, lt-ltb _ _ a, lt-ltb _ _ b, eq-eqb _ _ p, le-leb _ _ q)
  fits-passes (ite-fits e a b c p q r s) =
      cc (lt-ltb _ _ a, lt-ltb _ _ b, lt-ltb _ _ c, eq-eqb _ _ p, eq-eqb _ _ q, eq-eqb _ _ r, eq-eqb _ _ s)
  fits-passes (rec-fits e a b c p q r s) =
      cc (lt-ltb _ _ a, lt-ltb _ _ b, lt-ltb _ _ c, eq-eqb _ _ p, eq-eqb _ _ q, eq-eqb _ _ r, eq-eqb _ _ s)
  fits-passes (const_fits e z a b v) = cc (eq-eqb _ _ z, le-leb _ _ a, le-leb _ _ b, lt-ltb _ _ v)
  fits-passes (field_fits e z a b v) = cc (eq-eqb _ _ z, le-leb _ _ a, le-leb _ _ b, lt-ltb _ _ v)
  fits-passes (op_fits l u a b c) = op-passes (plain l u) a b c

pub accepting : (w : ℕ) (t : List ℕ) → Accepted w t → verdict_of w t ≡ passed
unfolding verdict_of
accepting w t a =
    let s = a.some in
    let f = a.four in
    cc (
      le-leb 1 w a.wide.0,
      le-leb w 32 a.wide.1,
      le-leb 1 (length t) (omega arith),
      eq-eqb (length t % 4) 0 (omega arith),
      le-leb (length t) 1024 (omega arith),
      scan-passes (refusal_at w t) (count t) 0 _ (λ j l u. fits-passes w t j (a.fits j (omega arith))),
      le-leb (whole_size (main_of t)) 4096 a.small,
    )
