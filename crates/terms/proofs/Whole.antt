-- Law: the facts of a table, from the width, the length, the scan and the cells of the main term, in the order of the checks.
-- Cited by the proof of `check`. Assumes nothing.
use Prim.Native.Nat.{ℕ, zero, suc, ◌+◌, ◌%◌, ◌≤◌, ◌<◌}
use mathlib.Core.Path.{◌≡◌, refl, sym}
use mathlib.Core.Bool.{true, false}
use mathlib.Core.List.{List}
use native.Mathlib.Nat.{min-le_right}
use native.Mathlib.Omega.{arith}
use lib.ListN.{length, get_or}
use borrow.Author.Tests.{leb-true, eqb-true, le-leb, lt-leb}
use Rattle.std.specs.Prelude.{Result, Ok, Err}
use Rattle.meaning.specs.declared.Cause.TheVariants as cause
use Rattle.meaning.specs.declared.Refusal.{Refusal}
use Rattle.meaning.specs.declared.Known.{Known}
use Rattle.meaning.specs.Refusals.{Check, Verdict, passed, refused, on_verdict}
use Rattle.meaning.specs.Terms.{count, last_of, main_of}
use Rattle.meaning.specs.Counts.{ins, size, capped, whole_size}
use Rattle.meaning.specs.Checks.{width_fits, length_fits, refusal_at, size_verdict, first_refusal, verdict_of}
use Rattle.meaning.specs.Answers.{known_of, nothing_known, known_facts, facts_of}
use Rattle.meaning.proofs.Lists.{facts-at}
use Rattle.meaning.proofs.Tests.{both}
use Rattle.tables.specs.Scans.{Scanned}
use Rattle.terms.proofs.Facts.{answers}

-- What follows a check is asked only where it refuses nothing.
after : (c : Check) (k : ℕ) (x v : Verdict) →
    on_verdict c (on_verdict x v Err) (λ d. refused d k) ≡ on_verdict (on_verdict c x (λ d. refused d k)) v Err
after (Ok u) k x v = refl
after (Err d) k x v = refl

follows : (check : ℕ → Check) (n k : ℕ) (v : Verdict) → first_refusal check n k v ≡ on_verdict (first_refusal check n k passed) v Err
unfolding first_refusal
follows check zero k v = refl
follows check (suc n) k v = rw (follows check n (suc k) v) (after (check k) k (first_refusal check n (suc k) passed) v)

chained : (u v : Verdict) (f : List Known) →
    ◌≡◌ {A = Result (List Known) Refusal} (on_verdict (on_verdict u v Err) (Ok f) Err) (on_verdict u (on_verdict v (Ok f) Err) Err)
chained (Ok u) v f = refl
chained (Err e) v f = refl

fails : (u : Verdict) (f : List Known) (e : Refusal) → ◌≡◌ {A = Result (List Known) Refusal} (Err e) (on_verdict u (Ok f) Err) → u ≡ Err e
fails (Ok u) f e h = let z : ◌≡◌ {A = ℕ} 0 1 = cc in absurd (omega arith)
fails (Err d) f e h = cc

-- How many terms there are.
pub length_in : (t : List ℕ) → length_fits t ≡ true → (1 ≤ count t) × (length t ≤ 1024)
length_in t h =
    let l = both _ _ h in
    let m = both _ _ l.1 in
    let some : 1 ≤ length t = leb-true _ _ l.0 in
    let four : length t % 4 ≡ 0 = eqb-true _ _ m.0 in
    (omega arith, leb-true _ _ m.1)

module _ (w : ℕ) (t : List ℕ) where
  -- The scan of the terms, and then the size.
  abbrev scan : Verdict
  scan = first_refusal (refusal_at w t) (count t) 0 passed

  abbrev sized : Result (List Known) Refusal
  sized = on_verdict (size_verdict t) (Ok (known_facts t)) Err

  pub width_refused : width_fits w ≡ false → refused cause.Width 0 ≡ facts_of w t
  unfolding facts_of verdict_of
  width_refused h = rw h

  module _ (wide : width_fits w ≡ true) where
    pub length_refused : length_fits t ≡ false → refused cause.TableLength 0 ≡ facts_of w t
    unfolding facts_of verdict_of
    length_refused h = rw (wide, h)

    module _ (long : length_fits t ≡ true) where
      by_checks : facts_of w t ≡ on_verdict scan sized Err
      unfolding facts_of verdict_of
      by_checks = rw (wide, long, follows (refusal_at w t) (count t) 0 (size_verdict t), chained scan (size_verdict t) (known_facts t))

      pub scan_refused : (e : Refusal) → Scanned w t (Err e) → Err e ≡ facts_of w t
      scan_refused e S = rw (by_checks, fails scan (known_facts t) e S.first)

      module _ (terms : List Known) (S : Scanned w t (Ok terms)) where
        scanned : (scan ≡ passed) × (terms ≡ known_facts t)
        scanned = answers scan (known_facts t) terms (sym S.first)

        -- The main term's entry.
        main-known : get_or terms (last_of t) nothing_known ≡ known_of (main_of t)
        main-known =
            let f = length_in t long in
            rw scanned.1 (facts-at t (omega arith) (last_of t) nothing_known (omega arith))

        main-sized : 6 + (get_or terms (last_of t) nothing_known).ins + (get_or terms (last_of t) nothing_known).cells
            ≡ 6 + ins (main_of t) + capped (size (main_of t))
        main-sized = rw main-known

        pub main_few : ((get_or terms (last_of t) nothing_known).ins ≤ 16) × ((get_or terms (last_of t) nothing_known).cells ≤ 4097)
        main_few =
            let f = length_in t long in
            rw main-known (S.few terms refl (last_of t) (omega arith), min-le_right (size (main_of t)) 4097)

        pub size_refused : 4096 < 6 + (get_or terms (last_of t) nothing_known).ins + (get_or terms (last_of t) nothing_known).cells →
            refused cause.CircuitSize 0 ≡ facts_of w t
        size_refused g =
            let m : 4096 < whole_size (main_of t) = omega (arith, main-sized, min-le_right (size (main_of t)) 4097) in
            rw (by_checks, scanned.0, lt-leb (whole_size (main_of t)) 4096 m)

        pub all_passed : 6 + (get_or terms (last_of t) nothing_known).ins + (get_or terms (last_of t) nothing_known).cells ≤ 4096 →
            Ok terms ≡ facts_of w t
        all_passed g =
            let m : whole_size (main_of t) ≤ 4096 = omega (arith, main-sized, min-le_right (size (main_of t)) 4097) in
            rw (by_checks, scanned.0, le-leb (whole_size (main_of t)) 4096 m, scanned.1)

-- The checks in their order.
pub ruleset in_order = (width_refused, length_refused, length_in, scan_refused, main_few, size_refused, all_passed)
