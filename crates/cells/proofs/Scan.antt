-- Law: a scan for the first refusal, place by place: what is left of it always gives what the whole gives.
-- The loops of `cells::check` and of the simulator's check 18 cite it. Assumes nothing.
use Prim.Native.Nat.{ℕ, zero, suc, ◌+◌, ◌-◌, ◌≤◌, ◌<◌}
use mathlib.Core.Path.{◌≡◌, refl, sym, ap, ◌∙◌}
use native.Mathlib.Numerals.{add-one}
use native.Mathlib.Omega.{arith}
use Rattle.std.specs.Prelude.{Ok, Err}
use Rattle.meaning.specs.declared.Cause.{Cause}
use Rattle.meaning.specs.Refusals.{Check, Verdict, passed, refused, on_verdict}
use Rattle.meaning.specs.Checks.{first_refusal}

-- One place more, by what its check answers.
module _ (check : ℕ → Check) (m k : ℕ) (follows : Verdict) where
  passes : check k ≡ passed → first_refusal check (suc m) k follows ≡ first_refusal check m (suc k) follows
  unfolding first_refusal
  passes e = rw e

  stops : (c : Cause) → check k ≡ Err c → first_refusal check (suc m) k follows ≡ refused c k
  unfolding first_refusal
  stops c e = rw e

-- The places below n pass: the rest of the scan gives what all of it gives.
pub record Going (check : ℕ → Check) (count : ℕ) (follows : Verdict) (n : ℕ) : Type 0 where
  pub within : n ≤ count
  pub same : first_refusal check (count - n) n follows ≡ first_refusal check count 0 follows

module _ (check : ℕ → Check) (count : ℕ) (follows : Verdict) where
  pub going_start : Going check count follows 0
  going_start = record {
    within = omega arith;
    same = let u : count - 0 ≡ count = omega arith in ap (λ (m : ℕ). first_refusal check m 0 follows) u;
  }

  module _ (n : ℕ) (G : Going check count follows n) where
    -- Where every place passed, what follows decides.
    pub going_end : n ≡ count → follows ≡ first_refusal check count 0 follows
    unfolding first_refusal
    going_end e = let u : count - n ≡ 0 = omega arith in
        sym (ap (λ (m : ℕ). first_refusal check m n follows) u) ∙ G.same

    module _ (l : n < count) where
      left : first_refusal check (suc (count - suc n)) n follows ≡ first_refusal check count 0 follows
      left = let u : suc (count - suc n) ≡ count - n = omega arith in
          ap (λ (m : ℕ). first_refusal check m n follows) u ∙ G.same

      -- A place that does not pass is the answer.
      pub going-stop : (c : Cause) → check n ≡ Err c → refused c n ≡ first_refusal check count 0 follows
      going-stop c e = sym (stops check (count - suc n) n follows c e) ∙ left

      pub going_on : check n ≡ passed → Going check count follows (n + 1)
      going_on e = rw (add-one n) (record {
        within = omega arith;
        same = sym (passes check (count - suc n) n follows e) ∙ left;
      })

-- What follows a scan may be asked for afterwards.
pub scan-then : (check : ℕ → Check) (m k : ℕ) (follows : Verdict) →
    first_refusal check m k follows ≡ on_verdict (first_refusal check m k passed) follows Err
unfolding first_refusal
scan-then check zero k follows = refl
scan-then check (suc m) k follows = split (check k) (scan-then check m (suc k) follows)
  where
    split : (c : Check) → first_refusal check m (suc k) follows ≡ on_verdict (first_refusal check m (suc k) passed) follows Err →
        on_verdict c (first_refusal check m (suc k) follows) (λ e. refused e k) ≡
        on_verdict (on_verdict c (first_refusal check m (suc k) passed) (λ e. refused e k)) follows Err
    split (Ok u) e = e
    split (Err x) e = refl
