-- Law: what accepting, and passing a check, says of a choice and of a scan, and back. Assumes nothing.
use Prim.Native.Nat.{ℕ, zero, suc, ◌+◌, ◌≤◌, ◌<◌}
use mathlib.Core.Path.{◌≡◌, refl}
use mathlib.Core.Bool.{Bool, true, false}
use mathlib.Core.Logic.{inl, inr}
use native.Mathlib.Omega.{arith}
use Rattle.std.specs.Prelude.{⊤, Result, Ok, Err}
use Rattle.meaning.specs.Choices.{pick}
use Rattle.meaning.specs.Refusals.{Check, Verdict, passed, refused, on_verdict}
use Rattle.meaning.specs.Checks.{first_refusal}
use Rattle.meaning.proofs.Tests.{split}

-- What passes is no error.
pub no-error : {E P : Type 0} (e : E) → ◌≡◌ {A = Result ⊤ E} (Err e) passed → P
no-error e h = let z : ◌≡◌ {A = ℕ} 0 1 = cc in absurd (omega arith)

-- Nothing refused: the test held.
pub went_on : {E : Type 0} (b : Bool) (v : Result ⊤ E) (e : E) → pick b v (Err e) ≡ passed → (b ≡ true) × (v ≡ passed)
went_on true v e h = (refl, h)
went_on false v e h = no-error e h

both-passed : (c : Check) (v : Verdict) (k : ℕ) → on_verdict c v (λ e. refused e k) ≡ passed → (c ≡ passed) × (v ≡ passed)
both-passed (Ok tt) v k h = (refl, h)
both-passed (Err e) v k h = no-error _ h

-- A scan accepts exactly where every place passes its check and what follows accepts.
pub none-refused : (check : ℕ → Check) (n k : ℕ) (v : Verdict) → first_refusal check n k v ≡ passed →
    ((j : ℕ) → k ≤ j → j < k + n → check j ≡ passed) × (v ≡ passed)
unfolding first_refusal
none-refused check zero k v h = ((λ j l u. absurd (omega arith)), h)
none-refused check (suc n) k v h =
    let a = both-passed _ _ _ h in
    let r = none-refused check n (suc k) v a.1 in (
      (λ j l u. elim (split k j) [
        | inl b ↦ r.0 j b (omega arith)
        | inr b ↦ (let q : j ≡ k = omega arith in rw q a.0)
      ]),
      r.1,
    )

pub scan-passes : (check : ℕ → Check) (n k : ℕ) (v : Verdict) → ((j : ℕ) → k ≤ j → j < k + n → check j ≡ passed) →
    first_refusal check n k v ≡ v
unfolding first_refusal
scan-passes check zero k v h = refl
scan-passes check (suc n) k v h =
    rw (h k (omega arith) (omega arith))
    (scan-passes check n (suc k) v (λ j l u. h j (omega arith) (omega arith)))
