-- Law: a number's digits are one digit below 10, and otherwise the digits of its tenth and then its last; 32 bits have at most ten.
-- `number` cites it. Assumes nothing.
use Prim.Native.Nat.{ℕ, zero, suc, ◌+◌, ◌*◌, ◌/◌, ◌%◌, ◌^◌, ◌≤◌, ◌<◌}
use mathlib.Core.Path.{◌≡◌, refl, ap}
use mathlib.Core.Logic.{⊎_elim}
use mathlib.Core.List.{List, [], ◌∷◌, ◌++◌}
use native.Mathlib.Nat.{pow-suc}
use native.Mathlib.Omega.{arith}
use lib.ListN.{length, length-append}
use borrow.Author.Tests.{lt-ltb, le-ltb}
use Rattle.meaning.proofs.Tests.{split}
use Rattle.spelling.specs.Pieces.{digit, digits_within, digits, Wrote}
use Rattle.spelling.proofs.Placing.{then}

-- More room changes nothing.
enough : (f g n : ℕ) → n < f → n < g → digits_within f n ≡ digits_within g n
unfolding digits_within
enough zero g n p q = absurd (omega arith)
enough (suc f) zero n p q = absurd (omega arith)
enough (suc f) (suc g) n p q = ⊎_elim
    (λ l. rw (lt-ltb n 10 l) refl)
    (λ l. rw (le-ltb n 10 l) (ap (λ (t : List ℕ). t ++ (digit (n % 10) ∷ [])) (enough f g (n / 10) (omega arith) (omega arith))))
    (split n 10)

pub digits-one : (n : ℕ) → n < 10 → digits n ≡ digit n ∷ []
unfolding digits digits_within
digits-one n l = rw (lt-ltb n 10 l) refl

pub digits_more : (n : ℕ) → 10 ≤ n → digits n ≡ digits (n / 10) ++ (digit (n % 10) ∷ [])
unfolding digits digits_within
digits_more n l = rw (le-ltb n 10 l) (ap (λ (t : List ℕ). t ++ (digit (n % 10) ∷ [])) (enough n (suc (n / 10)) (n / 10) (omega arith)
    (omega arith)))

pub digits-few : (k n : ℕ) → n < 10 ^ suc k → length (digits n) ≤ suc k
digits-few zero n h = rw (digits-one n h) (omega arith)
digits-few (suc k) n h = ⊎_elim
    (λ l. rw (digits-one n l) (omega arith))
    (λ l.
    let u : n < 10 ^ suc k * 10 = rw (pow-suc 10 (suc k)) at h in
    rw (digits_more n l) (simp length-append (omega (arith, digits-few k (n / 10) (omega (arith, u))))))
    (split n 10)

-- Written digit by digit.
pub number-one : {l u : List ℕ} {i k n : ℕ} (c : ℕ) → n < 10 → c ≡ 48 + n → Wrote l i (c ∷ []) k u → Wrote l i (digits n) k u
number-one {n = n} c h e p = rw (digits-one n h, ← e) p

pub number_more : {l v u : List ℕ} {i j k n : ℕ} (c : ℕ) → 10 ≤ n → c ≡ 48 + n % 10 →
    Wrote l i (digits (n / 10)) j v → Wrote v j (c ∷ []) k u → Wrote l i (digits n) k u
number_more {n = n} c h e p q = rw (digits_more n h, ← e) (then p q)

pub number-near : {l u : List ℕ} {i k n : ℕ} → n < 2 ^ 32 → Wrote l i (digits n) k u → k ≤ i + 10
number-near {n = n} f p = omega (arith, p.next_is, digits-few 9 n (omega arith))
