-- Law: a number of w bits inside a wider one: what wraps at 2 ^ 32 and is reduced to w bits wraps at 2 ^ w.
-- Cited by this crate's functions, once for every width. Assumes nothing.
use Rattle.std.proofs.Common.{◌≡◌, ℕ, ◌+◌, ◌-◌, ◌%◌, ◌^◌, ◌<◌, ◌≤◌, sym, ap, ◌∙◌, mod-lt, arith, pow_pos}
use native.Mathlib.Nat.{mod-add-mod, add-mod-mod, add-mod_right}
use lib.Pow.{mod-mod-pow}

module _ (w : ℕ) (fits : w ≤ 32) where
  -- Of a number's low 32 bits, the low w are the number's own.
  pub reduce_wrapped : (n : ℕ) → n % 2 ^ 32 % 2 ^ w ≡ n % 2 ^ w
  reduce_wrapped n =
      let u : 32 - w + w ≡ 32 = omega arith in
      ap (λ (b : ℕ). n % 2 ^ b % 2 ^ w) (sym u) ∙ mod-mod-pow n (32 - w) w

  -- Where r is x less y in 32 bits, its low w bits are x less y in w bits.
  pub difference_reduced : (x y r : ℕ) → (r + y) % 2 ^ 32 ≡ x → r % 2 ^ w ≡ (x + (2 ^ w - y % 2 ^ w)) % 2 ^ w
  difference_reduced x y r e =
      let b = y % 2 ^ w in
      let l : b < 2 ^ w = mod-lt y (pow_pos w) in
      let u : r + b + (2 ^ w - b) ≡ r + 2 ^ w = omega arith in
      let same : (r + b) % 2 ^ w ≡ x % 2 ^ w
      = add-mod-mod r y (2 ^ w) ∙ sym (reduce_wrapped (r + y)) ∙ ap (λ (n : ℕ). n % 2 ^ w) e in
      sym (add-mod_right r (2 ^ w)) ∙ ap (λ (n : ℕ). n % 2 ^ w) (sym u)
      ∙ sym (mod-add-mod (r + b) (2 ^ w) (2 ^ w - b)) ∙ ap (λ (n : ℕ). (n + (2 ^ w - b)) % 2 ^ w) same
      ∙ mod-add-mod x (2 ^ w) (2 ^ w - b)
