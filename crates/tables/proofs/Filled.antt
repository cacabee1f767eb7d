-- Law: what an array of 256 holds that is filled in order: f of the numbers so far, then what stands for nothing.
-- Cited by the scan. Assumes nothing.
use Prim.Native.Nat.{ℕ, suc, ◌+◌, ◌-◌, ◌<◌}
use mathlib.Core.Path.{◌≡◌, sym, ap, ◌∙◌}
use mathlib.Core.List.{List, [], ◌∷◌, ◌++◌, append_assoc}
use native.Mathlib.Numerals.{add-one}
use native.Mathlib.Omega.{arith}
use lib.ListN.{get_or, set, replicate, get_or-append}
use lib.Seq.{set-append_seam}
use Rattle.meaning.specs.Choices.{listed}
use Rattle.meaning.proofs.Lists.{listed-length, listed_at}

abbrev pub filled : {A : Type 0} → (ℕ → A) → A → ℕ → List A
filled f d n = listed f n ++ replicate (256 - n) d

module _ {A : Type 0} (f : ℕ → A) (d : A) (n : ℕ) where
  -- What it holds at j.
  pub filled_at : (j : ℕ) → j < n → get_or (filled f d n) j d ≡ f j
  filled_at j h =
      get_or-append (listed f n) (replicate (256 - n) d) d j (omega (arith, listed-length f n)) ∙ listed_at f n j d h

  -- The next one is written where nothing begins.
  pub filled_next : n < 256 → set (filled f d n) n (f n) ≡ filled f d (n + 1)
  unfolding listed
  filled_next h =
      let r = replicate (256 - (n + 1)) d in
      let a : 256 - n ≡ suc (256 - (n + 1)) = omega arith in
      ap (λ (m : ℕ). set (listed f n ++ replicate m d) n (f n)) a
      ∙ ap (λ (m : ℕ). set (listed f n ++ (d ∷ r)) m (f n)) (sym (listed-length f n))
      ∙ set-append_seam (listed f n) d r (f n)
      ∙ sym (append_assoc (listed f n) (f n ∷ []) r)
      ∙ ap (λ (m : ℕ). listed f m ++ r) (sym (add-one n))
