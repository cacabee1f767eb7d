-- Law: what a test that came out true or false says, and how to go by the cases of one. Assumes nothing.
use Prim.Native.Nat.{ℕ, ◌≤◌, ◌<◌}
use mathlib.Core.Path.{◌≡◌, refl}
use mathlib.Core.Bool.{Bool, true, false}
use mathlib.Core.Logic.{◌⊎◌, inl, inr}
use native.Mathlib.Decide.{dec_lt}
use native.Mathlib.Omega.{arith}
use Rattle.meaning.specs.Choices.{pick, and, or}

-- No test is both.
pub clash : {A : Type 0} (b : Bool) → b ≡ true → b ≡ false → A
clash b p q = let z : ◌≡◌ {A = ℕ} 0 1 = cc in absurd (omega arith)

-- Below a bound, or not.
pub split : (a b : ℕ) → (a < b) ⊎ (b ≤ a)
split a b = elim (dec_lt a b) [ yes h ↦ inl h | no h ↦ inr (omega arith) ]

-- What holds of both choices holds of the chosen one.
pub by-test : {A : Type 0} (P : A → Type 0) (b : Bool) (x y : A) → (b ≡ true → P x) → (b ≡ false → P y) → P (pick b x y)
by-test P true x y f g = f refl
by-test P false x y f g = g refl

-- `and` holds where both do; `or` where one does.
pub both : (a b : Bool) → and a b ≡ true → (a ≡ true) × (b ≡ true)
both true b h = (refl, h)
both false b h = clash false h refl

pub either : {P : Type 0} (a b : Bool) → or a b ≡ true → (a ≡ true → P) → (b ≡ true → P) → P
either true b h f g = f refl
either false b h f g = g h
