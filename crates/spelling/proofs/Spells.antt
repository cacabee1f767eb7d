-- Law: a template's byte that is no blank stands for itself. Assumes nothing.
use Prim.Native.Nat.{ℕ}
use mathlib.Core.Path.{◌≡◌, refl}
use mathlib.Core.List.{[], ◌∷◌}
use borrow.Author.Tests.{ne_eqb}
use Rattle.spelling.specs.declared.Blanks.{Blanks}
use Rattle.spelling.specs.Pieces.{spelled}

pub itself : (b : Blanks) (c : ℕ) → (c ≡ 78 → ⊥) → (c ≡ 88 → ⊥) → (c ≡ 89 → ⊥) → (c ≡ 90 → ⊥) → (c ≡ 87 → ⊥) → (c ≡ 84 → ⊥) →
    spelled b c ≡ c ∷ []
unfolding spelled
itself b c n x y z w t = rw (ne_eqb c 78 n, ne_eqb c 88 x, ne_eqb c 89 y, ne_eqb c 90 z, ne_eqb c 87 w, ne_eqb c 84 t) refl
