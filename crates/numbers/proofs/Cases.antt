-- Cases: lists of numbers and what is none, computed from the definitions. Assumes nothing.
use Prim.Native.String.{String}
use mathlib.Core.Path.{◌≡◌, refl}
use mathlib.Core.List.{[], ◌∷◌, map}
use Rattle.std.specs.Prelude.{Some, None}
use Rattle.spelling.specs.Pieces.{bytes}
use Rattle.numbers.specs.Lists.{read_from, numbers_in}

-- Gaps around numbers, zeros in front, a tab, a number too large, no number.
lists-read : map (λ (s : String). numbers_in (bytes s))
    ("8 20 0 0 0" ∷ " \n7\n " ∷ "000000000000007" ∷ "4294967295" ∷ "4294967296" ∷ "1\t2" ∷ "1\r\n" ∷ "-1" ∷ "" ∷ "\n" ∷ []) ≡
    Some (8 ∷ 20 ∷ 0 ∷ 0 ∷ 0 ∷ []) ∷ Some (7 ∷ []) ∷ Some (7 ∷ []) ∷ Some (4294967295 ∷ []) ∷
    None ∷ None ∷ None ∷ None ∷ None ∷ None ∷ []
unfolding read_from numbers_in
lists-read = refl
