-- Law: the contract of `read` leaves no choice: two answers that meet it on the same bytes are the same. Assumes nothing.
use Prim.Native.Nat.{ℕ}
use mathlib.Core.Path.{◌≡◌, sym, ◌∙◌}
use mathlib.Core.List.{List}
use Rattle.std.specs.Prelude.{Option}
use Rattle.numbers.specs.declared.Listed.{Listed}
use Rattle.numbers.specs.Lists.{listed_in}

pub listed-unique : (l : List ℕ) (r q : Option Listed) → r ≡ listed_in l → q ≡ listed_in l → r ≡ q
listed-unique l r q a b = a ∙ sym b
