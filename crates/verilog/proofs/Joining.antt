-- Law: pieces written one after the other are one piece, and so are rows of pieces. The lines cite the set. Assumes nothing.
use Prim.Native.Nat.{ℕ, ◌+◌}
use mathlib.Core.Path.{◌≡◌, refl, sym}
use mathlib.Core.List.{List, [], ◌++◌}
use native.Mathlib.Numerals.{add-one}
use lib.ListN.{length, length-append}
use Rattle.std.proofs.Common.{length-take, get_or-take}
use Rattle.spelling.specs.Pieces.{rows, placed, Wrote}
use Rattle.spelling.proofs.Placing.{then}

pub placed-none : (l : List ℕ) (i : ℕ) → placed l i [] ≡ l
unfolding placed
placed-none l i = refl

pub placed-append : (l : List ℕ) (i : ℕ) (a b : List ℕ) → placed l i (a ++ b) ≡ placed (placed l i a) (i + length a) b
placed-append l i a b =
    let first : Wrote l i a (i + length a) (placed l i a) = record { next_is = refl; holds = refl } in
    let next : Wrote (placed l i a) (i + length a) b (i + length a + length b) (placed (placed l i a) (i + length a) b)
    = record { next_is = refl; holds = refl } in
    sym (then first next).holds

pub rows-none : (f : ℕ → List ℕ) → rows f 0 ≡ []
unfolding rows
rows-none f = refl

pub rows-more : (f : ℕ → List ℕ) (n : ℕ) → rows f (n + 1) ≡ rows f n ++ f n
unfolding rows
rows-more f n = rw (add-one n) refl

pub ruleset joining = (placed-none, placed-append, rows-none, rows-more, length-append, length-take, get_or-take)
