-- Law: a piece written from an index on leaves no choice: two answers are the same, and so are the buffers afterwards.
-- Assumes nothing.
use Prim.Native.Nat.{ℕ}
use mathlib.Core.Path.{◌≡◌, sym, ◌∙◌}
use mathlib.Core.List.{List}
use Rattle.spelling.specs.Pieces.{Wrote}

pub wrote-unique : {old piece new other : List ℕ} {i r q : ℕ} →
    Wrote old i piece r new → Wrote old i piece q other → (r ≡ q) × (new ≡ other)
wrote-unique a b = (a.next_is ∙ sym b.next_is, a.holds ∙ sym b.holds)
