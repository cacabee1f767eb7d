-- Law: the contract of `write` leaves no choice: two answers that meet it on the same arguments are the same, and so are the
-- buffers afterwards. Assumes nothing.
use Prim.Native.Nat.{ℕ}
use mathlib.Core.Path.{◌≡◌, sym, ◌∙◌}
use mathlib.Core.List.{List}
use lib.ListN.{length}
use Rattle.std.specs.Prelude.{Result}
use Rattle.meaning.specs.declared.Refusal.{Refusal}
use Rattle.verilog.specs.Writing.{written_of, text_after}

-- What the contract says of an answer and of the buffer before and after.
abbrev Writes : ℕ → List ℕ → ℕ → ℕ → ℕ → List ℕ → List ℕ → Result ℕ Refusal → List ℕ → Type 0
Writes w net i o d outs old r new = (r ≡ written_of w net i o d outs (length old)) × (new ≡ text_after w net i o d outs old)

pub written-unique : (w : ℕ) (net : List ℕ) (i o d : ℕ) (outs old : List ℕ) (r q : Result ℕ Refusal) (new other : List ℕ) →
    Writes w net i o d outs old r new → Writes w net i o d outs old q other → (r ≡ q) × (new ≡ other)
written-unique w net i o d outs old r q new other a b = (a.0 ∙ sym b.0, a.1 ∙ sym b.1)
