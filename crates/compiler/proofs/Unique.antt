-- Law: the contract of `compile` leaves no choice: two answers that meet it on the same width, table and memory are the same, and so
-- are the memories afterwards. Assumes nothing.
use Prim.Native.Nat.{ℕ}
use mathlib.Core.Path.{◌≡◌, sym, ◌∙◌}
use mathlib.Core.List.{List}
use lib.ListN.{length}
use Rattle.std.specs.Prelude.{Result}
use Rattle.meaning.specs.declared.Refusal.{Refusal}
use Rattle.circuit.specs.declared.Compiled.{Compiled}
use Rattle.circuit.specs.Compiling.{compiled_of, netlist_after}

-- What the contract says of an answer and of the memory before and after.
abbrev Compiles : ℕ → List ℕ → List ℕ → Result Compiled Refusal → List ℕ → Type 0
Compiles w t old r new = (r ≡ compiled_of w t (length old)) × (new ≡ netlist_after w t old)

pub compiled-unique : (w : ℕ) (t old : List ℕ) (r q : Result Compiled Refusal) (new other : List ℕ) →
    Compiles w t old r new → Compiles w t old q other → (r ≡ q) × (new ≡ other)
compiled-unique w t old r q new other a b = (a.0 ∙ sym b.0, a.1 ∙ sym b.1)
