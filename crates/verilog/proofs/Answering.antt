-- Law: what the writer may count on before it writes. Assumes nothing.
use Prim.Native.Nat.{ℕ, ◌≤◌, ◌<◌}
use mathlib.Core.Path.{◌≡◌}
use mathlib.Core.Bool.{true}
use mathlib.Core.List.{List}
use lib.Dec.{leb}
use borrow.Author.Tests.{leb-true}
use Rattle.meaning.specs.Refusals.{passed}
use Rattle.meaning.specs.Checks.{few_words}
use Rattle.meaning.proofs.Tests.{both}
use Rattle.circuit.specs.Cells.{cell_count}
use Rattle.circuit.specs.Netlists.{netlist_verdict}
use Rattle.circuit.proofs.Checked.{checked}
use Rattle.ports.specs.Interface.{ports_fit}

module _ (w : ℕ) (net : List ℕ) (i o d : ℕ) (outs : List ℕ) where
  -- What the text's writer asks for.
  pub may_write : netlist_verdict w net ≡ passed → ports_fit net i o d outs ≡ true →
      (0 < w) × (cell_count net ≤ 4096) × (i ≤ 16) × (o ≤ 16)
  unfolding ports_fit
  may_write v f =
      let k = checked w net v in
      let a = both (few_words i) _ f in
      let b = both (few_words o) _ a.1 in
      (k.wide.0, k.some.1, leb-true i 16 (both (leb 1 i) _ a.0).1, leb-true o 16 (both (leb 1 o) _ b.0).1)
