-- Laws: an accepted netlist has words of at most 32 bits, and what a cell that passed its checks reads is there. `Cycle::gate`, what makes
-- a `Cycle` and the simulator cite them. Assumes nothing.
use Prim.Native.Nat.{ℕ, ◌≤◌, ◌<◌}
use mathlib.Core.Path.{◌≡◌, refl, ◌∙◌}
use mathlib.Core.Bool.{true}
use mathlib.Core.List.{List}
use native.Mathlib.Omega.{arith}
use lib.Dec.{ltb}
use borrow.Author.Tests.{ne_eqb, lt-ltb, le-ltb}
use Rattle.circuit.specs.declared.Gate.TheVariants as gate
use Rattle.meaning.specs.Choices.{pick}
use Rattle.meaning.specs.Refusals.{passed}
use Rattle.circuit.specs.Cells.{Cell, kind_at, cell_count, cell_at}
use Rattle.circuit.specs.Gates.{gate_named}
use Rattle.circuit.specs.Netlists.{netlist_verdict}
use Rattle.circuit.specs.Simulated.{inputs_given}
use Rattle.circuit.proofs.Checked.{checked}
use Rattle.circuit.proofs.Passes.{
  Passes,
  kind_of_cell,
  x_of_cell,
  load_passes,
  not_passes,
  and_passes,
  or_passes,
  low_passes,
  high_passes,
  nonzero_passes,
  input_passes,
  constant_passes,
  register_passes,
  choice_passes,
  copy_passes,
  two_passes,
  one_passes,
}
use Rattle.cycles.specs.Reads.{Reads}
use Rattle.cycles.proofs.Inputs.{given-at}

pub narrow : (w : ℕ) (net : List ℕ) → netlist_verdict w net ≡ passed → w ≤ 32
narrow w net ok = (checked w net ok).wide.1

-- The kinds from 13 on are operations.
operation-named : (k : ℕ) → 13 ≤ k → gate_named k ≡ pick (ltb k 20) gate.Binary gate.Unary
operation-named k l = rw (
  ne_eqb k 0 (λ q. omega arith),
  ne_eqb k 1 (λ q. omega arith),
  ne_eqb k 2 (λ q. omega arith),
  ne_eqb k 3 (λ q. omega arith),
  ne_eqb k 4 (λ q. omega arith),
  ne_eqb k 5 (λ q. omega arith),
  ne_eqb k 6 (λ q. omega arith),
  ne_eqb k 8 (λ q. omega arith),
  ne_eqb k 9 (λ q. omega arith),
  ne_eqb k 10 (λ q. omega arith),
  ne_eqb k 11 (λ q. omega arith),
  ne_eqb k 12 (λ q. omega arith),
)

two-named : (k : ℕ) → 13 ≤ k → k < 20 → gate_named k ≡ gate.Binary
two-named k l u = operation-named k l ∙ rw (lt-ltb k 20 u)

one-named : (k : ℕ) → 20 ≤ k → gate_named k ≡ gate.Unary
one-named k l = operation-named k (omega arith) ∙ rw (le-ltb k 20 l)

-- An operation with one operand has 0 for its second number, as low as the first.
cell-reads : {w i count n : ℕ} {kinds : ℕ → ℕ} {c : Cell} (given : ℕ) → (kind_of_cell c ≡ 8 → x_of_cell c < given) →
    Passes w i count kinds n c → Reads given count n c (gate_named (kind_of_cell c))
cell-reads given f load_passes = refl
cell-reads given f (not_passes x a) = (refl, a.0)
cell-reads given f (and_passes x y a b) = (refl, a.0, b.0)
cell-reads given f (or_passes x y a b) = (refl, a.0, b.0)
cell-reads given f (low_passes x a) = (refl, a.0)
cell-reads given f (high_passes x a) = (refl, a.0)
cell-reads given f (nonzero_passes x a) = (refl, a.0)
cell-reads given f (input_passes j a) = (refl, f refl)
cell-reads given f (constant_passes v a) = refl
cell-reads given f (register_passes x a) = (refl, a.0)
cell-reads given f (choice_passes x y z a b c) = (refl, a.0, b.0, c.0)
cell-reads given f (copy_passes x a) = (refl, a.0)
cell-reads given f (two_passes k x y l u a b) = rw (two-named k l (omega arith)) (l, a.0, b.0)
cell-reads given f (one_passes k x l u a) = rw (one-named k l) (omega arith, a.0, omega arith)

-- Each cell of a checked netlist whose input cells name given words.
pub reads : (w : ℕ) (net : List ℕ) (given n : ℕ) → netlist_verdict w net ≡ passed → inputs_given net given (cell_count net) ≡ true →
    n < cell_count net → Reads given (cell_count net) n (cell_at net n) (gate_named (kind_at net n))
reads w net given n h g l =
    let c = (checked w net h).cells n l in
    cell-reads given (given-at net given n (cell_count net) l g) c
