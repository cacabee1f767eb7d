-- Law: the verdict accepts a netlist exactly where the width and the length fit and every cell passes. Assumes nothing.
use Prim.Native.Nat.{ℕ, ◌+◌, ◌*◌, ◌%◌, ◌≤◌, ◌<◌}
use mathlib.Core.Path.{◌≡◌}
use mathlib.Core.Bool.{true}
use mathlib.Core.List.{List}
use native.Mathlib.Omega.{arith}
use lib.ListN.{length}
use borrow.Author.Tests.{eqb-true, leb-true, le-leb, eq-eqb}
use Rattle.meaning.specs.Choices.{or}
use Rattle.meaning.specs.Checks.{width_fits, first_refusal}
use Rattle.meaning.proofs.Tests.{both}
use Rattle.circuit.specs.Cells.{stride, kind_at, cell_count, cell_at, bit_kind, word_kind}
use Rattle.meaning.specs.Refusals.{passed}
use Rattle.circuit.specs.Netlists.{netlist_fits, cell_refusal, netlist_verdict}
use Rattle.meaning.proofs.Verdicts.{went_on, none-refused, scan-passes}
use Rattle.circuit.proofs.Passes.{Passes}
use Rattle.circuit.proofs.Refusals.{refusal_of, passes_of, refused_none}

pub record Checked (w : ℕ) (net : List ℕ) : Type 0 where
  pub wide : (1 ≤ w) × (w ≤ 32)
  pub whole : length net ≡ cell_count net * stride
  pub some : (1 ≤ cell_count net) × (cell_count net ≤ 4096)
  pub cells : (n : ℕ) → n < cell_count net → Passes w 16 (cell_count net) (kind_at net) n (cell_at net n)

module _ (w : ℕ) (net : List ℕ) (h : netlist_verdict w net ≡ passed) where
  -- What the verdict has tried.
  went : (width_fits w ≡ true) × (netlist_fits net ≡ true) ×
      (first_refusal (cell_refusal w net) (cell_count net) 0 passed ≡ passed)
  unfolding netlist_verdict
  went =
      let a = went_on _ _ _ h in
      let b = went_on _ _ _ a.1 in
      (a.0, b.0, b.1)

  none : (j : ℕ) → j < cell_count net → refusal_of w net (cell_count net) j (cell_at net j) ≡ passed
  unfolding cell_refusal
  none j l = (none-refused (cell_refusal w net) (cell_count net) 0 passed went.2).0 j (omega arith) (omega arith)

  pub known : (j : ℕ) → j < cell_count net → or (bit_kind (kind_at net j)) (word_kind (kind_at net j)) ≡ true
  known j l = (went_on _ _ _ (none j l)).0

  long : (1 ≤ length net) × (length net % stride ≡ 0) × (length net ≤ 4096 * stride)
  long =
      let a = both _ _ went.1 in
      let b = both _ _ a.1 in
      (leb-true _ _ a.0, eqb-true _ _ b.0, leb-true _ _ b.1)

  pub checked : Checked w net
  checked =
      let width = both _ _ went.0 in
      let l = long in
      record {
        wide = (leb-true _ _ width.0, leb-true _ _ width.1);
        whole = omega arith;
        some = (omega arith, omega arith);
        cells = λ n i. passes_of w net (cell_count net) n known (omega arith) (cell_at net n) (none n i);
      }

pub checking : (w : ℕ) (net : List ℕ) → Checked w net → netlist_verdict w net ≡ passed
unfolding cell_refusal netlist_verdict
checking w net c =
    let s = c.some in
    let f = c.whole in
    let none : (j : ℕ) → 0 ≤ j → j < 0 + cell_count net → cell_refusal w net j ≡ passed =
    λ j l u. refused_none w net (cell_count net) j (c.cells j (omega arith)) in
    rw (
      le-leb 1 w c.wide.0,
      le-leb w 32 c.wide.1,
      le-leb 1 (length net) (omega arith),
      eq-eqb (length net % stride) 0 (omega arith),
      le-leb (length net) (4096 * stride) (omega arith),
      scan-passes (cell_refusal w net) (cell_count net) 0 passed none,
    )
