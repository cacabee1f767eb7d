-- Seams: what stands in front of and behind a test with its branches. Definitions only.
-- Read after: `Writing`, circuit's `Blocks`. Assumes nothing.
use Rattle.std.specs.Prelude.{ℕ, ◌+◌, List, ◌∷◌, ◌++◌, length}
use Rattle.circuit.specs.Cells.{Cell, and_cell, or_cell}
use Rattle.circuit.specs.Pieces.{◌after◌, wires_from, keeps, kept, choices}
use Rattle.pieces.specs.declared.seams.Forked.{Forked}

-- In front of the test of a Rec at b: the wire o that starts a round, the words of the round, these kept, and the cells from o on.
pub record Round : Type 0 where
  pub o : ℕ
  pub us : List ℕ
  pub ks : List ℕ
  pub cells : List Cell

abbrev pub round_of : ℕ → ℕ → List ℕ → Round
round_of b s xs =
    let i = length xs in
    let o = 1 after b + i in
    let us = wires_from (1 after o) i in
    let k = 1 after o + i in
    record {
      o = o;
      us = us;
      ks = kept k us;
      cells = or_cell s b ∷ (choices b (wires_from (1 after b) i) xs ++ keeps k o us);
    }

-- Behind the branches of an Ite, which gave xs and ys: all three dones, and each output chosen.
abbrev pub merge_cells : Forked → List ℕ → List ℕ → List Cell
merge_cells r xs ys =
    and_cell r.tested r.left ∷ and_cell r.next r.again ∷ choices (r.gate + 3) xs ys
