-- Blocks: the cells of a term, kind by kind. Definitions only.
-- docs/READING.md: "Cells". Read after: `Pieces`, meaning's `Terms`. Assumes nothing.
use Rattle.std.specs.Prelude.{ℕ, ◌+◌, List, [], ◌∷◌, ◌++◌, eqb, ltb, length}
use Rattle.meaning.specs.Choices.{pick, at}
use Rattle.meaning.specs.Words.{arity}
use Rattle.meaning.specs.Terms.{Term, leaf, seq, par, ite, rec}
use Rattle.circuit.specs.Cells.{Cell, cell, not_cell, and_cell, or_cell, low_register, constant_cell, word_register, choice_cell, copy_cell}
use Rattle.circuit.specs.Pieces.{◌after◌, Emitter, wires_from, rise, keeps, kept, choices, registers, gates, ending}

-- The operation cell of a leaf: Const its constant, Field a copy of the word that it names, the others their kind on their words.
abbrev pub operation_cell : ℕ → ℕ → List ℕ → Cell
operation_cell k b xs =
    pick (ltb k 13) (pick (eqb k 9) (constant_cell b) (copy_cell (at xs b)))
    (pick (eqb (arity k) 2) (cell k (at xs 0) (at xs 1) 0) (cell k (at xs 0) 0 0))

-- Kind 9 and above: not s, which is done; the output's register, which reads the last cell; the operation; a choice on s between both.
abbrev pub leaf_block : ℕ → ℕ → Emitter
leaf_block k v b s xs = record {
  cells = not_cell s ∷ word_register (3 after b) ∷ operation_cell k v xs ∷ choice_cell s (2 after b) (1 after b) ∷ [];
  done = b;
  outs = (1 after b) ∷ [];
}

-- Seq: f; the rise of f's done, which starts g on f's outputs; both dones.
abbrev pub seq_block : Emitter → Emitter → Emitter
seq_block f g b s xs =
    let F = f b s xs in
    let p = b + length F.cells in
    let G = g (3 after p) (2 after p) F.outs in
    record {
      cells = F.cells ++ (rise p F.done ++ (G.cells ++ (and_cell F.done G.done ∷ [])));
      done = 3 after p + length G.cells;
      outs = G.outs;
    }

-- Par: f and g from one start on the same words; both dones.
abbrev pub par_block : Emitter → Emitter → Emitter
par_block f g b s xs =
    let F = f b s xs in
    let p = b + length F.cells in
    let G = g p s xs in
    record {
      cells = F.cells ++ (G.cells ++ (and_cell F.done G.done ∷ []));
      done = p + length G.cells;
      outs = F.outs ++ G.outs;
    }

-- Ite: the inputs kept; e on the inputs; the gates; f and then g on the kept words; all three dones, the last of which is done;
-- for each output a choice on e's word between f's and g's.
abbrev pub ite_block : Emitter → Emitter → Emitter → Emitter
ite_block e f g b s xs =
    let ks = kept b xs in
    let n = b + length (keeps b s xs) in
    let E = e n s xs in
    let p = n + length E.cells in
    let F = f (7 after p) (5 after p) ks in
    let q = 7 after p + length F.cells in
    let G = g q (6 after p) ks in
    let r = q + length G.cells in
    record {
      cells = keeps b s xs ++ (E.cells ++ (gates p E ++ (F.cells ++ (G.cells ++
          (and_cell E.done F.done ∷ and_cell r G.done ∷ choices (3 after p) F.outs G.outs)))));
      done = 1 after r;
      outs = wires_from (2 after r) (length F.outs);
    }

-- Rec: "again", a register of g's rise that starts low; a register of each of g's outputs; s or again, which starts a round; for each
-- input a choice on again between that register and the input; these kept; e on the choices; the gates; f and then g on the kept words;
-- the ending.
abbrev pub rec_block : Emitter → Emitter → Emitter → Emitter
rec_block e f g b s xs =
    let i = length xs in
    let o = 1 after b + i in
    let m = 1 after o in
    let us = wires_from m i in
    let k = m + i in
    let ks = kept k us in
    let n = k + length (keeps k o us) in
    let E = e n o us in
    let p = n + length E.cells in
    let F = f (7 after p) (5 after p) ks in
    let q = 7 after p + length F.cells in
    let G = g q (6 after p) ks in
    let r = q + length G.cells in
    record {
      cells = low_register (2 after r) ∷ (registers G.outs ++ (or_cell s b ∷ (choices b (wires_from (1 after b) i) xs ++ (keeps k o us ++
          (E.cells ++ (gates p E ++ (F.cells ++ (G.cells ++ ending r E F G))))))));
      done = 6 after r;
      outs = F.outs;
    }

-- The block of a term. Each use of a term is a circuit of its own.
abbrev pub emit : Term → Emitter
emit (leaf k a b) = leaf_block k b
emit (seq f g) = seq_block (emit f) (emit g)
emit (par f g) = par_block (emit f) (emit g)
emit (ite e f g) = ite_block (emit e) (emit f) (emit g)
emit (rec e f g) = rec_block (emit e) (emit f) (emit g)
