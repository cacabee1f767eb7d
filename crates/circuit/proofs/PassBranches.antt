-- Law: the blocks of Ite and Rec, and so of every well-typed term, pass the cell checks, and the whole circuit does. Assumes nothing.
use Prim.Native.Nat.{ℕ, ◌+◌, ◌≤◌, ◌<◌}
use mathlib.Core.Path.{◌≡◌, sym, ◌∙◌}
use mathlib.Core.List.{List, ◌∷◌, ◌++◌}
use native.Mathlib.Omega.{arith}
use lib.ListN.{length, length-append}
use Rattle.meaning.specs.Terms.{Term}
use Rattle.meaning.specs.Counts.{ins}
use Rattle.meaning.proofs.Typed.{Typed, leaf_typed, seq_typed, par_typed, ite_typed, rec_typed}
use Rattle.circuit.specs.Cells.{Cell, and_cell, or_cell}
use Rattle.circuit.specs.Pieces.{◌after◌, Block, Emitter, wires_from, keeps, choices, registers, gates, ending}
use Rattle.circuit.specs.Blocks.{ite_block, rec_block, emit}
use Rattle.circuit.specs.Compiling.{input_cells, front, main_block, whole_cells}
use Rattle.circuit.proofs.Lengths.{wires-length, kept-length, choices-length, registers-length, inputs-length}
use Rattle.circuit.proofs.Places.{
  BranchPlaces,
  branch_places,
  branch_cells,
  LoopPlaces,
  loop_places,
  Each,
  each-split,
  each-join,
  Branches,
  branch-split,
  branch_join,
}
use Rattle.circuit.proofs.Gives.{Gives, gives}
use Rattle.circuit.proofs.Passes.{BitBelow, Passes, load_passes, not_passes, and_passes, or_passes, low_passes, high_passes}
use Rattle.circuit.proofs.PassPieces.{
  HasKind,
  AllWords,
  words_up,
  word_at,
  kept-words,
  choice-words,
  register-words,
  input-words,
  keeps-pass,
  registers-pass,
  choices-pass,
  inputs-pass,
  gate-bits,
  gates-pass,
  ending-pass,
}
use Rattle.circuit.proofs.PassBlocks.{Fine, Passing, leaf-passing, seq-passing, par-passing}

-- Where a test with its branches ends.
branch-end : (e f g : Emitter) (b s : ℕ) (xs : List ℕ) (rest : List Cell) →
    b + length (branch_cells e f g b s xs rest) ≡ (branch_places e f g b s xs).r + length rest
branch-end e f g b s xs rest = simp length-append (omega arith)

module _ (kinds : ℕ → ℕ) (w given count : ℕ) where
  -- The parts of a test with its branches pass.
  module _ (e f g : Emitter) (i : ℕ) (fe : Passing kinds w given count e i) (oe : Gives e i 1) (ff : Passing kinds w given count f i)
      (fg : Passing kinds w given count g i) (b s : ℕ) (xs : List ℕ) (rest : List Cell) (q : length xs ≡ i) (h : BitBelow kinds b s)
      (a : AllWords kinds b xs) (ks : Branches (HasKind kinds) e f g b s xs rest) where
    abbrev P : BranchPlaces
    P = branch_places e f g b s xs

    record BranchFine : Type 0 where
      keeps-fine : Each (Passes w given count kinds) b (keeps b s xs)
      e-fine : Fine kinds w given count P.n P.E
      gates-fine : Each (Passes w given count kinds) P.p (gates P.p P.E)
      test_bit : kinds (3 after P.p) ≤ 6
      f-fine : Fine kinds w given count (7 after P.p) P.F
      g-fine : Fine kinds w given count P.q P.G

    branch-fine : P.r ≤ count → BranchFine
    branch-fine l =
        let gb = gate-bits kinds w given count P.p P.E ks.on-gates in
        let kq : length P.ks ≡ i = kept-length xs b ∙ q in
        let kw : AllWords kinds P.n P.ks = kept-words kinds xs b s P.n (omega arith) ks.on-keeps in
        let x : Fine kinds w given count P.n P.E =
        fe P.n s xs q (omega arith, h.1) (words_up kinds xs b P.n (omega arith) a) ks.on-e (omega arith) in
        let eo : length P.E.outs ≡ 1 = oe P.n s xs q in
        record {
          keeps-fine = keeps-pass kinds w given count xs b s h a ks.on-keeps (omega arith);
          e-fine = x;
          gates-fine = gates-pass kinds w given count P.p P.E x.done-bit
              (word_at kinds P.E.outs 0 P.p (omega arith) x.out-words) ks.on-gates (omega arith);
          test_bit = gb.1;
          f-fine = ff (7 after P.p) (5 after P.p) P.ks kq (omega arith, gb.3)
              (words_up kinds P.ks P.n (7 after P.p) (omega arith) kw) ks.on-f (omega arith);
          g-fine = fg P.q (6 after P.p) P.ks kq (omega arith, gb.4)
              (words_up kinds P.ks P.n P.q (omega arith) kw) ks.on-g (omega arith);
        }

    branch-passes : BranchFine → Each (Passes w given count kinds) P.r rest →
        Each (Passes w given count kinds) b (branch_cells e f g b s xs rest)
    branch-passes B r = branch_join (Passes w given count kinds) e f g b s xs rest (record {
      on-keeps = B.keeps-fine;
      on-e = B.e-fine.cells-pass;
      on-gates = B.gates-fine;
      on-f = B.f-fine.cells-pass;
      on-g = B.g-fine.cells-pass;
      on-rest = r;
    })

    -- The dones, below the end.
    dones : BranchFine → BitBelow kinds P.r P.E.done × BitBelow kinds P.r P.F.done × BitBelow kinds P.r P.G.done
    dones B =
        let x : P.E.done < P.p = B.e-fine.done-bit.0 in
        let y : P.F.done < P.q = B.f-fine.done-bit.0 in
        ((omega arith, B.e-fine.done-bit.1), (omega arith, B.f-fine.done-bit.1), B.g-fine.done-bit)

  ite-passing : (e f g : Emitter) (i o : ℕ) → Passing kinds w given count e i → Gives e i 1 → Passing kinds w given count f i →
      Gives f i o → Passing kinds w given count g i → Gives g i o → Passing kinds w given count (ite_block e f g) i
  ite-passing e f g i o fe oe ff of fg og b s xs q h a ks l =
      let P : BranchPlaces = branch_places e f g b s xs in
      let cs : List Cell = choices (3 after P.p) P.F.outs P.G.outs in
      let rest : List Cell = and_cell P.E.done P.F.done ∷ and_cell P.r P.G.done ∷ cs in
      let len : b + length (branch_cells e f g b s xs rest) ≡ P.r + length rest = branch-end e f g b s xs rest in
      let kq : length P.ks ≡ i = kept-length xs b ∙ q in
      let same : length P.F.outs ≡ length P.G.outs =
      of (7 after P.p) (5 after P.p) P.ks kq ∙ sym (og P.q (6 after P.p) P.ks kq) in
      let cl : length cs ≡ length P.F.outs = choices-length P.F.outs P.G.outs (3 after P.p) same in
      let K = branch-split (HasKind kinds) e f g b s xs rest ks in
      let kr : kinds P.r ≡ 2 = K.on-rest.0 in
      let kd : kinds (1 after P.r) ≡ 2 = K.on-rest.1.0 in
      let B = branch-fine e f g i fe oe ff fg b s xs rest q h a K (omega arith) in
      let d = dones e f g i fe oe ff fg b s xs rest q h a K B in
      let de : P.E.done < P.r = d.0.0 in
      let df : P.F.done < P.r = d.1.0 in
      let dg : P.G.done < P.r = d.2.0 in
      record {
        cells-pass = branch-passes e f g i fe oe ff fg b s xs rest q h a K B (
          and_passes P.E.done P.F.done d.0 d.1,
          (
            and_passes P.r P.G.done (omega arith, omega arith) (omega arith, d.2.1),
            choices-pass kinds w given count P.F.outs P.G.outs (2 after P.r) (3 after P.p) (omega arith, B.test_bit)
                (words_up kinds P.F.outs P.q (2 after P.r) (omega arith) B.f-fine.out-words)
                (words_up kinds P.G.outs P.r (2 after P.r) (omega arith) B.g-fine.out-words),
          ),
        );
        done-bit = (omega arith, omega arith);
        out-words = choice-words kinds P.F.outs P.G.outs (2 after P.r) (3 after P.p) _ same (omega arith) K.on-rest.1.1;
      }

  rec-passing : (e f g : Emitter) (i : ℕ) → Passing kinds w given count e i → Gives e i 1 → Passing kinds w given count f i →
      Passing kinds w given count g i → Gives g i i → Passing kinds w given count (rec_block e f g) i
  rec-passing e f g i fe oe ff fg og b s xs q h a ks l =
      let L : LoopPlaces = loop_places b xs in
      let P : BranchPlaces = branch_places e f g L.k L.o L.us in
      let us : length L.us ≡ i = wires-length (length xs) L.m ∙ q in
      let qs : List ℕ = wires_from (1 after b) (length xs) in
      let ql : length qs ≡ length xs = wires-length (length xs) (1 after b) in
      let same : length P.G.outs ≡ length xs = og P.q (6 after P.p) P.ks (kept-length L.us L.k ∙ us) ∙ sym q in
      let rest : List Cell = ending P.r P.E P.F P.G in
      let rs : List Cell = registers P.G.outs in
      let cs : List Cell = choices b qs xs in
      let bs : List Cell = branch_cells e f g L.k L.o L.us rest in
      let rl : length rs ≡ length xs = registers-length P.G.outs ∙ same in
      let cl : length cs ≡ length xs = choices-length qs xs b ql ∙ ql in
      let bl : L.k + length bs ≡ 7 after P.r = omega (arith, branch-end e f g L.k L.o L.us rest) in
      let l0 : length (rs ++ (or_cell s b ∷ (cs ++ bs))) ≡ length rs + length (or_cell s b ∷ (cs ++ bs)) =
      length-append rs (or_cell s b ∷ (cs ++ bs)) in
      let l1 : length (cs ++ bs) ≡ length cs + length bs = length-append cs bs in
      let end : b + length (rec_block e f g b s xs).cells ≡ 7 after P.r = omega arith in
      let room : 7 after P.r ≤ count = rw end at l in
      let k0 = each-split (HasKind kinds) rs (or_cell s b ∷ (cs ++ bs)) (1 after b) L.o (omega arith) ks.1 in
      let k1 = each-split (HasKind kinds) cs bs L.m L.k (omega arith) k0.1.1 in
      let K = branch-split (HasKind kinds) e f g L.k L.o L.us rest k1.1 in
      let ka : kinds b ≡ 4 = ks.0 in
      let ko : kinds L.o ≡ 3 = k0.1.0 in
      let kr : kinds (2 after P.r) ≡ 2 = K.on-rest.1.1.0 in
      let kd : kinds (6 after P.r) ≡ 2 = K.on-rest.1.1.1.1.1.1.0 in
      let qw : AllWords kinds L.o qs = (rw same at (register-words kinds P.G.outs (1 after b) L.o (omega arith) k0.0)) in
      let uw : AllWords kinds L.k L.us = (rw ql at (choice-words kinds qs xs L.m b L.k ql (omega arith) k1.0)) in
      let ob : BitBelow kinds L.k L.o = (omega arith, omega arith) in
      let B = branch-fine e f g i fe oe ff fg L.k L.o L.us rest us ob uw K (omega arith) in
      let d = dones e f g i fe oe ff fg L.k L.o L.us rest us ob uw K B in
      record {
        cells-pass = (
          low_passes (2 after P.r) (omega arith, omega arith),
          each-join (Passes w given count kinds) rs (or_cell s b ∷ (cs ++ bs)) (1 after b) L.o (omega arith)
              (registers-pass kinds w given count P.G.outs (1 after b)
              (words_up kinds P.G.outs P.r count (omega arith) B.g-fine.out-words)) (
                or_passes s b (omega arith, h.1) (omega arith, omega arith),
                each-join (Passes w given count kinds) cs bs L.m L.k (omega arith)
                    (choices-pass kinds w given count qs xs L.m b (omega arith, omega arith)
                    (words_up kinds qs L.o L.m (omega arith) qw) (words_up kinds xs b L.m (omega arith) a))
                    (branch-passes e f g i fe oe ff fg L.k L.o L.us rest us ob uw K B
                    (ending-pass kinds w given count P.r P.E P.F P.G d.0 d.1 d.2 K.on-rest room)),
              ),
        );
        done-bit = (omega arith, omega arith);
        out-words = words_up kinds P.F.outs P.q _ (omega arith) B.f-fine.out-words;
      }

  pub emitted-passing : {T : Term} {i o : ℕ} → Typed w T i o → Passing kinds w given count (emit T) i
  emitted-passing (leaf_typed {k = k} {b = b} {i = i} e l u h) = leaf-passing kinds w given count k b i h
  emitted-passing (seq_typed {f = f} {g = g} {i = i} m tf tg) =
      seq-passing kinds w given count (emit f) (emit g) i m (emitted-passing tf) (gives tf) (emitted-passing tg)
  emitted-passing (par_typed {f = f} {g = g} {i = i} a b l tf tg) =
      par-passing kinds w given count (emit f) (emit g) i (emitted-passing tf) (emitted-passing tg)
  emitted-passing (ite_typed {e = e} {f = f} {g = g} {i = i} {o = o} te tf tg) =
      ite-passing (emit e) (emit f) (emit g) i o (emitted-passing te) (gives te) (emitted-passing tf) (gives tf) (emitted-passing tg)
      (gives tg)
  emitted-passing (rec_typed {e = e} {f = f} {g = g} {i = i} te tf tg) =
      rec-passing (emit e) (emit f) (emit g) i (emitted-passing te) (gives te) (emitted-passing tf) (emitted-passing tg) (gives tg)

  -- The whole circuit, with what its main block is.
  module _ (T : Term) (o : ℕ) (ty : Typed w T (ins T) o) (few : ins T ≤ given) (ks : Each (HasKind kinds) 0 (whole_cells T))
      (l : length (whole_cells T) ≤ count) where
    abbrev M : Block
    M = main_block T

    abbrev behind : List Cell
    behind = front (ins T) M.done ++ M.cells

    on-inputs : Each (HasKind kinds) 1 (input_cells 0 (ins T)) × Each (HasKind kinds) (1 after ins T) behind
    on-inputs = each-split (HasKind kinds) (input_cells 0 (ins T)) behind 1 (1 after ins T) (omega (arith, inputs-length (ins T) 0)) ks.1

    whole_length : length (whole_cells T) ≡ 6 after ins T + length M.cells
    whole_length = simp length-append (omega (arith, inputs-length (ins T) 0))

    pub main-fine : Fine kinds w given count (6 after ins T) M
    main-fine =
        let kf = on-inputs.1 in
        let k5 : kinds (5 after ins T) ≡ 2 = kf.1.1.1.1.0 in
        let len = whole_length in
        emitted-passing ty (6 after ins T) (5 after ins T) (wires_from 1 (ins T)) (wires-length (ins T) 1) (omega arith, omega arith)
        (input-words kinds (ins T) 1 0 (6 after ins T) (omega arith) on-inputs.0) kf.1.1.1.1.1 (omega arith)

    pub whole-passes : Each (Passes w given count kinds) 0 (whole_cells T)
    whole-passes =
        let i : ℕ = ins T in
        let kf = on-inputs.1 in
        let k0 : kinds 0 ≡ 0 = ks.0 in
        let k1 : kinds (1 after i) ≡ 5 = kf.0 in
        let k2 : kinds (2 after i) ≡ 1 = kf.1.0 in
        let k3 : kinds (3 after i) ≡ 5 = kf.1.1.0 in
        let k4 : kinds (4 after i) ≡ 2 = kf.1.1.1.0 in
        let d : M.done < 6 after i + length M.cells = main-fine.done-bit.0 in
        let len = whole_length in (
          load_passes,
          each-join (Passes w given count kinds) (input_cells 0 i) behind 1 (1 after i) (omega (arith, inputs-length i 0))
              (inputs-pass kinds w given count i 1 0 (omega arith)) (
                high_passes 0 (omega arith, omega arith),
                (
                  not_passes (1 after i) (omega arith, omega arith),
                  (
                    high_passes M.done (omega arith, main-fine.done-bit.1),
                    (
                      and_passes 0 (2 after i) (omega arith, omega arith) (omega arith, omega arith),
                      (and_passes (4 after i) (3 after i) (omega arith, omega arith) (omega arith, omega arith), main-fine.cells-pass),
                    ),
                  ),
                ),
              ),
        )
