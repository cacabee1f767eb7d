-- Law: where every wire obeys its cell, the block of a well-typed term behaves as the term. Assumes nothing.
use Prim.Native.Nat.{ℕ, zero, suc, ◌≤◌, ◌<◌}
use mathlib.Core.Path.{◌≡◌, refl, sym, ◌∙◌, ap}
use mathlib.Core.Bool.{Bool, true, false}
use mathlib.Core.List.{List, [], ◌∷◌, ◌++◌, map}
use native.Mathlib.Omega.{arith}
use lib.Dec.{ltb}
use lib.ListN.{length}
use borrow.Author.Tests.{lt-ltb, le-ltb}
use Rattle.meaning.specs.Choices.{pick, and, not, bit, at}
use Rattle.meaning.specs.Words.{Words}
use Rattle.meaning.specs.Terms.{Term, leaf, seq, par, ite, rec}
use Rattle.meaning.specs.Cycles.{holds, leaf_word}
use Rattle.meaning.proofs.Typed.{LeafFits, const_leaf, field_leaf, op_leaf, Typed, leaf_typed, seq_typed, par_typed, ite_typed, rec_typed}
use Rattle.circuit.specs.Cells.{Cell, not_cell, and_cell, or_cell, low_register, nonzero_cell, value}
use Rattle.circuit.specs.Pieces.{◌after◌, Emitter, wires_from, rise, choices, registers, ending}
use Rattle.circuit.specs.Blocks.{operation_cell, leaf_block, seq_block, par_block, ite_block, rec_block, emit}
use Rattle.circuit.proofs.Lengths.{wires-length, kept-length, choices-length, registers-length}
use Rattle.circuit.proofs.Places.{
  PairPlaces,
  seq_places,
  par_places,
  BranchPlaces,
  branch_places,
  branch_cells,
  LoopPlaces,
  loop_places,
  Each,
  each-split,
  Branches,
  branch-split,
}
use Rattle.circuit.proofs.Gives.{Gives, gives}
use Rattle.circuit.proofs.Behaves.{BehavesAs}
use Rattle.circuit.proofs.LeafBlock.{leaf-behaves}
use Rattle.circuit.proofs.SeqBlock.{seq-behaves}
use Rattle.circuit.proofs.ParBlock.{par-behaves}
use Rattle.circuit.proofs.Branching.{Branching}
use Rattle.circuit.proofs.IteBlock.{ite-behaves}
use Rattle.circuit.proofs.RecBlock.{rec-behaves}
use Rattle.circuit.proofs.Equations.{
  Run,
  pick-nil,
  pick-cons,
  bit_of,
  words_of,
  held_at,
  Obeys,
  not-law,
  and-law,
  or-law,
  nonzero-law,
  rise-law,
  keep-law,
  choice-law,
  register-law,
}

-- Reading wires: the word at a place, and of two lists one after the other.
at_map : (read : ℕ → ℕ) (xs : List ℕ) (j : ℕ) → j < length xs → at (map read xs) j ≡ read (at xs j)
at_map read [] j h = absurd (omega arith)
at_map read (x ∷ xs) zero h = refl
at_map read (x ∷ xs) (suc j) h = at_map read xs j (omega arith)

map-append : (read : ℕ → ℕ) (xs ys : List ℕ) → map read (xs ++ ys) ≡ map read xs ++ map read ys
map-append read [] ys = refl
map-append read (x ∷ xs) ys = ap (λ (l : Words). read x ∷ l) (map-append read xs ys)

-- The operation cell of a leaf shows the leaf's word.
module _ (w : ℕ) (load : Bool) (words : Words) (held : ℕ → ℕ → ℕ) (read : ℕ → ℕ) where
  by-arity : (k b : ℕ) (xs : List ℕ) (two : Bool) → ltb k 20 ≡ two → 13 ≤ k → length xs ≡ pick two 2 1 →
      value w load words held read (operation_cell k b xs) ≡ leaf_word w k b (map read xs)
  by-arity k b xs true e h q =
      rw (le-ltb k 13 h, e, lt-ltb 12 k h, at_map read xs 0 (omega arith), at_map read xs 1 (omega arith), e)
  by-arity k b xs false e h q = rw (le-ltb k 13 h, e, lt-ltb 12 k h, at_map read xs 0 (omega arith), e)

  operation-law : (k b i : ℕ) (xs : List ℕ) → LeafFits w k b i → length xs ≡ i →
      value w load words held read (operation_cell k b xs) ≡ leaf_word w k b (map read xs)
  operation-law k b i xs (const_leaf e h) q = rw e
  operation-law k b i xs (field_leaf e h) q = rw (e, at_map read xs b (omega arith))
  operation-law k b i xs (op_leaf h h' e) q = by-arity k b xs (ltb k 20) refl h (q ∙ e)

module _ (S : Run) where
  -- An emitter's blocks behave as a term that takes i words.
  abbrev pub Sound : Term → Emitter → ℕ → Type 1
  Sound T N i = (b s : ℕ) (xs : List ℕ) → length xs ≡ i → Each (Obeys S) b (N b s xs).cells →
      BehavesAs S.width T (bit_of S s) (words_of S xs) (bit_of S (N b s xs).done) (words_of S (N b s xs).outs)

  leaf-sound : (k a v i : ℕ) → LeafFits S.width k v i → Sound (leaf k a v) (leaf_block k v) i
  leaf-sound k a v i f b s xs p h =
      leaf-behaves S.width k a v (bit_of S s) (bit_of S b) (words_of S xs) (words_of S ((1 after b) ∷ [])) (record {
        done = not-law S b s h.0;
        take = λ t. cc (
          h.1.0 (suc t),
          h.1.1.0 t,
          h.1.1.1.0 t,
          operation-law S.width (S.load t) (S.inputs t) (held_at S t (2 after b)) (λ j. S.wire j t) k v i xs f p,
          pick-nil (bit_of S s t),
          pick-cons (bit_of S s t) (leaf_word S.width k v (words_of S xs t)) (S.wire (1 after b) t) [] [],
        );
      })

  seq-sound : (f g : Term) (ef eg : Emitter) (i m : ℕ) → Sound f ef i → Gives ef i m → Sound g eg m → Sound (seq f g) (seq_block ef eg) i
  seq-sound f g ef eg i m sf of sg b s xs p h =
      let P : PairPlaces = seq_places ef eg b s xs in
      let t1 : List Cell = and_cell P.F.done P.G.done ∷ [] in
      let h0 = each-split (Obeys S) P.F.cells (rise P.p P.F.done ++ (P.G.cells ++ t1)) b P.p refl h in
      let h1 = each-split (Obeys S) (rise P.p P.F.done) (P.G.cells ++ t1) P.p (3 after P.p) (omega arith) h0.1 in
      let h2 = each-split (Obeys S) P.G.cells t1 (3 after P.p) P.r refl h1.1 in
      seq-behaves (bit_of S s) (bit_of S P.F.done) (bit_of S P.p) (bit_of S (2 after P.p)) (bit_of S P.G.done) (bit_of S P.r)
      (words_of S xs) (words_of S P.F.outs) (words_of S P.G.outs)
      (sf b s xs p h0.0) (rise-law S P.F.done P.p h1.0)
      (sg (3 after P.p) (2 after P.p) P.F.outs (of b s xs p) h2.0)
      (and-law S P.r P.F.done P.G.done h2.1.0)

  par-sound : (f g : Term) (ef eg : Emitter) (i : ℕ) → Sound f ef i → Sound g eg i → Sound (par f g) (par_block ef eg) i
  par-sound f g ef eg i sf sg b s xs p h =
      let P : PairPlaces = par_places ef eg b s xs in
      let t1 : List Cell = and_cell P.F.done P.G.done ∷ [] in
      let h0 = each-split (Obeys S) P.F.cells (P.G.cells ++ t1) b P.p refl h in
      let h1 = each-split (Obeys S) P.G.cells t1 P.p P.r refl h0.1 in
      par-behaves (bit_of S s) (bit_of S P.F.done) (bit_of S P.G.done) (bit_of S P.r)
      (words_of S xs) (words_of S P.F.outs) (words_of S P.G.outs) (words_of S (P.F.outs ++ P.G.outs))
      (sf b s xs p h0.0) (sg P.p s xs p h1.0) (and-law S P.r P.F.done P.G.done h1.1.0)
      (λ t. map-append (λ j. S.wire j t) P.F.outs P.G.outs)

  first_word : (xs : List ℕ) → length xs ≡ 1 → (t : ℕ) → holds (words_of S xs t) ≡ bit_of S (at xs 0) t
  first_word [] e t = absurd (omega arith)
  first_word (x ∷ xs) e t = refl

  -- A test with its branches, from the cells that Ite and Rec have in common.
  module _ (e f g : Term) (ee ef eg : Emitter) (i : ℕ) (se : Sound e ee i) (oe : Gives ee i 1) (sf : Sound f ef i) (sg : Sound g eg i)
      (b s : ℕ) (xs : List ℕ) (rest : List Cell) (q : length xs ≡ i) (h : Branches (Obeys S) ee ef eg b s xs rest) where
    abbrev P : BranchPlaces
    P = branch_places ee ef eg b s xs

    kept-count : length P.ks ≡ i
    kept-count = kept-length xs b ∙ q

    -- The four cells behind the rise.
    abbrev gate-cells : Each (Obeys S) (3 after P.p)
        (nonzero_cell (at P.E.outs 0) ∷ not_cell (3 after P.p) ∷ and_cell (2 after P.p) (3 after P.p) ∷
        and_cell (2 after P.p) (4 after P.p) ∷ [])
    gate-cells = h.on-gates.1.1.1

    gate-test : (t : ℕ) → bit_of S (3 after P.p) t ≡ holds (words_of S P.E.outs t)
    gate-test t =
        nonzero-law S (3 after P.p) (at P.E.outs 0) gate-cells.0 t ∙ sym (first_word P.E.outs (oe P.n s xs q) t)

    gate-g : (t : ℕ) → bit_of S (6 after P.p) t ≡ and (bit_of S (2 after P.p) t) (not (bit_of S (3 after P.p) t))
    gate-g t = cc (
      not-law S (4 after P.p) (3 after P.p) gate-cells.1.0 t,
      and-law S (6 after P.p) (2 after P.p) (4 after P.p) gate-cells.1.1.1.0 t,
    )

    abbrev branching : Branching S.width e f g (bit_of S s) (words_of S xs)
    branching = record {
      de = bit_of S P.E.done;
      pe = bit_of S P.p;
      re = bit_of S (2 after P.p);
      test = bit_of S (3 after P.p);
      sf = bit_of S (5 after P.p);
      df = bit_of S P.F.done;
      sg = bit_of S (6 after P.p);
      dg = bit_of S P.G.done;
      ye = words_of S P.E.outs;
      k = words_of S P.ks;
      yf = words_of S P.F.outs;
      yg = words_of S P.G.outs;
      keep = keep-law S xs b s h.on-keeps;
      E = se P.n s xs q h.on-e;
      D = rise-law S P.E.done P.p (h.on-gates.0, (h.on-gates.1.0, (h.on-gates.1.1.0, tt)));
      tests = gate-test;
      to_f = and-law S (5 after P.p) (2 after P.p) (3 after P.p) gate-cells.1.1.0;
      to_g = gate-g;
      F = sf (7 after P.p) (5 after P.p) P.ks kept-count h.on-f;
      G = sg P.q (6 after P.p) P.ks kept-count h.on-g;
    }

  ite-sound : (e f g : Term) (ee ef eg : Emitter) (i o : ℕ) → Sound e ee i → Gives ee i 1 → Sound f ef i → Gives ef i o →
      Sound g eg i → Gives eg i o → Sound (ite e f g) (ite_block ee ef eg) i
  ite-sound e f g ee ef eg i o se oe sf of sg og b s xs q h =
      let P : BranchPlaces = branch_places ee ef eg b s xs in
      let rest : List Cell =
      and_cell P.E.done P.F.done ∷ and_cell P.r P.G.done ∷ choices (3 after P.p) P.F.outs P.G.outs in
      let H = branch-split (Obeys S) ee ef eg b s xs rest h in
      let kq : length P.ks ≡ i = kept-length xs b ∙ q in
      let same : length P.F.outs ≡ length P.G.outs =
      of (7 after P.p) (5 after P.p) P.ks kq ∙ sym (og P.q (6 after P.p) P.ks kq) in
      ite-behaves (branching e f g ee ef eg i se oe sf sg b s xs rest q H)
      (bit_of S (1 after P.r)) (words_of S (wires_from (2 after P.r) (length P.F.outs)))
      (λ t. cc (
        and-law S P.r P.E.done P.F.done H.on-rest.0 t,
        and-law S (1 after P.r) P.r P.G.done H.on-rest.1.0 t,
      ))
      (choice-law S P.F.outs P.G.outs (2 after P.r) (3 after P.p) same H.on-rest.1.1)

  -- A Rec's cells before its branches.
  record Head (b s : ℕ) (xs ys : List ℕ) (again : ℕ) (rest : List Cell) : Type 0 where
    on-again : Obeys S b (low_register again)
    on-registers : Each (Obeys S) (1 after b) (registers ys)
    on-start : Obeys S (loop_places b xs).o (or_cell s b)
    on-choices : Each (Obeys S) (loop_places b xs).m (choices b (wires_from (1 after b) (length xs)) xs)
    on-rest : Each (Obeys S) (loop_places b xs).k rest

  head : (b s : ℕ) (xs ys : List ℕ) (again : ℕ) (rest : List Cell) → length ys ≡ length xs →
      Each (Obeys S) b (low_register again ∷ (registers ys ++
      (or_cell s b ∷ (choices b (wires_from (1 after b) (length xs)) xs ++ rest)))) →
      Head b s xs ys again rest
  head b s xs ys again rest e h =
      let L : LoopPlaces = loop_places b xs in
      let qs : List ℕ = wires_from (1 after b) (length xs) in
      let ql : length qs ≡ length xs = wires-length (length xs) (1 after b) in
      let h0 = each-split (Obeys S) (registers ys) (or_cell s b ∷ (choices b qs xs ++ rest)) (1 after b) L.o
      (omega (arith, registers-length ys)) h.1 in
      let h1 = each-split (Obeys S) (choices b qs xs) rest L.m L.k (omega (arith, choices-length qs xs b ql)) h0.1.1 in
      record { on-again = h.0; on-registers = h0.0; on-start = h0.1.0; on-choices = h1.0; on-rest = h1.1 }

  rec-sound : (e f g : Term) (ee ef eg : Emitter) (i : ℕ) → Sound e ee i → Gives ee i 1 → Sound f ef i →
      Sound g eg i → Gives eg i i → Sound (rec e f g) (rec_block ee ef eg) i
  rec-sound e f g ee ef eg i se oe sf sg og b s xs q h =
      let L : LoopPlaces = loop_places b xs in
      let P : BranchPlaces = branch_places ee ef eg L.k L.o L.us in
      let us : length L.us ≡ i = wires-length (length xs) L.m ∙ q in
      let qs : List ℕ = wires_from (1 after b) (length xs) in
      let ql : length qs ≡ length xs = wires-length (length xs) (1 after b) in
      let same : length P.G.outs ≡ length xs = og P.q (6 after P.p) P.ks (kept-length L.us L.k ∙ us) ∙ sym q in
      let rest : List Cell = ending P.r P.E P.F P.G in
      let A = head b s xs P.G.outs (2 after P.r) (branch_cells ee ef eg L.k L.o L.us rest) same h in
      let H = branch-split (Obeys S) ee ef eg L.k L.o L.us rest A.on-rest in
      let z = H.on-rest.1.1.1 in
      rec-behaves (record {
        start = bit_of S L.o;
        round = words_of S L.us;
        B = branching e f g ee ef eg i se oe sf sg L.k L.o L.us rest us H;
        pg = bit_of S P.r;
        rg = bit_of S (2 after P.r);
        D = rise-law S P.G.done P.r (H.on-rest.0, (H.on-rest.1.0, (H.on-rest.1.1.0, tt)));
        again = bit_of S b;
        again_first = ap bit (A.on-again 0);
        again_next = λ t. ap bit (A.on-again (suc t));
        fed = words_of S qs;
        fed_next = λ t. (rw same at (register-law S P.G.outs (1 after b) A.on-registers t));
        starts = or-law S L.o s b A.on-start;
        rounds = λ t. (rw ql at (choice-law S qs xs L.m b ql A.on-choices t));
        dones = λ t. cc (
          and-law S (3 after P.r) P.E.done P.F.done z.0 t,
          and-law S (4 after P.r) (3 after P.r) P.G.done z.1.0 t,
          not-law S (5 after P.r) (2 after P.r) z.1.1.0 t,
          and-law S (6 after P.r) (4 after P.r) (5 after P.r) z.1.1.1.0 t,
        );
      })

  pub wired : {T : Term} {i o : ℕ} → Typed S.width T i o → Sound T (emit T) i
  wired (leaf_typed {k = k} {a = a} {b = b} {i = i} e l u h) = leaf-sound k a b i h
  wired (seq_typed {f = f} {g = g} {i = i} m tf tg) = seq-sound f g (emit f) (emit g) i m (wired tf) (gives tf) (wired tg)
  wired (par_typed {f = f} {g = g} {i = i} a b l tf tg) = par-sound f g (emit f) (emit g) i (wired tf) (wired tg)
  wired (ite_typed {e = e} {f = f} {g = g} {i = i} {o = o} te tf tg) =
      ite-sound e f g (emit e) (emit f) (emit g) i o (wired te) (gives te) (wired tf) (gives tf) (wired tg) (gives tg)
  wired (rec_typed {e = e} {f = f} {g = g} {i = i} te tf tg) =
      rec-sound e f g (emit e) (emit f) (emit g) i (wired te) (gives te) (wired tf) (wired tg) (gives tg)
