-- Law: a term's block has as many cells as `size` counts. Assumes nothing.
use Prim.Native.Nat.{ℕ, ◌+◌, ◌*◌}
use mathlib.Core.Path.{◌≡◌, refl, sym, ◌∙◌}
use mathlib.Core.List.{List, ◌∷◌}
use native.Mathlib.Omega.{arith}
use lib.ListN.{length, length-append}
use Rattle.meaning.specs.Terms.{Term}
use Rattle.meaning.specs.Counts.{size}
use Rattle.meaning.proofs.Typed.{Typed, leaf_typed, seq_typed, par_typed, ite_typed, rec_typed, typed-ins, typed-outs}
use Rattle.circuit.specs.Cells.{Cell, and_cell}
use Rattle.circuit.specs.Pieces.{◌after◌, Emitter, wires_from, choices}
use Rattle.circuit.specs.Blocks.{seq_block, par_block, ite_block, rec_block, emit}
use Rattle.circuit.proofs.Lengths.{wires-length, kept-length, keeps-length, choices-length, registers-length}
use Rattle.circuit.proofs.Places.{PairPlaces, seq_places, par_places, BranchPlaces, branch_places, branch_cells, LoopPlaces, loop_places}
use Rattle.circuit.proofs.Gives.{Gives, gives}

-- On i input wires an emitter gives n cells.
abbrev pub Sizes : Emitter → ℕ → ℕ → Type 0
Sizes N i n = (b s : ℕ) (xs : List ℕ) → length xs ≡ i → length (N b s xs).cells ≡ n

module _ (f g : Emitter) (i p q : ℕ) (sf : Sizes f i p) where
  seq-size : (m : ℕ) → Gives f i m → Sizes g m q → Sizes (seq_block f g) i (p + q + 4)
  seq-size m of sg b s xs h =
      let B : PairPlaces = seq_places f g b s xs in
      simp length-append (omega (arith, sf b s xs h, sg (3 after B.p) (2 after B.p) B.F.outs (of b s xs h)))

  par-size : Sizes g i q → Sizes (par_block f g) i (p + q + 1)
  par-size sg b s xs h =
      let B : PairPlaces = par_places f g b s xs in
      simp length-append (omega (arith, sf b s xs h, sg B.p s xs h))

module _ (e f g : Emitter) (i m p q : ℕ) (se : Sizes e i m) (sf : Sizes f i p) (sg : Sizes g i q) where
  branch-size : (b s : ℕ) (xs : List ℕ) (rest : List Cell) → length xs ≡ i →
      length (branch_cells e f g b s xs rest) ≡ 2 * i + m + p + q + 7 + length rest
  branch-size b s xs rest h =
      let B : BranchPlaces = branch_places e f g b s xs in
      let k : length B.ks ≡ i = kept-length xs b ∙ h in
      simp length-append (omega (
        arith,
        keeps-length xs b s,
        se B.n s xs h,
        sf (7 after B.p) (5 after B.p) B.ks k,
        sg B.q (6 after B.p) B.ks k,
      ))

  ite-size : (o : ℕ) → Gives f i o → Gives g i o → Sizes (ite_block e f g) i (2 * i + m + p + q + 9 + o)
  ite-size o of og b s xs h =
      let B : BranchPlaces = branch_places e f g b s xs in
      let k : length B.ks ≡ i = kept-length xs b ∙ h in
      let fo : length B.F.outs ≡ o = of (7 after B.p) (5 after B.p) B.ks k in
      let go : length B.G.outs ≡ o = og B.q (6 after B.p) B.ks k in
      let cs : List Cell = choices (3 after B.p) B.F.outs B.G.outs in
      let dones : List Cell = and_cell B.E.done B.F.done ∷ and_cell B.r B.G.done ∷ cs in
      omega (arith, branch-size b s xs dones h, choices-length B.F.outs B.G.outs (3 after B.p) (fo ∙ sym go))

  rec-size : Gives g i i → Sizes (rec_block e f g) i (4 * i + m + p + q + 16)
  rec-size og b s xs h =
      let L : LoopPlaces = loop_places b xs in
      let B : BranchPlaces = branch_places e f g L.k L.o L.us in
      let us : length L.us ≡ i = wires-length (length xs) L.m ∙ h in
      let qs : List ℕ = wires_from (1 after b) (length xs) in
      simp length-append (omega (
        arith,
        registers-length B.G.outs,
        og B.q (6 after B.p) B.ks (kept-length L.us L.k ∙ us),
        choices-length qs xs b (wires-length (length xs) (1 after b)),
        wires-length (length xs) (1 after b),
        keeps-length L.us L.k L.o,
        se B.n L.o L.us us,
        sf (7 after B.p) (5 after B.p) B.ks (kept-length L.us L.k ∙ us),
        sg B.q (6 after B.p) B.ks (kept-length L.us L.k ∙ us),
      ))

pub sized : {w : ℕ} {T : Term} {i o : ℕ} → Typed w T i o → Sizes (emit T) i (size T)
sized (leaf_typed e l u h) = λ b s xs q. refl
sized (seq_typed {f = f} {g = g} {i = i} m tf tg) =
    seq-size (emit f) (emit g) i (size f) (size g) (sized tf) m (gives tf) (sized tg)
sized (par_typed {f = f} {g = g} {i = i} m n l tf tg) = par-size (emit f) (emit g) i (size f) (size g) (sized tf) (sized tg)
sized (ite_typed {e = e} {f = f} {g = g} {i = i} {o = o} te tf tg) =
    rw (← typed-ins te, ← typed-outs tf)
    (ite-size (emit e) (emit f) (emit g) i (size e) (size f) (size g) (sized te) (sized tf) (sized tg) o (gives tf) (gives tg))
sized (rec_typed {e = e} {f = f} {g = g} {i = i} te tf tg) =
    rw (← typed-ins te) (rec-size (emit e) (emit f) (emit g) i (size e) (size f) (size g) (sized te) (sized tf) (sized tg) (gives tg))
