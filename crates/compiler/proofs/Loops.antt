-- Law: Rec from what its calls left. `blocks::rec` cites this. Assumes nothing.
use Prim.Native.Nat.{ℕ, ◌+◌, ◌*◌}
use mathlib.Core.Path.{◌≡◌, refl, sym, ap, ◌∙◌}
use mathlib.Core.List.{List, ◌∷◌, ◌++◌, append_assoc}
use native.Mathlib.Omega.{arith}
use lib.ListN.{length, take}
use Rattle.meaning.specs.Choices.{padded}
use Rattle.meaning.specs.Terms.{Term, rec}
use Rattle.meaning.specs.Counts.{ins, size}
use Rattle.meaning.proofs.Typed.{Well}
use Rattle.circuit.specs.Cells.{Cell, or_cell, low_register}
use Rattle.circuit.specs.Pieces.{◌after◌, Emitter, wires_from, keeps, choices, registers, ending}
use Rattle.circuit.specs.Blocks.{rec_block, emit}
use Rattle.circuit.proofs.Lengths.{wires-length, keeps-length, kept-length, registers-length}
use Rattle.pieces.specs.declared.leaves.Made.{Made}
use Rattle.pieces.specs.declared.seams.Forked.{Forked}
use Rattle.pieces.specs.Writing.{written, ending_on}
use Rattle.pieces.specs.Seams.{Round, round_of}
use Rattle.pieces.proofs.Placing.{plus-after, then, before}
use Rattle.pieces.proofs.Turns.{padded-first}
use Rattle.pieces.proofs.Seaming.{round-long}
use Rattle.compiler.specs.Building.{Emits, Fork, fork_of, fork_cells, Forks}
use Rattle.compiler.proofs.Typing.{rec-branches, rec-returns}
use Rattle.compiler.proofs.Pairs.{first-long}
use Rattle.compiler.proofs.Forking.{fork_ends, fork-behind, no-outs}

-- In the definition's own terms: the round, the fork from `start` on, the ending, and in front what reads g.
module _ (e f g : Emitter) (b s : ℕ) (xs : List ℕ) where
  abbrev round : Round
  round = round_of b s xs

  abbrev held : List Cell
  held = keeps (1 after round.o + length xs) round.o round.us

  abbrev start : ℕ
  start = 1 after round.o + length xs + length held

  abbrev rec_fork : Fork
  rec_fork = fork_of e f g start round.o round.us round.ks

  abbrev rec_end : List Cell
  rec_end = ending rec_fork.next rec_fork.test rec_fork.yes rec_fork.no

  abbrev fed : List Cell
  fed = low_register (2 after rec_fork.next) ∷ registers rec_fork.no.outs

  start_is : start ≡ round.o + (1 + 3 * length xs)
  start_is = omega (
    arith,
    keeps-length round.us (1 after round.o + length xs) round.o,
    wires-length (length xs) (1 after round.o),
  )

  rec-cells : (l v1 v2 v3 : List ℕ) → length rec_fork.no.outs ≡ length xs → v1 ≡ written l round.o round.cells →
      v2 ≡ written v1 start (fork_cells rec_fork) → v3 ≡ written (written v2 rec_fork.next rec_end) b fed →
      v3 ≡ written l b (rec_block e f g b s xs).cells
  rec-cells l v1 v2 v3 h e1 e2 e3 =
      let chosen : List Cell = choices b (wires_from (1 after b) (length xs)) xs in
      let ended : List ℕ = written v2 rec_fork.next rec_end in
      before l b fed (round.cells ++ (fork_cells rec_fork ++ rec_end)) round.o
      (omega (arith, h, registers-length rec_fork.no.outs)) ended v3
      (then l round.o round.cells (fork_cells rec_fork ++ rec_end) start (omega (arith, start_is, round-long b s xs)) v1 ended e1
      (then v1 start (fork_cells rec_fork) rec_end rec_fork.next (fork_ends e f g start round.o round.us round.ks) v2 ended e2
      refl)) e3
      ∙ ap (λ (cs : List Cell). written l b (fed ++ (or_cell s b ∷ cs))) (append_assoc chosen held (fork_cells rec_fork ++ rec_end)
      ∙ ap (λ (cs : List Cell). chosen ++ (held ++ cs)) (fork-behind e f g start round.o round.us round.ks rec_end))

-- From what its calls left: i is the count as the code has it, and a its answer.
module _ {w : ℕ} {e f g : Term} (h : Well w (rec e f g)) (p s : ℕ) (words l : List ℕ) {v1 v2 v3 live kw ends feeds : List ℕ} {r : Forked}
    {a : Made} {i : ℕ} (long : length words ≡ 16) (i-is : i ≡ ins e) (R1 : live ≡ padded 16 (round_of p s (take i words)).us)
    (R2 : kw ≡ padded 16 (round_of p s (take i words)).ks) (R3 : v1 ≡ written l (p + 1 + i) (round_of p s (take i words)).cells)
    (B : Forks (fork_of (emit e) (emit f) (emit g) (p + 2 + 4 * i) (p + 1 + i) (take (ins e) live) (take (ins e) kw)) (p + 2 + 4 * i)
    (size e + 7 + size f + size g) v1 v2 ends feeds r) (A : a ≡ record { next = r.next + 7; done = r.next + 6 })
    (F : v3 ≡ written (written v2 r.next (ending_on r.next r.tested r.left r.again)) p
    (low_register (r.next + 2) ∷ registers (take i feeds))) where
  abbrev xs : List ℕ
  xs = take (ins e) words

  abbrev P : Round
  P = round_of p s xs

  abbrev first : ℕ
  first = start (emit e) (emit f) (emit g) p s xs

  abbrev K : Fork
  K = rec_fork (emit e) (emit f) (emit g) p s xs

  xs-long : length xs ≡ ins e
  xs-long = first-long (rec-branches h).test words long

  us-long : length P.us ≡ ins e
  us-long = wires-length (length xs) (1 after P.o) ∙ xs-long

  ks-long : length P.ks ≡ ins e
  ks-long = kept-length P.us (1 after P.o + length xs) ∙ us-long

  live-is : take (ins e) live ≡ P.us
  live-is = ap (take (ins e)) (R1 ∙ rw i-is refl) ∙ padded-first 16 (ins e) P.us us-long

  kept-is : take (ins e) kw ≡ P.ks
  kept-is = ap (take (ins e)) (R2 ∙ rw i-is refl) ∙ padded-first 16 (ins e) P.ks ks-long

  o-at : p + 1 + i ≡ P.o
  o-at = omega (arith, i-is, xs-long)

  n-at : p + 2 + 4 * i ≡ first
  n-at = omega (arith, start_is (emit e) (emit f) (emit g) p s xs, i-is, xs-long)

  forked : Forks K first (size e + 7 + size f + size g) v1 v2 ends feeds r
  forked = rw (live-is, kept-is, n-at, o-at) at B

  feeds-long : length K.no.outs ≡ ins e
  feeds-long = no-outs (rec-branches h) first P.o P.us P.ks ks-long ∙ rec-returns h

  feeds-are : take i feeds ≡ K.no.outs
  feeds-are = ap (take i) forked.no ∙ padded-first 16 i K.no.outs (feeds-long ∙ sym i-is)

  pub rec-emits : Emits (rec e f g) p s words l v3 ends a
  rec-emits = record {
    next = omega (
      arith,
      ap (λ (m : Made). m.next) A,
      forked.past,
      start_is (emit e) (emit f) (emit g) p s xs,
      xs-long,
    );
    done = ap (λ (m : Made). m.done) A ∙ plus-after 6 r.next ∙ ap (λ (m : ℕ). 6 after m) forked.next;
    outs = forked.yes;
    sixteen = forked.sixteen.0;
    net = rec-cells (emit e) (emit f) (emit g) p s xs l v1 v2 v3 (feeds-long ∙ sym xs-long) (R3 ∙ rw (o-at, i-is) refl) forked.net
        (F ∙ rw (feeds-are, forked.next, forked.tested, forked.left, forked.again, plus-after 2 K.next) refl);
  }
