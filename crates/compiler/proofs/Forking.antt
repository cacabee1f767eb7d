-- Law: a test with its branches, and Ite, from what their calls left. `blocks::fork`, `blocks::ite` and `blocks::rec` cite this.
-- Assumes nothing.
use Prim.Native.Nat.{ℕ, ◌+◌, ◌*◌, ◌≤◌}
use mathlib.Core.Path.{◌≡◌, refl, sym, ap, ◌∙◌}
use mathlib.Core.List.{List, ◌∷◌, ◌++◌, append_assoc}
use native.Mathlib.Omega.{arith}
use lib.ListN.{length, take, length-append}
use lib.Seq.{length-take-le}
use Rattle.meaning.specs.Choices.{padded, at}
use Rattle.meaning.specs.Terms.{Term, ite}
use Rattle.meaning.specs.Counts.{ins, outs, size}
use Rattle.meaning.proofs.Typed.{Well, few_outs}
use Rattle.meaning.proofs.Lists.{padded-at}
use Rattle.circuit.specs.Cells.{Cell, and_cell}
use Rattle.circuit.specs.Pieces.{◌after◌, Block, Emitter, wires_from, keeps, kept, choices, gates}
use Rattle.circuit.specs.Blocks.{ite_block, emit}
use Rattle.circuit.proofs.Lengths.{keeps-length, kept-length}
use Rattle.circuit.proofs.Gives.{gives}
use Rattle.pieces.specs.declared.leaves.Made.{Made}
use Rattle.pieces.specs.declared.seams.Forked as declared
use Rattle.pieces.specs.Writing.{written, gates_on}
use Rattle.pieces.specs.Seams.{merge_cells}
use Rattle.compiler.specs.Building.{block_of, Emits, Fork, fork_of, fork_cells, Forks}
use Rattle.pieces.proofs.Placing.{plus-after, then}
use Rattle.pieces.proofs.Turns.{padded-first, wires-sixteen}
use Rattle.compiler.proofs.Typing.{Branches, ite-branches, ite-joins}
use Rattle.compiler.proofs.Pairs.{follows, first-long}

four-lists : (a b c d cs : List Cell) → (a ++ (b ++ (c ++ d))) ++ cs ≡ a ++ (b ++ (c ++ (d ++ cs)))
four-lists a b c d cs = simp append_assoc

-- The cells of a fork stand in a row, and end where it says.
module _ (e f g : Emitter) (n s : ℕ) (us ks : List ℕ) where
  abbrev fork : Fork
  fork = fork_of e f g n s us ks

  pub fork_ends : n + length (fork_cells fork) ≡ fork.next
  fork_ends =
      let F = fork.yes.cells in
      let G = fork.no.cells in
      omega (
        arith,
        length-append fork.test.cells (gates fork.gate fork.test ++ (F ++ G)),
        length-append (gates fork.gate fork.test) (F ++ G),
        length-append F G,
      )

  -- With cells behind them.
  pub fork-behind : (cs : List Cell) → fork_cells fork ++ cs ≡
      fork.test.cells ++ (gates fork.gate fork.test ++ (fork.yes.cells ++ (fork.no.cells ++ cs)))
  fork-behind = four-lists fork.test.cells (gates fork.gate fork.test) fork.yes.cells fork.no.cells

  fork-written : (l v1 v2 v3 v4 : List ℕ) → v1 ≡ written l n fork.test.cells →
      v2 ≡ written v1 fork.gate (gates fork.gate fork.test) → v3 ≡ written v2 (7 after fork.gate) fork.yes.cells →
      v4 ≡ written v3 (7 after fork.gate + length fork.yes.cells) fork.no.cells → v4 ≡ written l n (fork_cells fork)
  fork-written l v1 v2 v3 v4 e1 e2 e3 e4 =
      let F = fork.yes.cells in
      let G = fork.no.cells in
      then l n fork.test.cells (gates fork.gate fork.test ++ (F ++ G)) fork.gate refl v1 v4 e1
      (then v1 fork.gate (gates fork.gate fork.test) (F ++ G) (7 after fork.gate) (omega arith) v2 v4 e2
      (then v2 (7 after fork.gate) F G (7 after fork.gate + length F) refl v3 v4 e3 e4))

-- Its outputs, where the three are well typed on as many wires.
module _ {w : ℕ} {e f g : Term} (h : Branches w e f g) (n s : ℕ) (us ks : List ℕ) (k : length ks ≡ ins e) where
  abbrev term_fork : Fork
  term_fork = fork_of (emit e) (emit f) (emit g) n s us ks

  pub yes-outs : length term_fork.yes.outs ≡ outs f
  yes-outs = gives h.yes (7 after term_fork.gate) (5 after term_fork.gate) ks (k ∙ h.same_f)

  pub no-outs : length term_fork.no.outs ≡ outs g
  no-outs = gives h.no (7 after term_fork.gate + length term_fork.yes.cells) (6 after term_fork.gate) ks (k ∙ h.same_g)

-- A fork, from what its calls left.
module _ {w : ℕ} {e f g : Term} (h : Branches w e f g) {n s : ℕ} {live kw l v1 v2 v3 v4 w1 w2 w3 : List ℕ} {a b c : Made}
    (live-long : length live ≡ 16) (kept-long : length kw ≡ 16) (A : Emits e n s live l v1 w1 a)
    (R : v2 ≡ written v1 a.next (gates_on a.next a.done (at w1 0))) (B : Emits f (a.next + 7) (a.next + 5) kw v2 v3 w2 b)
    (C : Emits g b.next (a.next + 6) kw v3 v4 w3 c) where
  abbrev K : Fork
  K = fork_of (emit e) (emit f) (emit g) n s (take (ins e) live) (take (ins e) kw)

  gate-is : a.next ≡ K.gate
  gate-is = follows h.test live-long A

  word-is : at w1 0 ≡ at K.test.outs 0
  word-is = ap (λ (ws : List ℕ). at ws 0) A.outs ∙ padded-at 16 K.test.outs 0

  yes-is : block_of f (a.next + 7) (a.next + 5) kw ≡ K.yes
  yes-is = rw (gate-is, ← h.same_f, plus-after 7 K.gate, plus-after 5 K.gate) refl

  middle-is : b.next ≡ 7 after K.gate + length K.yes.cells
  middle-is = follows h.yes kept-long B ∙ rw (yes-is, gate-is, plus-after 7 K.gate) refl

  no-is : block_of g b.next (a.next + 6) kw ≡ K.no
  no-is = rw (middle-is, gate-is, ← h.same_g, plus-after 6 K.gate) refl

  pub forks : Forks K n (size e + 7 + size f + size g) l v4 w2 w3
      (record { gate = a.next; next = c.next; tested = a.done; left = b.done; again = c.done })
  forks = record {
    gate = gate-is;
    next = follows h.no kept-long C ∙ rw (no-is, middle-is) refl;
    past = omega (arith, A.next, B.next, C.next);
    tested = A.done;
    left = B.done ∙ ap (λ (F : Block). F.done) yes-is;
    again = C.done ∙ ap (λ (G : Block). G.done) no-is;
    yes = B.outs ∙ ap (λ (F : Block). padded 16 F.outs) yes-is;
    no = C.outs ∙ ap (λ (G : Block). padded 16 G.outs) no-is;
    sixteen = (B.sixteen, C.sixteen);
    net = fork-written (emit e) (emit f) (emit g) n s (take (ins e) live) (take (ins e) kw) l v1 v2 v3 v4 A.net
        (R ∙ rw (gate-is, A.done, word-is) refl)
        (B.net ∙ rw (yes-is, gate-is, plus-after 7 K.gate) refl)
        (C.net ∙ rw (no-is, middle-is) refl);
  }

-- Ite, in the definition's own terms.
module _ (e f g : Emitter) (b s : ℕ) (xs : List ℕ) where
  abbrev ite_fork : Fork
  ite_fork = fork_of e f g (b + length (keeps b s xs)) s xs (kept b xs)

  abbrev ite_last : List Cell
  ite_last = and_cell ite_fork.test.done ite_fork.yes.done ∷ and_cell ite_fork.next ite_fork.no.done ∷
      choices (3 after ite_fork.gate) ite_fork.yes.outs ite_fork.no.outs

  ite-cells : (l v1 v2 v3 : List ℕ) → v1 ≡ written l b (keeps b s xs) → v2 ≡ written v1 (b + length (keeps b s xs)) (fork_cells ite_fork) →
      v3 ≡ written v2 ite_fork.next ite_last → v3 ≡ written l b (ite_block e f g b s xs).cells
  ite-cells l v1 v2 v3 e1 e2 e3 =
      let n = b + length (keeps b s xs) in
      then l b (keeps b s xs) (fork_cells ite_fork ++ ite_last) n refl v1 v3 e1
      (then v1 n (fork_cells ite_fork) ite_last ite_fork.next (fork_ends e f g n s xs (kept b xs)) v2 v3 e2 e3)
      ∙ ap (λ (cs : List Cell). written l b (keeps b s xs ++ cs)) (fork-behind e f g n s xs (kept b xs) ite_last)

-- Ite, from what its calls left: i and o are the counts as the code has them, and a is its answer.
module _ {w : ℕ} {e f g : Term} (h : Well w (ite e f g)) (p s : ℕ) (words l : List ℕ) {v1 v2 v3 kw ends feeds row : List ℕ}
    {r : declared.Forked} {a : Made} {i o : ℕ} (long : length words ≡ 16) (i-is : i ≡ ins e) (o_is : o ≡ outs f)
    (K1 : kw ≡ padded 16 (kept p (take i words))) (K2 : v1 ≡ written l p (keeps p s (take i words)))
    (B : Forks (fork_of (emit e) (emit f) (emit g) (p + 2 * i) s (take (ins e) words) (take (ins e) kw)) (p + 2 * i)
    (size e + 7 + size f + size g) v1 v2 ends feeds r) (A : a ≡ record { next = r.next + 2 + length (take o feeds); done = r.next + 1 })
    (C1 : row ≡ padded 16 (wires_from (r.next + 2) (length (take o feeds))))
    (C2 : v3 ≡ written v2 r.next (merge_cells r (take (length (take o feeds)) ends) (take o feeds))) where
  abbrev xs : List ℕ
  xs = take (ins e) words

  abbrev first : ℕ
  first = p + length (keeps p s xs)

  abbrev I : Fork
  I = ite_fork (emit e) (emit f) (emit g) p s xs

  xs-long : length xs ≡ ins e
  xs-long = first-long (ite-branches h).test words long

  ks-long : length (kept p xs) ≡ ins e
  ks-long = kept-length xs p ∙ xs-long

  kept-is : take (ins e) kw ≡ kept p xs
  kept-is = ap (take (ins e)) (K1 ∙ rw i-is refl) ∙ padded-first 16 (ins e) (kept p xs) ks-long

  place_is : p + 2 * i ≡ first
  place_is = omega (arith, keeps-length xs p s, xs-long, i-is)

  forked : Forks I first (size e + 7 + size f + size g) v1 v2 ends feeds r
  forked = rw (kept-is, place_is) at B

  yes-long : length I.yes.outs ≡ o
  yes-long = yes-outs (ite-branches h) first s xs (kept p xs) ks-long ∙ sym o_is

  no-long : length I.no.outs ≡ o
  no-long = no-outs (ite-branches h) first s xs (kept p xs) ks-long ∙ sym (o_is ∙ ite-joins h)

  few : o ≤ 16
  few = omega (arith, o_is, few_outs (ite-branches h).yes)

  taken : length (take o feeds) ≡ o
  taken = length-take-le o feeds (omega (arith, B.sixteen, few))

  last-is : v3 ≡ written v2 I.next (ite_last (emit e) (emit f) (emit g) p s xs)
  last-is =
      C2 ∙ rw (
        taken,
        ap (take o) forked.yes ∙ padded-first 16 o I.yes.outs yes-long,
        ap (take o) forked.no ∙ padded-first 16 o I.no.outs no-long,
        forked.next,
        forked.tested,
        forked.left,
        forked.again,
        forked.gate,
        plus-after 3 I.gate,
      ) refl

  pub ite-emits : Emits (ite e f g) p s words l v3 row a
  ite-emits = record {
    next = omega (arith, ap (λ (m : Made). m.next) A, taken, forked.past, keeps-length xs p s, xs-long, o_is);
    done = ap (λ (m : Made). m.done) A ∙ plus-after 1 r.next ∙ ap (λ (m : ℕ). 1 after m) forked.next;
    outs = C1 ∙ rw (taken, forked.next, plus-after 2 I.next, ← yes-long) refl;
    sixteen = ap length C1 ∙ wires-sixteen (r.next + 2) (length (take o feeds)) (omega (arith, taken, few));
    net = ite-cells (emit e) (emit f) (emit g) p s xs l v1 v2 v3 (K2 ∙ rw i-is refl) forked.net last-is;
  }
