-- Law: what a block that was emitted tells its callers, and Seq and Par from what their calls left. `blocks::seq` and `blocks::par`
-- cite this. Assumes nothing.
use Prim.Native.Nat.{ℕ, ◌+◌, ◌≤◌}
use mathlib.Core.Path.{◌≡◌, refl, sym, ap, ◌∙◌}
use mathlib.Core.List.{List, [], ◌∷◌, ◌++◌}
use native.Mathlib.Omega.{arith}
use lib.ListN.{length, take, length-append}
use lib.Seq.{length-take-le}
use Rattle.meaning.specs.Choices.{padded}
use Rattle.meaning.specs.Terms.{Term, seq, par}
use Rattle.meaning.specs.Counts.{ins, outs}
use Rattle.meaning.proofs.Typed.{Well, few_ins}
use Rattle.meaning.proofs.Lists.{padded-length}
use Rattle.circuit.specs.Cells.{and_cell}
use Rattle.circuit.specs.Pieces.{◌after◌, Block, Emitter, rise}
use Rattle.circuit.specs.Blocks.{seq_block, par_block, emit}
use Rattle.circuit.proofs.Places.{PairPlaces, seq_places, par_places}
use Rattle.circuit.proofs.Gives.{gives}
use Rattle.circuit.proofs.Sized.{sized}
use Rattle.pieces.specs.declared.leaves.Made.{Made}
use Rattle.pieces.specs.Writing.{placed, written}
use Rattle.compiler.specs.Building.{block_of, Emits}
use Rattle.compiler.proofs.Typing.{seq-meets, par-shares}
use Rattle.pieces.proofs.Placing.{plus-after, then}
use Rattle.pieces.proofs.Turns.{padded-first, padded-join}

pub first-long : {w : ℕ} {T : Term} → Well w T → (words : List ℕ) → length words ≡ 16 → length (take (ins T) words) ≡ ins T
first-long {T = T} h words long = length-take-le (ins T) words (omega (arith, few_ins h))

-- A block that was emitted on 16 wires has the cells and outputs that are counted: where the next one stands, and what it is handed.
module _ {w : ℕ} {T : Term} (h : Well w T) {p s : ℕ} {words old new row : List ℕ} {r : Made} (long : length words ≡ 16)
    (e : Emits T p s words old new row r) where
  pub block-outs : length (block_of T p s words).outs ≡ outs T
  block-outs = gives h p s (take (ins T) words) (first-long h words long)

  pub follows : r.next ≡ p + length (block_of T p s words).cells
  follows = e.next ∙ ap (λ (n : ℕ). p + n) (sym (sized h p s (take (ins T) words) (first-long h words long)))

  pub handed : (n : ℕ) → outs T ≡ n → take n row ≡ (block_of T p s words).outs
  handed n q = ap (take n) e.outs ∙ padded-first 16 n (block_of T p s words).outs (block-outs ∙ q)

-- Seq, in the definition's own terms.
module _ (f g : Emitter) (b s : ℕ) (xs : List ℕ) where
  abbrev seq_b : PairPlaces
  seq_b = seq_places f g b s xs

  seq-cells : (l v1 v2 v3 v4 : List ℕ) → v1 ≡ written l b seq_b.F.cells → v2 ≡ written v1 seq_b.p (rise seq_b.p seq_b.F.done) →
      v3 ≡ written v2 (3 after seq_b.p) seq_b.G.cells → v4 ≡ written v3 seq_b.r (and_cell seq_b.F.done seq_b.G.done ∷ []) →
      v4 ≡ written l b (seq_block f g b s xs).cells
  seq-cells l v1 v2 v3 v4 e1 e2 e3 e4 =
      let last = and_cell seq_b.F.done seq_b.G.done ∷ [] in
      let up = rise seq_b.p seq_b.F.done in
      then l b seq_b.F.cells (up ++ (seq_b.G.cells ++ last)) seq_b.p refl v1 v4 e1
      (then v1 seq_b.p up (seq_b.G.cells ++ last) (3 after seq_b.p) (omega arith) v2 v4 e2
      (then v2 (3 after seq_b.p) seq_b.G.cells last seq_b.r refl v3 v4 e3 e4))

  -- Par.
  abbrev par_b : PairPlaces
  par_b = par_places f g b s xs

  par-cells : (l v1 v2 v3 : List ℕ) → v1 ≡ written l b par_b.F.cells → v2 ≡ written v1 par_b.p par_b.G.cells →
      v3 ≡ written v2 par_b.r (and_cell par_b.F.done par_b.G.done ∷ []) → v3 ≡ written l b (par_block f g b s xs).cells
  par-cells l v1 v2 v3 e1 e2 e3 =
      let last = and_cell par_b.F.done par_b.G.done ∷ [] in
      then l b par_b.F.cells (par_b.G.cells ++ last) par_b.p refl v1 v3 e1
      (then v1 par_b.p par_b.G.cells last par_b.r refl v2 v3 e2 e3)

-- Seq, from what its calls left.
module _ {w : ℕ} {f g : Term} (h : Well w (seq f g)) {p s : ℕ} {words l v1 v2 v3 v4 w1 w2 : List ℕ} {a b : Made}
    (long : length words ≡ 16) (A : Emits f p s words l v1 w1 a) (R : v2 ≡ written v1 a.next (rise a.next a.done))
    (B : Emits g (a.next + 3) (a.next + 2) w1 v2 v3 w2 b) (D : v4 ≡ written v3 b.next (and_cell a.done b.done ∷ [])) where
  abbrev P : PairPlaces
  P = seq_places (emit f) (emit g) p s (take (ins f) words)

  mid : a.next ≡ P.p
  mid = follows (seq-meets h).0 long A

  second : block_of g (a.next + 3) (a.next + 2) w1 ≡ P.G
  second = let m = seq-meets h in rw (mid, handed m.0 long A (ins g) m.2, plus-after 3 P.p, plus-after 2 P.p) refl

  end : b.next ≡ P.r
  end = follows (seq-meets h).1 A.sixteen B ∙ rw (second, mid, plus-after 3 P.p) refl

  pub seq-emits : Emits (seq f g) p s words l v4 w2 (record { next = b.next + 1; done = b.next })
  seq-emits = record {
    next = omega (arith, A.next, B.next);
    done = end;
    outs = B.outs ∙ ap (λ (G : Block). padded 16 G.outs) second;
    sixteen = B.sixteen;
    net = seq-cells (emit f) (emit g) p s (take (ins f) words) l v1 v2 v3 v4 A.net (rw (mid, A.done) at R)
        (B.net ∙ rw (second, mid, plus-after 3 P.p) refl) (D ∙ rw (end, A.done, B.done, second) refl);
  }

-- Par, from what its calls left.
module _ {w : ℕ} {f g : Term} (h : Well w (par f g)) {p s : ℕ} {words l v1 v2 v3 w1 w2 row : List ℕ} {a b : Made}
    (long : length words ≡ 16) (A : Emits f p s words l v1 w1 a) (B : Emits g a.next s words v1 v2 w2 b)
    (D : v3 ≡ written v2 b.next (and_cell a.done b.done ∷ [])) (J : row ≡ placed w1 (outs f) (take (outs g) w2)) where
  abbrev Q : PairPlaces
  Q = par_places (emit f) (emit g) p s (take (ins f) words)

  par-mid : a.next ≡ Q.p
  par-mid = follows (par-shares h).0 long A

  par-second : block_of g a.next s words ≡ Q.G
  par-second = rw (par-mid, (par-shares h).2) refl

  par-end : b.next ≡ Q.r
  par-end = follows (par-shares h).1 long B ∙ rw (par-second, par-mid) refl

  both-few : length Q.F.outs + length Q.G.outs ≤ 16
  both-few =
      let m = par-shares h in
      omega (arith, m.3, block-outs m.0 long A, rw par-second at (block-outs m.1 long B))

  joined : row ≡ padded 16 (Q.F.outs ++ Q.G.outs)
  joined =
      let m = par-shares h in
      J ∙ (rw (A.outs, handed m.1 long B (outs g) refl, par-second)
      (padded-join 16 (outs f) Q.F.outs Q.G.outs (block-outs m.0 long A) both-few))

  pub par-emits : Emits (par f g) p s words l v3 row (record { next = b.next + 1; done = b.next })
  par-emits = record {
    next = omega (arith, A.next, B.next);
    done = par-end;
    outs = joined;
    sixteen = ap length joined ∙ padded-length 16 (Q.F.outs ++ Q.G.outs) (omega (arith, both-few, length-append Q.F.outs Q.G.outs));
    net = par-cells (emit f) (emit g) p s (take (ins f) words) l v1 v2 v3 A.net (B.net ∙ rw (par-second, par-mid) refl)
        (D ∙ rw (par-end, A.done, B.done, par-second) refl);
  }
