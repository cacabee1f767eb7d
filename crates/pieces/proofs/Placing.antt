-- Law: cells written one part after the other, and one part in front of another. Every function that writes cites this.
-- Assumes nothing.
use Prim.Native.Nat.{ℕ, zero, suc, ◌+◌, ◌*◌, ◌≤◌, ◌<◌}
use mathlib.Core.Path.{◌≡◌, refl, sym, ap, ◌∙◌}
use mathlib.Core.List.{List, [], ◌∷◌, ◌++◌, append_assoc}
use native.Mathlib.Nat.{add-zero, add-suc}
use native.Mathlib.Omega.{arith}
use lib.ListN.{length, set, take, drop}
use lib.Seq.{sets, sets-eq, set_comm, drop-drop}
use borrow.Rule.Slice.PartMut.{put_mid}
use Rattle.circuit.specs.Cells.{stride, Cell, cell, numbers_of}
use Rattle.circuit.proofs.Lengths.{numbers-length}
use Rattle.circuit.specs.Pieces.{◌after◌}
use Rattle.pieces.specs.Writing.{placed, written}

-- What the code adds is what a definition counts.
pub plus-after : (k p : ℕ) → p + k ≡ k after p
plus-after zero p = add-zero p
plus-after (suc k) p = add-suc p k ∙ ap suc (plus-after k p)

-- Numbers: two parts in a row are one.
sets-append : (a b l : List ℕ) (i : ℕ) → sets l i (a ++ b) ≡ sets (sets l i a) (i + length a) b
sets-append [] b l i = ap (λ (n : ℕ). sets l n b) (sym (add-zero i))
sets-append (v ∷ a) b l i =
    let u : suc i + length a ≡ i + suc (length a) = omega arith in
    sets-append a b (set l i v) (suc i) ∙ ap (λ (n : ℕ). sets (sets (set l i v) (suc i) a) n b) u

placed-then : (a b l : List ℕ) (i j : ℕ) → i + length a ≡ j → placed (placed l i a) j b ≡ placed l i (a ++ b)
unfolding placed
placed-then a b l i j e = ap (λ (n : ℕ). sets (sets l i a) n b) (sym e) ∙ sym (sets-append a b l i)

-- .. and so they are where the later part is written first.
set-sets : (b l : List ℕ) (i j v : ℕ) → i < j → set (sets l j b) i v ≡ sets (set l i v) j b
set-sets [] l i j v h = refl
set-sets (w ∷ b) l i j v h =
    set-sets b (set l j w) i (suc j) v (omega arith)
    ∙ ap (λ (u : List ℕ). sets u (suc j) b) (set_comm l j i w v (λ e. absurd (omega arith)))

sets-before : (a b l : List ℕ) (i j : ℕ) → i + length a ≡ j → sets (sets l j b) i a ≡ sets l i (a ++ b)
sets-before [] b l i j e = ap (λ (n : ℕ). sets l n b) (let u : j ≡ i = omega arith in u)
sets-before (v ∷ a) b l i j e =
    ap (λ (u : List ℕ). sets u (suc i) a) (set-sets b l i j v (omega arith))
    ∙ sets-before a b (set l i v) (suc i) j (omega arith)

-- The list's own numbers stand before and behind.
pub placed-within : (vs l : List ℕ) (i : ℕ) → i + length vs ≤ length l → placed l i vs ≡ take i l ++ vs ++ drop (i + length vs) l
unfolding placed
placed-within vs l i h = sets-eq vs l i h

-- A list copied over a part of another is placed there.
pub copied : (l vs w : List ℕ) (i k : ℕ) → w ≡ vs → k ≡ length vs → i + k ≤ length l → put_mid i k l w ≡ placed l i vs
copied l vs w i k e n h =
    rw (e, drop-drop k i l, ← append_assoc (take i l) vs (drop (i + k) l), n) (sym (placed-within vs l i (omega arith)))

-- Cells: the same laws, counted in cells.
numbers-append : (a b : List Cell) → numbers_of (a ++ b) ≡ numbers_of a ++ numbers_of b
numbers-append [] b = refl
numbers-append (cell k x y z ∷ a) b = ap (λ (l : List ℕ). k ∷ x ∷ y ∷ z ∷ l) (numbers-append a b)

pub written_none : (l : List ℕ) (p : ℕ) → l ≡ written l p []
unfolding written placed
written_none l p = refl

module _ (l : List ℕ) (p : ℕ) (a b : List Cell) (q : ℕ) (e : p + length a ≡ q) where
  seam : p * stride + length (numbers_of a) ≡ q * stride
  seam = omega (arith, numbers-length a)

  pub written_then : written (written l p a) q b ≡ written l p (a ++ b)
  unfolding written
  written_then =
      placed-then (numbers_of a) (numbers_of b) l (p * stride) (q * stride) seam
      ∙ ap (placed l (p * stride)) (sym (numbers-append a b))

  pub written_before : written (written l q b) p a ≡ written l p (a ++ b)
  unfolding written placed
  written_before =
      sets-before (numbers_of a) (numbers_of b) l (p * stride) (q * stride) seam
      ∙ ap (placed l (p * stride)) (sym (numbers-append a b))

  -- As calls leave it: b written behind a, and a written in front of b.
  pub then : (v w : List ℕ) → v ≡ written l p a → w ≡ written v q b → w ≡ written l p (a ++ b)
  then v w d f = f ∙ (ap (λ (u : List ℕ). written u q b) d ∙ written_then)

  pub before : (v w : List ℕ) → v ≡ written l q b → w ≡ written v p a → w ≡ written l p (a ++ b)
  before v w d f = f ∙ (ap (λ (u : List ℕ). written u p a) d ∙ written_before)
