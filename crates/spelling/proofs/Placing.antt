-- Law: pieces written one after the other are one piece, and so are rows of pieces. Every writer's proof cites these.
-- Assumes nothing.
use Prim.Native.Nat.{ℕ, suc, ◌+◌, ◌≤◌}
use mathlib.Core.Path.{◌≡◌, refl, sym, ap, ◌∙◌}
use mathlib.Core.List.{List, [], ◌∷◌, ◌++◌, append_assoc}
use native.Mathlib.Nat.{add-zero, zero-add}
use native.Mathlib.Numerals.{add-one}
use native.Mathlib.Omega.{arith}
use lib.ListN.{length, set, drop, length-append}
use lib.Seq.{sets, set_out, length-sets, sets-eq}
use Rattle.spelling.specs.Pieces.{rows, placed, Wrote}

sets-append : (a b l : List ℕ) (i : ℕ) → sets l i (a ++ b) ≡ sets (sets l i a) (i + length a) b
sets-append [] b l i = ap (λ (n : ℕ). sets l n b) (sym (add-zero i))
sets-append (v ∷ a) b l i =
    let u : suc i + length a ≡ i + suc (length a) = omega arith in
    sets-append a b (set l i v) (suc i) ∙ ap (λ (n : ℕ). sets (sets (set l i v) (suc i) a) n b) u

-- Two pieces.
pub then : {l v u a b : List ℕ} {i j k : ℕ} → Wrote l i a j v → Wrote v j b k u → Wrote l i (a ++ b) k u
unfolding placed
then {l} {v} {u} {a} {b} {i} {j} {k} p q = record {
  next_is = omega (arith, p.next_is, q.next_is, length-append a b);
  holds = q.holds ∙ ap (λ (x : List ℕ). sets x j b) p.holds ∙ ap (λ (n : ℕ). sets (sets l i a) n b) p.next_is ∙ sym (sets-append
      a b l i);
}

-- A piece, and two more that were written as one.
pub then-two : (b c : List ℕ) {l v u a : List ℕ} {i j k : ℕ} → Wrote l i a j v → Wrote v j (b ++ c) k u → Wrote l i ((a ++ b) ++ c) k u
then-two b c {a = a} p q = rw (append_assoc a b c) (then p q)

-- A byte, where the buffer holds it and where not.
pub byte_in : (l : List ℕ) (i c : ℕ) → Wrote l i (c ∷ []) (i + 1) (set l i c)
unfolding placed
byte_in l i c = record { next_is = refl; holds = refl }

pub byte_out : (l : List ℕ) (i c : ℕ) → length l ≤ i → Wrote l i (c ∷ []) (i + 1) l
unfolding placed
byte_out l i c h = record { next_is = refl; holds = sym (set_out l i c h) }

-- Rows: none yet, and one more.
pub no_rows : (f : ℕ → List ℕ) (l : List ℕ) (i : ℕ) → Wrote l i (rows f 0) i l
unfolding rows placed
no_rows f l i = record { next_is = sym (add-zero i); holds = refl }

pub row_more : (f : ℕ → List ℕ) {l v u : List ℕ} {i j k m : ℕ} → Wrote l i (rows f m) j v → Wrote v j (f m) k u → Wrote l i (rows f (m
    + 1)) k u
unfolding rows
row_more f {m = m} p q = rw (add-one m) (then p q)

-- The buffer keeps its length; a piece that fits stands at the front, before what stood past it.
pub same_length : {l v a : List ℕ} {i k : ℕ} → Wrote l i a k v → length v ≡ length l
unfolding placed
same_length {l} {v} {a} {i} p = ap length p.holds ∙ length-sets l i a

pub at_front : {l v a : List ℕ} {k : ℕ} → Wrote l 0 a k v → length a ≤ length l → v ≡ a ++ drop (length a) l
unfolding placed
at_front {l} {v} {a} p h = p.holds ∙ sets-eq a l 0 (omega arith) ∙ rw (zero-add (length a)) refl
