-- Law: a row of wires or cells, one word more at a time, and arrays of 16 that hold a row. What goes over words cites this.
-- Assumes nothing.
use Prim.Native.Nat.{ℕ, zero, suc, ◌+◌, ◌*◌, ◌-◌, ◌≤◌, ◌<◌}
use mathlib.Core.Path.{◌≡◌, refl, sym, ap, ◌∙◌}
use mathlib.Core.List.{List, [], ◌∷◌, ◌++◌, append_assoc, map}
use native.Mathlib.Numerals.{add-one}
use native.Mathlib.Omega.{arith}
use lib.ListN.{length, get_or, set, take, drop, replicate, length-append}
use lib.Seq.{take_at, set_at, drop-append-add, drop-cons, length-take-le, take-length}
use Rattle.std.specs.List.{range_with_len}
use Rattle.std.proofs.lemmas.List.{drop-replicate, length-map, map_more, take_more}
use Rattle.std.proofs.lemmas.List.FromFn.{length-map-range_with_len, map-range_with_len_more}
use Rattle.meaning.specs.Choices.{padded}
use Rattle.meaning.proofs.Lists.{padded-length}
use Rattle.circuit.specs.declared.Cell.{Cell as Written}
use Rattle.circuit.specs.Gates.{cell_of}
use Rattle.circuit.specs.Cells.{Cell, word_register, choice_cell, input_cell}
use Rattle.circuit.specs.Pieces.{◌after◌, wires_from, keeps, kept, choices, registers}
use Rattle.circuit.specs.Compiling.{input_cells}
use Rattle.circuit.proofs.Lengths.{choices-length, keeps-length, kept-length, wires-length}
use Rattle.pieces.specs.Writing.{placed, written}
use Rattle.pieces.proofs.Placing.{written_none, written_then, written_before, copied, placed-within}

-- A row by its numbers, and as a definition has it: R j n is the row of n cells from number j on.
by-numbers : (f : ℕ → Cell) (R : ℕ → ℕ → List Cell) (m : ℕ) → ((j : ℕ) → R j 0 ≡ []) →
    ((j n : ℕ) → j < m → R j (suc n) ≡ f j ∷ R (suc j) n) → (n j : ℕ) → j + n ≤ m → map f (range_with_len j n) ≡ R j n
by-numbers f R m none more zero j h = sym (none j)
by-numbers f R m none more (suc n) j h =
    ap (λ (i : ℕ). f j ∷ map f (range_with_len i n)) (add-one j)
    ∙ (ap (λ (l : List Cell). f j ∷ l) (by-numbers f R m none more n (suc j) (omega arith)) ∙ sym (more j n (omega arith)))

pub inputs-row : (n : ℕ) → map input_cell (range_with_len 0 n) ≡ input_cells 0 n
inputs-row n = by-numbers input_cell input_cells n (λ j. refl) (λ j m h. refl) n 0 (omega arith)

pub registers-row : (xs : List ℕ) → map (λ j. word_register (get_or xs j 0)) (range_with_len 0 (length xs)) ≡ registers xs
registers-row xs =
    by-numbers (λ j. word_register (get_or xs j 0)) (λ j m. registers (take m (drop j xs))) (length xs) (λ j. refl)
    (λ j m l. rw (drop-cons xs j 0 l)) (length xs) 0 (omega arith)
    ∙ ap registers (take-length xs)

pub choices-row : (s : ℕ) (xs ys : List ℕ) → length xs ≡ length ys →
    map (λ j. choice_cell s (get_or xs j 0) (get_or ys j 0)) (range_with_len 0 (length xs)) ≡ choices s xs ys
choices-row s xs ys e =
    by-numbers (λ j. choice_cell s (get_or xs j 0) (get_or ys j 0)) (λ j m. choices s (take m (drop j xs)) (take m (drop j ys)))
    (length xs) (λ j. refl) (λ j m l. rw (drop-cons xs j 0 l, drop-cons ys j 0 (omega arith))) (length xs) 0 (omega arith)
    ∙ rw (take-length xs, e, take-length ys) refl

-- Rows of two lists, one behind the other.
keeps-append : (xs ys : List ℕ) (p q s : ℕ) → p + 2 * length xs ≡ q → keeps p s (xs ++ ys) ≡ keeps p s xs ++ keeps q s ys
keeps-append [] ys p q s e = let u : p ≡ q = omega arith in ap (λ (n : ℕ). keeps n s ys) u
keeps-append (x ∷ xs) ys p q s e =
    ap (λ (l : List Cell). word_register (1 after p) ∷ choice_cell s x p ∷ l) (keeps-append xs ys (2 after p) q s (omega arith))

kept_append : (xs ys : List ℕ) (p q : ℕ) → p + 2 * length xs ≡ q → kept p (xs ++ ys) ≡ kept p xs ++ kept q ys
kept_append [] ys p q e = let u : p ≡ q = omega arith in ap (λ (n : ℕ). kept n ys) u
kept_append (x ∷ xs) ys p q e = ap (λ (l : List ℕ). p ∷ l) (kept_append xs ys (2 after p) q (omega arith))

wires-more : (n p q : ℕ) → p + n ≡ q → wires_from p (suc n) ≡ wires_from p n ++ (q ∷ [])
wires-more zero p q e = let u : p ≡ q = omega arith in ap (λ (m : ℕ). m ∷ []) u
wires-more (suc n) p q e = ap (λ (l : List ℕ). p ∷ l) (wires-more n (suc p) q (omega arith))

-- An array that holds a row, one word longer.
pub wires-sixteen : (p n : ℕ) → n ≤ 16 → length (padded 16 (wires_from p n)) ≡ 16
wires-sixteen p n h = padded-length 16 (wires_from p n) (omega (arith, wires-length n p))

pub padded-first : (n m : ℕ) (l : List ℕ) → length l ≡ m → take m (padded n l) ≡ l
padded-first n m l e = take_at l (replicate (n - length l) 0) m e

padded-more : (n i v : ℕ) (l : List ℕ) → length l ≡ i → i < n → set (padded n l) i v ≡ padded n (l ++ (v ∷ []))
padded-more n i v l e h =
    let d : n - length l ≡ suc (n - length (l ++ (v ∷ []))) = omega (arith, length-append l (v ∷ [])) in
    let z : List ℕ = replicate (n - length (l ++ (v ∷ []))) 0 in
    ap (λ (m : ℕ). set (l ++ replicate m 0) i v) d ∙ (set_at l 0 z v i e ∙ sym (append_assoc l (v ∷ []) z))

-- An array that holds a row, with another row behind it.
pub padded-join : (n i : ℕ) (a b : List ℕ) → length a ≡ i → length a + length b ≤ n → placed (padded n a) i b ≡ padded n (a ++ b)
padded-join n i a b e h =
    let long = padded-length n a (omega arith) in
    let left : n - length a - length b ≡ n - length (a ++ b) = omega (arith, length-append a b) in
    let rest : drop (i + length b) (padded n a) ≡ replicate (n - length (a ++ b)) 0 =
    rw (← e, drop-append-add a (replicate (n - length a) 0) (length b), drop-replicate {X = ℕ} (length b) (n - length a) 0, left) refl in
    rw (placed-within b (padded n a) i (omega arith), rest, padded-first n i a e) refl

-- A turn of a loop: one cell more, one wire more, one word kept more.
pub place_turn : (l : List ℕ) (p i : ℕ) (cs : List Written) (d : Written) → i < length cs →
    written (written l p (map cell_of (take i cs))) (p + i) (cell_of (get_or cs i d) ∷ []) ≡ written l p (map cell_of (take (i + 1) cs))
place_turn l p i cs d h =
    rw (
      written_then l p (map cell_of (take i cs)) (cell_of (get_or cs i d) ∷ []) (p + i)
          (omega (arith, length-map (take i cs) cell_of, length-take-le i cs (omega arith))),
      map_more cell_of cs i d h,
    ) refl

pub row_turn : (l : List ℕ) (p j : ℕ) (row : ℕ → Cell) →
    written (written l p (map row (range_with_len 0 j))) (p + j) (row j ∷ []) ≡ written l p (map row (range_with_len 0 (j + 1)))
row_turn l p j row =
    rw (
      written_then l p (map row (range_with_len 0 j)) (row j ∷ []) (p + j) (omega (arith, length-map-range_with_len row 0 j)),
      map-range_with_len_more row 0 j j (omega arith),
    ) refl

pub wires_turn : (p j : ℕ) → j < 16 → set (padded 16 (wires_from p j)) j (p + j) ≡ padded 16 (wires_from p (j + 1))
wires_turn p j h =
    rw (padded-more 16 j (p + j) (wires_from p j) (wires-length j p) h, add-one j, ← wires-more j p (p + j) refl) refl

module _ (xs : List ℕ) (p j : ℕ) (less : j < length xs) where
  long : length (take j xs) ≡ j
  long = length-take-le j xs (omega arith)

  pub keep_turn : (s : ℕ) (l : List ℕ) →
      written (written l p (keeps p s (take j xs))) (p + 2 * j)
      (word_register (p + 2 * j + 1) ∷ choice_cell s (get_or xs j 0) (p + 2 * j) ∷ []) ≡
      written l p (keeps p s (take (j + 1) xs))
  keep_turn s l =
      rw (
        add-one (p + 2 * j),
        written_then l p (keeps p s (take j xs)) (keeps (p + 2 * j) s (get_or xs j 0 ∷ [])) (p + 2 * j)
            (omega (arith, keeps-length (take j xs) p s, long)),
        take_more xs j 0 less,
        keeps-append (take j xs) (get_or xs j 0 ∷ []) p (p + 2 * j) s (omega (arith, long)),
      ) refl

  pub kept_turn : length xs ≤ 16 → set (padded 16 (kept p (take j xs))) j (p + 2 * j) ≡ padded 16 (kept p (take (j + 1) xs))
  kept_turn few =
      rw (
        padded-more 16 j (p + 2 * j) (kept p (take j xs)) (kept-length (take j xs) p ∙ long) (omega arith),
        take_more xs j 0 less,
        kept_append (take j xs) (get_or xs j 0 ∷ []) p (p + 2 * j) (omega (arith, long)),
      ) refl

-- What the goals of this crate come to: parts written one behind the other, turns of loops, and how long rows are.
pub ruleset writes = (
  written_none,
  written_then,
  written_before,
  copied,
  place_turn,
  row_turn,
  wires_turn,
  keep_turn,
  kept_turn,
  padded-first,
  wires-length,
  choices-length,
  length-take-le,
)
