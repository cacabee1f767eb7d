-- Law: the pieces of blocks pass the cell checks, where the wires that they read are there and of the right sort. Assumes nothing.
use Prim.Native.Nat.{ℕ, zero, suc, ◌+◌, ◌≤◌, ◌<◌}
use mathlib.Core.Path.{◌≡◌}
use mathlib.Core.List.{List, [], ◌∷◌, ◌++◌}
use native.Mathlib.Omega.{arith}
use lib.ListN.{length}
use Rattle.meaning.specs.Choices.{at}
use Rattle.circuit.specs.Cells.{Cell, not_cell, and_cell, nonzero_cell}
use Rattle.circuit.specs.Pieces.{◌after◌, Block, wires_from, rise, keeps, kept, choices, registers, gates, ending}
use Rattle.circuit.specs.Compiling.{input_cells}
use Rattle.circuit.proofs.Places.{Each, each-join}
use Rattle.circuit.proofs.Passes.{
  BitBelow,
  WordBelow,
  Passes,
  not_passes,
  and_passes,
  high_passes,
  nonzero_passes,
  input_passes,
  register_passes,
  choice_passes,
  kind_of_cell,
}

-- `kinds` tells the kind of the cell that drives a wire.
module _ (kinds : ℕ → ℕ) where
  abbrev pub HasKind : ℕ → Cell → Type 0
  HasKind n c = kinds n ≡ kind_of_cell c

  -- Every wire of a list is a word below n.
  abbrev pub AllWords : ℕ → List ℕ → Type 0
  AllWords n [] = Unit {0}
  AllWords n (x ∷ xs) = WordBelow kinds n x × AllWords n xs

  pub words_up : (xs : List ℕ) (n m : ℕ) → n ≤ m → AllWords n xs → AllWords m xs
  words_up [] n m h a = tt
  words_up (x ∷ xs) n m h a = ((omega arith, a.0.1), words_up xs n m h a.1)

  pub words_append : (xs ys : List ℕ) (n : ℕ) → AllWords n xs → AllWords n ys → AllWords n (xs ++ ys)
  words_append [] ys n h k = k
  words_append (x ∷ xs) ys n h k = (h.0, words_append xs ys n h.1 k)

  pub word_at : (xs : List ℕ) (j n : ℕ) → j < length xs → AllWords n xs → WordBelow kinds n (at xs j)
  word_at [] j n h a = absurd (omega arith)
  word_at (x ∷ xs) zero n h a = a.0
  word_at (x ∷ xs) (suc j) n h a = word_at xs j n (omega arith) a.1

  -- What pieces drive are words: kept ones, choices, registers and inputs.
  pub kept-words : (xs : List ℕ) (p s n : ℕ) → p + length (keeps p s xs) ≤ n → Each HasKind p (keeps p s xs) → AllWords n (kept p xs)
  kept-words [] p s n h k = tt
  kept-words (x ∷ xs) p s n h k =
      let e = k.0 in
      ((omega arith, omega arith), kept-words xs (2 after p) s n (omega arith) k.1.1)

  pub choice-words : (xs ys : List ℕ) (p s n : ℕ) → length xs ≡ length ys → p + length xs ≤ n → Each HasKind p (choices s xs ys) →
      AllWords n (wires_from p (length xs))
  choice-words [] ys p s n e h k = tt
  choice-words (x ∷ xs) [] p s n e h k = absurd (omega arith)
  choice-words (x ∷ xs) (y ∷ ys) p s n e h k =
      let q = k.0 in
      ((omega arith, omega arith), choice-words xs ys (suc p) s n (omega arith) (omega arith) k.1)

  pub register-words : (xs : List ℕ) (p n : ℕ) → p + length xs ≤ n → Each HasKind p (registers xs) → AllWords n (wires_from p (length xs))
  register-words [] p n h k = tt
  register-words (x ∷ xs) p n h k = let q = k.0 in ((omega arith, omega arith), register-words xs (suc p) n (omega arith) k.1)

  pub input-words : (m p j n : ℕ) → p + m ≤ n → Each HasKind p (input_cells j m) → AllWords n (wires_from p m)
  input-words zero p j n h k = tt
  input-words (suc m) p j n h k = let q = k.0 in ((omega arith, omega arith), input-words m (suc p) (suc j) n (omega arith) k.1)

  module _ (w given count : ℕ) where
    abbrev pub AllPass : ℕ → List Cell → Type 0
    AllPass = Each (Passes w given count kinds)

    pub keeps-pass : (xs : List ℕ) (p s : ℕ) → BitBelow kinds p s → AllWords p xs → Each HasKind p (keeps p s xs) →
        p + length (keeps p s xs) ≤ count → AllPass p (keeps p s xs)
    keeps-pass [] p s h a k l = tt
    keeps-pass (x ∷ xs) p s h a k l =
        let e = k.0 in
        let f = k.1.0 in (
          register_passes (1 after p) (omega arith, omega arith),
          (
            choice_passes s x p (omega arith, h.1) (omega arith, a.0.1) (omega arith, omega arith),
            keeps-pass xs (2 after p) s (omega arith, h.1) (words_up xs p (2 after p) (omega arith) a.1) k.1.1 (omega arith),
          ),
        )

    pub registers-pass : (xs : List ℕ) (p : ℕ) → AllWords count xs → AllPass p (registers xs)
    registers-pass [] p a = tt
    registers-pass (x ∷ xs) p a = (register_passes x a.0, registers-pass xs (suc p) a.1)

    pub choices-pass : (xs ys : List ℕ) (p s : ℕ) → BitBelow kinds p s → AllWords p xs → AllWords p ys → AllPass p (choices s xs ys)
    choices-pass [] ys p s h a b = tt
    choices-pass (x ∷ xs) [] p s h a b = tt
    choices-pass (x ∷ xs) (y ∷ ys) p s h a b = (
      choice_passes s x y h a.0 b.0,
      choices-pass xs ys (suc p) s (omega arith, h.1) (words_up xs p (suc p) (omega arith) a.1)
          (words_up ys p (suc p) (omega arith) b.1),
    )

    pub inputs-pass : (m p j : ℕ) → j + m ≤ given → AllPass p (input_cells j m)
    inputs-pass zero p j h = tt
    inputs-pass (suc m) p j h = (input_passes j (omega arith), inputs-pass m (suc p) (suc j) (omega arith))

    pub rise-pass : (p d : ℕ) → BitBelow kinds p d → Each HasKind p (rise p d) → 3 after p ≤ count → AllPass p (rise p d)
    rise-pass p d h k l =
        let k0 = k.0 in
        let k1 = k.1.0 in (
          high_passes d (omega arith, h.1),
          (not_passes p (omega arith, omega arith), (and_passes d (1 after p) (omega arith, h.1) (omega arith, omega arith), tt)),
        )

    -- The gates between a test and its branches, with the bits that they drive.
    pub gate-bits : (p : ℕ) (E : Block) → Each HasKind p (gates p E) →
        (kinds (2 after p) ≤ 6) × (kinds (3 after p) ≤ 6) × (kinds (4 after p) ≤ 6) × (kinds (5 after p) ≤ 6) × (kinds (6 after p) ≤ 6)
    gate-bits p E k =
        let k2 = k.1.1.0 in
        let k3 = k.1.1.1.0 in
        let k4 = k.1.1.1.1.0 in
        let k5 = k.1.1.1.1.1.0 in
        let k6 = k.1.1.1.1.1.1.0 in
        (omega arith, omega arith, omega arith, omega arith, omega arith)

    pub gates-pass : (p : ℕ) (E : Block) → BitBelow kinds p E.done → WordBelow kinds p (at E.outs 0) → Each HasKind p (gates p E) →
        7 after p ≤ count → AllPass p (gates p E)
    gates-pass p E d o k l =
        let g = gate-bits p E k in
        each-join (Passes w given count kinds) (rise p E.done)
        (nonzero_cell (at E.outs 0) ∷ not_cell (3 after p) ∷ and_cell (2 after p) (3 after p) ∷ and_cell (2 after p) (4 after p) ∷ [])
        p (3 after p) (omega arith)
        (rise-pass p E.done d (k.0, (k.1.0, (k.1.1.0, tt))) (omega arith)) (
          nonzero_passes (at E.outs 0) (omega arith, o.1),
          (
            not_passes (3 after p) (omega arith, g.1),
            (
              and_passes (2 after p) (3 after p) (omega arith, g.0) (omega arith, g.1),
              (and_passes (2 after p) (4 after p) (omega arith, g.0) (omega arith, g.2), tt),
            ),
          ),
        )

    -- The end of a Rec.
    pub ending-pass : (r : ℕ) (E F G : Block) → BitBelow kinds r E.done → BitBelow kinds r F.done → BitBelow kinds r G.done →
        Each HasKind r (ending r E F G) → 7 after r ≤ count → AllPass r (ending r E F G)
    ending-pass r E F G e f g k l =
        let k2 = k.1.1.0 in
        let k3 = k.1.1.1.0 in
        let k4 = k.1.1.1.1.0 in
        let k5 = k.1.1.1.1.1.0 in
        each-join (Passes w given count kinds) (rise r G.done)
        (and_cell E.done F.done ∷ and_cell (3 after r) G.done ∷ not_cell (2 after r) ∷ and_cell (4 after r) (5 after r) ∷ [])
        r (3 after r) (omega arith)
        (rise-pass r G.done g (k.0, (k.1.0, (k2, tt))) (omega arith)) (
          and_passes E.done F.done (omega arith, e.1) (omega arith, f.1),
          (
            and_passes (3 after r) G.done (omega arith, omega arith) (omega arith, g.1),
            (
              not_passes (2 after r) (omega arith, omega arith),
              (and_passes (4 after r) (5 after r) (omega arith, omega arith) (omega arith, omega arith), tt),
            ),
          ),
        )
