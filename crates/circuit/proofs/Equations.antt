-- Law: what it is for wires to obey cells, and what the wires of gates, registers and kept words then show. Assumes nothing.
use Prim.Native.Nat.{ℕ, zero, suc}
use mathlib.Core.Path.{◌≡◌, refl, sym, ap}
use mathlib.Core.Bool.{Bool, true, false}
use mathlib.Core.List.{List, [], ◌∷◌, map}
use native.Mathlib.Omega.{arith}
use lib.ListN.{length}
use Rattle.meaning.specs.Choices.{pick, and, or, not, num, bit}
use Rattle.meaning.specs.Words.{Words}
use Rattle.circuit.specs.Cells.{Cell, not_cell, and_cell, or_cell, nonzero_cell, value}
use Rattle.circuit.specs.Pieces.{◌after◌, wires_from, rise, keeps, kept, choices, registers}
use Rattle.circuit.specs.Clock.{Held, starting}
use Rattle.circuit.proofs.Places.{Each}
use Rattle.circuit.proofs.Streams.{Bits, Wires, Rise}

-- A run of some netlist: wire n shows `wire n t` at cycle t.
pub record Run : Type 0 where
  pub width : ℕ
  pub starts : ℕ → ℕ
  pub load : Bits
  pub inputs : Wires
  pub wire : ℕ → ℕ → ℕ

pub bit-num : (b : Bool) → bit (num b) ≡ b
bit-num true = refl
bit-num false = refl

-- A choice between lists is a list of choices.
pub pick-nil : (b : Bool) → pick {A = Words} b [] [] ≡ []
pick-nil true = refl
pick-nil false = refl

pub pick-cons : (b : Bool) (x y : ℕ) (xs ys : Words) → pick b (x ∷ xs) (y ∷ ys) ≡ pick b x y ∷ pick b xs ys
pick-cons true x y xs ys = refl
pick-cons false x y xs ys = refl

module _ (S : Run) where
  -- Wire n as a bit; some wires as words.
  abbrev pub bit_of : ℕ → Bits
  bit_of n t = bit (S.wire n t)

  abbrev pub words_of : List ℕ → Wires
  words_of xs t = map (λ (n : ℕ). S.wire n t) xs

  -- What the register at wire n holds at cycle t.
  abbrev pub held_at : ℕ → Held
  held_at zero = starting S.starts
  held_at (suc t) = λ n k x. S.wire x t

  -- Wire n obeys cell c: at every cycle it shows the cell's value.
  abbrev pub Obeys : ℕ → Cell → Type 0
  Obeys n c = (t : ℕ) → S.wire n t ≡ value S.width (S.load t) (S.inputs t) (held_at t n) (λ j. S.wire j t) c

  -- The gates.
  pub not-law : (n x : ℕ) → Obeys n (not_cell x) → (t : ℕ) → bit_of n t ≡ not (bit_of x t)
  not-law n x h t = cc (h t, bit-num (not (bit_of x t)))

  pub and-law : (n x y : ℕ) → Obeys n (and_cell x y) → (t : ℕ) → bit_of n t ≡ and (bit_of x t) (bit_of y t)
  and-law n x y h t = cc (h t, bit-num (and (bit_of x t) (bit_of y t)))

  pub or-law : (n x y : ℕ) → Obeys n (or_cell x y) → (t : ℕ) → bit_of n t ≡ or (bit_of x t) (bit_of y t)
  or-law n x y h t = cc (h t, bit-num (or (bit_of x t) (bit_of y t)))

  pub nonzero-law : (n x : ℕ) → Obeys n (nonzero_cell x) → (t : ℕ) → bit_of n t ≡ bit_of x t
  nonzero-law n x h t = cc (h t, bit-num (bit_of x t))

  -- The three cells of a rise.
  pub rise-law : (d p : ℕ) → Each Obeys p (rise p d) → Rise (bit_of d) (bit_of p) (bit_of (2 after p))
  rise-law d p h = record {
    starts = ap bit (h.0 0);
    follows = λ t. ap bit (h.0 (suc t));
    rises = λ t. cc (not-law (1 after p) p h.1.0 t, and-law (2 after p) d (1 after p) h.1.1.0 t);
  }

  -- Words kept, chosen and delayed.
  pub keep-law : (xs : List ℕ) (p s : ℕ) → Each Obeys p (keeps p s xs) → (t : ℕ) →
      words_of (kept p xs) (suc t) ≡ pick (bit_of s t) (words_of xs t) (words_of (kept p xs) t)
  keep-law [] p s h t = sym (pick-nil (bit_of s t))
  keep-law (x ∷ xs) p s h t =
      let ih = keep-law xs (2 after p) s h.1.1 t in
      cc (
        h.0 (suc t),
        h.1.0 t,
        pick-cons (bit_of s t) (S.wire x t) (S.wire p t) (words_of xs t) (words_of (kept (2 after p) xs) t),
      )

  pub choice-law : (xs ys : List ℕ) (p s : ℕ) → length xs ≡ length ys → Each Obeys p (choices s xs ys) → (t : ℕ) →
      words_of (wires_from p (length xs)) t ≡ pick (bit_of s t) (words_of xs t) (words_of ys t)
  choice-law [] [] p s e h t = sym (pick-nil (bit_of s t))
  choice-law [] (y ∷ ys) p s e h t = absurd (omega arith)
  choice-law (x ∷ xs) [] p s e h t = absurd (omega arith)
  choice-law (x ∷ xs) (y ∷ ys) p s e h t =
      let ih = choice-law xs ys (suc p) s (omega arith) h.1 t in
      cc (h.0 t, pick-cons (bit_of s t) (S.wire x t) (S.wire y t) (words_of xs t) (words_of ys t))

  pub register-law : (xs : List ℕ) (p : ℕ) → Each Obeys p (registers xs) → (t : ℕ) →
      words_of (wires_from p (length xs)) (suc t) ≡ words_of xs t
  register-law [] p h t = refl
  register-law (x ∷ xs) p h t = cc (h.0 (suc t), register-law xs (suc p) h.1 t)
