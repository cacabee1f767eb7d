-- Law: a cell and its wire that meet the row of the cell's gate are sound. `Look::sound` cites it. Assumes nothing.
use Prim.Native.Nat.{ℕ, ◌≤◌, ◌<◌, ◌^◌}
use mathlib.Core.Path.{◌≡◌, refl, sym, ◌∙◌}
use mathlib.Core.Bool.{true}
use mathlib.Core.List.{List, [], ◌∷◌}
use native.Mathlib.Omega.{arith}
use lib.Dec.{leb, ltb}
use borrow.Author.Tests.{lt-ltb, le-leb, lt-leb}
use Rattle.meaning.specs.Choices.{pick}
use Rattle.meaning.specs.Refusals.{passed}
use Rattle.circuit.specs.declared.Gate.{Gate}
use Rattle.circuit.specs.declared.Gate.TheVariants as gate
use Rattle.circuit.specs.Cells.{cell, cell_number, kind_at, cell_count, cell_at, bit_kind}
use Rattle.circuit.specs.Gates.{gate_named}
use Rattle.circuit.specs.Netlists.{cell_refusal}
use Rattle.circuit.proofs.Naming.{named}
use Rattle.circuit.proofs.Passes.{
  Passes,
  more_given,
  input-given,
  load_passes,
  not_passes,
  and_passes,
  or_passes,
  low_passes,
  high_passes,
  nonzero_passes,
  input_passes,
  constant_passes,
  register_passes,
  choice_passes,
  copy_passes,
  two_passes,
  one_passes,
}
use Rattle.circuit.proofs.Refusals.{refused_none}
use Rattle.glance.specs.Asked.{Row}
use Rattle.glance.specs.Sound.{Sound}

-- Cell n, by its numbers.
module _ (w : ℕ) (net : List ℕ) (n given shown : ℕ) {k x y z : ℕ} (few : given ≤ 16)
    (is : (k ≡ kind_at net n) × (x ≡ cell_number net n 1) × (y ≡ cell_number net n 2) × (z ≡ cell_number net n 3)) where
  none : Passes w given (cell_count net) (kind_at net) n (cell_at net n) → cell_refusal w net n ≡ passed
  unfolding cell_refusal
  none p = refused_none w net (cell_count net) n (more_given few p)

  made : (a b c d : ℕ) → k ≡ a → x ≡ b → y ≡ c → z ≡ d → Passes w given (cell_count net) (kind_at net) n (cell a b c d) →
      pick (bit_kind k) (leb shown 1) (ltb shown (2 ^ w)) ≡ true → Sound w net n given shown
  made a b c d e f g h p r =
      let here : Passes w given (cell_count net) (kind_at net) n (cell_at net n) =
      rw (sym is.0 ∙ e, sym is.1 ∙ f, sym is.2 ∙ g, sym is.3 ∙ h) p in
      record { unrefused = none here; named = λ e. input-given here e; ranged = rw is.0 at r }

  bit-row : (a b c d : ℕ) → a ≤ 6 → k ≡ a → x ≡ b → y ≡ c → z ≡ d → shown ≤ 1 →
      Passes w given (cell_count net) (kind_at net) n (cell a b c d) → Sound w net n given shown
  bit-row a b c d l e f g h s p = made a b c d e f g h p (rw (le-leb k 6 (omega arith)) (le-leb shown 1 s))

  word-row : (a b c d : ℕ) → 8 ≤ a → k ≡ a → x ≡ b → y ≡ c → z ≡ d → shown < 2 ^ w →
      Passes w given (cell_count net) (kind_at net) n (cell a b c d) → Sound w net n given shown
  word-row a b c d l e f g h s p = made a b c d e f g h p (rw (lt-leb k 6 (omega arith)) (lt-ltb shown (2 ^ w) s))

  pub sound-of : (G : Gate) → gate_named k ≡ G → Row w net given n shown (k ∷ x ∷ y ∷ z ∷ []) G → Sound w net n given shown
  sound-of gate.Load e r = bit-row 0 0 0 0 (omega arith) (named k gate.Load e) r.1 r.2 r.3 r.0 load_passes
  sound-of gate.Not e r = bit-row 1 x 0 0 (omega arith) (named k gate.Not e) refl r.2 r.3 r.0 (not_passes x r.1)
  sound-of gate.And e r = bit-row 2 x y 0 (omega arith) (named k gate.And e) refl refl r.3 r.0 (and_passes x y r.1 r.2)
  sound-of gate.Or e r = bit-row 3 x y 0 (omega arith) (named k gate.Or e) refl refl r.3 r.0 (or_passes x y r.1 r.2)
  sound-of gate.LowRegister e r = bit-row 4 x 0 0 (omega arith) (named k gate.LowRegister e) refl r.2 r.3 r.0 (low_passes x r.1)
  sound-of gate.HighRegister e r = bit-row 5 x 0 0 (omega arith) (named k gate.HighRegister e) refl r.2 r.3 r.0 (high_passes x r.1)
  sound-of gate.NonZero e r = bit-row 6 x 0 0 (omega arith) (named k gate.NonZero e) refl r.2 r.3 r.0 (nonzero_passes x r.1)
  sound-of gate.Input e r = word-row 8 x 0 0 (omega arith) (named k gate.Input e) refl r.2 r.3 r.0 (input_passes x r.1)
  sound-of gate.Constant e r = word-row 9 x 0 0 (omega arith) (named k gate.Constant e) refl r.2 r.3 r.0 (constant_passes x r.1)
  sound-of gate.WordRegister e r = word-row 10 x 0 0 (omega arith) (named k gate.WordRegister e) refl r.2 r.3 r.0 (register_passes x r.1)
  sound-of gate.Choice e r = word-row 11 x y z (omega arith) (named k gate.Choice e) refl refl refl r.0 (choice_passes x y z r.1 r.2 r.3)
  sound-of gate.Copy e r = word-row 12 x 0 0 (omega arith) (named k gate.Copy e) refl r.2 r.3 r.0 (copy_passes x r.1)
  sound-of gate.Binary e r =
      let l = named k gate.Binary e in
      word-row k x y 0 (omega (arith, r.0)) refl refl refl r.4 r.1 (two_passes k x y r.0 (omega (arith, l.1)) r.2 r.3)
  sound-of gate.Unary e r =
      let l : 20 ≤ k = named k gate.Unary e in
      word-row k x 0 0 (omega arith) refl refl r.3 r.4 r.1 (one_passes k x l r.0 r.2)
