-- Law: a cell that passes reads lower wires only, and in every cycle of a netlist whose cells pass each wire obeys its cell.
-- Assumes nothing.
use Prim.Native.Nat.{ℕ, zero, suc, ◌+◌, ◌<◌}
use mathlib.Core.Path.{◌≡◌, refl, sym, ◌∙◌, ap}
use mathlib.Core.Bool.{Bool}
use mathlib.Core.List.{List, [], ◌∷◌, ◌++◌}
use native.Mathlib.Omega.{arith}
use lib.ListN.{length, get_or-append}
use lib.Seq.{get_or-append_seam}
use borrow.Author.Tests.{lt-ltb, le-ltb}
use Rattle.meaning.specs.Choices.{at}
use Rattle.meaning.specs.Words.{Words}
use Rattle.circuit.specs.Cells.{Cell, kind_at, cell_count, cell_at, cells_of, value}
use Rattle.meaning.specs.Refusals.{passed}
use Rattle.circuit.specs.Netlists.{netlist_verdict}
use Rattle.circuit.specs.Clock.{Held, pass, starting, shown, wires}
use Rattle.circuit.proofs.Places.{Each}
use Rattle.circuit.proofs.Streams.{Bits, Wires}
use Rattle.circuit.proofs.Equations.{Run, held_at, Obeys}
use Rattle.circuit.proofs.Indexed.{by-cells, of-cell, cells-length}
use Rattle.circuit.proofs.Passes.{
  Passes,
  load_passes,
  not_passes,
  and_passes,
  or_passes,
  low_passes,
  high_passes,
  nonzero_passes,
  input_passes,
  constant_passes,
  register_passes,
  choice_passes,
  copy_passes,
  two_passes,
  one_passes,
}
use Rattle.circuit.proofs.Checked.{Checked, checked}

length-new : (l : List ℕ) (v : ℕ) → length (l ++ (v ∷ [])) ≡ suc (length l)
length-new [] v = refl
length-new (a ∷ l) v = ap suc (length-new l v)

module _ (w : ℕ) (load : Bool) (words : Words) where
  -- A cell shows the same where the lower wires do: no cell waits for its own wire or a later one.
  pub reads-lower : {v m count n : ℕ} {kinds : ℕ → ℕ} {c : Cell} (held : ℕ → ℕ → ℕ) (r s : ℕ → ℕ) → ((j : ℕ) → j < n → r j ≡ s j) →
      Passes v m count kinds n c → value w load words held r c ≡ value w load words held s c
  reads-lower held r s e load_passes = refl
  reads-lower held r s e (not_passes x a) = cc (e x a.0)
  reads-lower held r s e (and_passes x y a b) = cc (e x a.0, e y b.0)
  reads-lower held r s e (or_passes x y a b) = cc (e x a.0, e y b.0)
  reads-lower held r s e (low_passes x a) = refl
  reads-lower held r s e (high_passes x a) = refl
  reads-lower held r s e (nonzero_passes x a) = cc (e x a.0)
  reads-lower held r s e (input_passes j a) = refl
  reads-lower held r s e (constant_passes v a) = refl
  reads-lower held r s e (register_passes x a) = refl
  reads-lower held r s e (choice_passes x y z a b c) = cc (e x a.0, e y b.0, e z c.0)
  reads-lower held r s e (copy_passes x a) = e x a.0
  reads-lower held r s e (two_passes k x y h h' a b) = rw (lt-ltb 12 k h, e x a.0, e y b.0)
  reads-lower held r s e (one_passes k x h h' a) =
      let i : 12 < k = omega arith in
      rw (lt-ltb 12 k i, le-ltb k 20 h, e x a.0)

  module _ (held : Held) where
    -- A wire that is there stays.
    stays : (cs : List Cell) (l : List ℕ) (x : ℕ) → x < length l → at (pass w load words held l cs) x ≡ at l x
    stays [] l x h = refl
    stays (c ∷ cs) l x h =
        let v : ℕ = value w load words (held (length l)) (at l) c in
        stays cs (l ++ (v ∷ [])) x (omega (arith, length-new l v)) ∙ get_or-append l (v ∷ []) 0 x h

    -- Wire n shows its cell's value.
    abbrev pub Shows : List ℕ → ℕ → Cell → Type 0
    Shows r n c = at r n ≡ value w load words (held n) (at r) c

    pub shows : (v m count : ℕ) (kinds : ℕ → ℕ) (cs : List Cell) (l : List ℕ) (n : ℕ) → n ≡ length l →
        Each (Passes v m count kinds) n cs → Each (Shows (pass w load words held l cs)) n cs
    shows u i k ks [] l n p h = tt
    shows u i k ks (c ∷ cs) l n p h =
        let v : ℕ = value w load words (held (length l)) (at l) c in
        let m : List ℕ = l ++ (v ∷ []) in
        let r : List ℕ = pass w load words held m cs in
        let e : length m ≡ suc (length l) = length-new l v in
        let a : at r (length l) ≡ v = stays cs m (length l) (omega arith) ∙ get_or-append_seam l v [] 0 in
        let b : v ≡ value w load words (held (length l)) (at r) c =
        reads-lower (held (length l)) (at l) (at r) (λ j o. sym (stays (c ∷ cs) l j (omega arith))) h.0 in
        (rw p (a ∙ b), shows u i k ks cs m (suc n) (omega arith) h.1)

-- There are as many wires as cells.
pub pass-length : (w : ℕ) (load : Bool) (words : Words) (held : Held) (cs : List Cell) (l : List ℕ) →
    length (pass w load words held l cs) ≡ length l + length cs
pass-length w load words held [] l = omega arith
pass-length w load words held (c ∷ cs) l =
    let v : ℕ = value w load words (held (length l)) (at l) c in
    omega (arith, pass-length w load words held cs (l ++ (v ∷ [])), length-new l v)

module _ (w : ℕ) (starts : ℕ → ℕ) (net : List ℕ) (load : Bits) (inputs : Wires) where
  -- The run of the netlist on the clock.
  abbrev pub clocked : Run
  clocked = record {
    width = w;
    starts = starts;
    load = load;
    inputs = inputs;
    wire = λ n t. at (wires w starts net load inputs t) n;
  }

  abbrev Now : ℕ → ℕ → Cell → Type 0
  Now t = Shows w (load t) (inputs t) (held_at clocked t) (wires w starts net load inputs t)

  at_once : (cs : List Cell) (n : ℕ) → ((t : ℕ) → Each (Now t) n cs) → Each (Obeys clocked) n cs
  at_once [] n f = tt
  at_once (c ∷ cs) n f = ((λ t. (f t).0), at_once cs (suc n) (λ t. (f t).1))

  module _ (h : Checked w net) where
    all_pass : Each (Passes w 16 (cell_count net) (kind_at net)) 0 (cells_of net)
    all_pass = by-cells (Passes w 16 (cell_count net) (kind_at net)) net h.cells

    pub shown-now : (t : ℕ) → Each (Now t) 0 (cells_of net)
    shown-now zero = shows w (load 0) (inputs 0) (starting starts) w 16 (cell_count net) (kind_at net) (cells_of net) [] 0 refl all_pass
    shown-now (suc t) =
        let earlier : List ℕ = wires w starts net load inputs t in
        shows w (load (suc t)) (inputs (suc t)) (shown earlier) w 16 (cell_count net) (kind_at net) (cells_of net) [] 0 refl all_pass

    -- Every wire obeys its cell, in every cycle.
    pub obeyed : Each (Obeys clocked) 0 (cells_of net)
    obeyed = at_once (cells_of net) 0 shown-now

  pub wires-count : (t : ℕ) → length (wires w starts net load inputs t) ≡ cell_count net
  wires-count zero = omega (arith, pass-length w (load 0) (inputs 0) (starting starts) (cells_of net) [], cells-length net)
  wires-count (suc t) =
      let earlier : List ℕ = wires w starts net load inputs t in
      omega (arith, pass-length w (load (suc t)) (inputs (suc t)) (shown earlier) (cells_of net) [], cells-length net)

-- Said of any netlist that is accepted: no cell but a register depends on its own wire or a later one, and each wire obeys its cell's
-- equation in the first cycle and in every later one.
module _ (w : ℕ) (net : List ℕ) (ok : netlist_verdict w net ≡ passed) (n : ℕ) (there : n < cell_count net) where
  pub lower_only : (load : Bool) (words : Words) (held : ℕ → ℕ → ℕ) (r s : ℕ → ℕ) → ((j : ℕ) → j < n → r j ≡ s j) →
      value w load words held r (cell_at net n) ≡ value w load words held s (cell_at net n)
  lower_only load words held r s e = reads-lower w load words held r s e ((checked w net ok).cells n there)

  module _ (starts : ℕ → ℕ) (load : Bits) (inputs : Wires) where
    pub first-equation : at (wires w starts net load inputs 0) n ≡
        value w (load 0) (inputs 0) (starting starts n) (at (wires w starts net load inputs 0)) (cell_at net n)
    first-equation = of-cell _ net (shown-now w starts net load inputs (checked w net ok) 0) n there

    pub next-equation : (t : ℕ) → at (wires w starts net load inputs (suc t)) n ≡
        value w (load (suc t)) (inputs (suc t)) (shown (wires w starts net load inputs t) n)
        (at (wires w starts net load inputs (suc t))) (cell_at net n)
    next-equation t = of-cell _ net (shown-now w starts net load inputs (checked w net ok) (suc t)) n there
