-- Law: the block of a term without operands, from what `leaves::leaf` left. `blocks::emit` cites this. Assumes nothing.
use Prim.Native.Nat.{ℕ, ◌+◌}
use mathlib.Core.Path.{◌≡◌, sym, ap, ◌∙◌}
use mathlib.Core.List.{List, [], ◌∷◌}
use lib.ListN.{length}
use Rattle.meaning.specs.Choices.{padded}
use Rattle.meaning.specs.Terms.{leaf}
use Rattle.meaning.specs.Counts.{ins}
use Rattle.meaning.proofs.Typed.{Well}
use Rattle.circuit.specs.Cells.{Cell, not_cell, word_register, choice_cell}
use Rattle.circuit.specs.Pieces.{◌after◌, wires_from}
use Rattle.circuit.specs.Blocks.{leaf_block}
use Rattle.pieces.specs.declared.leaves.Made.{Made}
use Rattle.pieces.specs.Writing.{written}
use Rattle.pieces.proofs.Placing.{plus-after}
use Rattle.pieces.proofs.Operations.{operation-first}
use Rattle.compiler.specs.Building.{Emits}
use Rattle.compiler.proofs.Typing.{leaf-fits}

-- A leaf's answer is that of its term.
pub leaf-emits : {w k a b : ℕ} → Well w (leaf k a b) → {p s : ℕ} (words : List ℕ) {old new row : List ℕ} {r : Made} →
    r ≡ record { next = p + 4; done = p } → row ≡ padded 16 (wires_from (p + 1) 1) →
    new ≡ written old p (leaf_block k b p s words).cells → Emits (leaf k a b) p s words old new row r
leaf-emits {w} {k} {a} {b} h {p} {s} words {old} e o n =
    let put : Cell → List Cell = λ c. not_cell s ∷ word_register (3 after p) ∷ c ∷ choice_cell s (2 after p) (1 after p) ∷ [] in
    record {
      next = ap (λ (m : Made). m.next) e;
      done = ap (λ (m : Made). m.done) e;
      outs = o ∙ ap (λ (x : ℕ). padded 16 (x ∷ [])) (plus-after 1 p);
      sixteen = ap length o;
      net = n ∙ ap (λ (c : Cell). written old p (put c)) (sym (operation-first w k b (ins (leaf k a b)) words (leaf-fits h)));
    }
