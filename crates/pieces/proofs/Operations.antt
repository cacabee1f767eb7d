-- Law: the operation cell of a leaf, case by case, and that it reads only the wires that the leaf takes. `blocks::emit` cites this.
-- Assumes nothing.
use Prim.Native.Nat.{ℕ, ◌≤◌, ◌<◌}
use mathlib.Core.Path.{◌≡◌, sym, ap, ◌∙◌}
use mathlib.Core.List.{List}
use mathlib.Core.Logic.{inl, inr}
use native.Mathlib.Omega.{arith}
use lib.ListN.{take}
use lib.Seq.{get_or-take}
use borrow.Author.Tests.{lt-ltb, le-ltb, eq-eqb, ne_eqb}
use Rattle.meaning.specs.Choices.{at}
use Rattle.meaning.specs.Words.{arity}
use Rattle.meaning.proofs.Tests.{split}
use Rattle.meaning.proofs.Typed.{LeafFits, const_leaf, field_leaf, op_leaf}
use Rattle.circuit.specs.Cells.{cell}
use Rattle.circuit.specs.Blocks.{operation_cell}

module _ (k v : ℕ) (ws : List ℕ) where
  operation-const : k < 13 → k ≡ 9 → operation_cell k v ws ≡ cell 9 v 0 0
  operation-const h e = rw (lt-ltb k 13 h, eq-eqb k 9 e)

  operation-copy : k < 13 → (k ≡ 9 → ⊥) → operation_cell k v ws ≡ cell 12 (at ws v) 0 0
  operation-copy h e = rw (lt-ltb k 13 h, ne_eqb k 9 e)

  operation-two : 13 ≤ k → k < 20 → operation_cell k v ws ≡ cell k (at ws 0) (at ws 1) 0
  operation-two h l = rw (le-ltb k 13 h, lt-ltb k 20 l)

  operation-one : 13 ≤ k → 20 ≤ k → operation_cell k v ws ≡ cell k (at ws 0) 0 0
  operation-one h l = rw (le-ltb k 13 h, le-ltb k 20 l)

-- A leaf that fits reads no wire past its own.
arity-two : (k : ℕ) → k < 20 → arity k ≡ 2
arity-two k h = rw (lt-ltb k 20 h)

arity-one : (k : ℕ) → 20 ≤ k → arity k ≡ 1
arity-one k h = rw (le-ltb k 20 h)

pub operation-first : (w k v i : ℕ) (ws : List ℕ) → LeafFits w k v i → operation_cell k v (take i ws) ≡ operation_cell k v ws
operation-first w k v i ws (const_leaf e h) =
    operation-const k v (take i ws) (omega arith) e ∙ sym (operation-const k v ws (omega arith) e)
operation-first w k v i ws (field_leaf e h) =
    let n : k ≡ 9 → ⊥ = λ q. omega arith in
    operation-copy k v (take i ws) (omega arith) n
    ∙ (ap (λ (x : ℕ). cell 12 x 0 0) (get_or-take i ws v 0 h) ∙ sym (operation-copy k v ws (omega arith) n))
operation-first w k v i ws (op_leaf l u e) = elim (split k 20) [
  | inl h ↦
      (let two : i ≡ 2 = e ∙ arity-two k h in
      operation-two k v (take i ws) l h
      ∙ (rw (get_or-take i ws 0 0 (omega arith), get_or-take i ws 1 0 (omega arith)) (sym (operation-two k v ws l h))))
  | inr h ↦
      (let one : i ≡ 1 = e ∙ arity-one k h in
      operation-one k v (take i ws) l h
      ∙ (rw (get_or-take i ws 0 0 (omega arith)) (sym (operation-one k v ws l h))))
]
