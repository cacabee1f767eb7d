-- Law: the whole circuit from what its calls left, and the answer and the memory by the table's judgement. `whole` and `compile` cite
-- this. Assumes nothing.
use Prim.Native.Nat.{ℕ, ◌+◌, ◌*◌, ◌≤◌, ◌<◌}
use mathlib.Core.Path.{◌≡◌, refl, ap, ◌∙◌}
use mathlib.Core.List.{List, [], ◌∷◌, ◌++◌}
use native.Mathlib.Omega.{arith}
use lib.ListN.{length, take, drop}
use borrow.Author.Tests.{le-leb, lt-leb}
use Rattle.std.specs.Prelude.{Result, Ok, Err}
use Rattle.meaning.specs.declared.Cause.TheVariants as cause
use Rattle.meaning.specs.declared.Refusal.{Refusal}
use Rattle.meaning.specs.declared.Known.{Known}
use Rattle.meaning.specs.Choices.{padded}
use Rattle.meaning.specs.Terms.{Term, main_of}
use Rattle.meaning.specs.Counts.{ins, outs, whole_size}
use Rattle.meaning.specs.Refusals.{Verdict, passed, refused, on_verdict}
use Rattle.meaning.specs.Checks.{verdict_of}
use Rattle.meaning.specs.Answers.{known_facts, facts_of}
use Rattle.meaning.proofs.Typed.{main-well}
use Rattle.circuit.specs.declared.Compiled.{Compiled}
use Rattle.circuit.specs.Cells.{stride, Cell, numbers_of, load_cell}
use Rattle.circuit.specs.Pieces.{Block, wires_from}
use Rattle.circuit.specs.Compiling.{input_cells, front, main_block, whole_cells}
use Rattle.circuit.specs.Compiling.{compile_verdict, emitted, compiled_of, netlist_after}
use Rattle.circuit.proofs.Lengths.{wires-length, inputs-length}
use Rattle.circuit.proofs.Totals.{netlist-length}
use Rattle.pieces.specs.declared.leaves.Made.{Made}
use Rattle.pieces.specs.Writing.{written}
use Rattle.compiler.specs.Building.{block_of, Emits}
use Rattle.pieces.proofs.Placing.{plus-after, placed-within, then, before}
use Rattle.pieces.proofs.Turns.{padded-first}
use Rattle.terms.proofs.Facts.{answers, table as accepted}

-- The main block on the input wires: n and m are the counts as the code has them.
module _ {T : Term} {n m : ℕ} (n-is : n ≡ ins T) (m-is : m ≡ outs T) {words : List ℕ} (l : List ℕ) {v1 v2 v3 v4 row : List ℕ}
    {r : Made} (W : words ≡ padded 16 (wires_from 1 n)) (L : v1 ≡ written l 0 (load_cell ∷ [])) (I : v2 ≡ written v1 1 (input_cells 0 n))
    (e : Emits T (n + 6) (n + 5) words v2 v3 row r) (F : v4 ≡ written v3 (n + 1) (front n r.done)) where
  wires-are : take (ins T) words ≡ wires_from 1 (ins T)
  wires-are = ap (take (ins T)) (W ∙ rw n-is refl) ∙ padded-first 16 (ins T) (wires_from 1 (ins T)) (wires-length (ins T) 1)

  main-is : block_of T (n + 6) (n + 5) words ≡ main_block T
  main-is = rw (wires-are, n-is, plus-after 6 (ins T), plus-after 5 (ins T)) refl

  done-is : r.done ≡ (main_block T).done
  done-is = e.done ∙ ap (λ (B : Block). B.done) main-is

  pub whole-answer : record { cells = r.next; ins = n; outs = m; done = r.done; wires = row } ≡ emitted T
  whole-answer =
      let o : row ≡ padded 16 (main_block T).outs = e.outs ∙ ap (λ (B : Block). padded 16 B.outs) main-is in
      let c : r.next ≡ whole_size T = omega (arith, e.next) in
      rw (done-is, o, c, n-is, m-is) refl

  pub whole-written : v4 ≡ written l 0 (whole_cells T)
  whole-written =
      let D = (main_block T).done in
      let net : v3 ≡ written v2 (n + 6) (main_block T).cells = e.net ∙ ap (λ (B : Block). written v2 (n + 6) B.cells) main-is in
      let last : v4 ≡ written v3 (n + 1) (front n D) = F ∙ ap (λ (x : ℕ). written v3 (n + 1) (front n x)) done-is in
      then l 0 (load_cell ∷ []) (input_cells 0 n ++ (front n D ++ (main_block T).cells)) 1 (omega arith) v1 v4 L
      (then v1 1 (input_cells 0 n) (front n D ++ (main_block T).cells) (n + 1) (omega (arith, inputs-length n 0)) v2 v4 I
      (before v2 (n + 1) (front n D) (main_block T).cells (n + 6) (omega arith) v3 v4 net last))
      ∙ rw n-is refl

-- Written from the first cell on, cells stand in front of what was there.
written-first : (l : List ℕ) (cs : List Cell) → length (numbers_of cs) ≤ length l →
    written l 0 cs ≡ numbers_of cs ++ drop (length (numbers_of cs)) l
unfolding written
written-first l cs h =
    let z : 0 + length (numbers_of cs) ≡ length (numbers_of cs) = omega arith in
    placed-within (numbers_of cs) l 0 (omega arith) ∙ ap (λ (n : ℕ). numbers_of cs ++ drop n l) z

-- A refusal of the facts is one of the table.
refuses : (v : Verdict) (d : List Known) (e : Refusal) → on_verdict v (Ok d) Err ≡ Err e → v ≡ Err e
refuses (Ok tt) d e h = cc
refuses (Err r) d e h = cc

-- The answer and the memory: by a refused table, by too little memory, and otherwise.
module _ (w : ℕ) (t net : List ℕ) where
  abbrev Compiles : Result Compiled Refusal → List ℕ → Type 0
  Compiles r new = (r ≡ compiled_of w t (length net)) × (new ≡ netlist_after w t net)

  pub refused-answer : (e : Refusal) → facts_of w t ≡ Err e → Compiles (Err e) net
  unfolding compiled_of netlist_after compile_verdict facts_of
  refused-answer e h = let r = refuses (verdict_of w t) (known_facts t) e h in (rw r refl, rw r refl)

  module _ (known : List Known) (h : facts_of w t ≡ Ok known) where
    passes : verdict_of w t ≡ passed
    unfolding facts_of
    passes = (answers _ _ _ h).0

    pub short-answer : length net < whole_size (main_of t) * stride → Compiles (refused cause.NetlistRoom 0) net
    unfolding compiled_of netlist_after compile_verdict
    short-answer l = (rw (passes, lt-leb _ _ l) refl, rw (passes, lt-leb _ _ l) refl)

    pub emitted-answer : whole_size (main_of t) * stride ≤ length net → (new : List ℕ) →
        new ≡ written net 0 (whole_cells (main_of t)) → Compiles (Ok (emitted (main_of t))) new
    unfolding compiled_of netlist_after compile_verdict
    emitted-answer l new e =
        let long = netlist-length (main-well w t (accepted w t known h)) in (
          rw (passes, le-leb _ _ l) refl,
          rw (passes, le-leb _ _ l) (e ∙ written-first net (whole_cells (main_of t)) (omega (arith, long))),
        )
