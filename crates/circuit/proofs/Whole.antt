-- Law: where every wire obeys its cell, the whole circuit of a well-typed term keeps the promise. Assumes nothing.
use Prim.Native.Nat.{ℕ, zero, suc, ◌+◌}
use mathlib.Core.Path.{◌≡◌, refl, sym, ap, subst, fun_ext}
use mathlib.Core.List.{[], ◌∷◌, ◌++◌}
use native.Mathlib.Omega.{arith}
use lib.ListN.{length, drop}
use lib.Seq.{drop-cons}
use Rattle.meaning.specs.Choices.{and, not, bit}
use Rattle.meaning.specs.Words.{Words}
use Rattle.meaning.specs.Terms.{Term}
use Rattle.meaning.specs.Counts.{ins}
use Rattle.meaning.specs.Cycles.{evaluate}
use Rattle.meaning.proofs.Typed.{Typed}
use Rattle.circuit.specs.Pieces.{◌after◌, Block, wires_from}
use Rattle.circuit.specs.Compiling.{input_cells, front, main_block, whole_cells}
use Rattle.circuit.specs.Promise.{begins, Promise}
use Rattle.circuit.proofs.Lengths.{wires-length, inputs-length}
use Rattle.circuit.proofs.Places.{Each, each-split}
use Rattle.circuit.proofs.Streams.{Wires, and-false}
use Rattle.circuit.proofs.Behaves.{BehavesAs}
use Rattle.circuit.proofs.Start.{keeps-promise}
use Rattle.circuit.proofs.Equations.{Run, bit-num, bit_of, words_of, Obeys, not-law, and-law}
use Rattle.circuit.proofs.Wired.{wired}

drop-end : (l : Words) (j : ℕ) → length l ≡ j → drop j l ≡ []
drop-end [] zero h = refl
drop-end [] (suc j) h = absurd (omega arith)
drop-end (x ∷ l) zero h = absurd (omega arith)
drop-end (x ∷ l) (suc j) h = drop-end l j (omega arith)

module _ (S : Run) where
  -- The input cells show the given words from the jth on.
  inputs-law : (n p j t : ℕ) → length (S.inputs t) ≡ j + n → Each (Obeys S) p (input_cells j n) →
      words_of S (wires_from p n) t ≡ drop j (S.inputs t)
  inputs-law zero p j t q h = sym (drop-end (S.inputs t) j (omega arith))
  inputs-law (suc n) p j t q h =
      cc (h.0 t, inputs-law n (suc p) (suc j) t (omega arith) h.1, drop-cons (S.inputs t) j 0 (omega arith))

  -- The cells between the inputs and the main block start it exactly where a run begins.
  module _ (i d : ℕ) (loads : (t : ℕ) → bit_of S 0 t ≡ S.load t) (h : Each (Obeys S) (1 after i) (front i d)) where
    start-law : (t : ℕ) → bit_of S (5 after i) t ≡
        and (and (S.load t) (not (bit_of S (1 after i) t))) (bit_of S (3 after i) t)
    start-law t = cc (
      not-law S (2 after i) (1 after i) h.1.0 t,
      and-law S (4 after i) 0 (2 after i) h.1.1.1.0 t,
      and-law S (5 after i) (4 after i) (3 after i) h.1.1.1.1.0 t,
      loads t,
    )

    begun : (t : ℕ) → bit_of S (5 after i) t ≡ begins S.load (bit_of S d) t
    begun zero = cc (start-law 0, ap bit (h.0 0), and-false (S.load 0))
    begun (suc t) = cc (start-law (suc t), ap bit (h.0 (suc t)), loads t, ap bit (h.1.1.0 (suc t)))

  pub whole-keeps : (T : Term) (o : ℕ) → Typed S.width T (ins T) o → ((t : ℕ) → length (S.inputs t) ≡ ins T) →
      Each (Obeys S) 0 (whole_cells T) →
      Promise (evaluate S.width T) S.load (bit_of S (main_block T).done) S.inputs (words_of S (main_block T).outs)
  whole-keeps T o ty q h =
      let i : ℕ = ins T in
      let M : Block = main_block T in
      let il : length (input_cells 0 i) ≡ i = inputs-length i 0 in
      let h0 = each-split (Obeys S) (input_cells 0 i) (front i M.done ++ M.cells) 1 (1 after i) (omega arith) h.1 in
      let h1 = each-split (Obeys S) (front i M.done) M.cells (1 after i) (6 after i) (omega arith) h0.1 in
      let loads : (t : ℕ) → bit_of S 0 t ≡ S.load t = λ t. cc (h.0 t, bit-num (S.load t)) in
      let given : words_of S (wires_from 1 i) ≡ S.inputs = fun_ext (λ t. inputs-law i 1 0 t (omega (arith, q t)) h0.0) in
      keeps-promise S.load (bit_of S M.done) (bit_of S (5 after i)) S.inputs (words_of S M.outs) (begun i M.done loads h1.0)
      (subst (λ (x : Wires). BehavesAs S.width T (bit_of S (5 after i)) x (bit_of S M.done) (words_of S M.outs)) given
      (wired S ty (6 after i) (5 after i) (wires_from 1 i) (wires-length i 1) h1.1))
