-- Theorem: the netlist of every accepted table passes checks 1 and 12 to 16, no call of the simulator on its run is refused, and on the
-- clock it keeps the promise, for every choice of starting words. Assumes nothing.
use Prim.Native.Nat.{ℕ, suc, ◌+◌, ◌*◌, ◌^◌, ◌≤◌, ◌<◌}
use mathlib.Core.Path.{◌≡◌, refl, sym, ◌∙◌, subst}
use mathlib.Core.Bool.{Bool, true}
use mathlib.Core.List.{List}
use native.Mathlib.Omega.{arith}
use lib.Dec.{eqb}
use lib.Pow.{pow_pos}
use lib.ListN.{length}
use borrow.Author.Tests.{eqb-true, le-leb, eq-eqb}
use Rattle.meaning.specs.Refusals.{passed}
use Rattle.meaning.specs.Choices.{at, all_below}
use Rattle.meaning.specs.Words.{Words}
use Rattle.meaning.specs.Terms.{Term, main_of}
use Rattle.meaning.specs.Counts.{ins, outs, whole_size}
use Rattle.meaning.specs.Checks.{verdict_of}
use Rattle.meaning.specs.Cycles.{evaluate}
use Rattle.meaning.specs.Answers.{words_fit}
use Rattle.meaning.proofs.Tests.{both}
use Rattle.meaning.proofs.Lists.{all-below-every}
use Rattle.meaning.proofs.Accepted.{accepted}
use Rattle.meaning.proofs.Typed.{few_ins, Well, main-well}
use Rattle.circuit.specs.Cells.{Cell, stride, kind_at, cell_count, cell_at, bit_kind, word_kind, value}
use Rattle.circuit.specs.Netlists.{netlist_verdict}
use Rattle.circuit.specs.Pieces.{◌after◌}
use Rattle.circuit.specs.Compiling.{main_block, whole_cells, netlist_of}
use Rattle.circuit.specs.Clock.{wires}
use Rattle.circuit.specs.Simulated.{inputs_given, inputs_verdict, wire_refusal, power_up_verdict, step_verdict}
use Rattle.circuit.specs.Promise.{Promise, done_of, outputs_of}
use Rattle.circuit.proofs.Places.{Each}
use Rattle.circuit.proofs.Totals.{main-outs, main-size, whole-size, netlist-length}
use Rattle.circuit.proofs.Streams.{Bits, Wires}
use Rattle.circuit.proofs.Equations.{Obeys}
use Rattle.circuit.proofs.Whole.{whole-keeps}
use Rattle.circuit.proofs.Indexed.{by-cells, of-cell, count-numbers, cells-numbers}
use Rattle.meaning.proofs.Verdicts.{scan-passes}
use Rattle.circuit.proofs.Passes.{Passes, more_given, input-given}
use Rattle.circuit.proofs.Checked.{Checked, checking}
use Rattle.circuit.proofs.Clocked.{clocked, obeyed, wires-count, lower_only}
use Rattle.circuit.proofs.PassPieces.{HasKind, word_at}
use Rattle.circuit.proofs.PassBlocks.{Fine}
use Rattle.circuit.proofs.PassBranches.{main-fine, whole-passes}
use Rattle.circuit.proofs.InRange.{in-range}
use Rattle.circuit.proofs.Simulates.{names-given, word-kind, wire-in-range}

module _ (w : ℕ) (t : List ℕ) (ok : verdict_of w t ≡ passed) where
  abbrev main : Term
  main = main_of t

  abbrev net : List ℕ
  net = netlist_of main

  well_typed : Well w main
  well_typed = main-well w t (accepted w t ok)

  few-given : (1 ≤ ins main) × (ins main ≤ 16)
  few-given = few_ins well_typed

  count-is : cell_count net ≡ whole_size main
  count-is = count-numbers (whole_cells main) ∙ whole-size well_typed

  -- The list has four numbers a cell, as many cells as its size says.
  pub netlist-size : length net ≡ whole_size main * stride
  netlist-size = netlist-length well_typed

  kinds-are : Each (HasKind (kind_at net)) 0 (whole_cells main)
  kinds-are =
      subst (λ (cs : List Cell). Each (HasKind (kind_at net)) 0 cs) (cells-numbers (whole_cells main))
      (by-cells (HasKind (kind_at net)) net (λ n l. refl))

  room : length (whole_cells main) ≤ cell_count net
  room = omega (arith, count-numbers (whole_cells main))

  cells-pass : (n : ℕ) → n < cell_count net → Passes w (ins main) (cell_count net) (kind_at net) n (cell_at net n)
  cells-pass =
      of-cell (Passes w (ins main) (cell_count net) (kind_at net)) net
      (subst (λ (cs : List Cell). Each (Passes w (ins main) (cell_count net) (kind_at net)) 0 cs) (sym (cells-numbers (whole_cells main)))
      (whole-passes (kind_at net) w (ins main) (cell_count net) main (outs main) well_typed (omega arith) kinds-are room))

  netlist-checked : Checked w net
  netlist-checked =
      let a = accepted w t ok in
      let c = count-is in
      let s = a.small in
      let l = netlist-size in
      record {
        wide = a.wide;
        whole = omega arith;
        some = (omega arith, omega arith);
        cells = λ n i. more_given few-given.1 (cells-pass n i);
      }

  pub netlist-accepted : netlist_verdict w net ≡ passed
  netlist-accepted = checking w net netlist-checked

  -- So no cell but a register depends on its own wire or a later one: there are no combinational loops.
  pub no-loops : (n : ℕ) → n < cell_count net → (l : Bool) (words : Words) (held : ℕ → ℕ → ℕ) (r s : ℕ → ℕ) →
      ((j : ℕ) → j < n → r j ≡ s j) → value w l words held r (cell_at net n) ≡ value w l words held s (cell_at net n)
  no-loops n there = lower_only w net netlist-accepted n there

  -- Done is a bit and the outputs are words of the netlist.
  main-is-fine : Fine (kind_at net) w (ins main) (cell_count net) (6 after ins main) (main_block main)
  main-is-fine = main-fine (kind_at net) w (ins main) (cell_count net) main (outs main) well_typed (omega arith) kinds-are room

  block-end : 6 after ins main + length (main_block main).cells ≡ cell_count net
  block-end = omega (arith, count-is, main-size well_typed)

  pub done-bit : ((main_block main).done < cell_count net) × (bit_kind (kind_at net (main_block main).done) ≡ true)
  done-bit =
      let e = block-end in
      let d = main-is-fine.done-bit in
      (rw e at d.0, le-leb _ 6 d.1)

  pub output-count : length (main_block main).outs ≡ outs main
  output-count = main-outs well_typed

  pub output-word : (j : ℕ) → j < outs main →
      (at (main_block main).outs j < cell_count net) × (word_kind (kind_at net (at (main_block main).outs j)) ≡ true)
  output-word j h =
      let a = word_at (kind_at net) (main_block main).outs j _ (omega (arith, output-count)) main-is-fine.out-words in
      let l : at (main_block main).outs j < cell_count net = rw block-end at a.0 in
      (l, word-kind w net netlist-accepted (at (main_block main).outs j) l a.1)

  module _ (starts : ℕ → ℕ) (load : Bits) (inputs : Wires) (fit : (k : ℕ) → words_fit w (ins main) (inputs k) ≡ true) where
    fit_parts : (k : ℕ) → (eqb (length (inputs k)) (ins main) ≡ true) × (all_below (2 ^ w) (inputs k) ≡ true)
    fit_parts k = both (eqb (length (inputs k)) (ins main)) (all_below (2 ^ w) (inputs k)) (fit k)

    input-count : (k : ℕ) → length (inputs k) ≡ ins main
    input-count k = eqb-true _ _ (fit_parts k).0

    input-below : (k j : ℕ) → at (inputs k) j < 2 ^ w
    input-below k j = all-below-every (2 ^ w) (inputs k) (pow_pos w) (fit_parts k).1 j

    -- The promise, from the equations of the wires.
    pub promise-holds : Promise (evaluate w main) load (done_of w starts main load inputs) inputs (outputs_of w starts main load inputs)
    promise-holds =
        whole-keeps (clocked w starts net load inputs) main (outs main) well_typed input-count
        (subst (λ (cs : List Cell). Each (Obeys (clocked w starts net load inputs)) 0 cs) (cells-numbers (whole_cells main))
        (obeyed w starts net load inputs netlist-checked))

    -- At power-up, and then cycle after cycle, the simulator takes the wires that it has given.
    given-named : (n : ℕ) → n ≤ cell_count net → inputs_given net (ins main) n ≡ true
    given-named = names-given net (ins main) (λ n l e. input-given (cells-pass n l) e)

    inputs-accepted : (k : ℕ) → inputs_verdict w net (inputs k) ≡ passed
    inputs-accepted k = rw (
      input-count k,
      le-leb (ins main) 16 few-given.1,
      given-named (cell_count net) (omega arith),
      (fit_parts k).1,
    )

    pub power-up-accepted : power_up_verdict w net (inputs 0) (cell_count net) ≡ passed
    unfolding power_up_verdict
    power-up-accepted = rw (netlist-accepted, eq-eqb (cell_count net) _ refl, inputs-accepted 0)

    module _ (small : (n : ℕ) → starts n < 2 ^ w) where
      none-refuses : (k n : ℕ) → n < cell_count net → wire_refusal w net (wires w starts net load inputs k) n ≡ passed
      none-refuses k n l =
          wire-in-range w net netlist-accepted (wires w starts net load inputs k) n l
          (in-range w net netlist-checked starts small load inputs input-below k n l)

      pub step-accepted : (k : ℕ) → step_verdict w net (wires w starts net load inputs k) (inputs (suc k))
          (cell_count net) ≡ passed
      unfolding step_verdict
      step-accepted k = rw (
        netlist-accepted,
        eq-eqb _ _ (wires-count w starts net load inputs k),
        eq-eqb (cell_count net) _ refl,
        scan-passes (wire_refusal w net (wires w starts net load inputs k)) (cell_count net) 0 (inputs_verdict w net (inputs (suc k)))
            (λ n l u. none-refuses k n (omega arith)),
        inputs-accepted (suc k),
      )
