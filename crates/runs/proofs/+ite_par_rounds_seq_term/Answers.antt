-- Each combinator's run goes on as its parts': what a part left is told by `gave` and `stopped`, and its rest by `proofs.Turns`; the
-- parts of a term, by the numbers that were read, are in `proofs.Parts`.
use Rattle.std.proofs.Common.{◌∙◌, arith}
use Rattle.leaves.proofs.Left.{leaves-as}
use Rattle.runs.proofs.Turns.{stopped, gave, seq-stops, par-stops-first, ite-stops, rec-stops, seq-goes, par-stops-second, par-ends}
use Rattle.runs.proofs.Turns.{ite-then, ite-else, rec-last, rec-stops-body, rec-stops-fed, rec-goes}
use Rattle.runs.proofs.Parts.{leaf-row, leaf-small, leaf-from, seq-tree, par-tree, ite-tree, rec-tree, typed, by_kind}
use Rattle.runs.proofs.+ite_par_rounds_seq_term.Goals as goal

pub seq-returns-in_err-end : goal.seq-returns-in_err-end
seq-returns-in_err-end t c =
    seq-stops (stopped _ _ _ _ _ _ c.in_err-end.ensures) c.from_residual.ensures
    (seq-tree c.requires.0 c.operand-f.ensures c.operand-g.ensures c.requires.1)

pub seq-term-requires-2 : goal.seq-term-requires-2
seq-term-requires-2 t c = let p = gave _ _ _ _ _ _ _ c.requires.0.within c.in_ok-end.ensures in grind (arith, by_kind)

pub seq-returns : goal.seq-returns
seq-returns t c =
    seq-goes (gave _ _ _ _ _ _ _ c.requires.0.within c.in_ok-end.ensures)
    (seq-tree c.requires.0 c.operand-f.ensures c.operand-g.ensures c.requires.1)
    c.term-2.ensures

pub par-returns-in_err-first : goal.par-returns-in_err-first
par-returns-in_err-first t c =
    par-stops-first (stopped _ _ _ _ _ _ c.in_err-first.ensures) c.from_residual.ensures
    (par-tree c.requires.0 c.operand-f.ensures c.operand-g.ensures c.requires.1)

pub par-returns-in_err-second : goal.par-returns-in_err-second
par-returns-in_err-second t c =
    par-stops-second (gave _ _ _ _ _ _ _ c.requires.0.within c.in_ok-first.ensures) (stopped _ _ _ _ _ _ c.in_err-second.ensures)
    c.from_residual-in_err-second.ensures
    (par-tree c.requires.0 c.operand-f.ensures c.operand-g.ensures c.requires.1)

pub par-returns : goal.par-returns
par-returns t c =
    par-ends (gave _ _ _ _ _ _ _ c.requires.0.within c.in_ok-first.ensures) (gave _ _ _ _ _ _ _ c.requires.0.within c.in_ok-second.ensures)
    (par-tree c.requires.0 c.operand-f.ensures c.operand-g.ensures c.requires.1)
    (typed c.requires.0) c.gives.ensures (omega arith) c.join.ensures

pub ite-returns-in_err-end : goal.ite-returns-in_err-end
ite-returns-in_err-end t c =
    ite-stops (stopped _ _ _ _ _ _ c.in_err-end.ensures) c.from_residual.ensures
    (ite-tree c.requires.0 c.operand-e.ensures c.operand-f.ensures c.operand-g.ensures c.requires.1)

pub ite-term-requires-then-choice-ne0 : goal.ite-term-requires-then-choice-ne0
ite-term-requires-then-choice-ne0 t c = let p = gave _ _ _ _ _ _ _ c.requires.0.within c.in_ok-end.ensures in grind (arith, by_kind)

pub ite-returns-then-choice-ne0 : goal.ite-returns-then-choice-ne0
ite-returns-then-choice-ne0 t c =
    ite-then (gave _ _ _ _ _ _ _ c.requires.0.within c.in_ok-end.ensures)
    (ite-tree c.requires.0 c.operand-e.ensures c.operand-f.ensures c.operand-g.ensures c.requires.1)
    c.if-choice-ne0.true c.term-then-choice-ne0.ensures

pub ite-term-requires-else-choice-ne0 : goal.ite-term-requires-else-choice-ne0
ite-term-requires-else-choice-ne0 t c = let p = gave _ _ _ _ _ _ _ c.requires.0.within c.in_ok-end.ensures in grind (arith, by_kind)

pub ite-returns-else-choice-ne0 : goal.ite-returns-else-choice-ne0
ite-returns-else-choice-ne0 t c =
    ite-else (gave _ _ _ _ _ _ _ c.requires.0.within c.in_ok-end.ensures)
    (ite-tree c.requires.0 c.operand-e.ensures c.operand-f.ensures c.operand-g.ensures c.requires.1)
    c.if-choice-ne0.false c.term-else-choice-ne0.ensures

pub rounds-returns-in_err-tested : goal.rounds-returns-in_err-tested
rounds-returns-in_err-tested t c =
    leaves-as c.loop-tested.invariant.same
    (rec-stops (stopped _ _ _ _ _ _ c.in_err-tested.ensures) c.from_residual.ensures
    (rec-tree c.requires.0 c.operand-e.ensures c.operand-f.ensures c.operand-g.ensures c.requires.1))

pub rounds-term-requires-then-test-ne0 : goal.rounds-term-requires-then-test-ne0
rounds-term-requires-then-test-ne0 t c =
    let p = gave _ _ _ _ _ _ _ c.loop-tested.invariant.within c.in_ok-tested.ensures in
    grind (arith, by_kind)

pub rounds-returns-then-test-ne0 : goal.rounds-returns-then-test-ne0
rounds-returns-then-test-ne0 t c =
    leaves-as c.loop-tested.invariant.same
    (rec-last (gave _ _ _ _ _ _ _ c.loop-tested.invariant.within c.in_ok-tested.ensures)
    (rec-tree c.requires.0 c.operand-e.ensures c.operand-f.ensures c.operand-g.ensures c.requires.1)
    c.if-test-ne0.true c.term-then-test-ne0.ensures)

pub rounds-term-requires-in-loop-tested : goal.rounds-term-requires-in-loop-tested
rounds-term-requires-in-loop-tested t c =
    let p = gave _ _ _ _ _ _ _ c.loop-tested.invariant.within c.in_ok-tested.ensures in
    grind (arith, by_kind)

pub rounds-returns-in_err-end : goal.rounds-returns-in_err-end
rounds-returns-in_err-end t c =
    leaves-as c.loop-tested.invariant.same
    (rec-stops-body (gave _ _ _ _ _ _ _ c.loop-tested.invariant.within c.in_ok-tested.ensures)
    (rec-tree c.requires.0 c.operand-e.ensures c.operand-f.ensures c.operand-g.ensures c.requires.1)
    c.if-test-ne0.false (stopped _ _ _ _ _ _ c.in_err-end.ensures) c.from_residual-in_err-end.ensures)

pub rounds-returns-then-end-limit : goal.rounds-returns-then-end-limit
rounds-returns-then-end-limit t c =
    let p = gave _ _ _ _ _ _ _ c.loop-tested.invariant.within c.in_ok-tested.ensures in
    leaves-as c.loop-tested.invariant.same
    (rec-stops-fed p
    (rec-tree c.requires.0 c.operand-e.ensures c.operand-f.ensures c.operand-g.ensures c.requires.1)
    c.if-test-ne0.false (gave _ _ _ _ _ _ _ p.within c.in_ok-end.ensures) c.if-end-limit.true)

pub rounds-overflow_add-at : goal.rounds-overflow_add-at
rounds-overflow_add-at t c =
    let p = gave _ _ _ _ _ _ _ c.loop-tested.invariant.within c.in_ok-tested.ensures in
    let r = gave _ _ _ _ _ _ _ p.within c.in_ok-end.ensures in
    omega arith

pub rounds-loop-tested-smaller : goal.rounds-loop-tested-smaller
rounds-loop-tested-smaller t c =
    let p = gave _ _ _ _ _ _ _ c.loop-tested.invariant.within c.in_ok-tested.ensures in
    let r = gave _ _ _ _ _ _ _ p.within c.in_ok-end.ensures in
    omega arith

pub rounds-loop-tested-preserved : goal.rounds-loop-tested-preserved
rounds-loop-tested-preserved t c =
    let p = gave _ _ _ _ _ _ _ c.loop-tested.invariant.within c.in_ok-tested.ensures in
    let r = gave _ _ _ _ _ _ _ p.within c.in_ok-end.ensures in record {
      within = omega arith;
      same =
          c.loop-tested.invariant.same ∙ rec-goes p
          (rec-tree c.requires.0 c.operand-e.ensures c.operand-f.ensures c.operand-g.ensures c.requires.1)
          c.if-test-ne0.false r c.if-end-limit.false;
    }

pub term-leaf-requires : goal.term-leaf-requires
term-leaf-requires t c =
    let k = c.in_default in
    let r = leaf-row c.requires c.kind.ensures k.not-Seq k.not-Par k.not-Ite k.not-Rec in
    (leaf-small r c.number-kind.ensures c.number-b.ensures, c.requires.within)

pub term-returns-in_default : goal.term-returns-in_default
term-returns-in_default t c =
    let k = c.in_default in
    let r = leaf-row c.requires c.kind.ensures k.not-Seq k.not-Par k.not-Ite k.not-Rec in
    leaves-as (leaf-from r c.number-kind.ensures c.number-b.ensures c.width.ensures _ _ _) c.leaf.ensures
