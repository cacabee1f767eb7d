-- Each function of the cycle: `proofs.Terms` names its term, and `Leaves`, `Pairs`, `Forking` and `Loops` say what stands when its calls
-- are done. What the calls ask for, the search shows.
use Rattle.std.proofs.Common.{◌∙◌, ap}
use Rattle.meaning.specs.Counts.{ins, outs}
use Rattle.terms.proofs.Facts.{widest}
use Rattle.compiler.proofs.Leaves.{leaf-emits}
use Rattle.compiler.proofs.Pairs.{seq-emits, par-emits}
use Rattle.compiler.proofs.Forking.{forks, ite-emits}
use Rattle.compiler.proofs.Loops.{rec-emits}
use Rattle.compiler.proofs.Terms.{seq-tree, par-tree, fork-tree, ite-tree, rec-tree, leaf-tree}
use Rattle.compiler.proofs.blocks.+emit_fork_ite_par_rec_seq.Goals as goal

pub emit-returns-in_default : goal.emit-returns-in_default
emit-returns-in_default t c =
    let n = c.in_default in
    let z = leaf-tree (widest _ c.args.table.now.somewhere) _ c.requires.there c.kind.ensures n.not-Seq n.not-Par n.not-Ite n.not-Rec in
    rw z.0
    (leaf-emits z.1 _ c.leaf.ensures.0 c.leaf.ensures.1 (rw (c.number.ensures, c.number-in_default.ensures) at c.leaf.ensures.2))

pub seq-returns : goal.seq-returns
seq-returns t c =
    let z = seq-tree (widest _ c.args.table.now.somewhere) _ c.requires.there c.operand-f.ensures c.operand-g.ensures c.requires.kind in
    rw z.0 (seq-emits z.1 c.told-words c.emit-first.ensures c.rise.ensures c.emit-second.ensures c.place.ensures)

pub par-returns : goal.par-returns
par-returns t c =
    let z = par-tree (widest _ c.args.table.now.somewhere) _ c.requires.there c.operand-f.ensures c.operand-g.ensures c.requires.kind in
    rw z.0
    (par-emits z.1 c.told-words c.emit-first.ensures c.emit-second.ensures c.place.ensures
    (rw (c.gives.ensures, c.gives-2.ensures) at c.join.ensures))

pub fork-returns : goal.fork-returns
fork-returns t c =
    let s = c.requires in
    let z = fork-tree (widest _ c.args.table.now.somewhere) _ s.there s c.operand-e.ensures c.operand-f.ensures c.operand-g.ensures in
    rw (← c.operand-e.ensures, ← c.operand-f.ensures, ← c.operand-g.ensures)
    (forks z c.told-live c.told-kept c.emit-test.ensures c.gates.ensures c.emit-yes.ensures c.emit-no.ensures)

pub ite-returns : goal.ite-returns
ite-returns t c =
    let z = ite-tree (widest _ c.args.table.now.somewhere) _ c.requires.there c.requires.kind in
    rw z.0
    (ite-emits z.1 _ _ _ _ c.told-words (c.takes-n.ensures ∙ ap ins z.0) (c.gives.ensures ∙ ap outs z.0) c.keep.ensures.0
    c.keep.ensures.1 c.fork-both.ensures c.merge.ensures.0 c.merge.ensures.1 c.merge.ensures.2)

pub rec-returns : goal.rec-returns
rec-returns t c =
    let z = rec-tree (widest _ c.args.table.now.somewhere) _ c.requires.there c.requires.kind in
    rw z.0
    (rec-emits z.1 _ _ _ _ c.told-words (c.takes-n.ensures ∙ ap ins z.0) c.round.ensures.0 c.round.ensures.1 c.round.ensures.2
    c.fork-both.ensures c.feed.ensures.0 c.feed.ensures.1)
