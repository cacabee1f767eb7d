-- The chain asks each output in order. Mathematics in `proofs.Places` of cells.
use Rattle.std.proofs.Common.{ℕ, eqb, ltb, refl, ap, rules, ◌∙◌}
use borrow.Author.Tests.{tests}
use Rattle.std.proofs.lemmas.Iterator.{YieldsList-from_slice}
use Rattle.std.proofs.lemmas.Iterator.Consumers.{YieldsList-from_enumerate}
use Rattle.std.proofs.lemmas.Iterator.Search.{all_from_yields_List}
use Rattle.meaning.specs.Choices.{pick}
use Rattle.circuit.specs.Cells.{word_kind}
use Rattle.cells.proofs.Places.{all_enumerated}
use Rattle.ports.specs.Interface.{wire_of, outputs_fit}
use Rattle.ports.proofs.outputs_fit.Goals as goal

pub returns : goal.returns
unfolding outputs_fit
returns c =
    let net = c.args.netlist.now in
    let o = c.args.o in
    let outs = c.args.outs.now in
    let fits = λ (p : ℕ × ℕ). pick (ltb p.0 o) (wire_of word_kind net p.1) (eqb p.1 0) in
    all_from_yields_List fits _ _ c.all.result c.all.ensures.ran
    (YieldsList-from_enumerate (YieldsList-from_slice outs cc) cc)
    (λ x b q k. search (rules, tests))
    ∙ all_enumerated fits outs 0 (outputs_fit net o outs) refl (λ n. refl)
    ∙ ap (outputs_fit net o outs) c.told-outs
