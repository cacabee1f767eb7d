-- The chain asks each cell in order. Mathematics in `proofs.Places`.
use Rattle.std.proofs.Common.{ℕ, true, eqb, ltb, refl, arith, rules, ◌∙◌}
use borrow.Author.Tests.{tests}
use Rattle.std.proofs.lemmas.Iterator.{YieldsList-from_range}
use Rattle.std.proofs.lemmas.Iterator.Search.{all_from_yields_List}
use Rattle.meaning.specs.Choices.{pick}
use Rattle.circuit.specs.Cells.{cell_number, kind_at, cell_count}
use Rattle.circuit.specs.Simulated.{inputs_given}
use Rattle.cells.proofs.Places.{all_in_range}
use Rattle.cells.proofs.names_given.Goals as goal

pub returns : goal.returns
unfolding inputs_given
returns c =
    let net = c.args.netlist.now in
    let m = c.args.m in
    let given = λ (n : ℕ). pick (eqb (kind_at net n) 8) (ltb (cell_number net n 1) m) true in
    all_from_yields_List given _ _ c.all.result c.all.ensures.ran
    (YieldsList-from_range 0 c.count.result (cell_count net) (search rules) (omega (arith, c.count.ensures)))
    (λ x b q k. search (rules, tests))
    ∙ all_in_range given (inputs_given net m) refl (λ n. refl) (cell_count net)
