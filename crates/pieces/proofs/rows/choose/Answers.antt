-- `rows::choose` meets its contract: the closure gives each choice. Mathematics in `proofs.Turns`.
use Rattle.std.proofs.Common.{get_or, rules, arith}
use Rattle.circuit.specs.Cells.{choice_cell}
use Rattle.pieces.proofs.Turns.{choices-row}
use Rattle.pieces.proofs.rows.choose.Goals as goal

pub returns : goal.returns
returns c =
    let xs = c.args.first.now in
    let ys = c.args.second.now in
    rw (choices-row c.args.bit xs ys (omega arith)) at
    (c.place_each.ensures (λ j. choice_cell c.args.bit (get_or xs j 0) (get_or ys j 0)) (λ j x h p. search rules))
