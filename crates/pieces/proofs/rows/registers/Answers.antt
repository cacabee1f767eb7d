-- `rows::registers` meets its contract: the closure gives each word's register. Mathematics in `proofs.Turns`.
use Rattle.std.proofs.Common.{get_or, rules}
use Rattle.circuit.specs.Cells.{word_register}
use Rattle.pieces.proofs.Turns.{registers-row}
use Rattle.pieces.proofs.rows.registers.Goals as goal

pub returns : goal.returns
returns c =
    let words = c.args.words.now in
    rw (registers-row words) at
    (c.place_each.ensures (λ j. word_register (get_or words j 0)) (λ j x h p. search rules))
