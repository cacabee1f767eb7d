-- It compiles, then writes. Mathematics in `proofs.Printing`.
use Rattle.std.proofs.Common.{refl, arith}
use Rattle.std.proofs.lemmas.Result.{err_from_is_err_and}
use Rattle.console.proofs.Printing.{text_left}
use Rattle.console.proofs.print.Goals as goal

pub returns-in_err-length : goal.returns-in_err-length
returns-in_err-length c =
    let k = c.in_ok-circuit.ensures in
    let r = c.in_err-length.ensures in
    let p = err_from_is_err_and c.from_residual-in_err-length.result c.from_residual-in_err-length.ensures.1 in
    rw (p.1, p.2) (text_left c.args.width c.args.table.now k.0 _ refl k.1 _ (omega arith) r.value r.text_after)

pub returns : goal.returns
returns c =
    let k = c.in_ok-circuit.ensures in
    let r = c.in_ok-length.ensures in
    text_left c.args.width c.args.table.now k.0 _ refl k.1 _ (omega arith) r.value r.text_after
