-- `compile` meets its contract: a refused table, memory that is too short, and the whole circuit. Mathematics in
-- `proofs.Circuits`.
use Rattle.std.proofs.Common.{sym, arith}
use Rattle.std.proofs.lemmas.Result.{err_from_is_err_and}
use Rattle.compiler.proofs.Circuits.{refused-answer, short-answer, emitted-answer}
use Rattle.compiler.proofs.compile.Goals as goal

pub returns-in_err-terms : goal.returns-in_err-terms
returns-in_err-terms c =
    let p = err_from_is_err_and c.from_residual.result c.from_residual.ensures.1 in
    rw (p.1, p.2) (refused-answer c.args.width c.args.table.now _ _ (sym c.in_err-terms.ensures))

pub returns-then-netlist-size : goal.returns-then-netlist-size
returns-then-netlist-size c =
    rw c.into.ensures (short-answer c.args.width c.args.table.now c.args.netlist.now _ (sym c.in_ok-terms.ensures) (omega arith))

pub returns : goal.returns
returns c =
    rw c.whole.ensures.0
    (emitted-answer c.args.width c.args.table.now c.args.netlist.now _ (sym c.in_ok-terms.ensures) (omega arith) _ c.whole.ensures.1)
