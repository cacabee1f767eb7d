-- The scan from term k on: where it ends, refuses and goes on. Mathematics in `proofs.Scan`.
use Rattle.std.proofs.Common.{◌≡◌, sym, ◌∙◌, arith, rules, Ok, Err}
use Rattle.std.proofs.lemmas.Result.{err_from_is_err_and}
use Rattle.tables.proofs.Scan.{starts, ends, refuses, ready, goes_on}
use Rattle.tables.proofs.scanned.Goals as goal

pub loop-k-init : goal.loop-k-init
loop-k-init c = starts _ _

pub judge-requires : goal.judge-requires
judge-requires c = ready c.loop-k.invariant (omega arith) c.requires

pub returns-in_err-map_err : goal.returns-in_err-map_err
returns-in_err-map_err c =
    let p = err_from_is_err_and c.from_residual.result c.from_residual.ensures.1 in
    let r = c.in_err-map_err.field-0.0 in
    let place : r.place ≡ c.loop-k.k = search rules in
    let cause : c.judge.result ≡ Err r.cause = search rules in
    rw (p.1, p.2) (refuses c.loop-k.invariant (omega arith) r place (sym c.judge.ensures.check ∙ cause))

pub loop-k-preserved : goal.loop-k-preserved
loop-k-preserved c =
    let passes : c.judge.result ≡ Ok c.in_ok-map_err.field-0 = search rules in
    let check = sym c.judge.ensures.check ∙ passes in
    rw (c.judge.ensures.known, check) (goes_on c.loop-k.invariant (omega arith) c.requires check)

pub returns : goal.returns
returns c = ends c.loop-k.invariant (omega arith)
