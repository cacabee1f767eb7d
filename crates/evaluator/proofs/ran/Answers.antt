-- `ran` meets its contract: the main term's run from cycle 0 to the budget is its evaluation. Mathematics in `proofs.Answered`.
use Rattle.std.proofs.Common.{◌∙◌}
use Rattle.evaluator.proofs.Answered.{ran-unfinished, ran-ended}
use Rattle.evaluator.proofs.ran.Goals as goal

pub returns-in_err-cycles : goal.returns-in_err-cycles
returns-in_err-cycles c =
    c.from_residual.ensures
    ∙ ran-unfinished _ _ _ _ c.main-main.ensures.last c.padded-words.ensures _ c.in_err-cycles.ensures

pub returns : goal.returns
returns c =
    ran-ended _ _ _ _ c.main-main.ensures.last c.padded-words.ensures _ _ _ c.gives.ensures c.in_ok-cycles.ensures
