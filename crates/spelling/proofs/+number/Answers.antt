-- Below 10 one digit, else the tenth's digits and then the last. Mathematics in `proofs.Digits`.
use Rattle.spelling.proofs.Digits.{number-one, number_more, number-near}
use Rattle.spelling.proofs.+number.Goals as goal

pub returns-then-value-lt10-clause-wrote : goal.returns-then-value-lt10-clause-wrote
returns-then-value-lt10-clause-wrote t c = number-one _ c.if-value-lt10.true c.digit.ensures c.put.ensures

pub returns-clause-wrote : goal.returns-clause-wrote
returns-clause-wrote t c = number_more _ c.if-value-lt10.false c.digit-2.ensures c.number-next.ensures.wrote c.put-2.ensures

pub returns-clause-upper_bound : goal.returns-clause-upper_bound
returns-clause-upper_bound t c = number-near c.ranges.value.fits (returns-clause-wrote t c)
