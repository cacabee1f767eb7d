-- Where all operands are below the term the check passes, and where one is not it fails. Mathematics in `kinds.proofs.Joining`.
use Rattle.std.proofs.Common.{ℕ, ◌+◌, ◌≡◌, ◌≤◌, ◌<◌, List, ap, ◌∙◌, arith}
use Rattle.meaning.specs.Terms.{number_of, kind_of}
use Rattle.meaning.specs.Refusals.{Check, passed}
use Rattle.meaning.specs.Checks.{operands_of}
use Rattle.kinds.proofs.Joining.{all-below, one-above, one-more-below, few_operands}
use Rattle.tables.specs.Readings.{lower_operands_at}
use Rattle.tables.proofs.lower_operands.Goals as goal

-- All operands are below j, and those below j are below the term.
passes : (t : List ℕ) (k j : ℕ) → ((i : ℕ) → 1 ≤ i → i < j → number_of t k i < k) → operands_of (kind_of t k) < j →
    ◌≡◌ {A = Check} passed (lower_operands_at t k)
passes t k j h u = rw (all-below t k (operands_of (kind_of t k)) (λ i l m. h i l (omega arith)))

pub operand-requires : goal.operand-requires
operand-requires c =
    let uses = c.operands-j-end.ensures ∙ ap operands_of c.number.ensures in
    (omega (arith, uses, few_operands (kind_of c.args.table.now c.args.k)), c.requires)

pub returns-then-operand-k : goal.returns-then-operand-k
returns-then-operand-k c =
    let uses = c.operands-j-end.ensures ∙ ap operands_of c.number.ensures in
    rw (one-above c.args.table.now c.args.k (operands_of (kind_of c.args.table.now c.args.k)) c.loop-j.j (omega arith) (omega (arith, uses))
    (omega (arith, c.operand.ensures)))

pub returns : goal.returns
returns c =
    let uses = c.operands-j-end.ensures ∙ ap operands_of c.number.ensures in
    passes _ _ c.loop-j.j c.loop-j.invariant (omega (arith, uses))

pub returns-else-operand-k : goal.returns-else-operand-k
returns-else-operand-k c =
    let uses = c.operands-j-end.ensures ∙ ap operands_of c.number.ensures in
    passes _ _ (c.loop-j.j + 1) (one-more-below _ _ c.loop-j.j c.loop-j.invariant (omega (arith, c.operand.ensures))) (omega (arith, uses))
