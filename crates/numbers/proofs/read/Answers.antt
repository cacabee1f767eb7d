-- Each way out gives what the whole text gives. Mathematics in `proofs.Underway`.
use Rattle.std.proofs.Common.{◌∙◌, arith}
use Rattle.numbers.proofs.Underway.{underway-none, past-limit, digit-on, digit-large, other_byte, gap-over, gap-on}
use Rattle.numbers.proofs.Underway.{end-over, end_none, end_list}
use Rattle.numbers.proofs.read.Goals as goal
use Rattle.numbers.proofs.read.Goals.{in-32+in_ok-close-in-32, in-48-to-57+in_ok-grown-in-48-to-57}

pub returns-then-bytes-gt-MOST_BYTES : goal.returns-then-bytes-gt-MOST_BYTES
returns-then-bytes-gt-MOST_BYTES c = past-limit _ c.if-bytes-gt-MOST_BYTES.true

pub loop-byte-init : goal.loop-byte-init
loop-byte-init c = underway-none _ c.if-bytes-gt-MOST_BYTES.false

pub returns-in_err-close-in-32 : goal.returns-in_err-close-in-32
returns-in_err-close-in-32 c =
    let u = c.loop-byte.invariant in
    c.from_residual.ensures ∙ gap-over u c.loop-byte-test.true c.in-32.is
    (rw c.take.ensures.value at c.in_err-close-in-32.ensures u.ended u.holds)

pub returns-in_err-grown-in-48-to-57 : goal.returns-in_err-grown-in-48-to-57
returns-in_err-grown-in-48-to-57 c =
    c.from_residual-in_err-grown-in-48-to-57.ensures ∙
    digit-large c.loop-byte.invariant c.loop-byte-test.true (omega arith) (omega arith) (omega (arith, c.in_err-grown-in-48-to-57.ensures))

pub loop-byte-preserved : goal.loop-byte-preserved
loop-byte-preserved c =
    let u = c.loop-byte.invariant in
    elim c.match-byte.branch [
      | in-32+in_ok-close-in-32 w ↦ rw (w.listed-is, w.current-is, w.take.ensures.after) (gap-on u c.loop-byte-test.true w.in-32.is
          (rw w.take.ensures.value at w.in_ok-close-in-32.ensures u.ended u.holds))
      | in-48-to-57+in_ok-grown-in-48-to-57 w ↦
          let more = w.in_ok-grown-in-48-to-57.ensures in
          rw (w.listed-is, w.current-is, more.1) (digit-on u c.loop-byte-test.true (omega arith) (omega arith) more.0)
    ]

pub returns-in_default : goal.returns-in_default
returns-in_default c = other_byte c.loop-byte.invariant c.loop-byte-test.true (λ a. omega arith) (λ g. grind arith)

pub returns-in_default-2 : goal.returns-in_default-2
returns-in_default-2 c = other_byte c.loop-byte.invariant c.loop-byte-test.true (λ a. omega arith) (λ g. grind arith)

pub returns-in_err-close : goal.returns-in_err-close
returns-in_err-close c =
    let u = c.loop-byte.invariant in
    c.from_residual-in_err-close.ensures ∙ end-over u c.loop-byte-test.false (c.in_err-close.ensures u.ended u.holds)

pub returns-then-listed-eq0 : goal.returns-then-listed-eq0
returns-then-listed-eq0 c =
    let u = c.loop-byte.invariant in
    end_none u c.loop-byte-test.false (c.in_ok-close.ensures u.ended u.holds) c.if-listed-eq0.true

pub returns-else-listed-eq0 : goal.returns-else-listed-eq0
returns-else-listed-eq0 c =
    let u = c.loop-byte.invariant in
    end_list u c.loop-byte-test.false (c.in_ok-close.ensures u.ended u.holds) (omega arith)
