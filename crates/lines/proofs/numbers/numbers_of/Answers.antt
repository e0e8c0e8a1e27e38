use Rattle.std.proofs.Common.{arith}
use Rattle.lines.proofs.Taking.{nothing_taken, no_number, no_room, too_large, no_space, first_taken, digit_taken, number_taken}
use Rattle.lines.proofs.numbers.numbers_of.Goals as goal
use Rattle.lines.proofs.numbers.numbers_of.Goals.{in-None-Some-2, in-Some-Some-2, in-Some-None-2}

pub loop-b-init : goal.loop-b-init
loop-b-init c = nothing_taken _ _

pub returns-in-None-None-clause-value : goal.returns-in-None-None-clause-value
returns-in-None-None-clause-value c =
    no_number _ _ _ _ _ _ c.loop-b.invariant c.loop-b-test.true _ c.digit_value.ensures c.in-None-None.is-0 c.in-None-None.is-1

pub returns-in-None-Some-clause-value : goal.returns-in-None-Some-clause-value
returns-in-None-Some-clause-value c =
    no_room _ _ _ _ _ _ c.loop-b.invariant c.loop-b-test.true _ c.digit_value.ensures c.in-None-Some.is-0 c.in-None-Some.is-1 c.if-out-count.true

pub returns-in-Some-Some-clause-value : goal.returns-in-Some-Some-clause-value
returns-in-Some-Some-clause-value c =
    too_large _ _ _ _ _ _ c.loop-b.invariant c.loop-b-test.true _ c.digit_value.ensures c.in-Some-Some.is-0 c.in-Some-Some.is-1
    (omega arith)

pub returns-in-Some-None-clause-value : goal.returns-in-Some-None-clause-value
returns-in-Some-None-clause-value c =
    no_space _ _ _ _ _ _ c.loop-b.invariant c.loop-b-test.true _ c.digit_value.ensures c.in-Some-None.is-0 c.in-Some-None.is-1 (λ e. omega arith)

pub loop-b-preserved : goal.loop-b-preserved
loop-b-preserved c =
    elim c.match-number.branch [
      | in-None-Some-2 w ↦
          rw (w.number-is, w.count-is, w.out-is)
          (first_taken _ _ _ _ _ _ c.loop-b.invariant c.loop-b-test.true _ c.digit_value.ensures w.in-None-Some.is-0 w.in-None-Some.is-1 w.if-out-count.false)
      | in-Some-Some-2 w ↦
          rw (w.number-is, w.count-is, w.out-is)
          (digit_taken _ _ _ _ _ _ c.loop-b.invariant c.loop-b-test.true _ c.digit_value.ensures w.in-Some-Some.is-0 w.in-Some-Some.is-1
          (omega arith))
      | in-Some-None-2 w ↦
          rw (w.number-is, w.count-is, w.out-is)
          (number_taken _ _ _ _ _ _ c.loop-b.invariant c.loop-b-test.true _ c.digit_value.ensures w.in-Some-None.is-0 w.in-Some-None.is-1 (omega arith))
    ]
