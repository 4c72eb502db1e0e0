use Rattle.std.proofs.Common.{◌∙◌, sym, arith}
use mathlib.Core.Bool.{true≢false}
use Rattle.unit_stride.proofs.CodeLaws.{a_turn, counts, less_two, turned_two, done_one}
use Rattle.unit_stride.proofs.carry_on.Goals as goal

pub overflow_add-units : goal.overflow_add-units
overflow_add-units c = omega (arith, counts _ (a_turn _ c.loop-going.invariant c.turn_limit-most.ensures c.loop-going-test.true c.move_on-k.ensures.0), c.ranges.limit)

pub loop-going-smaller-then-both : goal.loop-going-smaller-then-both
loop-going-smaller-then-both c = less_two _ c.follows.result c.if-both.true (a_turn _ c.loop-going.invariant c.turn_limit-most.ensures c.loop-going-test.true c.move_on-k.ensures.0)

pub loop-going-preserved-then-both : goal.loop-going-preserved-then-both
loop-going-preserved-then-both c =
    let k = c.move_on-k in
    record {
      memory_long = k.auto.memory ∙ c.loop-going.invariant.memory_long;
      io_long = k.auto.io ∙ c.loop-going.invariant.io_long;
      first = λ e o. absurd (true≢false (sym c.if-both.true ∙ e));
      told = λ e. k.ensures.1;
      reached = turned_two _ c.follows.result c.pass-next.result c.if-both.true c.pass-next.ensures c.follows.ensures (a_turn _ c.loop-going.invariant c.turn_limit-most.ensures c.loop-going-test.true c.move_on-k.ensures.0);
    }

pub loop-going-preserved : goal.loop-going-preserved
loop-going-preserved c =
    let k = c.move_on-k in
    record {
      memory_long = k.auto.memory ∙ c.loop-going.invariant.memory_long;
      io_long = k.auto.io ∙ c.loop-going.invariant.io_long;
      first = λ e o. absurd (true≢false (sym o));
      told = λ e. k.ensures.1;
      reached = done_one _ c.if-both.false (a_turn _ c.loop-going.invariant c.turn_limit-most.ensures c.loop-going-test.true c.move_on-k.ensures.0);
    }
