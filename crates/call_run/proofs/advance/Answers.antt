use Rattle.std.proofs.Common.{◌∙◌, sym, arith}
use Rattle.call_run.specs.Run.{advance_of}
use Rattle.call_run.proofs.Strides.{strides}
use Rattle.call_run.proofs.CodeLaws.{stopped, turned, counts, spent}
use Rattle.call_run.proofs.advance.Goals as goal

pub returns-then-is_stop : goal.returns-then-is_stop
unfolding advance_of
returns-then-is_stop c =
    let t = strides _ _ _ _ _ c.loop-done-test.true _ in
    stopped _ _ _ _ _ _ _ t c.stride-next.ensures (sym c.is_stop.ensures ∙ c.if-is_stop.true) ∙ c.loop-done.invariant.same

pub overflow_add-done : goal.overflow_add-done
overflow_add-done c =
    let n = counts _ _ _ _ _ _ _ (strides _ _ _ c.loop-done.answer _ c.loop-done-test.true _) c.stride-next.ensures in
    omega (arith, n.1, c.ranges.budget)

pub loop-done-smaller : goal.loop-done-smaller
loop-done-smaller c =
    let n = counts _ _ _ _ _ _ _ (strides _ _ _ c.loop-done.answer _ c.loop-done-test.true _) c.stride-next.ensures in
    omega (arith, c.loop-done-test.true, n.0)

pub loop-done-preserved : goal.loop-done-preserved
loop-done-preserved c =
    let g = c.loop-done.invariant in
    let s = c.stride-next in
    let t = strides _ _ _ c.loop-done.answer _ c.loop-done-test.true _ in
    record {
      within = (counts _ _ _ _ _ _ _ t s.ensures).1;
      memory_long = s.auto.memory ∙ g.memory_long;
      io_long = s.auto.io ∙ g.io_long;
      same = turned _ _ _ _ _ _ _ t s.ensures (sym c.is_stop.ensures ∙ c.if-is_stop.false) ∙ g.same;
    }

pub returns : goal.returns
unfolding advance_of
returns c = let g = c.loop-done.invariant in spent _ _ _ _ g.within c.loop-done-test.false ∙ g.same
