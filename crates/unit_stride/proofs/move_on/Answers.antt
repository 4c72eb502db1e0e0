use Rattle.std.proofs.Common.{◌∙◌, sym, ap, subst}
use Rattle.facts.proofs.Rows.{on_yet, turn}
use Rattle.space.specs.Space.{spaces}
use Rattle.word_mode.specs.declared.Mode.{Mode}
use Rattle.word_address.specs.Address.{SixteenBitsEach}
use Rattle.unit.specs.declared.Work.{Work}
use Rattle.unit_stride.specs.Units.{follows, move_turns}
use Rattle.unit_stride.specs.Behind.{Tells}
use Rattle.unit_stride.proofs.CodeLaws.{tells, words_left_lem}
use Rattle.unit_stride.proofs.move_on.Goals as goal

pub loop-going-preserved : goal.loop-going-preserved
loop-going-preserved c =
    let l = c.loop-going in
    let r = on_yet (move_turns _) _ _ _ _ _ l.going c.loop-going-test.true l.invariant.reached in
    let k = c.carry-moved in
    record {
      memory_long = k.auto.memory ∙ l.invariant.memory_long;
      io_long = k.auto.io ∙ l.invariant.io_long;
      mode = ap (λ (w : Work). w.mode) c.onward-work.ensures ∙ l.invariant.mode;
      words = subst (λ (w : Work). SixteenBitsEach w.set) (sym c.onward-work.ensures) (words_left_lem l.work _ _ k.result l.invariant.words k.ensures);
      told = λ e. subst (λ (m : Mode). Tells m k.result) l.invariant.mode (tells l.work _ _ k.result l.invariant.words k.ensures);
      reached = turn (move_turns _) _ _ _ _ _ r.0 r.1 k.ensures _ _
          (c.follows.ensures ∙ ap (follows _ k.result) c.onward-work.ensures)
          (λ j. record { work = c.onward-work.ensures j; spaces = spaces k.new.memory k.new.io });
    }
