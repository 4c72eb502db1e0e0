use Rattle.text_print.proofs.Laws.{twice}
use Rattle.console_state.specs.State.{controller_of}
use Rattle.console_state.proofs.controller.Goals as goal

pub returns : goal.returns
unfolding controller_of
returns c =
    rw (
      c.chain_under_way.ensures,
      c.with-4.ensures,
      twice,
      c.which-t-2.ensures,
      twice,
      c.with-3.ensures,
      twice,
      c.bit-t.ensures,
      twice,
      c.with-2.ensures,
      twice,
      c.which-t.ensures,
      twice,
      c.with.ensures,
      twice,
      c.words.ensures,
      twice,
    )
