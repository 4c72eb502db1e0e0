use Rattle.text_print.proofs.Laws.{twice}
use Rattle.console_state.specs.State.{compared_of}
use Rattle.console_state.proofs.compared.Goals as goal

pub returns : goal.returns
unfolding compared_of
returns c =
    rw (
      c.hex4.ensures,
      c.with-4.ensures,
      twice,
      c.hex2-t.ensures,
      twice,
      c.with-3.ensures,
      twice,
      c.hex4-t-2.ensures,
      twice,
      c.with-2.ensures,
      twice,
      c.hex4-t.ensures,
      twice,
      c.with.ensures,
      twice,
      c.line_of.ensures,
      twice,
      c.channel-c.ensures,
    )
