use Rattle.text_print.proofs.Laws.{twice}
use Rattle.console_state.specs.State.{status_line, status_of}
use Rattle.console_state.proofs.status.Goals as goal

pub returns : goal.returns
unfolding status_line status_of
returns c =
    rw (
      c.bit.ensures,
      c.with-3.ensures,
      twice,
      c.bit-t.ensures,
      twice,
      c.with-2.ensures,
      twice,
      c.hex4-t.ensures,
      twice,
      c.with.ensures,
      twice,
      c.line_of.ensures,
      twice,
      c.status-word.ensures,
      c.flags.ensures,
      c.waits_for_bus.ensures,
      c.channel-c.ensures,
    )
