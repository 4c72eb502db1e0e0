use Rattle.text_print.proofs.Laws.{twice}
use Rattle.console_message.specs.Phrases.{not_understood_of}
use Rattle.console_message.proofs.not_understood.Goals as goal

pub returns : goal.returns
unfolding not_understood_of
returns c = rw (c.with.ensures, c.decimal-t.ensures, twice, c.of.ensures, twice)
