use Rattle.std.proofs.Common.{rules}
use Rattle.facts.specs.Look.{look, find}
use Rattle.word_command.specs.Command.{command_of}
use Rattle.word_command.specs.Figure18.{command_at}
use Rattle.word_command.proofs.Figure18.{at_each_byte}
use Rattle.word_command.proofs.entry.Goals as goal

pub returns : goal.returns
unfolding look find command_of command_at
returns c = search (rules, at_each_byte)
