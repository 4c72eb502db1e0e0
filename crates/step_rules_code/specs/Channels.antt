-- Document 01, "Which step comes next": what the rules ask of a channel's own registers. Assumes nothing.
use Rattle.port.specs.declared.Which.{Which}
use Rattle.word_mode.specs.Mode.{request_mode_of}
use Rattle.channel.specs.declared.Channel.{Channel}
use Rattle.channel_request.specs.Request.{requests}
use Rattle.step_rules.specs.declared.Choice.{Choice}
use Rattle.step_rules.specs.Rules.{keeping}

-- rule 4, by the keeper's registers
unfoldable pub keeper : Which → Channel → Choice
keeper w c = keeping (requests c.mode c.line) (request_mode_of c.mode) w
