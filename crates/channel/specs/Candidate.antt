-- Document 01, "Which step comes next": which channel is a candidate. Assumes nothing.
use Rattle.std.specs.Prelude.{Bool, not, ◌&&◌}
use Rattle.word_mode.specs.Mode.{request_mode_of, is_interleave}
use Rattle.channel_request.specs.Request.{requests}
use Rattle.channel_request.specs.Candidate.{candidate_of}
use Rattle.channel.specs.declared.Channel.{Channel}

unfoldable pub is_candidate : Channel → Bool
is_candidate c = candidate_of c.pending (requests c.mode c.line) c.status.nac c.interrupt.sip c.status.ca

-- a unit in demand interleave, if it is a candidate
unfoldable pub interleaves : Channel → Bool
interleaves c = not c.pending && is_interleave (request_mode_of c.mode)
