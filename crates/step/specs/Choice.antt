-- Document 01, "Which step comes next": what the rules ask of a controller's registers, and the choice. Assumes nothing.
use Rattle.std.specs.Prelude.{◌&&◌, Option}
use Rattle.word_mode.specs.Mode.{request_mode_of}
use Rattle.word_address.specs.Address.{is_odd}
use Rattle.unit.specs.Unit.{unit_refusals}
use Rattle.channel.specs.Candidate.{is_candidate, interleaves}
use Rattle.channel_request.specs.Request.{requests}
use Rattle.space_board.specs.declared.Board.{Board}
use Rattle.step.specs.declared.Controller.{Controller}
use Rattle.step_rules.specs.declared.Choice.{Choice}
use Rattle.step_rules.specs.Rules.{is_enabled, turn_by, Facts, Faults, choice_of}
use Rattle.step.specs.Controller.{at}
use Rattle.port.specs.declared.Which.{Which}

-- If both are units in demand interleave, the channel not served last; otherwise the lower numbered candidate.
unfoldable pub turn : Controller → Option Which
turn u = turn_by (is_candidate u.one) (is_candidate u.two) (interleaves u.one && interleaves u.two) u.control.served

abbrev pub facts_of : Controller → Facts
facts_of u = record {
  enabled = is_enabled u.master;
  chain = u.control.chain;
  note = u.control.note;
  bus = u.control.bus;
  active = λ w. requests (at w u).mode (at w u).line;
  mode = λ w. request_mode_of (at w u).mode;
  pending = λ w. (at w u).pending;
  turn = turn u;
}

-- No rule of document 01 looks at the board.
abbrev pub faults_of : Board → Controller → Faults
faults_of b u = record {
  odd_table = λ w. is_odd (at w u).chain;
  unit = λ w. unit_refusals b (at w u).mode (at w u).current;
}

unfoldable pub choice : Board → Controller → Choice
choice b u = choice_of (facts_of u) (faults_of b u)
