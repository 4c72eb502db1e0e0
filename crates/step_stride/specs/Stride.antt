-- Steps taken at once: units that follow each other, of one channel or of two in turn, words of a chain, and any other step by itself.
-- Assumes nothing.
use Rattle.std.specs.Prelude.{ℕ, ◌-◌, Bool, true, false, not, ◌&&◌, List}
use Rattle.facts.specs.Rows.{Row}
use Rattle.port.specs.declared.Which.{Which}
use Rattle.space.specs.Space.{Spaces}
use Rattle.word_mode.specs.Mode.{request_mode_of}
use Rattle.unit.specs.declared.Work.{Work}
use Rattle.unit_stride.specs.declared.Pair.{Pair}
use Rattle.unit_stride.specs.Units.{limit_of, UnitDone, onwards}
use Rattle.port.specs.Ports.{other}
use Rattle.channel.specs.declared.Channel.{Channel}
use Rattle.channel.specs.Candidate.{is_candidate, interleaves}
use Rattle.channel.specs.Ending.{moved_by}
use Rattle.word_reload.specs.declared.Stage.{Stage}
use Rattle.chain_stride.specs.Fetches.{fetches_of}
use Rattle.step_rules.specs.declared.Choice.{Choice}
use Rattle.step_rules.specs.declared.Choice.TheVariants.{Disabled, Refused, Fetch, GiveBack, Unit, Hold, Release, Idle}
use Rattle.step_rules.specs.Rules.{is_interleaved}
use Rattle.step.specs.declared.Controller.{Controller}
use Rattle.step.specs.declared.Done.{Done}
use Rattle.step.specs.declared.Answer.{Answer}
use Rattle.step.specs.declared.Ran.{Ran}
use Rattle.step.specs.Controller.{at, with}
use Rattle.space_board.specs.Board.{board_of}
use Rattle.step.specs.Choice.{choice}
use Rattle.step.specs.Fetching.{fetched_by, drop_of}
use Rattle.step.specs.Step.{Outcome, outcome, RunOutcome, ran_as, work_of, unit_of, perform_of}

abbrev pub once : Done Answer → Ran
once s = record { state = s.state; answer = s.answer; steps = 1 }

-- ---- units that follow each other

-- a unit in demand interleave is what the channel would do now
abbrev pub is_in_turn : Channel → Bool
is_in_turn c = interleaves c && is_candidate c

-- Two such channels take turns; CPU interleave set would give the bus back between them.
unfoldable pub take_turns : Controller → Bool
take_turns u = not (is_interleaved u.master) && (is_in_turn u.one && is_in_turn u.two)

abbrev pub pair_of : Which → Controller → Pair
pair_of w u = record { which = w; work = work_of (at w u); other = work_of (at (other w) u) }

-- A channel that rests has the registers that its latest unit left.
abbrev pub rested_by : Work → Channel → Channel
rested_by k c = moved_by (record { set = k.set; compared = k.kept; tc = false; upper = 0 }) c

abbrev pub rested : Which → Work → Controller → Controller
rested w k u = with w (rested_by k (at w u)) u

abbrev pub unit_done : Bool → Controller → UnitDone → Outcome
unit_done eop u k =
    outcome (unit_of k.which eop (rested (other k.which) k.rests u) k.unit.moved) k.unit.spaces

abbrev pub units_by : Bool → Controller → Row UnitDone → RunOutcome
units_by eop u k = record { last = unit_done eop u k.last; steps = k.count }

-- ---- words of a chain

-- EOP ends a chain at any fetch.
abbrev pub fetches_by : Bool → Which → Stage → ℕ → Controller → List ℕ → Ran
fetches_by true w stage left u m = once (drop_of w u)
fetches_by false w stage left u m =
    let k = fetches_of m (left - 1) 0 stage (at w u) in
    let s = fetched_by w k.last u in
    record { state = s.state; answer = s.answer; steps = k.count }

-- ---- a stride

abbrev pub single : Outcome → RunOutcome
single o = record { last = o; steps = 1 }

unfoldable pub stride_by : Choice → ℕ → Bool → Controller → Spaces → RunOutcome
stride_by Disabled left eop u z = single (perform_of Disabled eop u z)
stride_by (Refused r) left eop u z = single (perform_of (Refused r) eop u z)
stride_by (Fetch w stage) left eop u z = ran_as (fetches_by eop w stage left u z.memory) z
stride_by GiveBack left eop u z = single (perform_of GiveBack eop u z)
stride_by (Unit w) left eop u z =
    let both = take_turns u in
    units_by eop u (onwards (board_of z) both (limit_of both (request_mode_of (at w u).mode) left eop - 1) 0 (pair_of w u) z)
stride_by (Hold w) left eop u z = single (perform_of (Hold w) eop u z)
stride_by Release left eop u z = single (perform_of Release eop u z)
stride_by Idle left eop u z = single (perform_of Idle eop u z)

-- up to `left` steps
unfoldable pub stride_of : ℕ → Bool → Controller → Spaces → RunOutcome
stride_of left eop u z = stride_by (choice (board_of z) u) left eop u z
