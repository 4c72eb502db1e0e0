-- Document 01, "Which step comes next" and "Ending": what a step does, by what was chosen. Assumes nothing.
use Rattle.std.specs.Prelude.{ℕ, Bool, true, false}
use Rattle.port.specs.declared.Which.{Which}
use Rattle.space.specs.Space.{Spaces}
use Rattle.word_mode.specs.declared.Reasons.{Reasons}
use Rattle.word_mode.specs.Mode.{request_mode_of}
use Rattle.word_mode.specs.Reasons.{some}
use Rattle.unit.specs.declared.Work.{Work}
use Rattle.unit.specs.declared.Moved.{Moved}
use Rattle.unit.specs.Unit.{worked}
use Rattle.channel.specs.declared.Channel.{Channel}
use Rattle.channel.specs.declared.Ended.{Ended}
use Rattle.channel.specs.Ending.{reasons_of, moved_by, unended, end_of, after_unit}
use Rattle.step.specs.declared.Controller.{Controller}
use Rattle.step.specs.declared.Done.{Done}
use Rattle.step.specs.declared.Ran.{Ran}
use Rattle.step.specs.declared.UnitAnswer.{UnitAnswer}
use Rattle.step_rules.specs.declared.Choice.{Choice}
use Rattle.step_rules.specs.declared.Choice.TheVariants.{Disabled, Refused, Fetch, GiveBack, Unit, Hold, Release, Idle}
use Rattle.step_bus.specs.declared.Back.{Back}
use Rattle.step_bus.specs.declared.Back.TheVariants.{Note, Bus}
use Rattle.step.specs.declared.Answer.{Answer}
use Rattle.step.specs.declared.Answer.TheVariants as answer
use Rattle.step.specs.Set.{◌⟨control≔◌⟩}
use Rattle.step_bus.specs.After.{unended_control, ended_control, held_control, control_by, back_control}
use Rattle.step.specs.Controller.{at, with}
use Rattle.space_board.specs.Board.{board_of}
use Rattle.step.specs.Choice.{choice}
use Rattle.step_rules.specs.Rules.{is_interleaved}
use Rattle.step.specs.Fetching.{fetch_of}

-- All that a step leaves: the next state and the answer, and both spaces.
pub record Outcome : Type 0 where
  pub stepped : Done Answer
  pub spaces : Spaces

abbrev pub outcome : Done Answer → Spaces → Outcome
outcome r z = record { stepped = r; spaces = z }

abbrev pub says : Controller → Answer → Done Answer
says u a = record { state = u; answer = a }

-- All that some steps leave: the last one's outcome, and how many they were.
pub record RunOutcome : Type 0 where
  pub last : Outcome
  pub steps : ℕ

abbrev pub ran_as : Ran → Spaces → RunOutcome
ran_as r z = record { last = outcome (says r.state r.answer) z; steps = r.steps }

-- ---- a unit

abbrev pub work_of : Channel → Work
work_of c = record {
  set = c.current;
  mode = c.mode;
  pattern = c.pattern;
  mask = c.mask;
  kept = record { mch = c.status.mch; mcl = c.status.mcl; met = false };
}

abbrev pub unit_answer : Moved → Bool → UnitAnswer
unit_answer m eop = record { why = reasons_of m eop; upper = m.upper }

unfoldable pub unit_of : Which → Bool → Controller → Moved → Done Answer
unit_of w eop u m =
    let c = at w u in
    let e = after_unit w eop m c in
    says
    (with w e.channel (u ⟨control≔ control_by (some (reasons_of m eop)) (request_mode_of c.mode) (is_interleaved u.master) e.chains w u.control ⟩))
    (answer.Unit w (unit_answer m eop))

-- the controller after an unended unit
unfoldable pub gone_on : Which → Controller → Moved → Controller
gone_on w u m =
    let c = at w u in
    with w (unended (moved_by m c)) (u ⟨control≔ unended_control (request_mode_of c.mode) (is_interleaved u.master) w u.control ⟩)

-- .. and after one that ends its operation
unfoldable pub ended_after : Which → Reasons → Controller → Moved → Controller
ended_after w why u m =
    let e = end_of w why (moved_by m (at w u)) in
    with w e.channel (u ⟨control≔ ended_control e.chains w u.control ⟩)

-- ---- holding

-- EOP given while holding ends the operation with EOP and does no unit.
abbrev pub eop_alone : Reasons
eop_alone = record { tc = false; mc = false; eop = true }

abbrev pub hold_by : Bool → Which → Controller → Ended → Done Answer
hold_by true w u e =
    says
    (with w e.channel (u ⟨control≔ held_control e.chains w u.control ⟩))
    (answer.Ended w)
hold_by false w u e = says u (answer.Holding w)

unfoldable pub hold_of : Which → Bool → Controller → Done Answer
hold_of w eop u = hold_by eop w u (end_of w eop_alone (at w u))

-- ---- given back

abbrev pub back_of : Back → Controller → Done Answer
back_of back u = says (u ⟨control≔ back_control back u.control ⟩) (answer.GivenBack back)

-- ---- a step

-- A refused step changes nothing, EOP or not.
unfoldable pub perform_of : Choice → Bool → Controller → Spaces → Outcome
perform_of Disabled eop u z = outcome (says u answer.Disabled) z
perform_of (Refused r) eop u z = outcome (says u (answer.Refused r)) z
perform_of (Fetch w stage) eop u z = outcome (fetch_of w stage eop u z.memory) z
perform_of GiveBack eop u z = outcome (back_of Note u) z
perform_of (Unit w) eop u z = let k = worked (work_of (at w u)) z in outcome (unit_of w eop u k.moved) k.spaces
perform_of (Hold w) eop u z = outcome (hold_of w eop u) z
perform_of Release eop u z = outcome (back_of Bus u) z
perform_of Idle eop u z = outcome (says u answer.Idle) z

unfoldable pub step_of : Bool → Controller → Spaces → Outcome
step_of eop u z = perform_of (choice (board_of z) u) eop u z
