-- A machine is a controller and the two lent spaces; a stretch of n is n steps without EOP. A unit, as the program of accesses that
-- the laws speak of, is the unit that the step does. Assumes nothing.
use Rattle.std.specs.Prelude.{false, List, ℕ}
use Rattle.space.specs.declared.Place.{Place}
use Rattle.space.specs.Space.{Spaces}
use Rattle.unit_laws.specs.Local.{Prog, Write}
use Rattle.port.specs.declared.Which.{Which}
use Rattle.word_mode.specs.Mode.{operation_of, is_flipped}
use Rattle.unit_accesses.specs.Accesses.{bytes, reads_of, datum_of, writes_by}
use Rattle.unit.specs.Unit.{moved_of}
use Rattle.channel.specs.declared.Channel.{Channel}
use Rattle.channel.specs.Ending.{after_unit}
use Rattle.step.specs.declared.Controller.{Controller}
use Rattle.step.specs.declared.Answer.{Answer}
use Rattle.step_rules.specs.declared.Choice.{Choice}
use Rattle.step.specs.Controller.{at}
use Rattle.space_board.specs.Board.{board_of}
use Rattle.step.specs.Choice.{choice}
use Rattle.step.specs.Step.{Outcome, work_of, step_of}

pub record Machine : Type 0 where
  pub controller : Controller
  pub spaces : Spaces

abbrev pub left : Outcome → Machine
left o = record { controller = o.stepped.state; spaces = o.spaces }

-- one step without EOP, and its answer
abbrev pub outcome_of : Machine → Outcome
outcome_of m = step_of false m.controller m.spaces

abbrev pub step : Machine → Machine
step m = left (outcome_of m)

abbrev pub answer : Machine → Answer
answer m = (outcome_of m).stepped.answer

abbrev pub next_choice : Machine → Choice
next_choice m = choice (board_of m.spaces) m.controller

abbrev pub channel : Which → Machine → Channel
channel w m = at w m.controller

-- ---- a unit alone

abbrev pub unit_reads : Channel → List Place
unit_reads c = bytes (reads_of (operation_of c.mode).moves (is_flipped c.mode) c.current)

abbrev pub datum : Channel → List ℕ → ℕ
datum c d = datum_of (operation_of c.mode).moves (is_flipped c.mode) c.current d

abbrev pub unit_writes : Channel → List Write
unit_writes c = writes_by (operation_of c.mode).moves (is_flipped c.mode) c.current

abbrev pub unit : Which → Prog Channel
unit w = record {
  reads = unit_reads;
  writes = unit_writes;
  next = λ c d. (after_unit w false (moved_of (work_of c) (datum c d)) c).channel;
}
