-- Units that follow each other with nothing between them, of one channel or of two that take turns: each is a unit of document 01,
-- "Moving a unit". Assumes nothing.
use Rattle.std.specs.Prelude.{ℕ, Bool, true, false, not, cond, ◌&&◌, ◌||◌, is_none}
use Rattle.facts.specs.Rows.{Row, Repeats, in_a_row}
use Rattle.space.specs.Space.{Spaces}
use Rattle.space_board.specs.declared.Board.{Board}
use Rattle.port.specs.declared.Which.{Which}
use Rattle.port.specs.Ports.{other}
use Rattle.word_mode.specs.declared.RequestMode.{RequestMode}
use Rattle.word_mode.specs.declared.RequestMode.TheVariants.{Single, DemandHold, DemandRelease, DemandInterleave}
use Rattle.unit.specs.declared.Work.{Work}
use Rattle.unit.specs.declared.Moved.{Moved}
use Rattle.unit.specs.Unit.{unit_refusal, Worked, whole, worked}
use Rattle.unit_stride.specs.declared.Pair.{Pair}
use Rattle.unit_stride.specs.declared.MovedOn.{MovedOn}
use Rattle.unit_stride.specs.declared.Carried.{Carried}

-- After an unended unit both dedicated modes keep the bus.
abbrev pub is_dedicated : RequestMode → Bool
is_dedicated Single = false
is_dedicated DemandHold = true
is_dedicated DemandRelease = true
is_dedicated DemandInterleave = false

-- of so many steps, how many may be units that follow each other; EOP ends the first
abbrev pub limit_of : Bool → RequestMode → ℕ → Bool → ℕ
limit_of both mode left eop = cond (not eop && (both || is_dedicated mode)) left 1

-- the registers as the unit leaves them
abbrev pub onward : Work → Moved → Work
onward w m = record { set = m.set; mode = w.mode; pattern = w.pattern; mask = w.mask; kept = m.compared }

-- The unit does not end its operation, and the next is not refused by 8.
abbrev pub follows : Board → Moved → Work → Bool
follows b m next = not (m.tc || m.compared.met) && is_none (unit_refusal b next.mode next.set)

-- ---- of one channel

-- what a unit works on, and over which spaces
pub record WorkAt : Type 0 where
  pub work : Work
  pub spaces : Spaces

abbrev pub move_turns : Board → Repeats WorkAt Worked
move_turns b = record {
  result = λ s. worked s.work s.spaces;
  follows = λ s k. follows b k.moved (onward s.work k.moved);
  next = λ s k. record { work = onward s.work k.moved; spaces = k.spaces };
}

abbrev pub moved_on_as : MovedOn → Spaces → Row Worked
moved_on_as r z = record { last = whole r.moved z; count = r.units }

-- With `done` units done, one, and of up to `more` each that follows.
abbrev pub moved_on : Board → ℕ → ℕ → Work → Spaces → Row Worked
moved_on b more done w z = in_a_row (move_turns b) more done (record { work = w; spaces = z })

-- ---- of one channel, or of both in turn

-- the other's turn
abbrev pub pass : Pair → Moved → Pair
pass p m = record { which = other p.which; work = p.other; other = onward p.work m }

-- before the next unit
abbrev pub after : Bool → Pair → Moved → Pair
after true p m = pass p m
after false p m = record { which = p.which; work = onward p.work m; other = p.other }

-- a pair before a unit, and over which spaces
pub record UnitAt : Type 0 where
  pub pair : Pair
  pub spaces : Spaces

-- whose the unit was, the registers of the channel that rested, and what the unit leaves
pub record UnitDone : Type 0 where
  pub which : Which
  pub rests : Work
  pub unit : Worked

abbrev pub unit_turns : Board → Bool → Repeats UnitAt UnitDone
unit_turns b both = record {
  result = λ s. record { which = s.pair.which; rests = s.pair.other; unit = worked s.pair.work s.spaces };
  follows = λ s k. follows b k.unit.moved (after both s.pair k.unit.moved).work;
  next = λ s k. record { pair = after both s.pair k.unit.moved; spaces = k.unit.spaces };
}

abbrev pub carried_as : Carried → Spaces → Row UnitDone
carried_as r z = record { last = record { which = r.which; rests = r.rests; unit = whole r.moved z }; count = r.units }

abbrev pub onwards : Board → Bool → ℕ → ℕ → Pair → Spaces → Row UnitDone
onwards b both more done p z = in_a_row (unit_turns b both) more done (record { pair = p; spaces = z })
