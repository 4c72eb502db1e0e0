-- Whose unit a call of a stretch is, and what a channel's operation begins with. For either channel. Assumes nothing.
use Rattle.std.specs.Prelude.{◌≡◌, Bool, true, false, not, cond, ◌&&◌, List, [], ◌∷◌, ℕ, zero, suc, ◌<◌, None, Option, Some}
use Rattle.space.specs.declared.Place.{Place}
use Rattle.unit_laws.specs.Local.{In, places}
use Rattle.unit_count.specs.Count.{units}
use Rattle.port.specs.declared.Which.{Which}
use Rattle.port.specs.Ports.{is_other, other}
use Rattle.word_operation.specs.declared.Operation.{Operation}
use Rattle.word_mode.specs.Mode.{operation_of}
use Rattle.unit.specs.declared.Moved.{Moved}
use Rattle.unit.specs.Unit.{worked}
use Rattle.step_rules.specs.declared.Choice.{Choice}
use Rattle.step_rules.specs.declared.Choice.TheVariants as chosen
use Rattle.step.specs.Step.{work_of}
use Rattle.promises.specs.Machine.{Machine, next_choice, channel, unit_writes}
use Rattle.promises.specs.Calls.{StretchCall, steps, lines, points, reads_pointer, reads, Moment, next}
use Rattle.word_reload.specs.declared.Stage.{Stage}

abbrev pub same : Which → Which → Bool
same w v = not (is_other w v)

-- the step is a unit of channel w
abbrev pub owns : Which → Choice → Bool
owns w chosen.Disabled = false
owns w (chosen.Refused r) = false
owns w (chosen.Fetch v s) = false
owns w chosen.GiveBack = false
owns w (chosen.Unit v) = same w v
owns w (chosen.Hold v) = false
owns w chosen.Release = false
owns w chosen.Idle = false

-- the chain under way, if any, is not channel w's
abbrev pub spares : Which → Option (Which × Stage) → Bool
spares w None = true
spares w (Some (v, s)) = not (same w v)

abbrev pub chain_of_machine : Machine → Option (Which × Stage)
chain_of_machine m = m.controller.control.chain

-- ---- a stretch

abbrev pub step_next : List StretchCall → Bool
step_next [] = false
step_next (steps ∷ cs) = true
step_next (lines n active ∷ cs) = false
step_next (points w ∷ cs) = false
step_next (reads_pointer ∷ cs) = false
step_next (reads ∷ cs) = false

-- the next call is a step that does a unit of channel w
abbrev pub unit_next : Which → Moment → Bool
unit_next w x = step_next x.calls && owns w (next_choice x.machine)

-- if the next call does a unit of the other channel, that writes no place of P
abbrev pub Away : Which → (Place → Type 0) → Moment → Type 0
Away w P x = unit_next (other w) x ≡ true → (l : Place) → P l → ¬ (In l (places (unit_writes (channel (other w) x.machine))))

-- ---- an operation of channel w in it

-- what a unit makes of the registers
abbrev pub made : Which → Machine → Moved
made w m = (worked (work_of (channel w m)) m.spaces).moved

-- the channel's units among the first i calls: the number, from 0, of the unit that call i is
abbrev pub units_before : Which → ℕ → Moment → ℕ
units_before w zero x = 0
units_before w (suc i) x = cond (unit_next w x) (suc (units_before w i (next x))) (units_before w i (next x))

-- N: its count, 65,536 where that is 0
abbrev pub units_of : Which → Machine → ℕ
units_of w m = units (channel w m).current.count

-- operation o is before it: no unit of it is done, and no chain of the channel is pending or under way
pub record Armed (w : Which) (o : Operation) (m : Machine) : Type 0 where
  pub operation : operation_of (channel w m).mode ≡ o
  pub sixteen_bits : (channel w m).current.count < 65536
  pub pending : (channel w m).pending ≡ false
  pub spared : spares w (chain_of_machine m) ≡ true
