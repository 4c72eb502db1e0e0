-- Of two units in demand interleave the channel not served last comes next. Assumes nothing.
use mathlib.Core.Path.{◌≡◌, refl}
use mathlib.Core.Bool.{true}
use Rattle.std.specs.Prelude.{None, Option, Some}
use Rattle.port.specs.declared.Which.{Which}
use Rattle.port.specs.declared.Which.TheVariants.{One, Two}
use Rattle.step_rules.specs.Rules.{turn_by}

-- the channel not served last, channel 1 if none
abbrev pub next_up : Option Which → Which
next_up None = One
next_up (Some One) = Two
next_up (Some Two) = One

pub takes_turns : (s : Option Which) → turn_by true true true s ≡ Some (next_up s)
takes_turns None = refl
takes_turns (Some One) = refl
takes_turns (Some Two) = refl
