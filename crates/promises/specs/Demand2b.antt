-- Demand 2, the search: it ends on the first datum that meets its condition, or at the count. For either channel, all request modes, both
-- widths, all step codes and both spaces; in any stretch of steps without EOP with request-line calls, pointer writes and reads and register
-- reads between them, and with the other channel active. Assumes nothing.
use Rattle.std.specs.Prelude.{◌≡◌, Bool, true, false, List, [], ℕ, suc, ◌-◌, ◌<◌, eqb}
use Rattle.facts.specs.Bits.{bit_if}
use Rattle.space.specs.declared.Width.{Width}
use Rattle.space.specs.declared.Place.{Place}
use Rattle.space.specs.Space.{Spaces}
use Rattle.space.specs.Bytes.{bytes_at, value_of}
use Rattle.unit_laws.specs.Machine.{iter, Every}
use Rattle.unit_laws.specs.Op.{Area}
use Rattle.unit_laws.specs.Search.{First, meets}
use Rattle.unit_comparison.specs.Comparison.{comparison}
use Rattle.word_address.specs.declared.Address.{Address}
use Rattle.word_address.specs.Address.{place_of, source_of}
use Rattle.unit_accesses.specs.Accesses.{step_after}
use Rattle.word_operation.specs.declared.Moves.TheVariants as moves
use Rattle.word_operation.specs.Operation.{comparing}
use Rattle.word_mode.specs.declared.Reasons.{Reasons}
use Rattle.word_mode.specs.Mode.{is_flipped, match_control, reload_of}
use Rattle.word_mode.specs.Reasons.{some, enabled_for}
use Rattle.port.specs.Ports.{channel_number}
use Rattle.step.specs.Answers.{Paper, unit, none, paper}
use Rattle.port.specs.declared.Which.{Which}
use Rattle.promises.specs.Machine.{Machine, answer, channel}
use Rattle.promises.specs.Calls.{Moment, next}
use Rattle.promises.specs.Own.{unit_next, Away, made, units_before, units_of, Armed}
use Rattle.promises.specs.Paced.{stepped}

-- a channel's search of N data (`units`) of a width, from a source address on
pub record Search : Type 0 where
  pub channel : Which
  pub width : Width
  pub start : Address
  pub units : ℕ
  pub pattern : ℕ
  pub mask : ℕ
  pub control : ℕ

-- as the registers have it
abbrev pub search_of : Which → Width → Machine → Search
search_of w d m = record {
  channel = w;
  width = d;
  start = source_of (is_flipped (channel w m).mode) (channel w m).current;
  units = units_of w m;
  pattern = (channel w m).pattern;
  mask = (channel w m).mask;
  control = match_control (channel w m).mode;
}

-- the locations of d(k), which is read at the source address stepped k times
abbrev pub place : Search → ℕ → List Place
place s k = bytes_at s.width (place_of (stepped s.width k s.start)) []

-- a match under stop on match, a mismatch under stop on no match
abbrev pub condition : Search → List ℕ → Bool
condition s d = (comparison s.width (value_of s.width d) s.pattern s.mask s.control).met

-- d(k), as the spaces are, meets the condition
abbrev pub hit : Search → Spaces → ℕ → Bool
hit s = meets (place s) (condition s)

-- What is taken: in x's machine the search is before the channel. `stop` is the least k whose d(k) meets the condition, as the spaces are
-- then, or N - 1 where there is none. After i calls the next is a unit of the channel; up to and with it no unit of the other channel writes a
-- location of a d(k), k < N.
pub record SearchStretch (s : Search) (stop i : ℕ) (x : Moment) : Type 0 where
  pub ready : Armed s.channel (comparing (moves.Search s.width)) x.machine
  pub registers : search_of s.channel s.width x.machine ≡ s
  pub first : First (hit s x.machine.spaces) s.units stop
  pub mine : unit_next s.channel (iter next i x) ≡ true
  pub untouched : Every next (Away s.channel (Area s.units (place s))) (suc i) x

-- whether the step after d(k) changes bits 23-16 of the source address (document 02, E5)
abbrev pub changed : Search → ℕ → Bool
changed s k = (step_after (record { width = s.width; address = stepped s.width k s.start })).upper

-- what a step answers that does unit k of the search, with these end reasons
abbrev pub unit_ended : Search → ℕ → Reasons → Paper
unit_ended s k why = record { number = 0; name = unit; channel = channel_number s.channel; why = why; upper = bit_if (changed s k) 1 }

-- of unit k: MC if and only if d(k) meets the condition, TC if and only if k is N - 1, no EOP
abbrev pub reasons_of_search : Search → Spaces → ℕ → Reasons
reasons_of_search s z k = record { tc = eqb (suc k) s.units; mc = hit s z k; eop = false }

-- What is promised of the unit at call i, from the machine m before it to m' after it, by its number among the channel's units.
pub record UnitSearched (s : Search) (stop number : ℕ) (z : Spaces) (m m' : Machine) : Type 0 where
  -- before `stop` it has no end reasons
  pub going : number < stop → paper (answer m) ≡ unit_ended s number none
  -- at `stop` it has exactly its reasons, and there are some
  pub reasons : number ≡ stop → paper (answer m) ≡ unit_ended s stop (reasons_of_search s z stop)
  pub stops : number ≡ stop → some (paper (answer m)).why ≡ true
  -- it counts to N - 1 - stop, and that is left in the register where no reload is enabled for a reason
  pub count : number ≡ stop → (made s.channel m).set.count ≡ s.units - 1 - stop
  pub left : number ≡ stop → enabled_for (reload_of (channel s.channel m).mode) (reasons_of_search s z stop) ≡ false
      → (channel s.channel m').current.count ≡ s.units - 1 - stop

abbrev pub Searched : Search → ℕ → ℕ → Moment → Type 0
Searched s stop i x =
    UnitSearched s stop (units_before s.channel i x) x.machine.spaces (iter next i x).machine (next (iter next i x)).machine

abbrev pub Demand2b : Type 0
Demand2b = (s : Search) (stop i : ℕ) (x : Moment) → SearchStretch s stop i x → Searched s stop i x
