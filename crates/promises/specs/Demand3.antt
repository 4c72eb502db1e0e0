-- Demand 3: two channels in Demand Interleave take turns, and where they keep apart the result is that of one after the other.
-- Assumes nothing.
use Rattle.std.specs.Prelude.{◌≡◌, ◌⊎◌, true, false, cond, ℕ, zero, suc, ◌≤◌, ◌<◌, None}
use Rattle.space.specs.declared.Place.{Place}
use Rattle.space.specs.Space.{Spaces, Inside}
use Rattle.port.specs.declared.Which.{Which}
use Rattle.port.specs.declared.Which.TheVariants.{One, Two}
use Rattle.word_mode.specs.declared.RequestMode.TheVariants.{DemandInterleave}
use Rattle.word_mode.specs.Mode.{request_mode_of}
use Rattle.unit_laws.specs.Local.{In, places, exec}
use Rattle.unit_laws.specs.Inter.{State}
use Rattle.unit_laws.specs.Machine.{iter, Every}
use Rattle.channel.specs.declared.Channel.{Channel}
use Rattle.channel_request.specs.Request.{requests}
use Rattle.step_bus.specs.declared.Back.TheVariants.{Note}
use Rattle.step_rules.specs.declared.Choice.TheVariants as chosen
use Rattle.step_rules.specs.Rules.{is_enabled}
use Rattle.step.specs.declared.Answer.{Answer}
use Rattle.step.specs.declared.Answer.TheVariants as answers
use Rattle.step.specs.Answers.{AnswerName, none, paper}
use Rattle.promises.specs.Machine.{Machine, step, answer, next_choice, unit_reads, unit_writes, unit}
use Rattle.promises.specs.Own.{owns}

-- Request mode 3, an active request, NAC, SIP and CA clear and no chain pending.
pub record Interleaving (c : Channel) : Type 0 where
  pub mode : request_mode_of c.mode ≡ DemandInterleave
  pub active : requests c.mode c.line ≡ true
  pub nac : c.status.nac ≡ false
  pub sip : c.interrupt.sip ≡ false
  pub ca : c.status.ca ≡ false
  pub pending : c.pending ≡ false

-- Enabled, both channels so, no chain under way and no channel keeping the bus; there may be a note.
pub record Start (m : Machine) : Type 0 where
  pub on : is_enabled m.controller.master ≡ true
  pub chain : m.controller.control.chain ≡ None
  pub bus : m.controller.control.bus ≡ None
  pub one : Interleaving m.controller.one
  pub two : Interleaving m.controller.two

-- The answers of the stretch hold no refusal and no end reason.
abbrev pub Fine : Answer → Type 0
Fine a = ((paper a).number ≡ 0) × ((paper a).why ≡ none)

-- both channels' records and both spaces
abbrev pub state : Machine → State Channel Channel
state m = record { one = m.controller.one; two = m.controller.two; spaces = m.spaces }

-- a unit of one channel alone: the unit that the step does
abbrev pub unit_alone : Which → State Channel Channel → State Channel Channel
unit_alone One x = let d = exec (unit One) x.one x.spaces in record { one = d.reg; two = x.two; spaces = d.spaces }
unit_alone Two x = let d = exec (unit Two) x.two x.spaces in record { one = x.one; two = d.reg; spaces = d.spaces }

-- how many of the next n steps are units of a channel
abbrev pub units : Which → ℕ → Machine → ℕ
units w zero m = 0
units w (suc n) m = cond (owns w (next_choice m)) (suc (units w n (step m))) (units w n (step m))

-- The units that c and d stand before: neither writes a location of these spaces that the other reads or writes.
pub record KeepsClear (z : Spaces) (c d : Channel) : Type 0 where
  pub writes : (l : Place) → Inside z l → In l (places (unit_writes c)) → ¬ (In l (places (unit_writes d)))
  pub read_by_two : (l : Place) → Inside z l → In l (places (unit_writes c)) → ¬ (In l (unit_reads d))
  pub read_by_one : (l : Place) → Inside z l → In l (unit_reads c) → ¬ (In l (places (unit_writes d)))

-- Each unit of channel 1 in the stretch keeps clear of each unit of channel 2.
abbrev pub KeepApart : ℕ → Machine → Type 0
KeepApart n m = (i j : ℕ) → i < n → j < n → next_choice (iter step i m) ≡ chosen.Unit One → next_choice (iter step j m) ≡ chosen.Unit Two
    → KeepsClear m.spaces (iter step i m).controller.one (iter step j m).controller.two

-- "given back" (the note), or a unit without reasons, with any number of changes of bits 23-16
abbrev pub Turned : Answer → Type 0
Turned a = (a ≡ answers.GivenBack Note) ⊎ (((paper a).name ≡ AnswerName.unit) × ((paper a).why ≡ none))

-- What is neither a channel's nor a byte, but for "served last" and the note.
pub record Rest (m n : Machine) : Type 0 where
  pub pointer : n.controller.pointer ≡ m.controller.pointer
  pub master : n.controller.master ≡ m.controller.master
  pub chain : n.controller.control.chain ≡ None
  pub bus : n.controller.control.bus ≡ None

-- After a stretch of n steps from a start, in which every answer is fine:
pub record Demand3 (n : ℕ) (m : Machine) : Type 0 where
  -- every answer is "given back" (the note) or a unit without reasons;
  pub answers : Every step (λ x. Turned (answer x)) n m
  -- the numbers of the channels' units differ by at most one;
  pub turns : (units One n m ≤ suc (units Two n m)) × (units Two n m ≤ suc (units One n m))
  -- where they keep apart, both channels' records and both spaces are those after channel 1's units alone and then channel 2's alone;
  pub apart : KeepApart n m → state (iter step n m) ≡ iter (unit_alone Two) (units Two n m) (iter (unit_alone One) (units One n m) (state m))
  -- and pointer and master mode are unchanged, no chain is under way and the bus is free.
  pub rest : Rest m (iter step n m)
