-- Document 02, E5: how often a step changes the upper byte, bits 23-16, of an address. Assumes nothing.
use Rattle.std.specs.Prelude.{◌≡◌, Bool, true, false, cond, ◌&&◌, List, [], ◌∷◌, ◌++◌, ℕ, ◌+◌, ◌/◌, ◌≤◌, ◌<◌, eqb}
use Rattle.port.specs.declared.Which.{Which}
use Rattle.stepping.specs.Stepping.{step_size, Direction, Up, Down, Hold, moved}
use Rattle.word_tag.specs.Tag.{is_memory, direction_of}
use Rattle.word_address.specs.Address.{number, SixteenBits, SixteenBitsEach}
use Rattle.word_mode.specs.Mode.{operation_of, is_flipped}
use Rattle.word_reload.specs.declared.Stage.{Stage}
use Rattle.word_reload.specs.declared.Stage.TheVariants.{Reload, Entries}
use Rattle.word_reload.specs.Reload.{entry_of}
use Rattle.unit_accesses.specs.Accesses.{Access, reads_of, writes_of}
use Rattle.channel.specs.declared.Channel.{Channel}
use Rattle.chain.specs.Chaining.{is_chain_address}
use Rattle.step_rules.specs.declared.Choice.{Choice}
use Rattle.step_rules.specs.declared.Choice.TheVariants as chosen
use Rattle.step.specs.Answers.{paper}
use Rattle.step.specs.Step.{step_of}
use Rattle.promises.specs.Machine.{Machine, next_choice, channel}

-- a step from an address, up or down by so much or holding: does the upper byte before differ from the one after?
abbrev pub differs : Direction → ℕ → ℕ → ℕ
differs d by n = cond (eqb (n / 65536) (moved 16777216 d by n / 65536)) 0 1

-- ---- a unit: the steps that its accesses make

abbrev pub differs_after : Access → ℕ
differs_after x =
    let tag = x.address.upper in
    differs (direction_of tag) (step_size (is_memory tag) x.width) (number x.address)

abbrev pub sum_over : List Access → ℕ
sum_over [] = 0
sum_over (x ∷ xs) = differs_after x + sum_over xs

abbrev pub accesses_of : Channel → List Access
accesses_of c =
    let m = (operation_of c.mode).moves in
    let flip = is_flipped c.mode in
    reads_of m flip c.current ++ writes_of m flip c.current

-- ---- a fetch: the step of the chain address

-- the new chain address takes the old one's place, and nothing steps
abbrev pub replaces : Stage → Bool
replaces Reload = false
replaces (Entries p) = is_chain_address (entry_of p.left) && p.second

abbrev pub fetch_differs : Stage → Channel → ℕ
fetch_differs stage c = cond (replaces stage) 0 (differs Up 2 (number c.chain))

-- ---- the number that a step's answer carries

-- by what was chosen, and whether EOP was given, which drops a chain
abbrev pub number_of : Choice → Bool → Machine → ℕ
number_of chosen.Disabled eop m = 0
number_of (chosen.Refused r) eop m = 0
number_of (chosen.Fetch w stage) true m = 0
number_of (chosen.Fetch w stage) false m = fetch_differs stage (channel w m)
number_of chosen.GiveBack eop m = 0
number_of (chosen.Unit w) eop m = sum_over (accesses_of (channel w m))
number_of (chosen.Hold w) eop m = 0
number_of chosen.Release eop m = 0
number_of chosen.Idle eop m = 0

abbrev pub carried : Bool → Machine → ℕ
carried eop m = (paper (step_of eop m.controller m.spaces).stepped.answer).upper

-- the registers that step have words of 16 bits, as the chip's have
pub record Registers (c : Channel) : Type 0 where
  pub current : SixteenBitsEach c.current
  pub chain : SixteenBits c.chain

pub record UpperAddress : Type 0 where
  pub number : (eop : Bool) (m : Machine) → ((w : Which) → Registers (channel w m)) → carried eop m ≡ number_of (next_choice m) eop m
  pub most : (eop : Bool) (m : Machine) → ((w : Which) → Registers (channel w m)) → carried eop m ≤ 2
  -- a wrap past either end counts, holding never does
  pub past_the_top : (by n : ℕ) → by ≤ 2 → n < 16777216 → 16777216 ≤ n + by → differs Up by n ≡ 1
  pub past_the_bottom : (by n : ℕ) → by ≤ 2 → n < by → differs Down by n ≡ 1
  pub holding : (by n : ℕ) → differs Hold by n ≡ 0
