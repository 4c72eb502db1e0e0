-- Document 01, "Registers": commands follow Figure 18 of 001: bits 7-5 give the kind, bit 0 the channel. The upper byte of the
-- word written is disregarded. Assumes nothing.
use Rattle.std.specs.Prelude.{ℕ, ◌/◌, ◌%◌, Bool, cond, List, [], ◌∷◌, Option}
use Rattle.facts.specs.Bits.{bit_at}
use Rattle.facts.specs.Look.{find}
use Rattle.port.specs.declared.Which.{Which}
use Rattle.port.specs.declared.Which.TheVariants.{One, Two}
use Rattle.word_command.specs.declared.Command.{Command}
use Rattle.word_command.specs.declared.Command.TheVariants.{Reset, Interrupts, SoftwareRequest, Flip, HardwareMask, StartChain}

abbrev pub channel_of : ℕ → Which
channel_of w = cond (bit_at 0 w) Two One

-- Bit 1 sets or clears; of kind 1 bit 4, E, names CIE and bit 2, P, names IP.
abbrev pub kinds : Which → Bool → Bool → Bool → List (ℕ × Command)
kinds c set e p =
    (0, Reset)
    ∷ (1, Interrupts c set e p)
    ∷ (2, SoftwareRequest c set)
    ∷ (3, Flip c set)
    ∷ (4, HardwareMask c set)
    ∷ (5, StartChain c)
    ∷ []

unfoldable pub command_of : ℕ → Option Command
command_of w = find (w / 32 % 8) (kinds (channel_of w) (bit_at 1 w) (bit_at 4 w) (bit_at 2 w))
