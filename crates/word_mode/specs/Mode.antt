-- Document 01, "Registers": the mode, bits 20-16 in its high word and 15-0 in its low word. Assumes nothing.
use Rattle.std.specs.Prelude.{ℕ, ◌+◌, ◌*◌, ◌/◌, ◌%◌, Bool, true, false, List, [], ◌∷◌}
use Rattle.facts.specs.Bits.{bit_at, bit_if}
use Rattle.facts.specs.Look.{look}
use Rattle.word_mode.specs.declared.Mode.{Mode}
use Rattle.word_mode.specs.declared.Reasons.{Reasons}
use Rattle.word_operation.specs.declared.Operation.{Operation}
use Rattle.word_operation.specs.Operation.{operation_at}
use Rattle.word_mode.specs.declared.RequestMode.{RequestMode}
use Rattle.word_mode.specs.declared.RequestMode.TheVariants.{Single, DemandHold, DemandRelease, DemandInterleave}
use Rattle.word_mode.specs.Reasons.{triple}

-- 3-0 operation
unfoldable pub operation_of : Mode → Operation
operation_of m = operation_at (m.low % 16)

-- 4 flip
abbrev pub is_flipped : Mode → Bool
is_flipped m = bit_at 4 m.low

-- 6-5 request mode: 0 single, 1 demand hold, 2 demand release, 3 demand interleave
abbrev pub request_modes : List (ℕ × RequestMode)
request_modes = (0, Single) ∷ (1, DemandHold) ∷ (2, DemandRelease) ∷ []

unfoldable pub request_mode_of : Mode → RequestMode
request_mode_of m = look DemandInterleave (m.low / 32 % 4) request_modes

abbrev pub is_interleave : RequestMode → Bool
is_interleave Single = false
is_interleave DemandHold = false
is_interleave DemandRelease = false
is_interleave DemandInterleave = true

-- 9-7 interrupt, 12-10 reload, 15-13 chain
abbrev pub interrupt_of : Mode → Reasons
interrupt_of m = triple 7 m.low

abbrev pub reload_of : Mode → Reasons
reload_of m = triple 10 m.low

abbrev pub chain_of : Mode → Reasons
chain_of m = triple 13 m.low

-- 17-16 match control; 18 DACK (stored only); 19 hardware mask; 20 software request
abbrev pub match_control : Mode → ℕ
match_control m = m.high % 4

abbrev pub is_masked : Mode → Bool
is_masked m = bit_at 3 m.high

abbrev pub is_requested : Mode → Bool
is_requested m = bit_at 4 m.high

-- Bits above 20 are absent.
abbrev pub kept_high : ℕ → ℕ
kept_high w = w % 32

-- The mode with one bit anew.
abbrev pub with_flip : Bool → Mode → Mode
with_flip set m = record { high = m.high; low = m.low / 32 * 32 + bit_if set 16 + m.low % 16 }

abbrev pub with_mask : Bool → Mode → Mode
with_mask set m = record { high = m.high / 16 * 16 + bit_if set 8 + m.high % 8; low = m.low }

abbrev pub with_request : Bool → Mode → Mode
with_request set m = record { high = m.high / 32 * 32 + bit_if set 16 + m.high % 16; low = m.low }
