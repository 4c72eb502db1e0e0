-- Document 01, "Registers" and "Moving a unit": the 24-bit address that an upper and a lower word make, and how it steps.
-- Assumes nothing.
use Rattle.std.specs.Prelude.{ℕ, ◌+◌, ◌*◌, ◌/◌, ◌%◌, ◌<◌, Bool, not, cond, eqb}
use Rattle.space.specs.declared.Place.{Place}
use Rattle.space.specs.declared.Width.{Width}
use Rattle.space.specs.Space.{place_at}
use Rattle.stepping.specs.Stepping.{step_size, Up, moved}
use Rattle.unit_funnel.specs.Funnel.{high_first}
use Rattle.word_address.specs.declared.Address.{Address}
use Rattle.word_address.specs.declared.AddressStep.{AddressStep}
use Rattle.word_address.specs.declared.Set.{Set}
use Rattle.word_tag.specs.Tag.{is_memory, direction_of}

-- Bits 15-8 of the upper word above the lower word.
abbrev pub number : Address → ℕ
number a = a.upper / 256 * 65536 + a.lower

-- The register with another address in place of its own; the other fields stay.
abbrev pub with_number : Address → ℕ → Address
with_number a n = record { upper = n / 65536 % 256 * 256 + a.upper % 256; lower = n % 65536 }

unfoldable pub place_of : Address → Place
place_of a = place_at (is_memory a.upper) (number a)

-- Addresses are 24 bits and step modulo 16,777,216, by their own step field, in their own space.
unfoldable pub stepped_on : Width → Address → Address
stepped_on w a = with_number a (moved 16777216 (direction_of a.upper) (step_size (is_memory a.upper) w) (number a))

-- Each fetch of a chain adds 2.
unfoldable pub fetched_on : Address → Address
fetched_on a = with_number a (moved 16777216 Up 2 (number a))

-- Document 02, E5: bits 23-16 of an address, which are bits 15-8 of its upper word ..
abbrev pub upper_byte : Address → ℕ
upper_byte a = a.upper / 256

-- .. and what a step hands back: the address that it leads to, and whether they changed.
abbrev pub step_to : Address → Address → AddressStep
step_to a next = record { next = next; upper = not (eqb (upper_byte a) (upper_byte next)) }

abbrev pub is_odd : Address → Bool
is_odd a = eqb (a.lower % 2) 1

-- Flip 0: source A, destination B; flip 1: the reverse.
abbrev pub source_of : Bool → Set → Address
source_of flip s = cond flip s.b s.a

abbrev pub destination_of : Bool → Set → Address
destination_of flip s = cond flip s.a s.b

-- Where B's bit 3 is 0 the first byte is the high half, where it is 1 the low half.
abbrev pub order_of : Set → Bool
order_of s = high_first s.b.upper

-- Both words have 16 bits ..
pub record SixteenBits (a : Address) : Type 0 where
  pub upper : a.upper < 65536
  pub lower : a.lower < 65536

-- .. of both registers.
pub record SixteenBitsEach (s : Set) : Type 0 where
  pub a : SixteenBits s.a
  pub b : SixteenBits s.b
