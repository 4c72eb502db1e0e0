-- Document 01, "Moving a unit": a unit is a short program of accesses. Which places it reads and writes, and in which order,
-- follows from the channel's registers alone; what it writes, from what it read. Assumes nothing.
use Rattle.std.specs.Prelude.{ℕ, ◌+◌, ◌%◌, Bool, true, false, cond, List, [], ◌∷◌, get_or}
use Rattle.facts.specs.Bits.{bit_if}
use Rattle.space.specs.declared.Width.{Width}
use Rattle.space.specs.declared.Width.TheVariants.{Byte, Word}
use Rattle.space.specs.declared.Place.{Place}
use Rattle.space.specs.Space.{Spaces}
use Rattle.space.specs.Bytes.{bytes_at, value_of, bytes_of, gets, stores}
use Rattle.unit_count.specs.Count.{fewer}
use Rattle.unit_funnel.specs.Funnel.{joined, first_half, second_half}
use Rattle.word_address.specs.declared.Address.{Address}
use Rattle.word_address.specs.declared.AddressStep.{AddressStep}
use Rattle.word_address.specs.declared.Set.{Set}
use Rattle.word_address.specs.Address.{place_of, stepped_on, step_to, source_of, destination_of, order_of}
use Rattle.word_operation.specs.declared.Moves.{Moves}
use Rattle.word_operation.specs.declared.Moves.TheVariants.{Transfer, Search, Funnel}
use Rattle.unit_accesses.specs.declared.Accessed.{Accessed}
use Rattle.unit_laws.specs.Local.{Write, writing}

-- ---- the accesses

-- An access of a width at an address register, which gives its place and its waits.
pub record Access : Type 0 where
  pub width : Width
  pub address : Address

abbrev pub bytes : List Access → List Place
bytes [] = []
bytes (x ∷ xs) = bytes_at x.width (place_of x.address) (bytes xs)

abbrev pub once : Width → Address → List Access
once w a = record { width = w; address = a } ∷ []

-- The byte side steps after each of its two accesses.
abbrev pub twice : Address → List Access
twice a = record { width = Byte; address = a } ∷ once Byte (stepped_on Byte a)

-- Flip 0: source A, destination B; flip 1: the reverse. In funnelling A is the byte side and B the word side.
abbrev pub reads_of : Moves → Bool → Set → List Access
reads_of (Transfer w) flip s = once w (source_of flip s)
reads_of (Search w) flip s = once w (source_of flip s)
reads_of Funnel false s = twice s.a
reads_of Funnel true s = once Word s.b

-- A search changes neither space. Every operation reads before it writes.
abbrev pub writes_of : Moves → Bool → Set → List Access
writes_of (Transfer w) flip s = once w (destination_of flip s)
writes_of (Search w) flip s = []
writes_of Funnel false s = once Word s.b
writes_of Funnel true s = twice s.a

-- ---- the datum

-- What is read: in funnelling the datum is the word.
abbrev pub datum_of : Moves → Bool → Set → List ℕ → ℕ
datum_of (Transfer w) flip s d = value_of w d
datum_of (Search w) flip s d = value_of w d
datum_of Funnel false s d = joined (order_of s) (get_or d 0 255) (get_or d 1 255)
datum_of Funnel true s d = value_of Word d

-- What is written of it.
abbrev pub written_of : Moves → Bool → Set → ℕ → List ℕ
written_of (Transfer w) flip s v = bytes_of w v
written_of (Search w) flip s v = []
written_of Funnel false s v = bytes_of Word v
written_of Funnel true s v = first_half (order_of s) v % 256 ∷ second_half (order_of s) v % 256 ∷ []

unfoldable pub datum_at : Moves → Bool → Set → Spaces → ℕ
datum_at m flip s z = datum_of m flip s (gets z (bytes (reads_of m flip s)))

unfoldable pub stored_at : Moves → Bool → Set → ℕ → Spaces → Spaces
stored_at m flip s v z = stores 0 (bytes (writes_of m flip s)) (written_of m flip s v) z

-- ---- the registers

-- A register steps after each of its accesses: a search steps the source only.
abbrev pub step_after : Access → AddressStep
step_after x = step_to x.address (stepped_on x.width x.address)

abbrev pub past : Address → List Access → Address
past a [] = a
past a (x ∷ xs) = past (step_after x).next xs

-- Document 02, E5: how many of these steps changed bits 23-16.
abbrev pub changes : List Access → ℕ
changes [] = 0
changes (x ∷ xs) = bit_if (step_after x).upper 1 + changes xs

unfoldable pub upper_changes : Moves → Bool → Set → ℕ
upper_changes m flip s = changes (reads_of m flip s) + changes (writes_of m flip s)

-- The source's and the destination's registers in their places.
abbrev pub set_of : Bool → Address → Address → ℕ → Set
set_of flip source destination count = record { a = cond flip destination source; b = cond flip source destination; count = count }

-- The count falls by one.
unfoldable pub stepped_set : Moves → Bool → Set → Set
stepped_set m flip s = set_of flip (past (source_of flip s) (reads_of m flip s)) (past (destination_of flip s) (writes_of m flip s)) (fewer s.count)

-- ---- what the accesses leave

pub record Effect : Type 0 where
  pub done : Accessed
  pub spaces : Spaces

abbrev pub done_as : Accessed → Spaces → Effect
done_as d z = record { done = d; spaces = z }

unfoldable pub accessed : Moves → Bool → Set → Spaces → Effect
accessed m flip s z =
    let datum = datum_at m flip s z in
    done_as (record { set = stepped_set m flip s; datum = datum; upper = upper_changes m flip s }) (stored_at m flip s datum z)

-- the accesses by which a unit writes: places, and what is written there of the data that it read
abbrev pub writes_by : Moves → Bool → Set → List Write
writes_by m flip s = writing 0 (bytes (writes_of m flip s)) (λ d. written_of m flip s (datum_of m flip s d))
