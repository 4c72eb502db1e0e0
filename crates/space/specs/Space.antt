-- Document 01, "What the model covers" and "Moving a unit": the two lent byte spaces.
-- Assumes nothing.
use Rattle.std.specs.Prelude.{ℕ, ◌+◌, ◌*◌, ◌/◌, ◌%◌, ◌<◌, Bool, true, false, List, get_or, set, length, ◌≡◌}
use Rattle.space.specs.declared.Place.{Place}
use Rattle.space.specs.declared.Place.TheVariants.{Memory, Io}
use Rattle.space.specs.declared.Width.{Width}
use Rattle.space.specs.declared.Width.TheVariants.{Byte, Word}

-- Two byte spaces, memory and I/O, each of any length.
pub data Space : Type 0 where
  in_memory : Space
  in_io : Space

pub record Spaces : Type 0 where
  pub memory : List ℕ
  pub io : List ℕ

abbrev pub spaces : List ℕ → List ℕ → Spaces
spaces m i = record { memory = m; io = i }

-- The bytes of a space, and the spaces with other bytes in one of them.
abbrev pub list_of : Space → Spaces → List ℕ
list_of in_memory s = s.memory
list_of in_io s = s.io

abbrev pub with_list : Space → List ℕ → Spaces → Spaces
with_list in_memory l s = record { memory = l; io = s.io }
with_list in_io l s = record { memory = s.memory; io = l }

-- A place is an address of a space.
abbrev pub space_of : Place → Space
space_of (Memory a) = in_memory
space_of (Io a) = in_io

abbrev pub address_of : Place → ℕ
address_of (Memory a) = a.0
address_of (Io a) = a.0

abbrev pub place_in : Space → ℕ → Place
place_in in_memory a = Memory (record { 0 = a })
place_in in_io a = Io (record { 0 = a })

abbrev pub place_at : Bool → ℕ → Place
place_at true a = place_in in_memory a
place_at false a = place_in in_io a

-- A byte beyond a space's end reads FFh ..
abbrev pub get : Spaces → Place → ℕ
get s p = get_or (list_of (space_of p) s) (address_of p) 255

-- .. and a write there is lost: `set` leaves the list as it is past its end.
abbrev pub put : Spaces → Place → ℕ → Spaces
put s p v = with_list (space_of p) (set (list_of (space_of p) s) (address_of p) v) s

-- A byte, or a word at even address E with byte E as its high half, in one space.
abbrev pub value_in : Width → List ℕ → ℕ → ℕ
value_in Byte s a = get_or s a 255
value_in Word s a = get_or s a 255 * 256 + get_or s (a + 1) 255

abbrev pub with_value : Width → List ℕ → ℕ → ℕ → List ℕ
with_value Byte s a v = set s a (v % 256)
with_value Word s a v = set (set s a (v / 256)) (a + 1) (v % 256)

-- The same at a place.
abbrev pub read_at : Width → Spaces → Place → ℕ
read_at w s p = value_in w (list_of (space_of p) s) (address_of p)

abbrev pub written : Width → Spaces → Place → ℕ → Spaces
written w s p v = with_list (space_of p) (with_value w (list_of (space_of p) s) (address_of p) v) s

-- The place lies inside its space.
abbrev pub Inside : Spaces → Place → Type 0
Inside s p = address_of p < length (list_of (space_of p) s)

-- Each space is as long as the other's.
pub record SameSize (s t : Spaces) : Type 0 where
  pub at : (k : Space) → length (list_of k s) ≡ length (list_of k t)

-- Every place holds a byte.
abbrev pub Bytes : Spaces → Type 0
Bytes s = (l : Place) → get s l < 256
