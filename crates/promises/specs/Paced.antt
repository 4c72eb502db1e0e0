-- An address register stepped k times, and as the line of places of the laws. Assumes nothing.
use Rattle.std.specs.Prelude.{ℕ, zero, suc}
use Rattle.space.specs.declared.Width.{Width}
use Rattle.stepping.specs.Stepping.{step_size, rise}
use Rattle.unit_laws.specs.Area.{Lane}
use Rattle.word_address.specs.declared.Address.{Address}
use Rattle.word_tag.specs.Tag.{is_memory, direction_of}
use Rattle.word_address.specs.Address.{number, stepped_on}

abbrev pub stepped : Width → ℕ → Address → Address
stepped d zero a = a
stepped d (suc k) a = stepped_on d (stepped d k a)

abbrev pub line : Width → Address → Lane
line d x = record { tag = is_memory x.upper; start = number x; by = rise 16777216 (direction_of x.upper) (step_size (is_memory x.upper) d) }
