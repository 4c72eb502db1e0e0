-- What the registers that a unit leaves tell of its steps, so that a stride need not look at each: where an address stands after a step
-- shows whether the step changed bits 23-16. Assumes nothing.
use Rattle.std.specs.Prelude.{ℕ, ◌+◌, ◌*◌, ◌≡◌, Bool, false, ltb, leb}
use Rattle.facts.specs.Bits.{bit_if}
use Rattle.space.specs.declared.Width.{Width}
use Rattle.space.specs.declared.Width.TheVariants.{Byte, Word}
use Rattle.stepping.specs.Stepping.{step_size, Direction, Up, Down, Hold}
use Rattle.word_tag.specs.Tag.{is_memory, direction_of}
use Rattle.word_address.specs.declared.Address.{Address}
use Rattle.word_address.specs.declared.Set.{Set}
use Rattle.word_address.specs.Address.{source_of}
use Rattle.word_mode.specs.declared.Mode.{Mode}
use Rattle.word_mode.specs.Mode.{operation_of, is_flipped}
use Rattle.word_operation.specs.declared.Moves.{Moves}
use Rattle.word_operation.specs.declared.Moves.TheVariants.{Transfer, Search, Funnel}
use Rattle.unit.specs.declared.Moved.{Moved}

-- Bits 23-16 changed on the way up by so much if bits 15-0 are then less than that; on the way down, if they are less than that from the top.
abbrev pub over : Direction → ℕ → ℕ → Bool
over Up by lower = ltb lower by
over Down by lower = leb 65536 (lower + by)
over Hold by lower = false

abbrev pub came_over : ℕ → Address → Bool
came_over by a = over (direction_of a.upper) by a.lower

abbrev pub size_at : Width → Address → ℕ
size_at w a = step_size (is_memory a.upper) w

-- how many of the steps that left these registers changed bits 23-16; the byte side has stepped twice
abbrev pub changes_behind : Moves → Bool → Set → ℕ
changes_behind (Transfer w) flip s = bit_if (came_over (size_at w s.a) s.a) 1 + bit_if (came_over (size_at w s.b) s.b) 1
changes_behind (Search w) flip s = let from = source_of flip s in bit_if (came_over (size_at w from) from) 1
changes_behind Funnel flip s = bit_if (came_over (2 * size_at Byte s.a) s.a) 1 + bit_if (came_over (size_at Word s.b) s.b) 1

-- the registers that a unit leaves tell the number that it hands on
abbrev pub Tells : Mode → Moved → Type 0
Tells m x = changes_behind (operation_of m).moves (is_flipped m) x.set ≡ x.upper
