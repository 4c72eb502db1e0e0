-- Document 01, "Moving a unit": how an address steps. Assumes nothing.
use Rattle.std.specs.Prelude.{ℕ, ◌+◌, ◌-◌, ◌%◌, Bool, cond, eqb}
use Rattle.space.specs.declared.Width.{Width}
use Rattle.space.specs.declared.Width.TheVariants.{Byte, Word}

-- Memory bytes by 1, words and all I/O by 2.
abbrev pub step_size : Bool → Width → ℕ
step_size memory Byte = cond memory 1 2
step_size memory Word = 2

pub data Direction : Type 0 where
  Up : Direction
  Down : Direction
  Hold : Direction

-- Step: 0 up, 1 down, 2 and 3 hold.
abbrev pub direction : ℕ → Direction
direction field = cond (eqb field 0) Up (cond (eqb field 1) Down Hold)

-- Addresses step modulo how many there are: 16,777,216 of 24 bits.
abbrev pub moved : ℕ → Direction → ℕ → ℕ → ℕ
moved modulus Up by a = (a + by) % modulus
moved modulus Down by a = (a + modulus - by) % modulus
moved modulus Hold by a = a

-- The same as a rise: down by the rest of a whole turn.
abbrev pub rise : ℕ → Direction → ℕ → ℕ
rise modulus Up by = by
rise modulus Down by = modulus - by
rise modulus Hold by = 0
