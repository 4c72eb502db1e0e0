-- Document 01, "Registers": the upper/tag word. Assumes nothing.
use Rattle.std.specs.Prelude.{ℕ, ◌+◌, ◌*◌, ◌/◌, ◌%◌, Bool, cond, eqb}
use Rattle.stepping.specs.Stepping.{Direction, direction}

-- Bits 15-8 upper address; 7 Normal; 6 memory or I/O; 4-3 step; 2-1 waits. Bits 5 and 0 are absent: 15-6 and 4-1 are kept.
abbrev pub kept_tag : ℕ → ℕ
kept_tag w = w / 64 * 64 + w / 2 % 16 * 2

-- Chain upper keeps 15-8 and 2-1.
abbrev pub kept_chain : ℕ → ℕ
kept_chain w = w / 256 * 256 + w / 2 % 4 * 2

-- Normal (1) or System (0), for request E8.
abbrev pub is_normal : ℕ → Bool
is_normal w = eqb (w / 128 % 2) 1

-- Memory (1) or I/O (0).
abbrev pub is_memory : ℕ → Bool
is_memory w = eqb (w / 64 % 2) 1

-- The step field, and the direction that it names.
abbrev pub step_of : ℕ → ℕ
step_of w = w / 8 % 4

unfoldable pub direction_of : ℕ → Direction
direction_of w = direction (step_of w)

-- Waits 0, 1, 2, 4; for request E7.
abbrev pub waits : ℕ → ℕ
waits field = cond (eqb field 3) 4 field

unfoldable pub waits_of : ℕ → ℕ
waits_of w = waits (w / 2 % 4)
