-- Addresses of 24 bits that step up or down by 1 or 2: d is 1 or 2 up, and 16777215 or 16777214 down.
-- Assumes nothing.
use Rattle.std.specs.Prelude.{ℕ, ◌+◌, ◌*◌, ◌%◌}

-- after k steps of d
abbrev pub pace : ℕ → ℕ → ℕ → ℕ
pace a d k = (a + k * d) % 16777216
