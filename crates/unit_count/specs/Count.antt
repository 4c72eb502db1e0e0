-- Document 01, "Moving a unit": the count. Assumes nothing.
use Rattle.std.specs.Prelude.{ℕ, ◌+◌, ◌%◌, Bool, cond, ◌==◌}

-- The count falls by one modulo 65,536 ..
abbrev pub fewer : ℕ → ℕ
fewer count = (count + 65535) % 65536

-- .. 0000 loaded means 65,536 units ..
abbrev pub units : ℕ → ℕ
units count = cond (count == 0) 65536 count

-- .. and TC is reaching 0.
abbrev pub terminal : ℕ → Bool
terminal count = count == 0
