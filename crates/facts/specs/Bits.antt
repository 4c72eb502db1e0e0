-- Flags and the words that they make. Assumes nothing.
use Rattle.std.specs.Prelude.{ℕ, suc, ◌+◌, ◌*◌, ◌/◌, ◌%◌, ◌^◌, Bool, true, false, eqb, nat_lt, if◌then◌else◌}

-- bit k of a word, as a flag
abbrev pub bit_at : ℕ → ℕ → Bool
bit_at k w = eqb (w / 2 ^ k % 2) 1

-- what a flag is worth
abbrev pub bit_if : Bool → ℕ → ℕ
bit_if true v = v
bit_if false v = 0

-- the word of 16 bits with bit k anew
abbrev pub with_bit : ℕ → Bool → ℕ → ℕ
with_bit k set w = if nat_lt k 16 then w / 2 ^ suc k * 2 ^ suc k + bit_if set (2 ^ k) + w % 2 ^ k else w
