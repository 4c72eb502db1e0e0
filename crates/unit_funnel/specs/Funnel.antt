-- Document 01, "Moving a unit": two bytes and a word. Assumes nothing.
use Rattle.std.specs.Prelude.{ℕ, ◌+◌, ◌*◌, ◌/◌, ◌%◌, Bool, true, false, eqb}

-- Where bit 3 of the upper word is 0 the first byte is the high half, where it is 1 the low half.
abbrev pub high_first : ℕ → Bool
high_first upper = eqb (upper / 8 % 2) 0

abbrev pub joined : Bool → ℕ → ℕ → ℕ
joined true first second = first % 256 * 256 + second % 256
joined false first second = second % 256 * 256 + first % 256

abbrev pub first_half : Bool → ℕ → ℕ
first_half true word = word / 256
first_half false word = word % 256

abbrev pub second_half : Bool → ℕ → ℕ
second_half true word = word % 256
second_half false word = word / 256
