-- Flags and the words that they make. Assumes nothing.
use Prim.Native.Nat.{ℕ, zero, suc, ◌+◌, ◌*◌, ◌/◌, ◌%◌, ◌^◌, ◌≤◌}
use mathlib.Core.Path.{◌≡◌}
use mathlib.Core.Bool.{Bool, true, false}
use mathlib.Core.List.{List, [], ◌∷◌}
use native.Mathlib.Nat.{zero-div}
use native.Mathlib.Numerals.{one-add}
use native.Mathlib.Omega.{arith}
use lib.Pow.{shr-shr}
use Rattle.facts.specs.Bits.{bit_if}

pub bit_le : (b : Bool) (v : ℕ) → bit_if b v ≤ v
bit_le true v = omega arith
bit_le false v = omega arith

-- the word of flags from bit 0 up
abbrev pub word_of : List Bool → ℕ
word_of [] = 0
word_of (b ∷ bs) = bit_if b 1 + 2 * word_of bs

-- the flag at bit k, false above the last
abbrev pub flag_at : List Bool → ℕ → Bool
flag_at [] k = false
flag_at (b ∷ bs) zero = b
flag_at (b ∷ bs) (suc k) = flag_at bs k

bit_lt : (b : Bool) (w : ℕ) → (bit_if b 1 + 2 * w) % 2 ≡ bit_if b 1
bit_lt true w = omega arith
bit_lt false w = omega arith

half : (b : Bool) (w : ℕ) → (bit_if b 1 + 2 * w) / 2 ≡ w
half true w = omega arith
half false w = omega arith

-- bit k of the word is the flag at k
pub word_bit : (bs : List Bool) (k : ℕ) → word_of bs / 2 ^ k % 2 ≡ bit_if (flag_at bs k) 1
word_bit [] k = rw zero-div
word_bit (b ∷ bs) zero = omega (arith, bit_lt b (word_of bs))
word_bit (b ∷ bs) (suc k) = rw (← one-add k, ← shr-shr (bit_if b 1 + 2 * word_of bs) 1 k, half b (word_of bs)) (word_bit bs k)
