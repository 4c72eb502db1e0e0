-- The console's language: numbers are hexadecimal, of so many digits at most and in either case, and counts are decimal. Assumes nothing.
use Rattle.std.specs.Prelude.{ℕ, ◌+◌, ◌-◌, ◌*◌, cond, List, [], ◌∷◌, ltb, leb, length, Option, None, Some}
use Rattle.std.specs.Option.{option_and_then}

-- a digit's worth, `0` to `9`, `A` to `F`, `a` to `f`; none where the byte is none
unfoldable pub worth_of : ℕ → Option ℕ
worth_of b =
    cond (ltb b 48) None
    (cond (leb b 57) (Some (b - 48))
    (cond (ltb b 65) None
    (cond (leb b 70) (Some (b - 65 + 10))
    (cond (ltb b 97) None
    (cond (leb b 102) (Some (b - 97 + 10))
    None)))))

-- the same in a base, whose digits are worth less than it
abbrev pub below : ℕ → Option ℕ → Option ℕ
below limit None = None
below limit (Some n) = cond (ltb n limit) (Some n) None

unfoldable pub digit_of : ℕ → ℕ → Option ℕ
digit_of base b = below base (worth_of b)

-- a number beyond 100,000,000 is above every limit and takes no more digits
unfoldable pub with_digit : ℕ → ℕ → ℕ → ℕ
with_digit value base d = cond (ltb 100000000 value) value (value * base + d)

unfoldable pub digits_from : ℕ → ℕ → List ℕ → Option ℕ
digits_from base value [] = Some value
digits_from base value (b ∷ bs) = option_and_then (λ d. digits_from base (with_digit value base d) bs) (digit_of base b)

-- one digit or more
unfoldable pub number_of : ℕ → List ℕ → Option ℕ
number_of base [] = None
number_of base (b ∷ bs) = digits_from base 0 (b ∷ bs)

unfoldable pub hex_of : ℕ → List ℕ → Option ℕ
hex_of digits s = cond (ltb digits (length s)) None (number_of 16 s)

unfoldable pub up_to_255 : Option ℕ → Option ℕ
up_to_255 n = below 256 n
