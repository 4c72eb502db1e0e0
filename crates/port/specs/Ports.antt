-- Document 01, "Registers": the ports, channel 1/channel 2, hexadecimal. Assumes nothing.
use Rattle.std.specs.Prelude.{ℕ, ◌*◌, ◌/◌, ◌%◌, Bool, true, false, List, [], ◌∷◌, Result, Ok, Err}
use Rattle.facts.specs.Look.{look}
use Rattle.refusal.specs.declared.Refusal.{Refusal}
use Rattle.refusal.specs.declared.Refusal.TheVariants.{NoChannel}
use Rattle.port.specs.declared.Which.{Which}
use Rattle.port.specs.declared.Which.TheVariants.{One, Two}
use Rattle.port.specs.declared.Register.{Register}
use Rattle.port.specs.declared.Register.TheVariants.{CurrentAUpper, CurrentALower, CurrentBUpper, CurrentBLower, BaseAUpper, BaseALower, BaseBUpper, BaseBLower, CurrentCount, BaseCount, Pattern, Mask, Vector, ModeLow, ChainUpper, ChainLower}

-- The pointer keeps bits 1 to 6 of the word written; the rest read 0.
abbrev pub kept_pointer : ℕ → ℕ
kept_pointer w = w / 2 % 64 * 2

-- Current A, current B, base A and base B, each upper and lower; current and base count; pattern; mask; vector; mode low; chain upper and
-- lower: the registers that are read and written.
abbrev pub registers : List (ℕ × ℕ × Register)
registers =
    (0x1A, 0x18, CurrentAUpper)
    ∷ (0x0A, 0x08, CurrentALower)
    ∷ (0x12, 0x10, CurrentBUpper)
    ∷ (0x02, 0x00, CurrentBLower)
    ∷ (0x1E, 0x1C, BaseAUpper)
    ∷ (0x0E, 0x0C, BaseALower)
    ∷ (0x16, 0x14, BaseBUpper)
    ∷ (0x06, 0x04, BaseBLower)
    ∷ (0x32, 0x30, CurrentCount)
    ∷ (0x36, 0x34, BaseCount)
    ∷ (0x4A, 0x48, Pattern)
    ∷ (0x4E, 0x4C, Mask)
    ∷ (0x5A, 0x58, Vector)
    ∷ (0x52, 0x50, ModeLow)
    ∷ (0x26, 0x24, ChainUpper)
    ∷ (0x22, 0x20, ChainLower)
    ∷ []

-- What stands at the two ports of each of them, reading or writing.
abbrev pub both : {P : Type 0} → (Which → Register → P) → List (ℕ × ℕ × Register) → List (ℕ × P)
both of [] = []
both of (r ∷ rs) = (r.0, of One r.2) ∷ (r.1, of Two r.2) ∷ both of rs

-- whether the second is the other channel
abbrev pub is_other : Which → Which → Bool
is_other One One = false
is_other One Two = true
is_other Two One = true
is_other Two Two = false

abbrev pub other : Which → Which
other One = Two
other Two = One

abbrev pub channel_number : Which → ℕ
channel_number One = 1
channel_number Two = 2

-- 10: channel other than 1 or 2
unfoldable pub channel_at : ℕ → Result Which Refusal
channel_at n = look (Err NoChannel) n ((1, Ok One) ∷ (2, Ok Two) ∷ [])
