-- Document 01, "Moving a unit": the comparison, which document 02 (E2) makes one of each half. `Bitwise` shows what it says of each bit, `Laws`
-- that byte operations keep their rule. Assumes nothing.
use Rattle.std.specs.Prelude.{ℕ, ◌+◌, ◌-◌, ◌*◌, ◌/◌, ◌%◌, Bool, cond, not, ◌&&◌, ◌||◌, eqb, leb}
use Rattle.std.specs.Int.Bits.{bit_and, bit_xor}
use Rattle.space.specs.declared.Width.{Width}
use Rattle.space.specs.declared.Width.TheVariants.{Byte, Word}
use Rattle.unit_comparison.specs.declared.Compared.{Compared}

-- A byte stands in both halves for the comparison.
abbrev pub both_halves : Width → ℕ → ℕ
both_halves Byte datum = datum % 256 * 256 + datum % 256
both_halves Word datum = datum

-- The bits whose mask bit is 0 in which a datum differs from the pattern; `ones` has a 1 for each bit of the width.
abbrev pub differing : ℕ → ℕ → ℕ → ℕ → ℕ
differing ones datum pattern mask = bit_and (bit_xor datum pattern) (ones - mask)

-- A half matches if it equals its half of the pattern in every bit whose mask bit is 0 (by halves: document 02, E2).
abbrev pub matches : ℕ → ℕ → ℕ → Bool
matches half pattern mask = eqb (differing 255 half pattern mask) 0

-- A match is both halves under match control 0, 1 and 2, either half under 3 (E2).
abbrev pub is_hit : ℕ → Bool → Bool → Bool
is_hit control high low = cond (eqb control 3) (high || low) (high && low)

-- Match control 0 and 1 stop on no match, 2 and 3 stop on match.
abbrev pub meets : ℕ → Bool → Bool
meets control hit = cond (leb 2 control) hit (not hit)

-- MCH tells the high half, MCL the low half (E2). MC is a match under stop on match, a mismatch under stop on no match.
abbrev pub told : ℕ → Bool → Bool → Compared
told control high low = record { mch = high; mcl = low; met = meets control (is_hit control high low) }

-- In word and funnelled operations each half is told by itself; in byte operations both tell whether all sixteen bits match.
abbrev pub told_of : Width → ℕ → Bool → Bool → Compared
told_of Byte control high low = told control (high && low) (high && low)
told_of Word control high low = told control high low

unfoldable pub comparison : Width → ℕ → ℕ → ℕ → ℕ → Compared
comparison w datum pattern mask control =
    let d = both_halves w datum in
    told_of w control (matches (d / 256) (pattern / 256) (mask / 256)) (matches (d % 256) (pattern % 256) (mask % 256))
