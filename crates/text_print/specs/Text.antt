-- What a text holds, and how words and numbers are put at its end. Assumes nothing.
use Rattle.std.specs.Prelude.{ℕ, zero, suc, ◌+◌, ◌/◌, ◌%◌, Bool, true, false, cond, List, [], ◌∷◌, ◌++◌, take, ltb}
use Rattle.text_scan.specs.Words.{bytes}
use Rattle.port.specs.declared.Which.{Which}
use Rattle.port.specs.declared.Which.TheVariants.{One, Two}
use Rattle.text_print.specs.declared.text.Text.{Text}

-- parts one after the other
infixr 55 ◌⧺◌
abbrev pub ◌⧺◌ : List ℕ → List ℕ → List ℕ
a ⧺ b = a ++ b

-- the bytes that a text holds
unfoldable pub written : Text → List ℕ
written t = t.bytes.items

-- bytes with more behind them, cut at the 96 that a text has room for
unfoldable pub appended : List ℕ → List ℕ → List ℕ
appended held more = take 96 (held ++ more)

-- a line of its own
abbrev pub line : List ℕ → List ℕ
line words = appended [] words

-- a hexadecimal digit: `0` to `9`, then `A` to `F`
abbrev pub glyph_of : ℕ → ℕ
glyph_of d = cond (ltb d 10) (48 + d) (55 + d)

-- HH, HHHH and AAAAAA of the console's language
unfoldable pub hex2_of : ℕ → List ℕ
hex2_of b = glyph_of (b / 16) ∷ glyph_of (b % 16) ∷ []

unfoldable pub hex4_of : ℕ → List ℕ
hex4_of w = hex2_of (w / 256) ++ hex2_of (w % 256)

unfoldable pub hex6_of : ℕ → List ℕ
hex6_of a = hex2_of (a / 65536 % 256) ++ hex4_of (a % 65536)

-- a decimal of at most k + 1 digits, with no zero in front
unfoldable pub digits_of : ℕ → ℕ → List ℕ
digits_of zero n = (48 + n % 10) ∷ []
digits_of (suc k) n = cond (ltb n 10) ((48 + n) ∷ []) (digits_of k (n / 10) ++ (48 + n % 10) ∷ [])

-- N of the console's language: no number has more than 20 digits
unfoldable pub decimal_of : ℕ → List ℕ
decimal_of n = digits_of 19 n

-- B and C of the console's language
unfoldable pub bit_of : Bool → List ℕ
bit_of true = bytes "1"
bit_of false = bytes "0"

unfoldable pub channel_of : Which → List ℕ
channel_of One = bytes "1"
channel_of Two = bytes "2"
