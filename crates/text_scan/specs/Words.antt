-- The console's language: a line is words with blanks, tabs or carriage returns between them. Assumes nothing.
use Rattle.std.specs.Prelude.{ℕ, Bool, not, ◌||◌, List, [], ◌∷◌, eqb, take, drop}
use Rattle.std.specs.List.{prefix_len}
use Rattle.std.specs.Str.{bytes_eq}
use Prim.Native.Char.{code}
use Prim.Native.String.{String}
use Prim.Native.String as S

-- the bytes of words that are written out
abbrev pub bytes : String → List ℕ
bytes S.[] = []
bytes (S.◌∷◌ c s) = code c ∷ bytes s

unfoldable pub is_blank : ℕ → Bool
is_blank b = (eqb b 32 || eqb b 9) || eqb b 13

unfoldable pub is_word : ℕ → Bool
is_word b = not (is_blank b)

-- `#` starts a comment
unfoldable pub is_code : ℕ → Bool
is_code b = not (eqb b 35)

-- how many bytes of a kind a text starts with
abbrev pub leading_of : (ℕ → Bool) → List ℕ → ℕ
leading_of p s = prefix_len p s

-- those bytes, and what follows them
abbrev pub start_of : (ℕ → Bool) → List ℕ → List ℕ
start_of p s = take (leading_of p s) s

abbrev pub past_of : (ℕ → Bool) → List ℕ → List ℕ
past_of p s = drop (leading_of p s) s

-- a line without its comment, from its first word on
unfoldable pub code_of : List ℕ → List ℕ
code_of line = past_of is_blank (start_of is_code line)

-- the word that a text starts with, and what follows it, from the next word on
unfoldable pub first_of : List ℕ → List ℕ
first_of s = start_of is_word s

unfoldable pub rest_of : List ℕ → List ℕ
rest_of s = past_of is_blank (past_of is_word s)

-- two words are the same, byte by byte
abbrev pub same_of : List ℕ → List ℕ → Bool
same_of a b = bytes_eq a b
