-- Document 01, "Chaining": the reload word. Its bits 9 to 0 are taken from the top. Bits 15-10 mean nothing.
-- Assumes nothing.
use Rattle.std.specs.Prelude.{ℕ, zero, suc, ◌+◌, ◌-◌, ◌*◌, ◌/◌, ◌%◌, ◌^◌, Bool, true, false, cond, List, [], ◌∷◌, eqb}
use Rattle.facts.specs.Look.{look}
use Rattle.word_reload.specs.declared.Entry.{Entry}
use Rattle.word_reload.specs.declared.Entry.TheVariants.{CurrentA, CurrentB, CurrentCount, BaseA, BaseB, BaseCount, PatternAndMask, Vector, Mode, ChainAddress, Nothing}

-- How many of the bits k-1 to 0 stand above the first that is set: all k where none is.
unfoldable pub above : ℕ → ℕ → ℕ
above zero n = zero
above (suc k) n = cond (eqb (n / 2 ^ k % 2) 1) 0 (suc (above k n))

unfoldable pub next_of : ℕ → ℕ
next_of left = above 10 (left % 1024)

-- Current A, current B, current count, base A, base B, base count, pattern and mask, vector, mode, chain address.
abbrev pub entries : List (ℕ × Entry)
entries =
    (0, CurrentA) ∷ (1, CurrentB) ∷ (2, CurrentCount) ∷ (3, BaseA) ∷ (4, BaseB) ∷ (5, BaseCount) ∷ (6, PatternAndMask) ∷ (7, Vector) ∷ (8, Mode) ∷ (9, ChainAddress) ∷ []

unfoldable pub entry_of : ℕ → Entry
entry_of left = look Nothing (next_of left) entries

-- The bits below that of the next entry.
unfoldable pub rest_of : ℕ → ℕ
rest_of left = left % 2 ^ (9 - next_of left)

-- Two-word entries: upper and lower, pattern and mask, mode high and mode low.
abbrev pub is_pair : Entry → Bool
is_pair CurrentA = true
is_pair CurrentB = true
is_pair CurrentCount = false
is_pair BaseA = true
is_pair BaseB = true
is_pair BaseCount = false
is_pair PatternAndMask = true
is_pair Vector = false
is_pair Mode = true
is_pair ChainAddress = true
is_pair Nothing = false

abbrev pub size_of : Entry → ℕ
size_of e = cond (is_pair e) 2 1

-- The words of those of the entries that are named by the bits k-1 to 0, the first of them by bit k-1.
abbrev pub total : ℕ → List (ℕ × Entry) → ℕ → ℕ
total zero es n = 0
total (suc k) [] n = 0
total (suc k) (e ∷ es) n = n / 2 ^ k % 2 * size_of e.1 + total k es n

-- The reload word itself and the entries that it names.
unfoldable pub words_of : ℕ → ℕ
words_of reload = 1 + total 10 entries (reload % 1024)
