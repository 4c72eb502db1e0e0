-- The areas of a funnelling: a line of bytes and a line of words, each with its space, start and pace. From "the areas lie
-- apart, inside the spaces" to what the laws of `Block` and `Funnel` ask.
-- Assumes nothing.
use Rattle.std.specs.Prelude.{◌≡◌, ◌≢◌, Bool, ℕ, suc, ◌+◌, ◌*◌, ◌/◌, ◌%◌, ◌≤◌, ◌<◌, List, [], ◌∷◌}
use Rattle.space.specs.declared.Place.{Place}
use Rattle.space.specs.Space.{Spaces, place_at, Inside}
use Rattle.unit_laws.specs.Local.{Write}
use Rattle.unit_laws.specs.Funnel.{to_bytes, to_word}
use Rattle.unit_laws.specs.Pace.{pace}

pub record Lane : Type 0 where
  pub tag : Bool
  pub start : ℕ
  pub by : ℕ

-- the i-th byte; the high and the low half of the k-th word
abbrev pub byte : Lane → ℕ → Place
byte a i = place_at a.tag (pace a.start a.by i)

abbrev pub high : Lane → ℕ → Place
high a k = place_at a.tag (pace a.start a.by k)

abbrev pub low : Lane → ℕ → Place
low a k = place_at a.tag (pace a.start a.by k + 1)

-- the bytes of the words, in order
abbrev pub half : Lane → ℕ → Place
half a i = place_at a.tag (pace a.start a.by (i / 2) + i % 2)

-- up or down by 1 or 2
pub data MovesBy : ℕ → Type 0 where
  up1 : MovesBy 1
  up2 : MovesBy 2
  down1 : MovesBy 16777215
  down2 : MovesBy 16777214

-- up or down by 2
pub data MovesBy2 : ℕ → Type 0 where
  up2 : MovesBy2 2
  down2 : MovesBy2 16777214

-- no byte of the words at a is one of the 2 n bytes at b
abbrev pub AreasApart : ℕ → (ℕ → Place) → (ℕ → Place) → Type 0
AreasApart n a b = (i j : ℕ) → i < n → j < n → a i ≢ b j

-- n words at a, to bytes at b; n words at h from those bytes. The areas lie apart and inside
pub record AreasInside (n : ℕ) (a b h : Lane) (s : Spaces) : Type 0 where
  pub small : n ≤ 4194304
  pub byte_moves : MovesBy b.by
  pub word_moves : MovesBy2 h.by
  pub even : h.start % 2 ≡ 0
  pub words_bytes : AreasApart (n * 2) (half a) (byte b)
  pub bytes_home : AreasApart (n * 2) (byte b) (half h)
  pub bytes_inside : (i : ℕ) → i < n * 2 → Inside s (byte b i)
  pub home_inside : (i : ℕ) → i < n * 2 → Inside s (half h i)

abbrev pub word_reads : Lane → ℕ → List Place
word_reads a k = high a k ∷ low a k ∷ []

abbrev pub byte_reads : Lane → ℕ → List Place
byte_reads b k = byte b (k * 2) ∷ byte b (suc (k * 2)) ∷ []

abbrev pub byte_writes : Bool → Lane → ℕ → List Write
byte_writes up b k = to_bytes up (byte b (k * 2)) (byte b (suc (k * 2)))

abbrev pub word_writes : Bool → Lane → ℕ → List Write
word_writes up h k = to_word up (high h k) (low h k)
