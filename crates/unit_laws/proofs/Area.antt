-- The areas of a funnelling: a line of bytes and a line of words, each with its space, start and pace. From "the areas lie
-- apart, inside the spaces" to what the laws of `Block` and `Funnel` ask.
-- Assumes nothing.
use mathlib.Core.Path.{◌≡◌, refl, sym, ap, ◌∙◌}
use mathlib.Core.Logic.{inl, inr}
use mathlib.Core.Bool.{Bool}
use Prim.Native.Nat.{ℕ, suc, ◌+◌, ◌*◌, ◌/◌, ◌%◌, ◌<◌}
use native.Mathlib.Omega.{arith}
use mathlib.Core.List.{[], ◌∷◌}
use Rattle.space.specs.declared.Place.{Place}
use Rattle.space.specs.Space.{Spaces, get, place_at, SameSize}
use Rattle.space.proofs.Laws.{inside_size, place_inj}
use Rattle.unit_laws.specs.Local.{In}
use Rattle.unit_laws.specs.Op.{Area}
use Rattle.unit_laws.specs.Block.{To}
use Rattle.unit_laws.specs.Block.{Laid}
use Rattle.unit_laws.proofs.Block.{laid_strips}
use Rattle.unit_laws.specs.Pace.{pace}
use Rattle.unit_laws.proofs.Pace.{up1_distinct, up2_distinct, down1_distinct, down2_distinct}
use Rattle.unit_laws.specs.Area.{Lane, byte, high, low, half, MovesBy, MovesBy2, AreasInside, word_reads, byte_reads, byte_writes, word_writes, down1}

pace_distinct : (a d j k : ℕ) → MovesBy d → j < 8388608 → k < 8388608 → pace a d j ≡ pace a d k → j ≡ k
pace_distinct a d j k MovesBy.up1 x y e = up1_distinct a j k (omega arith) (omega arith) e
pace_distinct a d j k MovesBy.up2 x y e = up2_distinct a j k x y e
pace_distinct a d j k down1 x y e = down1_distinct a j k (omega arith) (omega arith) e
pace_distinct a d j k MovesBy.down2 x y e = down2_distinct a j k x y e

pace2_distinct : (a d j k : ℕ) → MovesBy2 d → j < 8388608 → k < 8388608 → pace a d j ≡ pace a d k → j ≡ k
pace2_distinct a d j k MovesBy2.up2 x y e = up2_distinct a j k x y e
pace2_distinct a d j k MovesBy2.down2 x y e = down2_distinct a j k x y e

pace2_even : (a d k : ℕ) → MovesBy2 d → a % 2 ≡ 0 → pace a d k % 2 ≡ 0
pace2_even a d k MovesBy2.up2 e = omega arith
pace2_even a d k MovesBy2.down2 e = omega arith

pub byte_distinct : (a : Lane) → MovesBy a.by → (i j : ℕ) → i < 8388608 → j < 8388608 → byte a i ≡ byte a j → i ≡ j
byte_distinct a m i j x y e = pace_distinct a.start a.by i j m x y (place_inj a.tag _ _ e)

even_odd : (x y p q : ℕ) → x % 2 ≡ 0 → y % 2 ≡ 0 → p < 2 → q < 2 → x + p ≡ y + q → p ≡ q
even_odd x y p q a b c d e = let f : (x + p) % 2 ≡ p = omega arith in let g : (y + q) % 2 ≡ q = omega arith in sym f ∙ ap (λ (n : ℕ). n % 2) e ∙ g

pub half_distinct : (a : Lane) → MovesBy2 a.by → a.start % 2 ≡ 0 → (i j : ℕ) → i < 8388608 → j < 8388608 → half a i ≡ half a j → i ≡ j
half_distinct a m ev i j x y e =
    let p = pace2_even a.start a.by (i / 2) m ev in
    let q = pace2_even a.start a.by (j / 2) m ev in
    let s = place_inj a.tag (pace a.start a.by (i / 2) + i % 2) (pace a.start a.by (j / 2) + j % 2) e in
    let r : i % 2 ≡ j % 2 = even_odd _ _ (i % 2) (j % 2) p q (omega arith) (omega arith) s in
    let h : i / 2 ≡ j / 2 = pace2_distinct a.start a.by (i / 2) (j / 2) m (omega arith) (omega arith) (omega (arith, r, s)) in
    omega (arith, h, r)

half_high : (a : Lane) (k : ℕ) → half a (k * 2) ≡ high a k
half_high a k = ap (place_at a.tag) (let e : k * 2 / 2 ≡ k = omega arith in ap (λ (x : ℕ). pace a.start a.by x + k * 2 % 2) e ∙ omega arith)

half_low : (a : Lane) (k : ℕ) → half a (suc (k * 2)) ≡ low a k
half_low a k = ap (place_at a.tag) (let e : suc (k * 2) / 2 ≡ k = omega arith in ap (λ (x : ℕ). pace a.start a.by x + suc (k * 2) % 2) e ∙ omega arith)

-- a place read is a half of a word, or a byte, below 2 n
word_read : (a : Lane) (n : ℕ) (l : Place) → Area n (word_reads a) l → (i : ℕ) × (i < n * 2) × (l ≡ half a i)
word_read a n l x = go x.2
  where
    b : x.0 < n
    b = x.1

    go : In l (word_reads a x.0) → (i : ℕ) × (i < n * 2) × (l ≡ half a i)
    go (inl e) = (x.0 * 2, omega arith, e ∙ sym (half_high a x.0))
    go (inr (inl e)) = (suc (x.0 * 2), omega arith, e ∙ sym (half_low a x.0))
    go (inr (inr x3)) = elim x3 [ ]

byte_read : (b : Lane) (n : ℕ) (l : Place) → Area n (byte_reads b) l → (i : ℕ) × (i < n * 2) × (l ≡ byte b i)
byte_read b n l x = go x.2
  where
    c : x.0 < n
    c = x.1

    go : In l (byte_reads b x.0) → (i : ℕ) × (i < n * 2) × (l ≡ byte b i)
    go (inl e) = (x.0 * 2, omega arith, e)
    go (inr (inl e)) = (suc (x.0 * 2), omega arith, e)
    go (inr (inr x3)) = elim x3 [ ]

pub laid_bytes : (n : ℕ) (up : Bool) (a b h : Lane) (s : Spaces) → AreasInside n a b h s → Laid n (word_reads a) (byte_writes up b) s
laid_bytes n up a b h s x = laid_strips n 2 (word_reads a) (byte_writes up b) (byte b) s (record {
  lists = λ k c. refl;
  distinct = λ i j c d e. let q = x.small in byte_distinct b x.byte_moves i j (omega arith) (omega arith) e;
  inside = x.bytes_inside;
  unread = λ l y i c e. let r = word_read a n l y in x.words_bytes r.0 i r.1 c (sym r.2 ∙ e);
})

pub laid_words : (n : ℕ) (up : Bool) (a b h : Lane) (s : Spaces) → AreasInside n a b h s → Laid n (byte_reads b) (word_writes up h) s
laid_words n up a b h s x = laid_strips n 2 (byte_reads b) (word_writes up h) (half h) s (record {
  lists = λ k c i. sym (half_high h k) i ∷ sym (half_low h k) i ∷ [];
  distinct = λ i j c d e. let q = x.small in half_distinct h x.word_moves x.even i j (omega arith) (omega arith) e;
  inside = x.home_inside;
  unread = λ l y i c e. let r = byte_read b n l y in x.bytes_home r.0 i r.1 c (sym r.2 ∙ e);
})

pub apart_size : (n : ℕ) (a b h : Lane) (s t : Spaces) → SameSize s t → AreasInside n a b h s → AreasInside n a b h t
apart_size n a b h s t e x = record {
  small = x.small;
  byte_moves = x.byte_moves;
  word_moves = x.word_moves;
  even = x.even;
  words_bytes = x.words_bytes;
  bytes_home = x.bytes_home;
  bytes_inside = λ i c. inside_size (byte b i) e (x.bytes_inside i c);
  home_inside = λ i c. inside_size (half h i) e (x.home_inside i c);
}

-- spaces that agree at the bytes of the line agree where the first operation wrote
pub bytes_kept : (b : Lane) (up : Bool) (n : ℕ) (s t : Spaces) → ((j : ℕ) → j < n * 2 → get s (byte b j) ≡ get t (byte b j))
    → (l : Place) → To n (byte_writes up b) l → get s l ≡ get t l
bytes_kept b up n s t e l x =
    let r = byte_read b n l x in
    ap (get s) r.2 ∙ e r.0 r.1 ∙ sym (ap (get t) r.2)
