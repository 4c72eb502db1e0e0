-- What a match says of each bit: a half matches exactly where it equals its half of the pattern in every bit whose mask bit is 0, and both
-- halves match exactly where the whole datum equals the pattern so. Assumes nothing.
use mathlib.Core.Path.{◌≡◌, refl, sym, ap, subst, ◌∙◌}
use mathlib.Core.Bool.{Bool, true, false, ◌&&◌}
use Prim.Native.Nat.{ℕ, zero, suc, ◌-◌, ◌/◌, ◌%◌, ◌^◌, ◌<◌, min, suc-le-suc}
use native.Mathlib.Nat.{not-suc-le-zero, zero-div, zero-min, eq-zero-or-pos}
use mathlib.Core.Logic.{⊎_elim}
use native.Mathlib.Omega.{arith}
use native.Mathlib.Numerals.{one-add}
use borrow.Author.Tests.{eqb-true}
use lib.Dec.{T, eqb, eqb→eq}
use lib.Pow.{shr-shr}
use lib.Bits.{bit_and, bit_xor, differ, and_step, and_shr, xor_step, xor_shr, and_lt, xor_lt, and_mod, xor_mod}
use Rattle.unit_comparison.specs.Comparison.{differing, matches}

abbrev pub bit : ℕ → ℕ → ℕ
bit k n = n / 2 ^ k % 2

zero_bit : (k : ℕ) → bit k 0 ≡ 0
zero_bit k = rw zero-div

-- in each of w bits whose mask bit is 0 the two are equal
abbrev pub Same : ℕ → ℕ → ℕ → ℕ → Type 0
Same w d p m = (k : ℕ) → k < w → bit k m ≡ 0 → bit k d ≡ bit k p

low_and : (a b : ℕ) → bit_and a b % 2 ≡ min (a % 2) (b % 2)
low_and a b = omega (arith, and_step a b)

differ_lt : (x y : ℕ) → x < 2 → y < 2 → differ x y < 2
differ_lt zero y hx hy = hy
differ_lt (suc x) zero hx hy = hx
differ_lt (suc x) (suc y) hx hy = differ_lt x y (omega arith) (omega arith)

low_xor : (a b : ℕ) → bit_xor a b % 2 ≡ differ (a % 2) (b % 2)
low_xor a b = omega (arith, xor_step a b, differ_lt (a % 2) (b % 2) (omega arith) (omega arith))

bit_and_lem : (k a b : ℕ) → bit k (bit_and a b) ≡ min (bit k a) (bit k b)
bit_and_lem k a b = rw and_shr (low_and (a / 2 ^ k) (b / 2 ^ k))

bit_xor_lem : (k a b : ℕ) → bit k (bit_xor a b) ≡ differ (bit k a) (bit k b)
bit_xor_lem k a b = rw xor_shr (low_xor (a / 2 ^ k) (b / 2 ^ k))

bit_suc : (k n : ℕ) → bit (suc k) n ≡ bit k (n / 2)
bit_suc k n = rw (shr-shr n 1 k, one-add k)

-- the complement has the other digit at each place
bit_not : (w k m : ℕ) → k < w → m < 2 ^ w → bit k (2 ^ w - 1 - m) ≡ 1 - bit k m
bit_not zero k m h g = absurd (not-suc-le-zero h)
bit_not (suc w) zero m h g = omega arith
bit_not (suc w) (suc k) m h g =
    let half : (2 ^ suc w - 1 - m) / 2 ≡ 2 ^ w - 1 - m / 2 = omega arith in
    rw (bit_suc k (2 ^ suc w - 1 - m), bit_suc k m, half) (bit_not w k (m / 2) (omega arith) (omega arith))

bits_zero : (w n : ℕ) → n < 2 ^ w → ((k : ℕ) → k < w → bit k n ≡ 0) → n ≡ 0
bits_zero zero n h f = omega arith
bits_zero (suc w) n h f =
    omega (arith, f 0 (omega arith), bits_zero w (n / 2) (omega arith) (λ k g. sym (bit_suc k n) ∙ f (suc k) (suc-le-suc g)))

-- two digits that do not differ are equal
differ_none : (x y : ℕ) → differ x y ≡ 0 → x ≡ y
differ_none zero y e = sym e
differ_none (suc x) zero e = e
differ_none (suc x) (suc y) e = ap suc (differ_none x y e)

differ_self : (x : ℕ) → differ x x ≡ 0
differ_self zero = refl
differ_self (suc x) = differ_self x

-- ---- no bit differs, of any width

module _ (w d p m : ℕ) (hd : d < 2 ^ w) (hp : p < 2 ^ w) (hm : m < 2 ^ w) where
  bit_differing : (k : ℕ) → k < w → bit k (differing (2 ^ w - 1) d p m) ≡ min (differ (bit k d) (bit k p)) (1 - bit k m)
  bit_differing k h = rw (bit_and_lem k (bit_xor d p) (2 ^ w - 1 - m), bit_xor_lem k d p, bit_not w k m h hm)

  none_same : differing (2 ^ w - 1) d p m ≡ 0 → Same w d p m
  none_same z k h e =
      let b : min (differ (bit k d) (bit k p)) (1 - bit k m) ≡ 0 = sym (bit_differing k h) ∙ rw z (zero_bit k) in
      differ_none (bit k d) (bit k p) (omega arith)

  right : Same w d p m → (k : ℕ) → k < w → bit k (differing (2 ^ w - 1) d p m) ≡ 0
  right f k h =
      bit_differing k h
      ∙ ⊎_elim (λ (e : bit k m ≡ 0). rw (f k h e, differ_self (bit k p)) (zero-min (1 - bit k m))) (λ (g : 0 < bit k m). omega arith) (eq-zero-or-pos (bit k m))

  same_none : Same w d p m → differing (2 ^ w - 1) d p m ≡ 0
  same_none f = bits_zero w (differing (2 ^ w - 1) d p m) (and_lt w (bit_xor d p) (2 ^ w - 1 - m) (xor_lt w d p hd hp) (omega arith)) (right f)

-- ---- a half

module _ (d p m : ℕ) (hd : d < 256) (hp : p < 256) (hm : m < 256) where
  pub matches_same : T (matches d p m) → Same 8 d p m
  matches_same t = none_same 8 d p m hd hp hm (eqb→eq (differing 255 d p m) 0 t)

  pub same_matches : Same 8 d p m → T (matches d p m)
  same_matches f = rw (same_none 8 d p m hd hp hm f) tt

-- ---- both halves

-- of the sixteen bits that differ a half is 0 exactly if that half matches
pub halves : (d p m : ℕ) → m < 65536
    → (eqb (differing 65535 d p m / 256) 0 ≡ matches (d / 256) (p / 256) (m / 256)) × (eqb (differing 65535 d p m % 256) 0 ≡ matches (d % 256) (p % 256) (m % 256))
halves d p m h =
    let above : (65535 - m) / 256 ≡ 255 - m / 256 = omega arith in
    let below : (65535 - m) % 256 ≡ 255 - m % 256 = omega arith in
    (rw (and_shr (bit_xor d p) (65535 - m) 8, xor_shr d p 8, above), rw (and_mod (bit_xor d p) (65535 - m) 8, xor_mod d p 8, below))

zero_halves : (n : ℕ) → T (eqb (n / 256) 0 && eqb (n % 256) 0) → n ≡ 0
zero_halves n t = go (eqb (n / 256) 0) refl t
  where
    go : (b : Bool) → eqb (n / 256) 0 ≡ b → T (b && eqb (n % 256) 0) → n ≡ 0
    go true e t = omega (arith, eqb-true (n / 256) 0 e, eqb→eq (n % 256) 0 t)
    go false e t = absurd t

-- both halves match
abbrev pub whole : ℕ → ℕ → ℕ → Bool
whole d p m = matches (d / 256) (p / 256) (m / 256) && matches (d % 256) (p % 256) (m % 256)

module _ (d p m : ℕ) (hd : d < 65536) (hp : p < 65536) (hm : m < 65536) where
  both : eqb (differing 65535 d p m / 256) 0 && eqb (differing 65535 d p m % 256) 0 ≡ whole d p m
  both = λ i. (halves d p m hm).0 i && (halves d p m hm).1 i

  pub whole_same : T (whole d p m) → Same 16 d p m
  whole_same t = none_same 16 d p m hd hp hm (zero_halves (differing 65535 d p m) (subst T (sym both) t))

  pub same_whole : Same 16 d p m → T (whole d p m)
  same_whole f = subst T both (rw (same_none 16 d p m hd hp hm f) tt)
