-- A bit of a word of 16, read and made anew by shifts, which leave nothing past bit 15. Assumes nothing.
use Prim.Native.Nat.{ℕ, suc, ◌+◌, ◌-◌, ◌*◌, ◌/◌, ◌%◌, ◌^◌, ◌≤◌, ◌<◌}
use mathlib.Core.Path.{◌≡◌, ◌∙◌, refl, sym}
use mathlib.Core.Bool.{Bool, true, false, not}
use native.Mathlib.Nat.{mod-lt, one-mul, add-zero, sub-zero, pow-suc, div-eq_of_lt}
use native.Mathlib.Numerals.{add-one}
use native.Mathlib.Omega.{arith}
use lib.Bits.{bit_and, bit_or, or_add_and, or_block, or_zero_r}
use lib.Pow.{pow_pos, pow_mono, pow-lt, shr-shr}
use borrow.Author.Tests.{ltb-false, ltb-true}
use Rattle.std.specs.Prelude.{nat_lt, nat_eq, if◌then◌else◌}
use Rattle.std.proofs.lemmas.Nat.{shr_split, le_or_r}
use Rattle.facts.proofs.Masks.{and_1}
use Rattle.facts.specs.Bits.{bit_at, bit_if, with_bit}

shr_all : (b : Bool) (k w : ℕ) → nat_lt k 16 ≡ b → w < 65536 → (if b then w / 2 ^ k else 0) ≡ w / 2 ^ k
shr_all true k w e h = refl
shr_all false k w e h = sym (div-eq_of_lt (omega (arith, h, pow_mono {i = 16} {j = k} (omega (arith, ltb-false k 16 e)))))

pub read_at : (k w r : ℕ) → w < 65536 → r ≡ (if nat_lt k 16 then w / 2 ^ k else 0) → nat_eq (bit_and r 1) 1 ≡ bit_at k w
read_at k w r h e = rw (e, shr_all (nat_lt k 16) k w refl h, and_1)

set_lowest : (q : ℕ) → bit_or q 1 ≡ q / 2 * 2 + 1
set_lowest q = omega (arith, or_add_and q 1, and_1 q)

halved : (w k : ℕ) → w / 2 ^ suc k ≡ w / 2 ^ k / 2
halved w k = rw (add-one) at (sym (shr-shr w k 1))

spread : (h p r : ℕ) → (h * 2 + 1) * p + r ≡ h * (p * 2) + p + r
spread h p r = omega arith

set_at : (k w : ℕ) → bit_or w (2 ^ k) ≡ w / 2 ^ suc k * 2 ^ suc k + 2 ^ k + w % 2 ^ k
set_at k w =
    let o = or_block k (w / 2 ^ k) 1 (w % 2 ^ k) 0 (mod-lt w (pow_pos k)) (pow_pos k) in
    rw (halved w k, pow-suc 2 k, ← spread (w / 2 ^ k / 2) (2 ^ k) (w % 2 ^ k)) (rw (shr_split w k, one-mul, add-zero, set_lowest, or_zero_r) at o)

with_place : (b : Bool) (k w v n : ℕ) (set : Bool) → nat_lt k 16 ≡ b → w < 65536 → v ≡ (if b then 1 * 2 ^ k % 65536 else 0) → n ≡ bit_if (not set) v → bit_or w v - n ≡ (if b then w / 2 ^ suc k * 2 ^ suc k + bit_if set (2 ^ k) + w % 2 ^ k else w)
with_place true k w v n set e h is un =
    let p : 1 * 2 ^ k % 65536 ≡ 2 ^ k = omega (arith, pow-lt {i = k} {j = 16} (ltb-true k 16 e)) in
    in_place set (is ∙ p) un
  where
    in_place : (set : Bool) → v ≡ 2 ^ k → n ≡ bit_if (not set) v → bit_or w v - n ≡ w / 2 ^ suc k * 2 ^ suc k + bit_if set (2 ^ k) + w % 2 ^ k
    in_place true is un = rw (is, un) (omega (arith, set_at k w))
    in_place false is un = rw (un, is) (omega (arith, set_at k w))
with_place false k w v n true e h is un = rw (is, or_zero_r, un) (sub-zero w)
with_place false k w v n false e h is un = rw (un, is, or_zero_r) (sub-zero w)

pub taken : (w v n : ℕ) → n ≤ v → n ≤ bit_or w v
taken w v n h = omega (arith, h, le_or_r w v)

pub set_as : (k w v n : ℕ) (set : Bool) → w < 65536 → v ≡ (if nat_lt k 16 then 1 * 2 ^ k % 65536 else 0) → n ≡ bit_if (not set) v → bit_or w v - n ≡ with_bit k set w
set_as k w v n set h is un = with_place (nat_lt k 16) k w v n set refl h is un
