-- Addresses of 24 bits that step up or down by 1 or 2: d is 1 or 2 up, and 16777215 or 16777214 down.
-- Assumes nothing.
use mathlib.Core.Path.{◌≡◌, sym, ap, ◌∙◌}
use Prim.Native.Nat.{ℕ, suc, ◌+◌, ◌*◌, ◌%◌, ◌<◌}
use native.Mathlib.Omega.{arith}
use Rattle.unit_laws.specs.Pace.{pace}

pub pace_start : (a d : ℕ) → a < 16777216 → pace a d 0 ≡ a
pace_start a d h = omega arith

pub pace_step : (a d k : ℕ) → (pace a d k + d) % 16777216 ≡ pace a d (suc k)
pace_step a d k = omega arith

-- no two of a whole turn of places are the same
turn_distinct : (a i j : ℕ) → i < 16777216 → j < 16777216 → (a + i) % 16777216 ≡ (a + j) % 16777216 → i ≡ j
turn_distinct a i j x y e = omega arith

-- going down by s is undone by going up by s
undone1 : (a k : ℕ) → (pace a 16777215 k + k) % 16777216 ≡ a % 16777216
undone1 a k = omega arith

undone2 : (a k : ℕ) → (pace a 16777214 k + k * 2) % 16777216 ≡ a % 16777216
undone2 a k = omega arith

pub up1_distinct : (a j k : ℕ) → j < 16777216 → k < 16777216 → pace a 1 j ≡ pace a 1 k → j ≡ k
up1_distinct a j k x y e = omega arith

pub up2_distinct : (a j k : ℕ) → j < 8388608 → k < 8388608 → pace a 2 j ≡ pace a 2 k → j ≡ k
up2_distinct a j k x y e = let h = turn_distinct a (j * 2) (k * 2) (omega arith) (omega arith) e in omega (arith, h)

pub down1_distinct : (a j k : ℕ) → j < 16777216 → k < 16777216 → pace a 16777215 j ≡ pace a 16777215 k → j ≡ k
down1_distinct a j k x y e =
    turn_distinct (pace a 16777215 j) j k x y (undone1 a j ∙ sym (ap (λ (r : ℕ). (r + k) % 16777216) e ∙ undone1 a k))

pub down2_distinct : (a j k : ℕ) → j < 8388608 → k < 8388608 → pace a 16777214 j ≡ pace a 16777214 k → j ≡ k
down2_distinct a j k x y e =
    let h = turn_distinct (pace a 16777214 j) (j * 2) (k * 2) (omega arith) (omega arith)
    (undone2 a j ∙ sym (ap (λ (r : ℕ). (r + k * 2) % 16777216) e ∙ undone2 a k)) in omega (arith, h)
