-- Byte operations keep their rule. Assumes nothing.
use mathlib.Core.Path.{◌≡◌, ap}
use mathlib.Core.Bool.{Bool, true, false, cond, ◌&&◌, ◌||◌, and_self, or_self}
use Prim.Native.Nat.{ℕ}
use lib.Dec.{eqb}
use Rattle.space.specs.declared.Width.TheVariants.{Byte}
use Rattle.unit_comparison.specs.declared.Compared.{Compared}
use Rattle.unit_comparison.specs.Comparison.{both_halves, meets, comparison}
use Rattle.unit_comparison.proofs.Bitwise.{whole}

-- of two halves that are told alike both match, and so does either
alike : (three b : Bool) → cond three (b || b) (b && b) ≡ b
alike true b = or_self b
alike false b = and_self b

-- what is told where one result is told in both halves
abbrev pub told_twice : ℕ → Bool → Compared
told_twice control hit = record { mch = hit; mcl = hit; met = meets control hit }

-- MCH and MCL both tell whether all sixteen bits match, and MC goes by this
pub byte_rule : (datum pattern mask control : ℕ) → comparison Byte datum pattern mask control ≡ told_twice control (whole (both_halves Byte datum) pattern mask)
unfolding comparison
byte_rule datum pattern mask control =
    let all = whole (both_halves Byte datum) pattern mask in
    ap (λ (hit : Bool). record { mch = all; mcl = all; met = meets control hit }) (alike (eqb control 3) all)

-- 3 is read as 2
pub byte_3_is_2 : (datum pattern mask : ℕ) → comparison Byte datum pattern mask 3 ≡ comparison Byte datum pattern mask 2
byte_3_is_2 datum pattern mask = rw (byte_rule datum pattern mask 3, byte_rule datum pattern mask 2)
