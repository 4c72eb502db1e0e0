-- There and back, in either order of the halves. Assumes nothing.
use mathlib.Core.Path.{◌≡◌}
use mathlib.Core.Bool.{Bool, true, false}
use Prim.Native.Nat.{ℕ, ◌%◌, ◌<◌}
use native.Mathlib.Omega.{arith}
use Rattle.unit_funnel.specs.Funnel.{joined, first_half, second_half}

-- the two bytes of a word, joined again
pub halves_joined : (high : Bool) (word : ℕ) → word < 65536 → joined high (first_half high word % 256) (second_half high word % 256) ≡ word
halves_joined true word h = omega arith
halves_joined false word h = omega arith
