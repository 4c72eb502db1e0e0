-- A step leaves an address below its modulus, and is a rise: down by the rest of a whole turn. Assumes nothing.
use mathlib.Core.Path.{◌≡◌, refl, sym, ap, ◌∙◌}
use mathlib.Core.Bool.{Bool, true, false}
use Prim.Native.Nat.{ℕ, ◌+◌, ◌-◌, ◌%◌, ◌≤◌, ◌<◌}
use native.Mathlib.Nat.{mod-lt, mod-eq_of_lt}
use native.Mathlib.Omega.{arith}
use Rattle.space.specs.declared.Width.{Width}
use Rattle.space.specs.declared.Width.TheVariants.{Byte, Word}
use Rattle.stepping.specs.Stepping.{step_size, Direction, Up, Down, Hold, moved, rise}

pub step_size_le : (memory : Bool) (w : Width) → step_size memory w ≤ 2
step_size_le true Byte = omega arith
step_size_le false Byte = omega arith
step_size_le memory Word = omega arith

module _ (modulus : ℕ) where
  pub moved_lt : (d : Direction) (by a : ℕ) → a < modulus → moved modulus d by a < modulus
  moved_lt Up by a h = mod-lt (a + by) (omega arith)
  moved_lt Down by a h = mod-lt (a + modulus - by) (omega arith)
  moved_lt Hold by a h = h

  pub moved_rises : (d : Direction) (by a : ℕ) → by ≤ modulus → a < modulus → moved modulus d by a ≡ (a + rise modulus d by) % modulus
  moved_rises Up by a h b = refl
  moved_rises Down by a h b = let e : a + modulus - by ≡ a + (modulus - by) = omega arith in ap (λ (n : ℕ). n % modulus) e
  moved_rises Hold by a h b = let e : a + 0 ≡ a = omega arith in sym (ap (λ (n : ℕ). n % modulus) e ∙ mod-eq_of_lt b)
