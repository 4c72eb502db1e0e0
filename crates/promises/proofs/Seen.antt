-- How the laws of any machine see a stretch of calls, and that they count a channel's units as the statements do. Assumes nothing.
use mathlib.Core.Path.{◌≡◌, ◌∙◌}
use mathlib.Core.Bool.{Bool, true, false, cond}
use Prim.Native.Nat.{ℕ, zero, suc, ◌+◌}
use native.Mathlib.Omega.{arith}
use Rattle.port.specs.declared.Which.{Which}
use Rattle.unit_laws.specs.Op.{Ends, Seen, bump, after, done}
use Rattle.unit.specs.declared.Moved.{Moved}
use Rattle.promises.specs.Machine.{Machine}
use Rattle.promises.specs.Calls.{Moment, next}
use Rattle.promises.specs.Own.{unit_next, made, units_before}

abbrev pub ends_of : Moved → Ends
ends_of x = record { mc = x.compared.met; tc = x.tc }

abbrev pub seen : Which → Seen Moment Machine
seen w = record { step = next; mine = unit_next w; ends = λ x. ends_of (made w x.machine); reg = λ x. x.machine; spaces = λ x. x.machine.spaces }

one_more : (b : Bool) (k n : ℕ) → bump b k + n ≡ k + cond b (suc n) n
one_more true k n = omega arith
one_more false k n = omega arith

after_counts : (w : Which) (k i : ℕ) (x : Moment) → after (seen w) k i x ≡ k + units_before w i x
after_counts w k zero x = omega arith
after_counts w k (suc i) x = after_counts w (bump (unit_next w x) k) i (next x) ∙ one_more (unit_next w x) k (units_before w i (next x))

pub done_counts : (w : Which) (i : ℕ) (x : Moment) → done (seen w) i x ≡ units_before w i x
done_counts w i x = omega (arith, after_counts w 0 i x)
