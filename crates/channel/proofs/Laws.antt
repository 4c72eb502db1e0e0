-- A unit ends its operation exactly if its datum meets the condition, its count reaches 0 or EOP is given. Assumes nothing.
use mathlib.Core.Path.{◌≡◌, refl}
use mathlib.Core.Bool.{Bool, true, false, ◌||◌}
use Rattle.word_mode.specs.Reasons.{some}
use Rattle.unit.specs.declared.Moved.{Moved}
use Rattle.channel.specs.Ending.{reasons_of}

either : (mc tc : Bool) → ((tc || mc) || false) ≡ (mc || tc)
either true true = refl
either true false = refl
either false true = refl
either false false = refl

pub ends_exactly : (m : Moved) → some (reasons_of m false) ≡ (m.compared.met || m.tc)
unfolding some
ends_exactly m = either m.compared.met m.tc

-- EOP given with a unit ends the operation, and is told
pub eop_ends : (m : Moved) → ((reasons_of m true).eop ≡ true) × (some (reasons_of m true) ≡ true)
unfolding some
eop_ends m = (refl, or_true (m.tc || m.compared.met))
  where
    or_true : (b : Bool) → (b || true) ≡ true
    or_true true = refl
    or_true false = refl
