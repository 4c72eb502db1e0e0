-- One channel's operation in a machine that does other things in between.
-- Assumes nothing.
use Rattle.std.specs.Prelude.{Bool, true, false, ◌||◌, ℕ, zero, suc, ◌<◌, List}
use Rattle.space.specs.declared.Place.{Place}
use Rattle.space.specs.Space.{Spaces}
use Rattle.unit_laws.specs.Local.{In}

-- why a unit ends the operation
pub record Ends : Type 0 where
  pub mc : Bool
  pub tc : Bool

abbrev pub ended : Ends → Bool
ended e = e.mc || e.tc

-- how the machine is seen: is the next step a unit of the channel, what ends it, the channel's registers, the spaces
pub record Seen (M R : Type 0) : Type 0 where
  pub step : M → M
  pub mine : M → Bool
  pub ends : M → Ends
  pub reg : M → R
  pub spaces : M → Spaces

abbrev pub bump : Bool → ℕ → ℕ
bump true k = suc k
bump false k = k

module _ {M R : Type 0} (v : Seen M R) where
  -- k, and the units of the channel among the next i steps
  abbrev pub after : ℕ → ℕ → M → ℕ
  after k zero m = k
  after k (suc i) m = after (bump (v.mine m) k) i (v.step m)

  -- the units of the channel among the next i steps
  abbrev pub done : ℕ → M → ℕ
  done i m = after zero i m

-- the places that the first n units read
abbrev pub Area : ℕ → (ℕ → List Place) → Place → Type 0
Area n place l = (k : ℕ) × (k < n) × In l (place k)
