-- A block moved unit by unit, among other things that keep away from it: each unit's data arrive.
-- Assumes nothing.
-- ---- a list of writes, read back
use Rattle.std.specs.Prelude.{◌⊎◌, ◌≢◌, ℕ, ◌<◌, List, [], ◌∷◌}
use Rattle.space.specs.declared.Place.{Place}
use Rattle.space.specs.Space.{Spaces, Inside}
use Rattle.unit_laws.specs.Local.{In, Write, places}
use Rattle.unit_laws.specs.Op.{Area}

-- no place stands twice in the list
abbrev pub Distinct : List Place → Type 0
Distinct [] = Unit {0}
Distinct (l ∷ ls) = (¬ (In l ls)) × Distinct ls

abbrev pub AllInside : Spaces → List Place → Type 0
AllInside s ls = (l : Place) → In l ls → Inside s l

-- ---- the block

-- the places that the first n units write
abbrev pub To : ℕ → (ℕ → List Write) → Place → Type 0
To n dst l = (k : ℕ) × (k < n) × In l (places (dst k))

-- both areas
abbrev pub Both : ℕ → (ℕ → List Place) → (ℕ → List Write) → Place → Type 0
Both n src dst l = Area n src l ⊎ To n dst l

-- the places written are distinct, inside the spaces, and none is read
pub record Laid (n : ℕ) (src : ℕ → List Place) (dst : ℕ → List Write) (s : Spaces) : Type 0 where
  pub within : (k : ℕ) → k < n → Distinct (places (dst k))
  pub between : (j k : ℕ) → j < n → k < n → j ≢ k → (l : Place) → In l (places (dst j)) → ¬ (In l (places (dst k)))
  pub unread : (l : Place) → Area n src l → ¬ (To n dst l)
  pub inside : (k : ℕ) → k < n → AllInside s (places (dst k))
