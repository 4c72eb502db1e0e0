-- A search, among other things that keep away from its data and its registers, ends at the first datum that meets its
-- condition, or at the count.
-- Assumes nothing.
use Rattle.std.specs.Prelude.{◌≡◌, ◌⊎◌, Bool, true, false, ℕ, suc, ◌<◌, List, eqb}
use Rattle.space.specs.declared.Place.{Place}
use Rattle.space.specs.Space.{Spaces}
use Rattle.space.specs.Bytes.{gets}
use Rattle.unit_laws.specs.Op.{Ends}

-- ---- the first of n that meets a test, or the last

pub record First (value : ℕ → Bool) (n stop : ℕ) : Type 0 where
  pub below : stop < n
  pub before : (j : ℕ) → j < stop → value j ≡ false
  pub here : (value stop ≡ true) ⊎ (suc stop ≡ n)

-- what ends unit k of a search
abbrev pub outcome : (ℕ → Bool) → ℕ → ℕ → Ends
outcome value n k = record { mc = value k; tc = eqb (suc k) n }

-- ---- the search

-- does the datum of unit k, as it stands in s, meet the condition
abbrev pub meets : (ℕ → List Place) → (List ℕ → Bool) → Spaces → ℕ → Bool
meets place cond s k = cond (gets s (place k))
