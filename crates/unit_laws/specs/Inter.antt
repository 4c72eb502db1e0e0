-- Two channels: their units commute where neither writes what the other reads or writes, and so any interleaving of
-- them ends as all of channel 1's units and then all of channel 2's.
-- Assumes nothing.
-- ---- one channel
use Rattle.std.specs.Prelude.{ℕ, zero, suc, List, [], ◌∷◌}
use Rattle.space.specs.declared.Place.{Place}
use Rattle.space.specs.Space.{Spaces}
use Rattle.unit_laws.specs.Local.{Mover}

-- ---- two channels

pub record State (R₁ R₂ : Type 0) : Type 0 where
  pub one : R₁
  pub two : R₂
  pub spaces : Spaces

-- whose turn a step is; a give-back is nobody's
pub data Moving : Type 0 where
  first second back : Moving

abbrev pub firsts : List Moving → ℕ
firsts [] = zero
firsts (first ∷ cs) = suc (firsts cs)
firsts (second ∷ cs) = firsts cs
firsts (back ∷ cs) = firsts cs

abbrev pub seconds : List Moving → ℕ
seconds [] = zero
seconds (first ∷ cs) = seconds cs
seconds (second ∷ cs) = suc (seconds cs)
seconds (back ∷ cs) = seconds cs

module _ {z : Spaces} {R₁ R₂ : Type 0} (m₁ : Mover z R₁) (m₂ : Mover z R₂) where
  abbrev pub unit₁ : State R₁ R₂ → State R₁ R₂
  unit₁ x = record { one = (m₁.act x.one x.spaces).reg; two = x.two; spaces = (m₁.act x.one x.spaces).spaces }

  abbrev pub unit₂ : State R₁ R₂ → State R₁ R₂
  unit₂ x = record { one = x.one; two = (m₂.act x.two x.spaces).reg; spaces = (m₂.act x.two x.spaces).spaces }

  -- n units of one channel
  abbrev pub units₁ : ℕ → State R₁ R₂ → State R₁ R₂
  units₁ zero x = x
  units₁ (suc n) x = units₁ n (unit₁ x)

  abbrev pub units₂ : ℕ → State R₁ R₂ → State R₁ R₂
  units₂ zero x = x
  units₂ (suc n) x = units₂ n (unit₂ x)

  -- the units that r₁ and r₂ stand before: neither writes what the other reads or writes
  pub record Apart (r₁ : R₁) (r₂ : R₂) : Type 0 where
    pub w1w2 : (l : Place) → m₁.Writes r₁ l → ¬ (m₂.Writes r₂ l)
    pub w1r2 : (l : Place) → m₁.Writes r₁ l → ¬ (m₂.Reads r₂ l)
    pub r1w2 : (l : Place) → m₁.Reads r₁ l → ¬ (m₂.Writes r₂ l)

-- ---- the sets that each channel keeps within; neither's writes meet the other's

pub record Sets : Type 1 where
  pub R1 : Place → Type 0
  pub W1 : Place → Type 0
  pub R2 : Place → Type 0
  pub W2 : Place → Type 0

pub record Disjoint (q : Sets) : Type 0 where
  pub w1w2 : (l : Place) → q.W1 l → ¬ (q.W2 l)
  pub w1r2 : (l : Place) → q.W1 l → ¬ (q.R2 l)
  pub r1w2 : (l : Place) → q.R1 l → ¬ (q.W2 l)
