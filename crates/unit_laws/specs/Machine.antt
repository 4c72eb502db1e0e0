-- A machine that takes steps, seen as two channels over two spaces.
-- Assumes nothing.
use Rattle.std.specs.Prelude.{◌≡◌, ℕ, zero, suc, ◌<◌, List, [], ◌∷◌}
use Rattle.space.specs.Space.{Spaces}
use Rattle.unit_laws.specs.Local.{Mover}
use Rattle.unit_laws.specs.Inter.{Moving, first, second, firsts, seconds, State, Apart}
use Rattle.unit_laws.specs.Fair.{LatestMover}

-- n steps
abbrev pub iter : {M : Type 0} → (M → M) → ℕ → M → M
iter step zero m = m
iter step (suc n) m = iter step n (step m)

-- P holds before each of the next n steps
abbrev pub Every : {M : Type 0} → (M → M) → (M → Type 0) → ℕ → M → Type 0
Every step P zero m = Unit {0}
Every step P (suc n) m = P m × Every step P n (step m)

-- how a machine is seen: whose turn its next step is, who was served last, and the two channels with the spaces
pub record View (M R₁ R₂ : Type 0) : Type 0 where
  pub step : M → M
  pub turn : M → Moving
  pub served : M → LatestMover
  pub state : M → State R₁ R₂

module _ {M R₁ R₂ : Type 0} (v : View M R₁ R₂) where
  -- the turns of the next n steps
  abbrev pub turns : ℕ → M → List Moving
  turns zero m = []
  turns (suc n) m = v.turn m ∷ turns n (v.step m)

  -- the unit counts of a stretch
  abbrev pub count₁ : ℕ → M → ℕ
  count₁ n m = firsts (turns n m)

  abbrev pub count₂ : ℕ → M → ℕ
  count₂ n m = seconds (turns n m)

module _ {z : Spaces} {M R₁ R₂ : Type 0} (m₁ : Mover z R₁) (m₂ : Mover z R₂) (v : View M R₁ R₂) where
  -- any unit of channel 1 in the stretch and any of channel 2 are apart
  abbrev pub AllApart : ℕ → M → Type 0
  AllApart n m = (i j : ℕ) → i < n → j < n → v.turn (iter v.step i m) ≡ first → v.turn (iter v.step j m) ≡ second
      → Apart m₁ m₂ (v.state (iter v.step i m)).one (v.state (iter v.step j m)).two
