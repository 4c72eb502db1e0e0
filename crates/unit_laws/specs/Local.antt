-- A unit of one channel: what it reads, what it writes, and that nothing else matters to it.
-- Assumes nothing.
use Rattle.std.specs.Prelude.{◌≡◌, ◌⊎◌, ℕ, suc, get_or, List, [], ◌∷◌}
use Rattle.space.specs.declared.Place.{Place}
use Rattle.space.specs.Space.{Spaces, get, put, Inside, SameSize}
use Rattle.space.specs.Bytes.{gets}

-- the place stands in the list
abbrev pub In : Place → List Place → Type 0
In l [] = ⊥
In l (k ∷ ks) = (l ≡ k) ⊎ In l ks

-- what a unit leaves: its channel's registers and the spaces
pub record Result (R : Type 0) : Type 0 where
  pub reg : R
  pub spaces : Spaces

-- the two agree at each place of P
abbrev pub Agree : (Place → Type 0) → Spaces → Spaces → Type 0
Agree P s t = (l : Place) → P l → get s l ≡ get t l

-- over spaces of z's size, which no unit changes
pub record Local (z : Spaces) (R : Type 0) (act : R → Spaces → Result R) (Reads Writes : R → Place → Type 0) : Type 0 where
  -- its writes can be told from other places
  pub decides : (r : R) (l : Place) → Dec (Writes r l)
  pub sizes : (r : R) (s : Spaces) → SameSize (act r s).spaces s
  -- it changes no place outside its writes
  pub keeps : (r : R) (s : Spaces) (l : Place) → SameSize s z → ¬ (Writes r l) → get (act r s).spaces l ≡ get s l
  -- its registers, and what it writes, depend on its registers and on what it reads alone
  pub reg : (r : R) (s t : Spaces) → SameSize s z → SameSize t z → Agree (Reads r) s t → (act r s).reg ≡ (act r t).reg
  pub wrote : (r : R) (s t : Spaces) → SameSize s z → SameSize t z → Agree (Reads r) s t
      → Agree (Writes r) (act r s).spaces (act r t).spaces

pub record Mover (z : Spaces) (R : Type 0) : Type 1 where
  pub act : R → Spaces → Result R
  pub Reads : R → Place → Type 0
  pub Writes : R → Place → Type 0
  pub local : Local z R act Reads Writes

-- ---- a unit given as a short program: some reads, then some writes of what is computed from the data read

pub record Write : Type 0 where
  pub to : Place
  pub what : List ℕ → ℕ

pub record Prog (R : Type 0) : Type 0 where
  pub reads : R → List Place
  pub writes : R → List Write
  pub next : R → List ℕ → R

abbrev pub puts : List Write → List ℕ → Spaces → Spaces
puts [] d s = s
puts (w ∷ ws) d s = puts ws d (put s w.to (w.what d))

abbrev pub places : List Write → List Place
places [] = []
places (w ∷ ws) = w.to ∷ places ws

-- the writes to a list of places of what f gives, from number i on
abbrev pub writing : ℕ → List Place → (List ℕ → List ℕ) → List Write
writing i [] f = []
writing i (p ∷ ps) f = record { to = p; what = λ d. get_or (f d) i 255 } ∷ writing (suc i) ps f

abbrev pub exec : {R : Type 0} → Prog R → R → Spaces → Result R
exec p r s = record { reg = p.next r (gets s (p.reads r)); spaces = puts (p.writes r) (gets s (p.reads r)) s }

-- ---- locality, once and for all. A place beyond the end counts neither as read nor as written: it reads FFh, and a write there is lost

-- the place stands in the list, inside the spaces of z's size
abbrev pub Touches : Spaces → List Place → Place → Type 0
Touches z ls l = In l ls × Inside z l
