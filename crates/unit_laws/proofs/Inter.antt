-- Two channels: their units commute where neither writes what the other reads or writes, and so any interleaving of
-- them ends as all of channel 1's units and then all of channel 2's.
-- Assumes nothing.
use mathlib.Core.Path.{◌≡◌, refl, sym, ap, ◌∙◌, subst}
use Prim.Native.Nat.{ℕ, zero, suc}
use mathlib.Core.List.{List, [], ◌∷◌}
use Rattle.space.specs.declared.Place.{Place}
use Rattle.space.specs.Space.{Spaces, get, SameSize}
use Rattle.space.proofs.Laws.{size_trans, size_sym, ext}
use Rattle.unit_laws.specs.Local.{Agree, Mover}
use Rattle.unit_laws.specs.Inter.{State, Moving, Sets, Disjoint, firsts, seconds, unit₁, unit₂, units₁, units₂, Apart, back, first, second}

-- ---- one channel

-- the unit that these registers stand before keeps within the sets
pub record Within {z : Spaces} {R : Type 0} (m : Mover z R) (Rd Wr : Place → Type 0) (r : R) : Type 0 where
  pub reads : (l : Place) → m.Reads r l → Rd l
  pub writes : (l : Place) → m.Writes r l → Wr l

-- so do the next k units, done alone
abbrev pub LeavesBe : {z : Spaces} {R : Type 0} → Mover z R → (Rd Wr : Place → Type 0) → ℕ → R → Spaces → Type 0
LeavesBe m Rd Wr zero r s = Unit {0}
LeavesBe m Rd Wr (suc k) r s = Within m Rd Wr r × LeavesBe m Rd Wr k (m.act r s).reg (m.act r s).spaces

module _ {z : Spaces} {R : Type 0} (m : Mover z R) where
  -- agreement on a set that holds the reads outlasts the unit
  pub agree_after : (P : Place → Type 0) (r : R) (s t : Spaces) → ((l : Place) → m.Reads r l → P l) → SameSize s z → SameSize t z → Agree P s t
      → Agree P (m.act r s).spaces (m.act r t).spaces
  agree_after P r s t sub e f h l p = go (m.local.decides r l)
    where
      go : Dec (m.Writes r l) → get (m.act r s).spaces l ≡ get (m.act r t).spaces l
      go (yes w) = m.local.wrote r s t e f (λ k b. h k (sub k b)) l w
      go (no n) = m.local.keeps r s l e n ∙ h l p ∙ sym (m.local.keeps r t l f n)

  pub keeps_agree : (Rd Wr : Place → Type 0) (k : ℕ) (r : R) (s t : Spaces) → SameSize s z → SameSize t z → Agree Rd s t
      → LeavesBe m Rd Wr k r s → LeavesBe m Rd Wr k r t
  keeps_agree Rd Wr zero r s t e f h x = tt
  keeps_agree Rd Wr (suc k) r s t e f h x = (
    x.0,
    subst (λ (q : R). LeavesBe m Rd Wr k q (m.act r t).spaces) (m.local.reg r s t e f (λ l b. h l (x.0.reads l b)))
        (keeps_agree Rd Wr k (m.act r s).reg (m.act r s).spaces (m.act r t).spaces
        (size_trans (m.local.sizes r s) e) (size_trans (m.local.sizes r t) f)
        (agree_after Rd r s t x.0.reads e f h) x.1),
  )

module _ {z : Spaces} {R₁ R₂ : Type 0} (m₁ : Mover z R₁) (m₂ : Mover z R₂) where
  abbrev pub move : Moving → State R₁ R₂ → State R₁ R₂
  move first x = unit₁ m₁ m₂ x
  move second x = unit₂ m₁ m₂ x
  move back x = x

  -- the turns, in order
  abbrev pub run : List Moving → State R₁ R₂ → State R₁ R₂
  run [] x = x
  run (c ∷ cs) x = run cs (move c x)

  pub commute : (x : State R₁ R₂) → SameSize x.spaces z → Apart m₁ m₂ x.one x.two → unit₂ m₁ m₂ (unit₁ m₁ m₂ x) ≡ unit₁ m₁ m₂ (unit₂ m₁ m₂ x)
  commute x e a = λ i. record { one = one≡ i; two = two≡ i; spaces = spaces≡ i }
    where
      r₁ : R₁
      r₁ = x.one

      r₂ : R₂
      r₂ = x.two

      s : Spaces
      s = x.spaces

      s₁ : Spaces
      s₁ = (m₁.act r₁ s).spaces

      s₂ : Spaces
      s₂ = (m₂.act r₂ s).spaces

      e₁ : SameSize s₁ z
      e₁ = size_trans (m₁.local.sizes r₁ s) e

      e₂ : SameSize s₂ z
      e₂ = size_trans (m₂.local.sizes r₂ s) e

      -- neither changes what the other reads
      reads₁ : Agree (m₁.Reads r₁) s s₂
      reads₁ l b = sym (m₂.local.keeps r₂ s l e (a.r1w2 l b))

      reads₂ : Agree (m₂.Reads r₂) s₁ s
      reads₂ l b = m₁.local.keeps r₁ s l e (λ w. a.w1r2 l w b)

      one≡ : (m₁.act r₁ s).reg ≡ (m₁.act r₁ s₂).reg
      one≡ = m₁.local.reg r₁ s s₂ e e₂ reads₁

      two≡ : (m₂.act r₂ s₁).reg ≡ (m₂.act r₂ s).reg
      two≡ = m₂.local.reg r₂ s₁ s e₁ e reads₂

      at : (l : Place) → Dec (m₁.Writes r₁ l) → Dec (m₂.Writes r₂ l) → get (m₂.act r₂ s₁).spaces l ≡ get (m₁.act r₁ s₂).spaces l
      at l (yes w) d = m₂.local.keeps r₂ s₁ l e₁ (a.w1w2 l w) ∙ m₁.local.wrote r₁ s s₂ e e₂ reads₁ l w
      at l (no n) (yes w) = m₂.local.wrote r₂ s₁ s e₁ e reads₂ l w ∙ sym (m₁.local.keeps r₁ s₂ l e₂ n)
      at l (no n) (no k) =
          m₂.local.keeps r₂ s₁ l e₁ k ∙ m₁.local.keeps r₁ s l e n ∙ sym (m₁.local.keeps r₁ s₂ l e₂ n ∙ m₂.local.keeps r₂ s l e k)

      spaces≡ : (m₂.act r₂ s₁).spaces ≡ (m₁.act r₁ s₂).spaces
      spaces≡ = ext (m₂.act r₂ s₁).spaces (m₁.act r₁ s₂).spaces
          (size_trans (size_trans (m₂.local.sizes r₂ s₁) e₁) (size_sym (size_trans (m₁.local.sizes r₁ s₂) e₂)))
          (λ l b. at l (m₁.local.decides r₁ l) (m₂.local.decides r₂ l))

  -- ---- interleavings

  -- the unit of this turn keeps within its channel's sets
  abbrev pub Fits : Sets → Moving → State R₁ R₂ → Type 0
  Fits q first x = Within m₁ q.R1 q.W1 x.one
  Fits q second x = Within m₂ q.R2 q.W2 x.two
  Fits q back x = Unit {0}

  -- so does every unit of the interleaving, as it is run
  abbrev pub Along : Sets → List Moving → State R₁ R₂ → Type 0
  Along q [] x = Unit {0}
  Along q (c ∷ cs) x = Fits q c x × Along q cs (move c x)

  apart : (q : Sets) → Disjoint q → (r₁ : R₁) (r₂ : R₂) → Within m₁ q.R1 q.W1 r₁ → Within m₂ q.R2 q.W2 r₂ → Apart m₁ m₂ r₁ r₂
  apart q d r₁ r₂ h k = record {
    w1w2 = λ l a b. d.w1w2 l (h.writes l a) (k.writes l b);
    w1r2 = λ l a b. d.w1r2 l (h.writes l a) (k.reads l b);
    r1w2 = λ l a b. d.r1w2 l (h.reads l a) (k.writes l b);
  }

  -- a unit of channel 2 leaves what channel 1 reads
  unit₂_agree : (q : Sets) → Disjoint q → (x : State R₁ R₂) → SameSize x.spaces z → Within m₂ q.R2 q.W2 x.two
      → Agree q.R1 (unit₂ m₁ m₂ x).spaces x.spaces
  unit₂_agree q d x e k l b = m₂.local.keeps x.two x.spaces l e (λ w. d.r1w2 l b (k.writes l w))

  size₁ : (x : State R₁ R₂) → SameSize x.spaces z → SameSize (unit₁ m₁ m₂ x).spaces z
  size₁ x e = size_trans (m₁.local.sizes x.one x.spaces) e

  size₂ : (x : State R₁ R₂) → SameSize x.spaces z → SameSize (unit₂ m₁ m₂ x).spaces z
  size₂ x e = size_trans (m₂.local.sizes x.two x.spaces) e

  -- what channel 1 does in the interleaving it also does alone
  alone₁ : (q : Sets) → Disjoint q → (cs : List Moving) (x : State R₁ R₂) → SameSize x.spaces z → Along q cs x
      → LeavesBe m₁ q.R1 q.W1 (firsts cs) x.one x.spaces
  alone₁ q d [] x e h = tt
  alone₁ q d (first ∷ cs) x e h = (h.0, alone₁ q d cs (unit₁ m₁ m₂ x) (size₁ x e) h.1)
  alone₁ q d (second ∷ cs) x e h =
      keeps_agree m₁ q.R1 q.W1 (firsts cs) x.one (unit₂ m₁ m₂ x).spaces x.spaces (size₂ x e) e
      (unit₂_agree q d x e h.0) (alone₁ q d cs (unit₂ m₁ m₂ x) (size₂ x e) h.1)
  alone₁ q d (back ∷ cs) x e h = alone₁ q d cs x e h.1

  -- a unit of channel 2 passes n units of channel 1
  pass : (q : Sets) → Disjoint q → (n : ℕ) (x : State R₁ R₂) → SameSize x.spaces z → Within m₂ q.R2 q.W2 x.two
      → LeavesBe m₁ q.R1 q.W1 n x.one x.spaces → units₁ m₁ m₂ n (unit₂ m₁ m₂ x) ≡ unit₂ m₁ m₂ (units₁ m₁ m₂ n x)
  pass q d zero x e k h = refl
  pass q d (suc n) x e k h =
      ap (units₁ m₁ m₂ n) (sym (commute x e (apart q d x.one x.two h.0 k))) ∙ pass q d n (unit₁ m₁ m₂ x) (size₁ x e) k h.1

  pub interleave : (q : Sets) → Disjoint q → (cs : List Moving) (x : State R₁ R₂) → SameSize x.spaces z → Along q cs x
      → run cs x ≡ units₂ m₁ m₂ (seconds cs) (units₁ m₁ m₂ (firsts cs) x)
  interleave q d [] x e h = refl
  interleave q d (first ∷ cs) x e h = interleave q d cs (unit₁ m₁ m₂ x) (size₁ x e) h.1
  interleave q d (second ∷ cs) x e h =
      interleave q d cs (unit₂ m₁ m₂ x) (size₂ x e) h.1
      ∙ ap (units₂ m₁ m₂ (seconds cs)) (pass q d (firsts cs) x e h.0 (alone₁ q d (second ∷ cs) x e h))
  interleave q d (back ∷ cs) x e h = interleave q d cs x e h.1
