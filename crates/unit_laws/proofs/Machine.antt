-- A machine that takes steps, seen as two channels over two spaces.
-- Assumes nothing.
use mathlib.Core.Path.{◌≡◌, refl, ap, ◌∙◌, subst}
use Prim.Native.Nat.{ℕ, zero, suc, ◌≤◌, ◌<◌, suc-le-suc}
use native.Mathlib.Nat.{zero-lt-suc, le_of_suc-le-suc, not-suc-le-zero}
use Rattle.space.specs.Space.{Spaces, SameSize}
use Rattle.unit_laws.specs.Local.{Mover}
use Rattle.unit_laws.specs.Inter.{Moving, first, second, back, State, units₁, units₂}
use Rattle.unit_laws.specs.Inter.{Sets, Disjoint}
use Rattle.unit_laws.proofs.Inter.{Within, move, run, Fits, Along, interleave}
use Rattle.unit_laws.specs.Fair.{LatestMover}
use Rattle.unit_laws.specs.Fair.{serve, Picks}
use Rattle.unit_laws.proofs.Fair.{Fair, balanced}
use Rattle.unit_laws.specs.Machine.{iter, Every, View, turns, count₁, count₂, AllApart}

-- what holds at the start and outlasts a step that meets Q holds before each step of a stretch whose steps meet Q, and at its end
pub every_of : {M : Type 0} (step : M → M) (I Q P : M → Type 0) → ((m : M) → I m → Q m → P m × I (step m))
    → (n : ℕ) (m : M) → I m → Every step Q n m → Every step P n m × I (iter step n m)
every_of step I Q P f zero m i q = (tt, i)
every_of step I Q P f (suc n) m i q =
    let h = f m i q.0 in
    let k = every_of step I Q P f n (step m) h.1 q.1 in
    ((h.0, k.0), k.1)

pub every_at : {M : Type 0} (step : M → M) (P : M → Type 0) (n : ℕ) (m : M) → Every step P n m → (i : ℕ) → i < n → P (iter step i m)
every_at step P zero m h i b = absurd (not-suc-le-zero b)
every_at step P (suc n) m h zero b = h.0
every_at step P (suc n) m h (suc i) b = every_at step P n (step m) h.1 i (le_of_suc-le-suc b)

-- all but the last
pub every_init : {M : Type 0} (step : M → M) (P : M → Type 0) (n : ℕ) (m : M) → Every step P (suc n) m → Every step P n m
every_init step P zero m h = tt
every_init step P (suc n) m h = (h.0, every_init step P n (step m) h.1)

pub every_map : {M : Type 0} (step : M → M) (P Q : M → Type 0) → ((m : M) → P m → Q m) → (n : ℕ) (m : M) → Every step P n m → Every step Q n m
every_map step P Q f zero m h = tt
every_map step P Q f (suc n) m h = (f m h.0, every_map step P Q f n (step m) h.1)

module _ {z : Spaces} {M R₁ R₂ : Type 0} (m₁ : Mover z R₁) (m₂ : Mover z R₂) (v : View M R₁ R₂) where
  -- the next step does a unit of the channel not served last, or gives the bus back and moves nothing
  pub record Lawful (m : M) : Type 0 where
    pub picks : Picks (v.turn m) (v.served m)
    pub serves : v.served (v.step m) ≡ serve (v.turn m) (v.served m)
    pub moves : v.state (v.step m) ≡ move m₁ m₂ (v.turn m) (v.state m)

  fair : (n : ℕ) (m : M) → Every v.step Lawful n m → Fair (v.served m) (turns v n m)
  fair zero m h = tt
  fair (suc n) m h = (h.0.picks, subst (λ (x : LatestMover). Fair x (turns v n (v.step m))) h.0.serves (fair n (v.step m) h.1))

  pub runs : (n : ℕ) (m : M) → Every v.step Lawful n m → v.state (iter v.step n m) ≡ run m₁ m₂ (turns v n m) (v.state m)
  runs zero m h = refl
  runs (suc n) m h = runs n (v.step m) h.1 ∙ ap (run m₁ m₂ (turns v n (v.step m))) h.0.moves

  pub counts : (n : ℕ) (m : M) → Every v.step Lawful n m → (count₁ v n m ≤ suc (count₂ v n m)) × (count₂ v n m ≤ suc (count₁ v n m))
  counts n m h = balanced (v.served m) (turns v n m) (fair n m h)

  -- what the channels read and write in the stretch
  touched : ℕ → M → Sets
  touched n m = record {
    R1 = λ l. (i : ℕ) × (i < n) × (v.turn (iter v.step i m) ≡ first) × m₁.Reads (v.state (iter v.step i m)).one l;
    W1 = λ l. (i : ℕ) × (i < n) × (v.turn (iter v.step i m) ≡ first) × m₁.Writes (v.state (iter v.step i m)).one l;
    R2 = λ l. (i : ℕ) × (i < n) × (v.turn (iter v.step i m) ≡ second) × m₂.Reads (v.state (iter v.step i m)).two l;
    W2 = λ l. (i : ℕ) × (i < n) × (v.turn (iter v.step i m) ≡ second) × m₂.Writes (v.state (iter v.step i m)).two l;
  }

  disjoint : (n : ℕ) (m : M) → AllApart m₁ m₂ v n m → Disjoint (touched n m)
  unfolding touched
  disjoint n m h = record {
    w1w2 = λ l a b. (h a.0 b.0 a.1 b.1 a.2 b.2).w1w2 l a.3 b.3;
    w1r2 = λ l a b. (h a.0 b.0 a.1 b.1 a.2 b.2).w1r2 l a.3 b.3;
    r1w2 = λ l a b. (h a.0 b.0 a.1 b.1 a.2 b.2).r1w2 l a.3 b.3;
  }

  fits : (q : Sets) (c : Moving) (x : State R₁ R₂) → (c ≡ first → Within m₁ q.R1 q.W1 x.one)
      → (c ≡ second → Within m₂ q.R2 q.W2 x.two) → Fits m₁ m₂ q c x
  fits q first x f g = f refl
  fits q second x f g = g refl
  fits q back x f g = tt

  along : (q : Sets) (n : ℕ) (m : M) → Every v.step Lawful n m
      → ((i : ℕ) → i < n → v.turn (iter v.step i m) ≡ first → Within m₁ q.R1 q.W1 (v.state (iter v.step i m)).one)
      → ((i : ℕ) → i < n → v.turn (iter v.step i m) ≡ second → Within m₂ q.R2 q.W2 (v.state (iter v.step i m)).two)
      → Along m₁ m₂ q (turns v n m) (v.state m)
  along q zero m h f g = tt
  along q (suc n) m h f g = (
    fits q (v.turn m) (v.state m) (f zero (zero-lt-suc n)) (g zero (zero-lt-suc n)),
    subst (λ (x : State R₁ R₂). Along m₁ m₂ q (turns v n (v.step m)) x) h.0.moves
        (along q n (v.step m) h.1 (λ i b. f (suc i) (suc-le-suc b)) (λ i b. g (suc i) (suc-le-suc b))),
  )

  -- registers and both spaces finish as if channel 1 had done its units alone, then channel 2: with sets for what each
  -- channel keeps within
  pub as_if_alone_within : (q : Sets) → Disjoint q → (n : ℕ) (m : M) → SameSize (v.state m).spaces z → Every v.step Lawful n m
      → ((i : ℕ) → i < n → v.turn (iter v.step i m) ≡ first → Within m₁ q.R1 q.W1 (v.state (iter v.step i m)).one)
      → ((i : ℕ) → i < n → v.turn (iter v.step i m) ≡ second → Within m₂ q.R2 q.W2 (v.state (iter v.step i m)).two)
      → v.state (iter v.step n m) ≡ units₂ m₁ m₂ (count₂ v n m) (units₁ m₁ m₂ (count₁ v n m) (v.state m))
  as_if_alone_within q d n m e h f g = runs n m h ∙ interleave m₁ m₂ q d (turns v n m) (v.state m) e (along q n m h f g)

  -- and with no more than that their units are apart
  pub as_if_alone : (n : ℕ) (m : M) → SameSize (v.state m).spaces z → Every v.step Lawful n m → AllApart m₁ m₂ v n m
      → v.state (iter v.step n m) ≡ units₂ m₁ m₂ (count₂ v n m) (units₁ m₁ m₂ (count₁ v n m) (v.state m))
  unfolding touched
  as_if_alone n m e h a =
      as_if_alone_within (touched n m) (disjoint n m a) n m e h
      (λ i b e. record { reads = λ l w. (i, b, e, w); writes = λ l w. (i, b, e, w) })
      (λ i b e. record { reads = λ l w. (i, b, e, w); writes = λ l w. (i, b, e, w) })
