-- One channel's operation in a machine that does other things in between.
-- Assumes nothing.
use mathlib.Core.Path.{◌≡◌, ap, ◌∙◌}
use mathlib.Core.Bool.{true, false}
use Prim.Native.Nat.{ℕ, suc, ◌<◌}
use mathlib.Core.List.{List}
use Rattle.space.specs.declared.Place.{Place}
use Rattle.space.specs.Space.{Spaces}
use Rattle.space.specs.Bytes.{gets}
use Rattle.unit_laws.specs.Local.{Agree, Prog}
use Rattle.unit_laws.proofs.Local.{gets_agree}
use Rattle.unit_laws.specs.Op.{ended, Seen, Area}

module _ {M R : Type 0} (v : Seen M R) where
  -- the next step does not end the operation
  abbrev pub Unended : M → Type 0
  Unended m = v.mine m ≡ true → ended (v.ends m) ≡ false

  abbrev pub seen_data : Prog R → M → List ℕ
  seen_data p m = gets (v.spaces m) (p.reads (v.reg m))

  -- a step before which k of n units are done: an unended unit of the channel goes on to the next, anything else leaves
  -- the operation where it stands
  pub record Steady (n : ℕ) (At : ℕ → R → Type 0) (k : ℕ) (m : M) : Type 0 where
    pub goes : v.mine m ≡ true → ended (v.ends m) ≡ false → suc k < n → At (suc k) (v.reg (v.step m))
    pub rest : v.mine m ≡ false → At k (v.reg (v.step m))

-- registers that stand before unit k of n read at place k
abbrev pub Reads-at : {R : Type 0} → Prog R → ℕ → (ℕ → List Place) → (ℕ → R → Type 0) → Type 0
Reads-at {R} p n place At = (k : ℕ) (r : R) → k < n → At k r → p.reads r ≡ place k

-- the datum of unit k is what stood there at the start
pub datum : {R : Type 0} (p : Prog R) (n : ℕ) (place : ℕ → List Place) (At : ℕ → R → Type 0) → Reads-at p n place At
    → (k : ℕ) (r : R) (s t : Spaces) → k < n → At k r → Agree (Area n place) t s → gets t (p.reads r) ≡ gets s (place k)
datum p n place At pl k r s t b a h =
    ap (gets t) (pl k r b a) ∙ gets_agree (place k) t s (λ l i. h l (k, b, i))
