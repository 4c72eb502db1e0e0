-- A search, among other things that keep away from its data and its registers, ends at the first datum that meets its
-- condition, or at the count.
-- Assumes nothing.
-- ---- the first of n that meets a test, or the last
use mathlib.Core.Path.{◌≡◌, refl, sym, ap, ◌∙◌, subst}
use mathlib.Core.Logic.{◌⊎◌, inl, inr, ◌≢◌}
use mathlib.Core.Bool.{Bool, true, false, ◌||◌, true≢false}
use Prim.Native.Nat.{ℕ, zero, suc, ◌+◌, ◌≤◌, ◌<◌, zero-le}
use native.Mathlib.Nat.{not-suc-le-zero}
use native.Mathlib.Decide.{ℕ_discrete}
use native.Mathlib.Omega.{arith}
use mathlib.Core.List.{List}
use lib.Dec.{T, eqb, eqb→eq, eqb_refl}
use Rattle.space.specs.declared.Place.{Place}
use Rattle.space.specs.Space.{Spaces}
use Rattle.unit_laws.specs.Local.{Agree, Prog}
use Rattle.unit_laws.specs.Machine.{iter, Every}
use Rattle.unit_laws.proofs.Machine.{every_at, every_init}
use Rattle.unit_laws.specs.Op.{ended, Seen, bump, after, done, Area}
use Rattle.unit_laws.proofs.Op.{Unended, seen_data, Steady, Reads-at, datum}
use Rattle.unit_laws.specs.Search.{First, outcome, meets}

eqb_no : (m n : ℕ) → m ≢ n → eqb m n ≡ false
eqb_no m n h = go (eqb m n) (eqb→eq m n)
  where
    go : (b : Bool) → (T b → m ≡ n) → b ≡ false
    go true f = absurd (h (f tt))
    go false f = refl

eqb_yes : (m n : ℕ) → m ≡ n → eqb m n ≡ true
eqb_yes m n e = subst (λ (k : ℕ). eqb m k ≡ true) e (go (eqb m m) (eqb_refl m))
  where
    go : (b : Bool) → T b → b ≡ true
    go true t = refl
    go false t = absurd t

or_right : (b : Bool) → (b || true) ≡ true
or_right true = refl
or_right false = refl

ended_of : (b c : Bool) → (b ≡ true) ⊎ (c ≡ true) → (b || c) ≡ true
ended_of b c (inl e) = ap (λ (x : Bool). x || c) e
ended_of b c (inr e) = ap (λ (x : Bool). b || x) e ∙ or_right b

unended_of : (b c : Bool) → b ≡ false → c ≡ false → (b || c) ≡ false
unended_of b c e f = ap (λ (x : Bool). x || c) e ∙ f

pub first_ends : (value : ℕ → Bool) (n stop : ℕ) → First value n stop → ended (outcome value n stop) ≡ true
first_ends value n stop f = ended_of (value stop) (eqb (suc stop) n) (go f.here)
  where
    go : (value stop ≡ true) ⊎ (suc stop ≡ n) → (value stop ≡ true) ⊎ (eqb (suc stop) n ≡ true)
    go (inl e) = inl e
    go (inr e) = inr (eqb_yes (suc stop) n e)

pub before_first : (value : ℕ → Bool) (n stop k : ℕ) → First value n stop → k < stop → ended (outcome value n k) ≡ false
before_first value n stop k f b =
    unended_of (value k) (eqb (suc k) n) (f.before k b) (eqb_no (suc k) n (let h = f.below in omega (arith, h)))

-- for request E12: there is one, and only one
pub first_of : (value : ℕ → Bool) (n : ℕ) → zero < n → (stop : ℕ) × First value n stop
first_of value zero h = absurd (not-suc-le-zero h)
first_of value (suc n) h = go n zero (omega arith) (λ j b. absurd (not-suc-le-zero b))
  where
    go : (fuel k : ℕ) → k + fuel ≡ n → ((j : ℕ) → j < k → value j ≡ false) → (stop : ℕ) × First value (suc n) stop
    go zero k e f = (k, record { below = omega arith; before = f; here = inr (omega arith) })
    go (suc fuel) k e f = test (value k) refl (λ q. go fuel (suc k) (omega arith) (more q))
      where
        more : value k ≡ false → (j : ℕ) → j < suc k → value j ≡ false
        more q j b = elim (ℕ_discrete j k) [ yes x ↦ ap value x ∙ q | no x ↦ f j (omega arith) ]

        test : (b : Bool) → value k ≡ b → (value k ≡ false → (stop : ℕ) × First value (suc n) stop) → (stop : ℕ) × First value (suc n) stop
        test true q r = (k, record { below = omega arith; before = f; here = inl q })
        test false q r = r q

pub first_unique : (value : ℕ → Bool) (n a b : ℕ) → First value n a → First value n b → a ≡ b
first_unique value n a b f g =
    let x : ¬ (a < b) = λ h. true≢false (sym (first_ends value n a f) ∙ before_first value n b a g h) in
    let y : ¬ (b < a) = λ h. true≢false (sym (first_ends value n b g) ∙ before_first value n a b f h) in
    omega (arith, x, y)

-- The next unit after i steps in which the operation did not end: no more than `stop` came before it, it ends the
-- operation exactly if `stop` did, and for exactly these reasons.
pub record Found {M R : Type 0} (v : Seen M R) (value : ℕ → Bool) (n stop i : ℕ) (m : M) : Type 0 where
  pub upto : done v i m ≤ stop
  pub reasons : v.ends (iter v.step i m) ≡ outcome value n (done v i m)
  pub before : done v i m < stop → ended (v.ends (iter v.step i m)) ≡ false
  pub at : done v i m ≡ stop → ended (v.ends (iter v.step i m)) ≡ true
  pub only : ended (v.ends (iter v.step i m)) ≡ true → done v i m ≡ stop

module _ {M R : Type 0} (v : Seen M R) (p : Prog R) (n : ℕ) (place : ℕ → List Place) (cond : List ℕ → Bool) (At : ℕ → R → Type 0) where
  -- a step of the machine, if the search stands before unit k: a unit of the search answers by its datum and its count,
  -- and nothing writes the data
  pub record Looks (k : ℕ) (m : M) : Type 0 where
    pub steady : Steady v n At k m
    pub kept : Agree (Area n place) (v.spaces (v.step m)) (v.spaces m)
    pub answers : v.mine m ≡ true → v.ends m ≡ record { mc = cond (seen_data v p m); tc = eqb (suc k) n }

  abbrev pub Looking : M → Type 0
  Looking m = (k : ℕ) → k < n → At k (v.reg m) → Looks k m

  -- the search stands before unit k over the data of s
  record Stands (s : Spaces) (stop k : ℕ) (m : M) : Type 0 where
    at : At k (v.reg m)
    upto : k ≤ stop
    same : Agree (Area n place) (v.spaces m) s

  answer : (pl : Reads-at p n place At) (s : Spaces) (stop k : ℕ) (m : M) → stop < n → Stands s stop k m → Looks k m → v.mine m ≡ true
      → v.ends m ≡ outcome (meets place cond s) n k
  answer pl s stop k m b x h e =
      let kn : k < n = let u = x.upto in omega (arith, u, b) in
      h.answers e
      ∙ ap (λ (d : List ℕ). record { mc = cond d; tc = eqb (suc k) n }) (datum p n place At pl k (v.reg m) s (v.spaces m) kn x.at x.same)

  stands_step : (pl : Reads-at p n place At) (s : Spaces) (stop k : ℕ) (m : M) → First (meets place cond s) n stop → Stands s stop k m → Looks k m → Unended v m
      → Stands s stop (bump (v.mine m) k) (v.step m)
  stands_step pl s stop k m f x h u = go (v.mine m) refl
    where
      same' : Agree (Area n place) (v.spaces (v.step m)) s
      same' l a = h.kept l a ∙ x.same l a

      go : (b : Bool) → v.mine m ≡ b → Stands s stop (bump b k) (v.step m)
      go false e = record { at = h.steady.rest e; upto = x.upto; same = same' }
      go true e = record {
        at = h.steady.goes e (u e) (let g = f.below in omega (arith, lt, g));
        upto = lt;
        same = same';
      }
        where
          clash : k ≡ stop → ⊥
          clash q = true≢false
              (sym (first_ends (meets place cond s) n stop f)
              ∙ sym (ap ended (answer pl s stop k m f.below x h e ∙ ap (outcome (meets place cond s) n) q))
              ∙ u e)

          lt : k < stop
          lt = let w = x.upto in omega (arith, w, clash)

  looks_now : (s : Spaces) (stop k : ℕ) (m : M) → First (meets place cond s) n stop → Stands s stop k m → Looking m → Looks k m
  looks_now s stop k m f x h = h k (let u = x.upto in let b = f.below in omega (arith, u, b)) x.at

  stands : (pl : Reads-at p n place At) (s : Spaces) (stop i k : ℕ) (m : M) → First (meets place cond s) n stop → Stands s stop k m
      → Every v.step Looking i m → Every v.step (Unended v) i m → Stands s stop (after v k i m) (iter v.step i m)
  stands pl s stop zero k m f x h u = x
  stands pl s stop (suc i) k m f x h u =
      stands pl s stop i (bump (v.mine m) k) (v.step m) f (stands_step pl s stop k m f x (looks_now s stop k m f x h.0) u.0) h.1 u.1

  pub search_ends : Reads-at p n place At → (stop i : ℕ) (m : M) → First (meets place cond (v.spaces m)) n stop → At zero (v.reg m)
      → Every v.step Looking (suc i) m → Every v.step (Unended v) i m → v.mine (iter v.step i m) ≡ true
      → Found v (meets place cond (v.spaces m)) n stop i m
  search_ends pl stop i m f a h u e = record {
    upto = x.upto;
    reasons = r;
    before = λ b. ap ended r ∙ before_first value n stop (done v i m) f b;
    at = λ q. ap ended (r ∙ ap (outcome value n) q) ∙ first_ends value n stop f;
    only = λ q. let c = not_below q in let w = x.upto in omega (arith, c, w);
  }
    where
      value : ℕ → Bool
      value = meets place cond (v.spaces m)

      x : Stands (v.spaces m) stop (done v i m) (iter v.step i m)
      x = stands pl (v.spaces m) stop i zero m f (record { at = a; upto = zero-le; same = λ l b. refl }) (every_init v.step Looking i m h) u

      r : v.ends (iter v.step i m) ≡ outcome value n (done v i m)
      r = answer pl (v.spaces m) stop (done v i m) (iter v.step i m) f.below x (looks_now (v.spaces m) stop (done v i m) (iter v.step i m) f x (every_at v.step Looking (suc i) m h i (omega arith))) e

      not_below : ended (v.ends (iter v.step i m)) ≡ true → ¬ (done v i m < stop)
      not_below q b = true≢false (sym q ∙ ap ended r ∙ before_first value n stop (done v i m) f b)
