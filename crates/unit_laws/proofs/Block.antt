-- A block moved unit by unit, among other things that keep away from it: each unit's data arrive.
-- Assumes nothing.
use mathlib.Core.Path.{◌≡◌, refl, sym, ap, ◌∙◌, subst}
use mathlib.Core.Logic.{inl, inr, ◌≢◌}
use mathlib.Core.Bool.{Bool, true, false}
use Prim.Native.Nat.{ℕ, zero, suc, ◌+◌, ◌*◌, ◌≤◌, ◌<◌}
use native.Mathlib.Nat.{not-suc-le-zero, mul-le-mul_right}
use native.Mathlib.Decide.{ℕ_discrete}
use native.Mathlib.Omega.{arith}
use mathlib.Core.List.{List, [], ◌∷◌}
use Rattle.space.specs.declared.Place.{Place}
use Rattle.space.specs.Space.{Spaces, get, put, Inside, SameSize}
use Rattle.space.specs.Bytes.{gets}
use Rattle.space.proofs.Laws.{get_put_same, size_refl, size_trans, size_sym, size_put, inside_size}
use Rattle.unit_laws.specs.Local.{In, Agree, Prog, Write, puts, places}
use Rattle.unit_laws.proofs.Local.{gets_agree, puts_keeps, size_puts}
use Rattle.unit_laws.specs.Machine.{iter, Every}
use Rattle.unit_laws.proofs.Machine.{every_at, every_init}
use Rattle.unit_laws.specs.Op.{Seen, bump, after, done, Area}
use Rattle.unit_laws.proofs.Op.{Unended, seen_data, Steady, Reads-at, datum}
use Rattle.unit_laws.specs.Block.{Distinct, AllInside, Laid, Both}

-- ---- a list of writes, read back

-- what the writes store
abbrev pub values : List Write → List ℕ → List ℕ
values [] d = []
values (w ∷ ws) d = w.what d ∷ values ws d

pub gets_puts : (ws : List Write) (d : List ℕ) (s : Spaces) → Distinct (places ws) → AllInside s (places ws)
    → gets (puts ws d s) (places ws) ≡ values ws d
gets_puts [] d s h b = refl
gets_puts (w ∷ ws) d s h b = λ i. top i ∷ gets_puts ws d s' h.1 inside' i
  where
    s' : Spaces
    s' = put s w.to (w.what d)

    top : get (puts ws d s') w.to ≡ w.what d
    top = puts_keeps ws d s' w.to h.0 ∙ get_put_same s w.to (w.what d) (b w.to (inl refl))

    inside' : AllInside s' (places ws)
    inside' l k = inside_size l (size_sym (size_put s w.to (w.what d))) (b l (inr k))

-- ---- places laid out by a function: unit k writes the w places from number k * w on

abbrev pub strip : (ℕ → Place) → ℕ → ℕ → List Place
strip at i zero = []
strip at i (suc w) = at i ∷ strip at (suc i) w

in_strip : (at : ℕ → Place) (l : Place) (i w : ℕ) → In l (strip at i w) → (q : ℕ) × (i ≤ q) × (q < i + w) × (l ≡ at q)
in_strip at l i zero h = absurd h
in_strip at l i (suc w) (inl e) = (i, omega arith, omega arith, e)
in_strip at l i (suc w) (inr h) = let r = in_strip at l (suc i) w h in (r.0, (let b = r.1 in omega arith), (let b = r.2 in omega arith), r.3)

strip_distinct : (at : ℕ → Place) (n i w : ℕ) → ((i j : ℕ) → i < n → j < n → at i ≡ at j → i ≡ j) → i + w ≤ n → Distinct (strip at i w)
strip_distinct at n i zero inj b = tt
strip_distinct at n i (suc w) inj b = (
  (λ h. let r = in_strip at (at i) (suc i) w h in
      let lo = r.1 in let hi = r.2 in let e : i ≡ r.0 = inj i r.0 (omega arith) (omega arith) r.3 in omega arith),
  strip_distinct at n (suc i) w inj (omega arith),
)

pub record Strips (n w : ℕ) (src : ℕ → List Place) (dst : ℕ → List Write) (at : ℕ → Place) (s : Spaces) : Type 0 where
  pub lists : (k : ℕ) → k < n → places (dst k) ≡ strip at (k * w) w
  pub distinct : (i j : ℕ) → i < n * w → j < n * w → at i ≡ at j → i ≡ j
  pub inside : (i : ℕ) → i < n * w → Inside s (at i)
  pub unread : (l : Place) → Area n src l → (i : ℕ) → i < n * w → l ≢ at i

-- unit k's places end where unit k + 1's begin
block_end : (j k w : ℕ) → j < k → j * w + w ≤ k * w
block_end j k w h = let b : suc j * w ≤ k * w = mul-le-mul_right w h in omega arith

strips_in : (n w : ℕ) (src : ℕ → List Place) (dst : ℕ → List Write) (at : ℕ → Place) (s : Spaces) → Strips n w src dst at s
    → (k : ℕ) → k < n → (l : Place) → In l (places (dst k)) → (q : ℕ) × (k * w ≤ q) × (q < k * w + w) × (l ≡ at q) × (q < n * w)
strips_in n w src dst at s h k b l i =
    let r = in_strip at l (k * w) w (subst (In l) (h.lists k b) i) in
    let e = block_end k n w b in let hi = r.2 in
    (r.0, r.1, r.2, r.3, omega arith)

pub laid_strips : (n w : ℕ) (src : ℕ → List Place) (dst : ℕ → List Write) (at : ℕ → Place) (s : Spaces) → Strips n w src dst at s → Laid n src dst s
laid_strips n w src dst at s h = record {
  within = λ k b. subst Distinct (sym (h.lists k b)) (strip_distinct at (n * w) (k * w) w h.distinct (block_end k n w b));
  between = λ j k a b ne l i i'. apart j k ne (strips_in n w src dst at s h j a l i) (strips_in n w src dst at s h k b l i');
  unread = λ l a t. let r = strips_in n w src dst at s h t.0 t.1 l t.2 in h.unread l a r.0 r.4 r.3;
  inside = λ k b l i. let r = strips_in n w src dst at s h k b l i in subst (Inside s) (sym r.3) (h.inside r.0 r.4);
}
  where
    apart : {l : Place} (j k : ℕ) → j ≢ k → (q : ℕ) × (j * w ≤ q) × (q < j * w + w) × (l ≡ at q) × (q < n * w)
        → (q : ℕ) × (k * w ≤ q) × (q < k * w + w) × (l ≡ at q) × (q < n * w) → ⊥
    apart j k ne r r' =
        let e : r.0 ≡ r'.0 = h.distinct r.0 r'.0 r.4 r'.4 (sym r.3 ∙ r'.3) in
        let x : ¬ (j < k) = λ b. let d = block_end j k w b in let u = r.2 in let o = r'.1 in omega arith in
        let y : ¬ (k < j) = λ b. let d = block_end k j w b in let u = r'.2 in let o = r.1 in omega arith in
        ne (omega arith)

module _ (n : ℕ) (src : ℕ → List Place) (dst : ℕ → List Write) where
  -- k units are done: their data have arrived, and what is still to be read is as it was
  pub record Arrived (s : Spaces) (k : ℕ) (t : Spaces) : Type 0 where
    pub there : (j : ℕ) → j < k → gets t (places (dst j)) ≡ values (dst j) (gets s (src j))
    pub same : Agree (Area n src) t s
    pub sizes : SameSize t s

  arrived_kept : (s t u : Spaces) (k : ℕ) → k ≤ n → Arrived s k t → SameSize u t → Agree (Both n src dst) u t → Arrived s k u
  arrived_kept s t u k b x e h = record {
    there = λ j c. gets_agree (places (dst j)) u t (λ l i. h l (inr (j, omega (arith, b, c), i))) ∙ x.there j c;
    same = λ l a. h l (inl a) ∙ x.same l a;
    sizes = size_trans e x.sizes;
  }

  arrived_unit : (s t : Spaces) (k : ℕ) → Laid n src dst s → k < n → Arrived s k t → Arrived s (suc k) (puts (dst k) (gets s (src k)) t)
  arrived_unit s t k y b x = record {
    there = λ j c. go j c (ℕ_discrete j k);
    same = λ l a. puts_keeps (dst k) (gets s (src k)) t l (λ i. y.unread l a (k, b, i)) ∙ x.same l a;
    sizes = size_trans (size_puts (dst k) (gets s (src k)) t) x.sizes;
  }
    where
      u : Spaces
      u = puts (dst k) (gets s (src k)) t

      here : gets u (places (dst k)) ≡ values (dst k) (gets s (src k))
      here = gets_puts (dst k) (gets s (src k)) t (y.within k b) (λ l i. inside_size l (size_sym x.sizes) (y.inside k b l i))

      go : (j : ℕ) → j < suc k → Dec (j ≡ k) → gets u (places (dst j)) ≡ values (dst j) (gets s (src j))
      go j c (yes e) = subst (λ (q : ℕ). gets u (places (dst q)) ≡ values (dst q) (gets s (src q))) (sym e) here
      go j c (no e) =
          gets_agree (places (dst j)) u t (λ l i. puts_keeps (dst k) (gets s (src k)) t l (y.between j k (omega arith) b e l i))
          ∙ x.there j (omega arith)

module _ {M R : Type 0} (v : Seen M R) (p : Prog R) (n : ℕ) (src : ℕ → List Place) (dst : ℕ → List Write) (At : ℕ → R → Type 0) where
  -- a step of the machine: a unit of the channel does its writes to the areas, and nothing else changes them
  pub record Carries (k : ℕ) (m : M) : Type 0 where
    pub steady : Steady v n At k m
    pub sizes : SameSize (v.spaces (v.step m)) (v.spaces m)
    pub moved : v.mine m ≡ true → Agree (Both n src dst) (v.spaces (v.step m)) (puts (p.writes (v.reg m)) (seen_data v p m) (v.spaces m))
    pub kept : v.mine m ≡ false → Agree (Both n src dst) (v.spaces (v.step m)) (v.spaces m)

  -- each step does so, if the operation stands before unit k
  abbrev pub Carrying : M → Type 0
  Carrying m = (k : ℕ) → k < n → At k (v.reg m) → Carries k m

  abbrev pub Writes-at : Type 0
  Writes-at = (k : ℕ) (r : R) → k < n → At k r → p.writes r ≡ dst k

  record CarriedTo (s : Spaces) (k : ℕ) (m : M) : Type 0 where
    at : At k (v.reg m)
    below : k < n
    so_far : Arrived n src dst s k (v.spaces m)

  -- the unit itself
  unit_step : Reads-at p n src At → Writes-at → (s : Spaces) (k : ℕ) (m : M) → Laid n src dst s → CarriedTo s k m → Carries k m → v.mine m ≡ true
      → Arrived n src dst s (suc k) (v.spaces (v.step m))
  unit_step pl wa s k m y x h e =
      arrived_kept n src dst s (puts (dst k) (gets s (src k)) (v.spaces m)) (v.spaces (v.step m)) (suc k) x.below
      (arrived_unit n src dst s (v.spaces m) k y x.below x.so_far)
      (size_trans h.sizes (size_sym (size_puts (dst k) (gets s (src k)) (v.spaces m))))
      (λ l a. h.moved e l a ∙ ap (λ (z : Spaces). get z l) same_puts)
    where
      same_puts : puts (p.writes (v.reg m)) (seen_data v p m) (v.spaces m) ≡ puts (dst k) (gets s (src k)) (v.spaces m)
      same_puts = λ i. puts (wa k (v.reg m) x.below x.at i)
          (datum p n src At pl k (v.reg m) s (v.spaces m) x.below x.at x.so_far.same i) (v.spaces m)

  going_step : Reads-at p n src At → Writes-at → (s : Spaces) (k : ℕ) (m : M) → Laid n src dst s → CarriedTo s k m → Carries k m → Unended v m
      → bump (v.mine m) k < n → CarriedTo s (bump (v.mine m) k) (v.step m)
  going_step pl wa s k m y x h u b = go (v.mine m) refl b
    where
      go : (c : Bool) → v.mine m ≡ c → bump c k < n → CarriedTo s (bump c k) (v.step m)
      go false e q = record {
        at = h.steady.rest e;
        below = q;
        so_far = arrived_kept n src dst s (v.spaces m) (v.spaces (v.step m)) k (let w = x.below in omega (arith, w)) x.so_far h.sizes (h.kept e);
      }
      go true e q = record {
        at = h.steady.goes e (u e) q;
        below = q;
        so_far = unit_step pl wa s k m y x h e;
      }

  bump_le : (c : Bool) (k : ℕ) → k ≤ bump c k
  bump_le true k = omega arith
  bump_le false k = omega arith

  after_le : (k i : ℕ) (m : M) → k ≤ after v k i m
  after_le k zero m = omega arith
  after_le k (suc i) m = let h = after_le (bump (v.mine m) k) i (v.step m) in let g = bump_le (v.mine m) k in omega (arith, h, g)

  going : Reads-at p n src At → Writes-at → (s : Spaces) (i k : ℕ) (m : M) → Laid n src dst s → CarriedTo s k m → Every v.step Carrying i m
      → Every v.step (Unended v) i m → after v k i m < n → CarriedTo s (after v k i m) (iter v.step i m)
  going pl wa s zero k m y x h u b = x
  going pl wa s (suc i) k m y x h u b =
      going pl wa s i (bump (v.mine m) k) (v.step m) y
      (going_step pl wa s k m y x (h.0 k x.below x.at) u.0 (let g = after_le (bump (v.mine m) k) i (v.step m) in omega (arith, g, b))) h.1 u.1 b

  -- after the step that is unit n, the last: all has arrived
  pub block_arrives : Reads-at p n src At → Writes-at → (i : ℕ) (m : M) → Laid n src dst (v.spaces m) → At zero (v.reg m)
      → Every v.step Carrying (suc i) m → Every v.step (Unended v) i m
      → v.mine (iter v.step i m) ≡ true → suc (done v i m) ≡ n
      → Arrived n src dst (v.spaces m) n (v.spaces (v.step (iter v.step i m)))
  block_arrives pl wa i m y a h u e q =
      subst (λ (k : ℕ). Arrived n src dst (v.spaces m) k (v.spaces (v.step (iter v.step i m)))) q
      (unit_step pl wa (v.spaces m) (done v i m) (iter v.step i m) y g
      (every_at v.step Carrying (suc i) m h i (omega arith) (done v i m) g.below g.at) e)
    where
      start : Arrived n src dst (v.spaces m) zero (v.spaces m)
      start = record { there = λ j c. absurd (not-suc-le-zero c); same = λ l b. refl; sizes = size_refl (v.spaces m) }

      g : CarriedTo (v.spaces m) (done v i m) (iter v.step i m)
      g = going pl wa (v.spaces m) i zero m y (record { at = a; below = omega arith; so_far = start }) (every_init v.step Carrying i m h) u (omega arith)
