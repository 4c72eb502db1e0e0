-- What is done again and again while it goes on: how a loop that counts its turns finds it. Assumes nothing.
use Prim.Native.Nat.{ℕ, zero, suc, ◌+◌, ◌-◌, ◌<◌, ◌≤◌}
use native.Mathlib.Omega.{arith}
use native.Mathlib.Numerals.{add-one}
use mathlib.Core.Path.{◌≡◌, refl, sym, ap, subst, ◌∙◌}
use mathlib.Core.Bool.{Bool, true, false, cond, ◌&&◌, true≢false}
use lib.Dec.{ltb}
use borrow.Author.Tests.{ltb-true, ltb-false}
use Rattle.facts.specs.Rows.{Row, Repeats, in_a_row}

-- one more than before at least, and no more than may be
pub counted : {S R : Type 0} (t : Repeats S R) (n j : ℕ) (s : S) → (j < (in_a_row t n j s).count) × ((in_a_row t n j s).count ≤ j + n + 1)
unfolding in_a_row
counted t zero j s = (omega arith, omega arith)
counted {S} {R} t (suc n) j s =
    let k = counted t n (suc j) (t.next s (t.result s)) in
    go (t.follows s (t.result s)) (in_a_row t n (suc j) (t.next s (t.result s))) k.0 k.1
  where
    go : (b : Bool) (x : Row R) → suc j < x.count → x.count ≤ suc j + n + 1
        → (j < (cond b x (record { last = t.result s; count = suc j })).count) × ((cond b x (record { last = t.result s; count = suc j })).count ≤ j + suc n + 1)
    go true x g h = (omega arith, omega arith)
    go false x g h = (omega arith, omega arith)

-- ---- a loop with a limit

-- where it stands: what is left gives what the whole gives, or the last result is it
abbrev pub LoopAt : {S R : Type 0} → Repeats S R → ℕ → Row R → Bool → ℕ → S → R → Type 0
LoopAt t n all true i s r = (i ≤ n) × (in_a_row t (n - i) i s ≡ all)
LoopAt t n all false i s r = record { last = r; count = i } ≡ all

pub begun : {S R : Type 0} (t : Repeats S R) (n : ℕ) (s : S) → (0 ≤ n) × (in_a_row t (n - 0) 0 s ≡ in_a_row t n 0 s)
begun t n s = (omega arith, ap (λ (k : ℕ). in_a_row t k 0 s) (omega arith))

module _ {S R : Type 0} (t : Repeats S R) (limit i : ℕ) (all : Row R) (s : S) (r : R) (h : i ≤ limit - 1) (e : in_a_row t (limit - 1 - i) i s ≡ all) (k : r ≡ t.result s) where
  last_one : limit ≤ i + 1 → record { last = r; count = i + 1 } ≡ all
  unfolding in_a_row
  last_one g =
      let d : limit - 1 - i ≡ 0 = omega arith in
      (λ j. record { last = k j; count = add-one i j }) ∙ sym (ap (λ (x : ℕ). in_a_row t x i s) d) ∙ e

  by_follows : i + 1 ≤ limit - 1 → cond (t.follows s r) (in_a_row t (limit - 1 - (i + 1)) (i + 1) (t.next s r)) (record { last = r; count = i + 1 }) ≡ all
  unfolding in_a_row
  by_follows g =
      let d : limit - 1 - i ≡ suc (limit - 1 - (i + 1)) = omega arith in
      (λ j. cond (t.follows s (k j)) (in_a_row t (limit - 1 - (i + 1)) (add-one i j) (t.next s (k j))) (record { last = k j; count = add-one i j }))
      ∙ sym (ap (λ (x : ℕ). in_a_row t x i s) d)
      ∙ e

  by_test : (b : Bool) → ltb (i + 1) limit ≡ b → (f : Bool) → f ≡ t.follows s r → LoopAt t (limit - 1) all (b && f) (i + 1) (t.next s r) r
  by_test false q f ef = last_one (ltb-false (i + 1) limit q)
  by_test true q true ef =
      let g : i + 1 ≤ limit - 1 = omega (arith, ltb-true (i + 1) limit q) in
      (g, (λ j. cond (ef j) (in_a_row t (limit - 1 - (i + 1)) (i + 1) (t.next s r)) (record { last = r; count = i + 1 })) ∙ by_follows g)
  by_test true q false ef =
      let g : i + 1 ≤ limit - 1 = omega (arith, ltb-true (i + 1) limit q) in
      (λ j. cond (ef j) (in_a_row t (limit - 1 - (i + 1)) (i + 1) (t.next s r)) (record { last = r; count = i + 1 })) ∙ by_follows g

  -- one turn of the loop
  pub turn : (f : Bool) (v : S) → f ≡ t.follows s r → v ≡ t.next s r → LoopAt t (limit - 1) all (ltb (i + 1) limit && f) (i + 1) v r
  turn f v ef ev = subst (λ (x : S). LoopAt t (limit - 1) all (ltb (i + 1) limit && f) (i + 1) x r) (sym ev) (by_test (ltb (i + 1) limit) refl f ef)

module _ {S R : Type 0} (t : Repeats S R) (n : ℕ) (all : Row R) (i : ℕ) (s : S) (r : R) where
  pub on_yet : (on : Bool) → on ≡ true → LoopAt t n all on i s r → LoopAt t n all true i s r
  on_yet true e x = x
  on_yet false e x = absurd (true≢false (sym e))

  pub all_done : (on : Bool) → on ≡ false → LoopAt t n all on i s r → LoopAt t n all false i s r
  all_done true e x = absurd (true≢false e)
  all_done false e x = x

pub fewer_left : (on more : Bool) (limit i : ℕ) → on ≡ true → i ≤ limit - 1 → cond more (limit + 1 - (i + 1)) 0 < cond on (limit + 1 - i) 0
fewer_left true true limit i e h = omega arith
fewer_left true false limit i e h = omega arith
fewer_left false more limit i e h = absurd (true≢false (sym e))
