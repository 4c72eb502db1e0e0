-- Laws of what is put at a text's end, and of a number's digits. Assumes nothing.
use Prim.Native.Nat.{ℕ, zero, suc, ◌+◌, ◌-◌, ◌/◌, ◌%◌, ◌^◌, ◌<◌, ◌≤◌}
use mathlib.Core.Path.{◌≡◌, refl, ap}
use mathlib.Core.Logic.{inl, inr}
use mathlib.Core.List.{List, [], ◌∷◌, ◌++◌, append_assoc, append-nil}
use native.Mathlib.Omega.{arith}
use native.Mathlib.Nat.{pow-suc, sub-zero, min-le_left}
use lib.ListN.{length, take, length-take}
use lib.Seq.{take_all}
use borrow.Author.Tests.{lt-ltb, le-ltb}
use Rattle.std.specs.Prelude.{min, decimal}
use Rattle.std.proofs.lemmas.Bool.{cases_lt}
use Rattle.std.proofs.lemmas.List.{take_min}
use Rattle.std.proofs.lemmas.Fmt.{decimal_digit, decimal_step}
use Rattle.text_print.specs.declared.text.Text.{Text}
use Rattle.text_print.specs.Text.{written, appended, digits_of, decimal_of}

cut_twice : (n : ℕ) (a b : List ℕ) → take n (take n a ++ b) ≡ take n (a ++ b)
cut_twice zero a b = refl
cut_twice (suc n) [] b = refl
cut_twice (suc n) (x ∷ a) b = ap (λ (l : List ℕ). x ∷ l) (cut_twice n a b)

-- what is put behind what was put is put at once
pub twice : (w a b : List ℕ) → appended (appended w a) b ≡ appended w (a ++ b)
unfolding appended
twice w a b = rw (← append_assoc w a b) (cut_twice 96 (w ++ a) b)

-- a text holds no more than its room
pub room : (t : Text) → appended (written t) [] ≡ written t
unfolding appended written
room t = rw append-nil (take_all 96 t.bytes.items t.fits)

filled_to : (n : ℕ) (held s : List ℕ) → length held ≤ n → held ++ take (n - length held) s ≡ take n (held ++ s)
filled_to n [] s h = rw (sub-zero n)
filled_to (suc n) (x ∷ held) s h =
    let e : suc n - suc (length held) ≡ n - length held = omega arith in
    rw e (ap (λ (l : List ℕ). x ∷ l) (filled_to n held s (omega arith)))
filled_to zero (x ∷ held) s h = absurd (omega arith)

-- as much as there is room for
pub filled : (held s : List ℕ) (r : ℕ) → r + length held ≡ 96 → held ++ take (min r (length s)) s ≡ appended held s
unfolding appended
filled held s r e =
    let is : r ≡ 96 - length held = omega arith in
    rw (take_min r s, is) (filled_to 96 held s (omega arith))

pub fits : (held s : List ℕ) (r : ℕ) → r + length held ≡ 96 → length held + length (take (min r (length s)) s) ≤ 96
fits held s r e = rw take_min (omega (arith, length-take r s, min-le_left r (length s)))

-- a number's digits are std's
digits_are : (k n : ℕ) → n < 2 ^ 64 → n < 10 ^ suc k → decimal n ≡ digits_of k n
unfolding digits_of
digits_are zero n h small =
    let e : n % 10 ≡ n = omega arith in
    rw e (decimal_digit n (omega arith))
digits_are (suc k) n h small = elim (cases_lt n 10) [
  | inr l ↦
      let fewer : n / 10 < 10 ^ suc k = omega (arith, pow-suc 10 (suc k)) in
      rw (le-ltb n 10 l, decimal_step n l h, digits_are k (n / 10) (omega arith) fewer)
  | inl l ↦ rw (lt-ltb n 10 l, decimal_digit n l)
]

pub decimal_is : (n : ℕ) → n < 2 ^ 64 → decimal n ≡ decimal_of n
unfolding decimal_of
decimal_is n h = digits_are 19 n h (omega arith)
