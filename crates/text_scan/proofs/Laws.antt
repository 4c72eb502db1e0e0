-- Laws of the loop that reads a number. Assumes nothing.
use Prim.Native.Nat.{ℕ, suc, ◌+◌, ◌<◌, ◌≤◌}
use mathlib.Core.Path.{◌≡◌, refl}
use mathlib.Core.List.{List, [], ◌∷◌}
use native.Mathlib.Numerals.{add-one}
use native.Mathlib.Omega.{arith}
use lib.ListN.{length, drop, get_or}
use lib.Seq.{drop-cons}
use Rattle.std.specs.Prelude.{None, Some}
use Rattle.facts.proofs.Lists.{drop_none}
use Rattle.text_scan.specs.Numbers.{digit_of, with_digit, digits_from, number_of}

module _ (base value : ℕ) (s : List ℕ) (i : ℕ) where
  pub digit_on : {d : ℕ} → i < length s → digit_of base (get_or s i 0) ≡ Some d
      → digits_from base value (drop i s) ≡ digits_from base (with_digit value base d) (drop (i + 1) s)
  unfolding digits_from
  digit_on h e = rw (drop-cons s i 0 h, e, add-one)

  pub digit_ends : i < length s → digit_of base (get_or s i 0) ≡ None → digits_from base value (drop i s) ≡ None
  unfolding digits_from
  digit_ends h e = rw (drop-cons s i 0 h, e)

  pub digit_none : length s ≤ i → digits_from base value (drop i s) ≡ Some value
  unfolding digits_from
  digit_none h = rw (drop_none i s h)

pub number_none : (base : ℕ) (s : List ℕ) → length s ≡ 0 → number_of base s ≡ None
unfolding number_of
number_none base [] e = refl
number_none base (b ∷ bs) e = let z : suc (length bs) ≡ 0 = e in absurd (omega arith)

pub number_some : (base : ℕ) (s : List ℕ) → (length s ≡ 0 → ⊥) → number_of base s ≡ digits_from base 0 s
unfolding number_of
number_some base [] n = absurd (n refl)
number_some base (b ∷ bs) n = refl
