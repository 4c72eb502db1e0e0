-- A table's rule: one test that antt computes over all entries, and what it says of each. Assumes nothing.
use mathlib.Core.Path.{◌≡◌}
use mathlib.Core.List.{List, [], ◌∷◌, map}
use Prim.Native.Nat.{ℕ, zero, suc, ◌+◌, ◌<◌}
use native.Mathlib.Nat.{add-zero, zero-add, add-suc, suc-add, le_of_suc-le-suc, not-suc-le-zero}
use lib.ListN.{length, get_or}

module _ {A : Type 0} where
  -- what the rule gives at each entry's place, counted from i
  abbrev pub ruled : (ℕ → A) → ℕ → List ℕ → List A
  ruled rule i [] = []
  ruled rule i (x ∷ xs) = rule i ∷ ruled rule (suc i) xs

  from : (meaning rule : ℕ → A) (xs : List ℕ) (i : ℕ) → map meaning xs ≡ ruled rule i xs → (k : ℕ) → k < length xs → meaning (get_or xs k 0) ≡ rule (i + k)
  from meaning rule [] i t k h = absurd (not-suc-le-zero h)
  from meaning rule (x ∷ xs) i t zero h = rw add-zero (cc)
  from meaning rule (x ∷ xs) i t (suc k) h = rw (add-suc, ← suc-add i k) (from meaning rule xs (suc i) (cc) k (le_of_suc-le-suc h))

  pub each : (meaning rule : ℕ → A) (xs : List ℕ) → map meaning xs ≡ ruled rule 0 xs → (k : ℕ) → k < length xs → meaning (get_or xs k 0) ≡ rule k
  each meaning rule xs t k h = rw zero-add at (from meaning rule xs 0 t k h)
