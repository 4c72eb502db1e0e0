-- Of the n units that a count means, the one that reaches 0 is the last. Assumes nothing.
use Rattle.std.proofs.Common.{◌≡◌, ℕ, zero, suc, ◌-◌, ◌%◌, ◌<◌, ◌≤◌, eqb, sym, refl, ◌∙◌, arith, eq-eqb, ne_eqb}
use native.Mathlib.Decide.{ℕ_discrete}
use lib.Dec.{eqb-suc-zero}
use Rattle.unit_count.specs.Count.{fewer, units, terminal}

-- after k of n units the count is n - k
pub fewer_left : (n k : ℕ) → n ≤ 65536 → k < n → fewer ((n - k) % 65536) ≡ (n - suc k) % 65536
fewer_left n k h b = omega arith

pub last_terminal : (n k : ℕ) → n ≤ 65536 → k < n → terminal (fewer ((n - k) % 65536)) ≡ eqb (suc k) n
last_terminal n k h b = go (ℕ_discrete (suc k) n)
  where
    go : Dec (suc k ≡ n) → terminal (fewer ((n - k) % 65536)) ≡ eqb (suc k) n
    go (yes e) = eq-eqb (fewer ((n - k) % 65536)) 0 (omega arith) ∙ sym (eq-eqb (suc k) n e)
    go (no d) = ne_eqb (fewer ((n - k) % 65536)) 0 (λ z. d (omega arith)) ∙ sym (ne_eqb (suc k) n d)

-- there are some, and 0000 stands for 65,536
pub units_some : (count : ℕ) → count < 65536 → (0 < units count) × (units count ≤ 65536)
units_some zero h = omega arith
units_some (suc count) h = rw eqb-suc-zero (omega arith)

pub units_mod : (count : ℕ) → count < 65536 → units count % 65536 ≡ count
units_mod zero h = refl
units_mod (suc count) h = rw eqb-suc-zero (omega arith)
