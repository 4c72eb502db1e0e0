-- An address register stepped k times, as the line of places of the laws. Assumes nothing.
use mathlib.Core.Path.{◌≡◌, refl, sym, ap, ◌∙◌}
use Prim.Native.Nat.{ℕ, zero, suc, ◌+◌, ◌/◌, ◌%◌}
use native.Mathlib.Omega.{arith}
use Rattle.space.specs.declared.Width.{Width}
use Rattle.space.specs.Space.{place_at}
use Rattle.stepping.specs.Stepping.{step_size, moved}
use Rattle.stepping.proofs.Laws.{step_size_le, moved_rises}
use Rattle.unit_laws.specs.Pace.{pace}
use Rattle.unit_laws.proofs.Pace.{pace_start, pace_step}
use Rattle.unit_funnel.specs.Funnel.{high_first}
use Rattle.word_address.specs.declared.Address.{Address}
use Rattle.word_tag.specs.Tag.{is_memory, direction_of}
use Rattle.word_address.specs.Address.{number, with_number, place_of, stepped_on, SixteenBits}
use Rattle.word_address.proofs.Laws.{number_lt, memory_with, direction_with, words_with_lem, number_stepped}
use Rattle.promises.specs.Paced.{stepped, line}

upper_with : (a : Address) (n : ℕ) → high_first (with_number a n).upper ≡ high_first a.upper
upper_with a n = let e : (with_number a n).upper / 8 % 2 ≡ a.upper / 8 % 2 = omega arith in rw e

-- the register after k steps: its fields stay, and its address paces on
pub record PacedAt (d : Width) (x : Address) (k : ℕ) : Type 0 where
  pub words : SixteenBits (stepped d k x)
  pub memory : is_memory (stepped d k x).upper ≡ is_memory x.upper
  pub direction : direction_of (stepped d k x).upper ≡ direction_of x.upper
  pub order : high_first (stepped d k x).upper ≡ high_first x.upper
  pub at : number (stepped d k x) ≡ pace (number x) (line d x).by k

one_step : (d : Width) (x : Address) (k : ℕ) → PacedAt d x k → number (stepped_on d (stepped d k x)) ≡ pace (number x) (line d x).by (suc k)
one_step d x k h =
    number_stepped d (stepped d k x) h.words
    ∙ (λ i. moved 16777216 (h.direction i) (step_size (h.memory i) d) (number (stepped d k x)))
    ∙ moved_rises 16777216 (direction_of x.upper) (step_size (is_memory x.upper) d) (number (stepped d k x)) (omega (arith, step_size_le (is_memory x.upper) d)) (number_lt (stepped d k x) h.words)
    ∙ ap (λ (n : ℕ). (n + (line d x).by) % 16777216) h.at
    ∙ pace_step (number x) (line d x).by k

after_step : (d : Width) (x : Address) (k : ℕ) → PacedAt d x k → PacedAt d x (suc k)
unfolding stepped_on
after_step d x k h = record {
  words = words_with_lem (stepped d k x) _;
  memory = memory_with (stepped d k x) _ ∙ h.memory;
  direction = direction_with (stepped d k x) _ ∙ h.direction;
  order = upper_with (stepped d k x) _ ∙ h.order;
  at = one_step d x k h;
}

pub stands : (d : Width) (x : Address) → SixteenBits x → (k : ℕ) → PacedAt d x k
stands d x h zero = record { words = h; memory = refl; direction = refl; order = refl; at = sym (pace_start (number x) (line d x).by (number_lt x h)) }
stands d x h (suc k) = after_step d x k (stands d x h k)

-- the place of the register after k steps
pub place_is : (d : Width) (x : Address) → SixteenBits x → (k : ℕ) → place_of (stepped d k x) ≡ place_at (line d x).tag (pace (line d x).start (line d x).by k)
unfolding place_of
place_is d x h k = λ i. place_at ((stands d x h k).memory i) ((stands d x h k).at i)
