-- The registers that a unit leaves tell how many of its steps changed bits 23-16. Assumes nothing.
use mathlib.Core.Path.{◌≡◌, refl, sym, ap, ◌∙◌}
use mathlib.Core.Bool.{Bool, true, false, not}
use Prim.Native.Nat.{ℕ, ◌+◌, ◌*◌, ◌/◌, ◌≤◌}
use native.Mathlib.Omega.{arith}
use lib.Dec.{ltb}
use borrow.Author.Tests.{ltb-true, ltb-false, lt-ltb, le-ltb, le-leb, lt-leb, eq-eqb, ne_eqb}
use Rattle.facts.specs.Bits.{bit_if}
use Rattle.space.specs.declared.Width.{Width}
use Rattle.space.specs.declared.Width.TheVariants.{Byte, Word}
use Rattle.stepping.specs.Stepping.{step_size, Direction, Up, Down, Hold, moved}
use Rattle.stepping.proofs.Laws.{step_size_le}
use Rattle.word_tag.specs.Tag.{is_memory, direction_of}
use Rattle.word_address.specs.declared.Address.{Address}
use Rattle.word_address.specs.declared.Set.{Set}
use Rattle.word_address.specs.Address.{number, with_number, stepped_on, step_to, SixteenBits, SixteenBitsEach}
use Rattle.word_address.proofs.Laws.{memory_with, direction_with, words_with_lem}
use Rattle.word_operation.specs.declared.Moves.{Moves}
use Rattle.word_operation.specs.declared.Moves.TheVariants.{Transfer, Search, Funnel}
use Rattle.unit_accesses.specs.Accesses.{stepped_set, upper_changes}
use Rattle.unit_stride.specs.Behind.{over, came_over, size_at, changes_behind}

-- ---- one step

abbrev next : Direction → ℕ → Address → Address
next d by a = with_number a (moved 16777216 d by (number a))

module _ (by : ℕ) (a : Address) (h : SixteenBits a) (s : by ≤ 2) where
  up_one : (b : Bool) → ltb (a.lower + by) 65536 ≡ b → over Up by (next Up by a).lower ≡ (step_to a (next Up by a)).upper
  up_one true e =
      let l = ltb-true (a.lower + by) 65536 e in let u = h.upper in
      le-ltb (next Up by a).lower by (omega arith) ∙ sym (ap not (eq-eqb (a.upper / 256) ((next Up by a).upper / 256) (omega arith)))
  up_one false e =
      let l = ltb-false (a.lower + by) 65536 e in let u = h.upper in let k = h.lower in
      lt-ltb (next Up by a).lower by (omega arith) ∙ sym (ap not (ne_eqb (a.upper / 256) ((next Up by a).upper / 256) (λ q. omega arith)))

  down_one : (b : Bool) → ltb a.lower by ≡ b → over Down by (next Down by a).lower ≡ (step_to a (next Down by a)).upper
  down_one true e =
      let l = ltb-true a.lower by e in let u = h.upper in
      le-leb 65536 ((next Down by a).lower + by) (omega arith) ∙ sym (ap not (ne_eqb (a.upper / 256) ((next Down by a).upper / 256) (λ q. omega arith)))
  down_one false e =
      let l = ltb-false a.lower by e in let u = h.upper in let k = h.lower in
      lt-leb 65536 ((next Down by a).lower + by) (omega arith) ∙ sym (ap not (eq-eqb (a.upper / 256) ((next Down by a).upper / 256) (omega arith)))

  one_step : (d : Direction) → over d by (next d by a).lower ≡ (step_to a (next d by a)).upper
  one_step Up = up_one (ltb (a.lower + by) 65536) refl
  one_step Down = down_one (ltb a.lower by) refl
  one_step Hold = let u = h.upper in let k = h.lower in sym (ap not (eq-eqb (a.upper / 256) ((next Hold by a).upper / 256) (omega arith)))

-- ---- two steps: at most one of them changes bits 23-16

both_bits : {x y t : Bool} → (p q r : Bool) → x ≡ p → y ≡ q → t ≡ r → bit_if p 1 ≡ bit_if q 1 + bit_if r 1 → bit_if x 1 ≡ bit_if y 1 + bit_if t 1
both_bits p q r ex ey et e = ap (λ (b : Bool). bit_if b 1) ex ∙ e ∙ sym (λ i. bit_if (ey i) 1 + bit_if (et i) 1)

module _ (by : ℕ) (a : Address) (h : SixteenBits a) (s : by ≤ 2) where
  up_two : (b c : Bool) → ltb a.lower by ≡ b → ltb (a.lower + by) 65536 ≡ c
      → bit_if (over Up (2 * by) (next Up by a).lower) 1 ≡ bit_if (over Up by a.lower) 1 + bit_if (over Up by (next Up by a).lower) 1
  up_two true c e f =
      let l = ltb-true a.lower by e in
      both_bits true true false (lt-ltb (next Up by a).lower (2 * by) (omega arith)) e (le-ltb (next Up by a).lower by (omega arith)) refl
  up_two false true e f =
      let l = ltb-false a.lower by e in let k = ltb-true (a.lower + by) 65536 f in
      both_bits false false false (le-ltb (next Up by a).lower (2 * by) (omega arith)) e (le-ltb (next Up by a).lower by (omega arith)) refl
  up_two false false e f =
      let l = h.lower in let k = ltb-false (a.lower + by) 65536 f in
      both_bits true false true (lt-ltb (next Up by a).lower (2 * by) (omega arith)) e (lt-ltb (next Up by a).lower by (omega arith)) refl

  down_two : (b c : Bool) → ltb a.lower by ≡ b → ltb (a.lower + by) 65536 ≡ c
      → bit_if (over Down (2 * by) (next Down by a).lower) 1 ≡ bit_if (over Down by a.lower) 1 + bit_if (over Down by (next Down by a).lower) 1
  down_two true c e f =
      let l = ltb-true a.lower by e in
      both_bits true false true (le-leb 65536 ((next Down by a).lower + 2 * by) (omega arith)) (lt-leb 65536 (a.lower + by) (omega arith)) (le-leb 65536 ((next Down by a).lower + by) (omega arith)) refl
  down_two false true e f =
      let l = ltb-false a.lower by e in let k = ltb-true (a.lower + by) 65536 f in
      both_bits false false false (lt-leb 65536 ((next Down by a).lower + 2 * by) (omega arith)) (lt-leb 65536 (a.lower + by) (omega arith)) (lt-leb 65536 ((next Down by a).lower + by) (omega arith)) refl
  down_two false false e f =
      let l = ltb-false a.lower by e in let k = ltb-false (a.lower + by) 65536 f in let m = h.lower in
      both_bits true true false (le-leb 65536 ((next Down by a).lower + 2 * by) (omega arith)) (le-leb 65536 (a.lower + by) (omega arith)) (lt-leb 65536 ((next Down by a).lower + by) (omega arith)) refl

  -- the second, from the address that the first led to
  second_step : (d : Direction) → bit_if (over d (2 * by) (next d by a).lower) 1 ≡ bit_if (over d by a.lower) 1 + bit_if (over d by (next d by a).lower) 1
  second_step Up = up_two (ltb a.lower by) (ltb (a.lower + by) 65536) refl refl
  second_step Down = down_two (ltb a.lower by) (ltb (a.lower + by) 65536) refl refl
  second_step Hold = refl

-- ---- the registers after a unit

module _ (w : Width) (a : Address) (h : SixteenBits a) where
  after_one : came_over (size_at w (stepped_on w a)) (stepped_on w a) ≡ (step_to a (stepped_on w a)).upper
  unfolding stepped_on
  after_one =
      let d = direction_of a.upper in
      let by = step_size (is_memory a.upper) w in
      let n = moved 16777216 d by (number a) in
      (λ i. over (direction_with a n i) (step_size (memory_with a n i) w) (with_number a n).lower) ∙ one_step by a h (step_size_le (is_memory a.upper) w) d

pub stepped_words : (w : Width) (a : Address) → SixteenBits (stepped_on w a)
unfolding stepped_on
stepped_words w a = words_with_lem a _

-- the byte side, after its first step and after its second
module _ (a : Address) (h : SixteenBits a) where
  abbrev half : Address
  half = stepped_on Byte a

  abbrev by : ℕ
  by = step_size (is_memory half.upper) Byte

  second_is : over (direction_of half.upper) by (stepped_on Byte half).lower ≡ (step_to half (stepped_on Byte half)).upper
  unfolding stepped_on
  second_is = one_step by half (words_with_lem a _) (step_size_le (is_memory half.upper) Byte) (direction_of half.upper)

  both_are : bit_if (came_over (2 * size_at Byte (stepped_on Byte half)) (stepped_on Byte half)) 1
      ≡ bit_if (came_over (size_at Byte half) half) 1 + bit_if (over (direction_of half.upper) by (stepped_on Byte half).lower) 1
  unfolding stepped_on
  both_are =
      let n = moved 16777216 (direction_of half.upper) by (number half) in
      (λ i. bit_if (over (direction_with half n i) (2 * step_size (memory_with half n i) Byte) (with_number half n).lower) 1)
      ∙ second_step by half (words_with_lem a _) (step_size_le (is_memory half.upper) Byte) (direction_of half.upper)

  after_two : bit_if (came_over (2 * size_at Byte (stepped_on Byte half)) (stepped_on Byte half)) 1
      ≡ bit_if (step_to a half).upper 1 + bit_if (step_to half (stepped_on Byte half)).upper 1
  after_two = both_are ∙ (λ i. bit_if (after_one Byte a h i) 1 + bit_if (second_is i) 1)

-- a unit leaves registers of 16-bit words
pub stepped_set_lem : (m : Moves) (flip : Bool) (s : Set) → SixteenBitsEach s → SixteenBitsEach (stepped_set m flip s)
unfolding stepped_set
stepped_set_lem (Transfer w) true s h = record { a = stepped_words w s.a; b = stepped_words w s.b }
stepped_set_lem (Transfer w) false s h = record { a = stepped_words w s.a; b = stepped_words w s.b }
stepped_set_lem (Search w) true s h = record { a = h.a; b = stepped_words w s.b }
stepped_set_lem (Search w) false s h = record { a = stepped_words w s.a; b = h.b }
stepped_set_lem Funnel true s h = record { a = stepped_words Byte (stepped_on Byte s.a); b = stepped_words Word s.b }
stepped_set_lem Funnel false s h = record { a = stepped_words Byte (stepped_on Byte s.a); b = stepped_words Word s.b }

pub behind : (m : Moves) (flip : Bool) (s : Set) → SixteenBitsEach s → changes_behind m flip (stepped_set m flip s) ≡ upper_changes m flip s
unfolding stepped_set upper_changes
behind (Transfer w) true s h = (λ i. bit_if (after_one w s.a h.a i) 1 + bit_if (after_one w s.b h.b i) 1) ∙ omega arith
behind (Transfer w) false s h = (λ i. bit_if (after_one w s.a h.a i) 1 + bit_if (after_one w s.b h.b i) 1) ∙ omega arith
behind (Search w) true s h = (λ i. bit_if (after_one w s.b h.b i) 1) ∙ omega arith
behind (Search w) false s h = (λ i. bit_if (after_one w s.a h.a i) 1) ∙ omega arith
behind Funnel true s h = (λ i. after_two s.a h.a i + bit_if (after_one Word s.b h.b i) 1) ∙ omega arith
behind Funnel false s h = (λ i. after_two s.a h.a i + bit_if (after_one Word s.b h.b i) 1) ∙ omega arith
