-- The accesses made of their calls' answers.
use mathlib.Core.Path.{◌≡◌, refl, sym, ap}
use mathlib.Core.Bool.{Bool, true, false}
use Prim.Native.Nat.{ℕ, ◌+◌}
use native.Mathlib.Omega.{arith}
use mir.Val.{bool_byte}
use Rattle.facts.specs.Bits.{bit_if}
use Rattle.space.specs.declared.Width.{Width}
use Rattle.space.specs.declared.Width.TheVariants.{Byte, Word}
use Rattle.space.specs.Space.{Spaces, read_at, written}
use Rattle.space.proofs.Laws.{value_read, value_written}
use Rattle.unit_count.specs.Count.{fewer}
use Rattle.unit_funnel.specs.Funnel.{joined, first_half, second_half}
use Rattle.word_address.specs.declared.Address.{Address}
use Rattle.word_address.specs.declared.AddressStep.{AddressStep}
use Rattle.word_address.specs.declared.Set.{Set}
use Rattle.word_address.specs.Address.{place_of, stepped_on, step_to, source_of, destination_of, order_of}
use Rattle.word_operation.specs.declared.Moves.TheVariants.{Transfer, Search, Funnel}
use Rattle.unit_accesses.specs.Accesses.{Effect, set_of, done_as, datum_at, stored_at, stepped_set, upper_changes, accessed}

-- registers, a datum, a number of changes and spaces
abbrev left : Set → ℕ → ℕ → Spaces → Effect
left s v k z = done_as (record { set = s; datum = v; upper = k }) z

-- a flag as a number
pub flag_bit : (b : Bool) → bool_byte b ≡ bit_if b 1
flag_bit true = refl
flag_bit false = refl

-- how many of three steps changed bits 23-16
abbrev pub of_three : Bool → Bool → Bool → ℕ
of_three x y t = bit_if x 1 + bit_if y 1 + bit_if t 1

-- the same, of the accesses' lists
of_one : (x : Bool) → of_three x false false ≡ (bit_if x 1 + 0) + 0
of_one x = omega arith

of_two : (x y : Bool) → of_three x y false ≡ (bit_if x 1 + 0) + (bit_if y 1 + 0)
of_two x y = omega arith

of_bytes_first : (x y t : Bool) → of_three x y t ≡ (bit_if x 1 + (bit_if y 1 + 0)) + (bit_if t 1 + 0)
of_bytes_first x y t = omega arith

of_word_first : (x y t : Bool) → of_three x y t ≡ (bit_if x 1 + 0) + (bit_if y 1 + (bit_if t 1 + 0))
of_word_first x y t = omega arith

pub transfer_made : (flip : Bool) (s : Set) (w : Width) (z z' : Spaces) (from to : Address) (from' to' : AddressStep) (v : ℕ) (n : Set) (k : ℕ)
    → from ≡ source_of flip s → (v ≡ read_at w z (place_of from)) × (from' ≡ step_to from (stepped_on w from))
    → to ≡ destination_of flip s → (to' ≡ step_to to (stepped_on w to)) × (z' ≡ written w z (place_of to) v)
    → n ≡ set_of flip from'.next to'.next (fewer s.count) → k ≡ of_three from'.upper to'.upper false
    → left n v k z' ≡ accessed (Transfer w) flip s z
unfolding accessed stepped_set upper_changes datum_at stored_at
transfer_made flip s w z z' from to from' to' v n k ef er et ew en ek =
    rw (ek, of_two from'.upper to'.upper, en, ew.1, ew.0, er.1, er.0, et, ef, value_read, value_written)

pub search_made : (flip : Bool) (s : Set) (w : Width) (z : Spaces) (from to : Address) (from' : AddressStep) (v : ℕ) (n : Set) (k : ℕ)
    → from ≡ source_of flip s → (v ≡ read_at w z (place_of from)) × (from' ≡ step_to from (stepped_on w from))
    → to ≡ destination_of flip s → n ≡ set_of flip from'.next to (fewer s.count) → k ≡ of_three from'.upper false false
    → left n v k z ≡ accessed (Search w) flip s z
unfolding accessed stepped_set upper_changes datum_at stored_at
search_made flip s w z from to from' v n k ef er et en ek = rw (ek, of_one from'.upper, en, er.1, er.0, et, ef, value_read)

pub bytes_made : (s : Set) (z z' : Spaces) (x y v : ℕ) (half next to : AddressStep) (high : Bool) (n : Set) (k : ℕ)
    → (x ≡ read_at Byte z (place_of s.a)) × (half ≡ step_to s.a (stepped_on Byte s.a))
    → (y ≡ read_at Byte z (place_of half.next)) × (next ≡ step_to half.next (stepped_on Byte half.next))
    → high ≡ order_of s → v ≡ joined high x y → (to ≡ step_to s.b (stepped_on Word s.b)) × (z' ≡ written Word z (place_of s.b) v)
    → n ≡ set_of false next.next to.next (fewer s.count) → k ≡ of_three half.upper next.upper to.upper
    → left n v k z' ≡ accessed Funnel false s z
unfolding accessed stepped_set upper_changes datum_at stored_at
bytes_made s z z' x y v half next to high n k e₁ e₂ eh ev ew en ek =
    rw (ek, of_bytes_first half.upper next.upper to.upper, en, ew.1, ew.0, ev, e₂.1, e₂.0, e₁.1, e₁.0, eh)
    (ap (left _ _ _) (sym (value_written Word z (place_of s.b) _)))

pub word_made : (s : Set) (z z₁ z₂ : Spaces) (high : Bool) (v x y : ℕ) (next half to : AddressStep) (n : Set) (k : ℕ)
    → high ≡ order_of s → (v ≡ read_at Word z (place_of s.b)) × (next ≡ step_to s.b (stepped_on Word s.b)) → x ≡ first_half high v
    → (half ≡ step_to s.a (stepped_on Byte s.a)) × (z₁ ≡ written Byte z (place_of s.a) x) → y ≡ second_half high v
    → (to ≡ step_to half.next (stepped_on Byte half.next)) × (z₂ ≡ written Byte z₁ (place_of half.next) y)
    → n ≡ set_of true next.next to.next (fewer s.count) → k ≡ of_three next.upper half.upper to.upper
    → left n v k z₂ ≡ accessed Funnel true s z
unfolding accessed stepped_set upper_changes datum_at stored_at
word_made s z z₁ z₂ high v x y next half to n k eh er ex e₁ ey e₂ en ek =
    rw (ek, of_word_first next.upper half.upper to.upper, en, e₂.1, e₂.0, ey, e₁.1, e₁.0, ex, er.1, er.0, eh)
    (rw (← value_read Word z (place_of s.b)))
