-- What the fields of a tag word and the 24-bit address have to do with each other. Assumes nothing.
use mathlib.Core.Path.{◌≡◌, ap}
use Prim.Native.Nat.{ℕ, ◌/◌, ◌%◌, ◌<◌}
use native.Mathlib.Omega.{arith}
use Rattle.space.specs.declared.Width.{Width}
use Rattle.stepping.specs.Stepping.{step_size, direction, moved}
use Rattle.stepping.proofs.Laws.{moved_lt}
use Rattle.word_address.specs.declared.Address.{Address}
use Rattle.word_tag.specs.Tag.{kept_tag, kept_chain, is_memory, direction_of, waits, waits_of}
use Rattle.word_address.specs.Address.{number, with_number, stepped_on, SixteenBits}

pub number_lt : (a : Address) → SixteenBits a → number a < 16777216
number_lt a h = let u = h.upper in let l = h.lower in omega arith

-- an address that is put into a register is read from it
pub number_back : (a : Address) (n : ℕ) → n < 16777216 → number (with_number a n) ≡ n
number_back a n h = omega arith

-- another address changes no field
pub memory_with : (a : Address) (n : ℕ) → is_memory (with_number a n).upper ≡ is_memory a.upper
memory_with a n = let e : (with_number a n).upper / 64 % 2 ≡ a.upper / 64 % 2 = omega arith in rw e

pub direction_with : (a : Address) (n : ℕ) → direction_of (with_number a n).upper ≡ direction_of a.upper
unfolding direction_of
direction_with a n = let e : (with_number a n).upper / 8 % 4 ≡ a.upper / 8 % 4 = omega arith in ap direction e

-- for request E7: nor its waits
pub waits_with : (a : Address) (n : ℕ) → waits_of (with_number a n).upper ≡ waits_of a.upper
unfolding waits_of
waits_with a n = let e : (with_number a n).upper / 2 % 4 ≡ a.upper / 2 % 4 = omega arith in ap waits e

pub words_with_lem : (a : Address) (n : ℕ) → SixteenBits (with_number a n)
words_with_lem a n = record { upper = omega arith; lower = omega arith }

-- what is kept is kept as it is
pub kept_kept : (w : ℕ) → kept_tag (kept_tag w) ≡ kept_tag w
kept_kept w = omega arith

pub kept_with : (a : Address) (n : ℕ) → kept_tag a.upper ≡ a.upper → kept_tag (with_number a n).upper ≡ (with_number a n).upper
kept_with a n h = omega arith

pub chain_chain : (w : ℕ) → kept_chain (kept_chain w) ≡ kept_chain w
chain_chain w = omega arith

pub chain_with_lem : (a : Address) (n : ℕ) → kept_chain a.upper ≡ a.upper → kept_chain (with_number a n).upper ≡ (with_number a n).upper
chain_with_lem a n h = omega arith

-- the address steps, and stays one of 24 bits
pub number_stepped : (w : Width) (a : Address) → SixteenBits a
    → number (stepped_on w a) ≡ moved 16777216 (direction_of a.upper) (step_size (is_memory a.upper) w) (number a)
unfolding stepped_on
number_stepped w a h = number_back a _ (moved_lt 16777216 (direction_of a.upper) (step_size (is_memory a.upper) w) (number a) (number_lt a h))
