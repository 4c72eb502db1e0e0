-- What the definitions have to do with counts of bits, and with each other: tests that antt computes at each of the 1,024 values.
-- Assumes nothing.
use mathlib.Core.Path.{◌≡◌, sym, ap, ap₂, ◌∙◌, subst}
use mathlib.Core.Bool.{Bool}
use Prim.Native.Nat.{ℕ, zero, suc, ◌+◌, ◌-◌, ◌/◌, ◌%◌, ◌^◌, ◌≤◌, ◌<◌}
use native.Mathlib.Omega.{arith}
use native.Mathlib.Numerals.{add-one}
use lib.Dec.{T, eqb, eqb→eq, leb, leb→le}
use lib.Arith.{lt-one}
use lib.Bits.{bit_and, and_le_l}
use lib.Pow.{shr_lt}
use lib.Count.{count_leading_zeros, ones, ones_in, ones_step}
use Rattle.facts.proofs.Below.{below, either, either_right}
use Rattle.facts.specs.Look.{look}
use Rattle.word_reload.specs.Reload.{above, next_of, entries, entry_of, rest_of, size_of, total, words_of}

leads : ℕ → Bool
leads n = eqb (count_leading_zeros 16 n) (6 + above 10 n)

pub leading : (n : ℕ) → n < 1024 → count_leading_zeros 16 n ≡ 6 + above 10 n
unfolding leads count_leading_zeros above
leading n h = eqb→eq (count_leading_zeros 16 n) (6 + above 10 n) (below leads 1024 tt n h)

low : ℕ → Bool
low n = leb (above 10 n) 10

pub next_le : (left : ℕ) → next_of left ≤ 10
unfolding low above next_of
next_le left = leb→le (above 10 (left % 1024)) 10 (below low 1024 tt (left % 1024) (omega arith))

-- a number of d digits is counted in d of them
digits : (d n : ℕ) → n < 2 ^ d → ones n ≡ ones_in d n
unfolding ones ones_in
digits zero n h = ap ones (lt-one h)
digits (suc d) n h = ones_step n ∙ ap (λ (x : ℕ). n % 2 + x) (digits d (n / 2) (shr_lt d 1 (subst (λ (x : ℕ). n < 2 ^ x) (sym (add-one d)) h)))

counts : ℕ → Bool
counts n = eqb (ones_in 10 n + ones_in 10 (bit_and n 875)) (total 10 entries n)

pub counted : (n : ℕ) → n < 1024 → ones n + ones (bit_and n 875) ≡ total 10 entries n
unfolding counts ones_in
counted n h =
    ap₂ (λ (x y : ℕ). x + y) (digits 10 n h) (digits 10 (bit_and n 875) (omega (arith, h, and_le_l n 875)))
    ∙ eqb→eq (ones_in 10 n + ones_in 10 (bit_and n 875)) (total 10 entries n) (below counts 1024 tt n h)

halves : ℕ → Bool
halves e = eqb (511 / 2 ^ e) (2 ^ (9 - e) - 1)

-- the mask of the bits below that of the entry at place e
pub lows : (e : ℕ) → e < 11 → 511 / 2 ^ e ≡ 2 ^ (9 - e) - 1
unfolding halves
lows e h = eqb→eq (511 / 2 ^ e) (2 ^ (9 - e) - 1) (below halves 11 tt e h)

-- a table with entries is as long as its first entry and the table of the rest
parts : ℕ → Bool
parts n = eqb (words_of n) (size_of (entry_of n) + words_of (rest_of n))

firsts : ℕ → Bool
firsts n = either (eqb n 0) (parts n)

every_first : (n : ℕ) → n < 1024 → T (firsts n)
unfolding firsts parts above look next_of entry_of rest_of words_of
every_first n h = below firsts 1024 tt n h

some_parts : (n : ℕ) → n < 1024 → 0 < n → T (parts n)
unfolding firsts
some_parts n h p = either_right (eqb n 0) (parts n) (λ z. omega (arith, eqb→eq n 0 z)) (every_first n h)

pub first_and_rest : (left : ℕ) → left < 1024 → 0 < left → words_of left ≡ size_of (entry_of left) + words_of (rest_of left)
unfolding parts
first_and_rest left h p = eqb→eq (words_of left) (size_of (entry_of left) + words_of (rest_of left)) (some_parts left h p)
