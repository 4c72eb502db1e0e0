-- Document 01, "Chaining": how many words of a chain are still to be fetched, and where a chain can stand. Assumes nothing.
use mathlib.Core.Path.{◌≡◌, refl, sym, ap, ◌∙◌}
use mathlib.Core.Bool.{Bool, true, false, cond, true≢false}
use Prim.Native.Nat.{ℕ, ◌+◌, ◌-◌, ◌%◌, ◌^◌, ◌≤◌, ◌<◌}
use native.Mathlib.Nat.{mod-le}
use native.Mathlib.Omega.{arith}
use lib.Dec.{leb, leb→le}
use Rattle.facts.proofs.Below.{below}
use Rattle.word_reload.specs.declared.Progress.{Progress}
use Rattle.word_reload.specs.Reload.{next_of, entries, entry_of, rest_of, is_pair, total, words_of}
use Rattle.word_reload.proofs.Laws.{first_and_rest}
use Rattle.word_reload.specs.Length.{words_left, Proper}

-- ---- a table's length

one_more : (n : ℕ) → 0 < 1 + n
one_more n = omega arith

pub some_words : (r : ℕ) → 0 < words_of r
unfolding words_of
some_words r = one_more (total 10 entries (r % 1024))

short : ℕ → Bool
short n = leb (1 + total 10 entries n) 18

-- a chain has at most 18 words
pub words_of_le : (r : ℕ) → words_of r ≤ 18
unfolding words_of short
words_of_le r = leb→le (1 + total 10 entries (r % 1024)) 18 (below short 1024 tt (r % 1024) (omega arith))

-- bits 15-10 mean nothing
pub words_low : (r : ℕ) → words_of (r % 1024) ≡ words_of r
unfolding words_of
words_low r = ap (λ (n : ℕ). 1 + total 10 entries n) (omega arith)

pub rest_lt : (left : ℕ) → left < 1024 → rest_of left < 1024
unfolding rest_of
rest_lt left h = omega (arith, mod-le left (2 ^ (9 - next_of left)))

module _ (p : Progress) (h : Proper p) where
  -- by whether the next entry has two words, and by whether its second comes
  pub words_by : (two : Bool) → is_pair (entry_of p.left) ≡ two → words_of p.left ≡ cond two 2 1 + words_of (rest_of p.left)
  words_by two e = first_and_rest p.left h.bits h.some ∙ ap (λ (b : Bool). cond b 2 1 + words_of (rest_of p.left)) e

  pub left_by_lem : (second : Bool) → p.second ≡ second → words_left p ≡ words_of p.left - cond second 2 1
  left_by_lem second e = ap (λ (b : Bool). words_of p.left - cond b 2 1) e

  -- where a chain is not complete, a word comes
  pub some_left : 0 < words_left p
  some_left = go (is_pair (entry_of p.left)) p.second refl refl
    where
      go : (two second : Bool) → is_pair (entry_of p.left) ≡ two → p.second ≡ second → 0 < words_left p
      go true true i s = omega (arith, words_by true i, left_by_lem true s, some_words (rest_of p.left))
      go true false i s = omega (arith, words_by true i, left_by_lem false s, some_words (rest_of p.left))
      go false false i s = omega (arith, words_by false i, left_by_lem false s, some_words (rest_of p.left))
      go false true i s = absurd (true≢false (sym (h.pair s) ∙ i))
