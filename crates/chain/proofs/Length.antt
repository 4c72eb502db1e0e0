-- Document 01, "Chaining": each fetch of a chain is one word of its table, from the reload word to the last. Assumes nothing.
use mathlib.Core.Path.{◌≡◌, refl, sym, ap, ◌∙◌}
use mathlib.Core.Bool.{Bool, true, false, not, ◌&&◌, true≢false}
use Prim.Native.Nat.{ℕ, suc, ◌%◌, ◌<◌}
use native.Mathlib.Omega.{arith}
use lib.Dec.{eqb}
use borrow.Author.Tests.{eqb-true, eqb-false}
use Rattle.std.specs.Prelude.{Option, Some}
use Rattle.word_tag.specs.Tag.{kept_chain}
use Rattle.word_reload.specs.declared.Entry.{Entry}
use Rattle.word_reload.specs.declared.Progress.{Progress}
use Rattle.word_reload.specs.declared.Stage.{Stage}
use Rattle.word_reload.specs.declared.Stage.TheVariants.{Reload, Entries}
use Rattle.word_reload.specs.Reload.{entry_of, rest_of, is_pair, words_of}
use Rattle.word_reload.specs.Length.{words_left, words_from, words_after, Proper, ProperStage, ProperNext}
use Rattle.word_reload.proofs.Length.{some_words, words_low, rest_lt, words_by, left_by_lem}
use Rattle.channel.specs.declared.Channel.{Channel}
use Rattle.chain.specs.Chaining.{goes_on, next_of, is_chain_address, load_reload, load_first_by, load_last_by, load_entry_by, load_entry, fetched_of}

-- what follows a fetch, where there were so many words before it
pub record Follows (words : ℕ) (n : Option Progress) : Type 0 where
  pub falls : suc (words_after n) ≡ words
  pub proper : ProperNext n

no_words : words_of 0 ≡ 1
unfolding words_of
no_words = refl

from_first : (left : ℕ) → left < 1024 → Follows (words_of left) (next_of left)
unfolding next_of
from_first left h = go (eqb left 0) refl
  where
    go : (b : Bool) → eqb left 0 ≡ b → Follows (words_of left) (goes_on left b)
    go true e = record { falls = sym (ap words_of (eqb-true left 0 e) ∙ no_words); proper = tt }
    go false e = record {
      falls = omega (arith, some_words left);
      proper = record { some = omega (arith, eqb-false left 0 e); bits = h; pair = λ s. absurd (true≢false (sym s)) };
    }

module _ (p : Progress) (h : Proper p) (w : ℕ) (c : Channel) where
  abbrev e : Entry
  e = entry_of p.left

  second_comes : is_pair e ≡ true → p.second ≡ false → (upper : ℕ) → Follows (words_left p) (Some (record { left = p.left; second = true; upper = upper }))
  second_comes i s upper = record {
    falls = omega (arith, words_by p h true i, left_by_lem p h false s, some_words (rest_of p.left));
    proper = record { some = h.some; bits = h.bits; pair = λ x. i };
  }

  first_word : is_pair e ≡ true → p.second ≡ false → (address : Bool) → Follows (words_left p) (load_first_by address e p.left w c).next
  first_word i s true = second_comes i s (kept_chain w)
  first_word i s false = second_comes i s 0

  rest_comes : words_of (rest_of p.left) ≡ words_left p → Follows (words_left p) (next_of (rest_of p.left))
  rest_comes q = let f = from_first (rest_of p.left) (rest_lt p.left h.bits) in record { falls = f.falls ∙ q; proper = f.proper }

  last_word : words_of (rest_of p.left) ≡ words_left p → (address : Bool) → Follows (words_left p) (load_last_by address e p w c).next
  last_word q true = rest_comes q
  last_word q false = rest_comes q

  entry_follows : (two second : Bool) → is_pair e ≡ two → p.second ≡ second → Follows (words_left p) (load_entry_by (two && not second) e p w c).next
  entry_follows true false i s = first_word i s (is_chain_address e)
  entry_follows true true i s = last_word (omega (arith, words_by p h true i, left_by_lem p h true s)) (is_chain_address e)
  entry_follows false false i s = last_word (omega (arith, words_by p h false i, left_by_lem p h false s)) (is_chain_address e)
  entry_follows false true i s = absurd (true≢false (sym (h.pair s) ∙ i))

-- Each fetch makes the words that are left fewer by one, and leaves the chain complete or at a proper stage.
pub fetch_follows : (s : Stage) → ProperStage s → (w : ℕ) (c : Channel) → Follows (words_from s w) (fetched_of s w c).next
unfolding fetched_of load_reload load_entry
fetch_follows Reload h w c = let f = from_first (w % 1024) (omega arith) in record { falls = f.falls ∙ words_low w; proper = f.proper }
fetch_follows (Entries p) h w c = entry_follows p h w _ (is_pair (entry_of p.left)) p.second refl refl
