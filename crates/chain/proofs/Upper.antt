-- Document 02, E5: what a fetch tells of bits 23-16 of the chain address. Assumes nothing.
use mathlib.Core.Path.{◌≡◌, refl, sym, ap, ◌∙◌}
use mathlib.Core.Bool.{Bool, true, false, not, cond, ◌&&◌, true≢false}
use Prim.Native.Nat.{ℕ}
use Rattle.word_address.specs.Address.{fetched_on, step_to}
use Rattle.word_reload.specs.declared.Entry.{Entry}
use Rattle.word_reload.specs.declared.Progress.{Progress}
use Rattle.word_reload.specs.declared.Stage.TheVariants.{Reload, Entries}
use Rattle.word_reload.specs.Reload.{entry_of, is_pair}
use Rattle.channel.specs.declared.Channel.{Channel}
use Rattle.chain.specs.Chaining.{changes_upper, is_chain_address, load_reload, load_first_by, load_last_by, load_entry_by, load_entry, fetched_of}
use Rattle.chain.proofs.CodeLaws.{is_address}

module _ (e : Entry) (p : Progress) (w : ℕ) (c : Channel) where
  first_tells : (address : Bool) → (load_first_by address e p.left w c).upper ≡ changes_upper c
  first_tells true = refl
  first_tells false = refl

  last_tells : (address : Bool) → (load_last_by address e p w c).upper ≡ cond address false (changes_upper c)
  last_tells true = refl
  last_tells false = refl

  entry_tells : (first : Bool) → (load_entry_by first e p w c).upper ≡ cond first (changes_upper c) (cond (is_chain_address e) false (changes_upper c))
  entry_tells true = first_tells (is_chain_address e)
  entry_tells false = last_tells (is_chain_address e)

-- a chain address has two words, so the one that is not the first is the second
only_second : (address two second k : Bool) → (address ≡ true → two ≡ true) → cond (two && not second) k (cond address false k) ≡ cond (address && second) false k
only_second true true true k h = refl
only_second true true false k h = refl
only_second false true true k h = refl
only_second false true false k h = refl
only_second true false second k h = absurd (true≢false (sym (h refl)))
only_second false false second k h = refl

module _ (w : ℕ) (c : Channel) where
  pub reload_tells : (fetched_of Reload w c).upper ≡ (step_to c.chain (fetched_on c.chain)).upper
  unfolding fetched_of load_reload changes_upper
  reload_tells = refl

  -- where the new chain address takes the old one's place nothing steps
  pub entries_tell : (p : Progress) → (fetched_of (Entries p) w c).upper ≡ cond (is_chain_address (entry_of p.left) && p.second) false (step_to c.chain (fetched_on c.chain)).upper
  unfolding fetched_of load_entry changes_upper
  entries_tell p =
      let e = entry_of p.left in
      entry_tells e p w _ (is_pair e && not p.second)
      ∙ only_second (is_chain_address e) (is_pair e) p.second _ (λ h. ap is_pair (is_address e h))
