-- An entry that is the chain address, and one that is not.
use Prim.Native.Nat.{ℕ}
use mathlib.Core.Path.{◌≡◌, refl, sym, ap, ◌∙◌}
use mathlib.Core.Bool.{Bool, true, false, not, cond, ◌&&◌, true≢false}
use Rattle.std.specs.Prelude.{Option, Some}
use Rattle.word_reload.specs.declared.Entry.{Entry}
use Rattle.word_reload.specs.declared.Entry.TheVariants.{CurrentA, CurrentB, CurrentCount, BaseA, BaseB, BaseCount, PatternAndMask, Vector, Mode, ChainAddress, Nothing}
use Rattle.word_reload.specs.Reload.{is_pair, rest_of}
use Rattle.channel.specs.declared.Channel.{Channel}
use Rattle.channel_loading.specs.Loading.{loaded}
use Rattle.word_reload.specs.declared.Progress.{Progress}
use Rattle.chain.specs.declared.Loaded.{Loaded}
use Rattle.chain.specs.Chaining.{advanced, changes_upper, next_of, is_chain_address, load_first_by, load_last_by, load_entry_by, load_entry, after_register}

pub is_address : (e : Entry) → is_chain_address e ≡ true → e ≡ ChainAddress
is_address CurrentA h = absurd (true≢false (sym h))
is_address CurrentB h = absurd (true≢false (sym h))
is_address CurrentCount h = absurd (true≢false (sym h))
is_address BaseA h = absurd (true≢false (sym h))
is_address BaseB h = absurd (true≢false (sym h))
is_address BaseCount h = absurd (true≢false (sym h))
is_address PatternAndMask h = absurd (true≢false (sym h))
is_address Vector h = absurd (true≢false (sym h))
is_address Mode h = absurd (true≢false (sym h))
is_address ChainAddress h = refl
is_address Nothing h = absurd (true≢false (sym h))

module _ (e : Entry) (p : Progress) (w : ℕ) (c : Channel) (b : Bool) (eb : b ≡ is_chain_address e) where
  pub address_loads : (r : Loaded) → b ≡ true → r ≡ load_entry ChainAddress p w c → r ≡ load_entry e p w c
  address_loads r h er = er ∙ sym (ap (λ (x : Entry). load_entry x p w c) (is_address e (sym eb ∙ h)))

  by_word : (two second : Bool) → p.second ≡ second → is_chain_address e ≡ false
      → record { channel = loaded e p.second w (advanced c); next = cond (two && not second) (Some (record { left = p.left; second = true; upper = 0 })) (next_of (rest_of p.left)); upper = changes_upper c }
      ≡ load_entry_by (two && not second) e p w c
  by_word true true q h = sym (λ i. load_last_by (h i) e p w c)
  by_word true false q h =
      (λ i. record { channel = loaded e (q i) w (advanced c); next = Some (record { left = p.left; second = true; upper = 0 }); upper = changes_upper c })
      ∙ sym (λ i. load_first_by (h i) e p.left w c)
  by_word false true q h = sym (λ i. load_last_by (h i) e p w c)
  by_word false false q h = sym (λ i. load_last_by (h i) e p w c)

  pub register_loads : (a d : Channel) (n : Option Progress) (k : Bool) → b ≡ false → (a ≡ advanced c) × (k ≡ changes_upper c) → d ≡ loaded e p.second w a → n ≡ after_register e p
      → record { channel = d; next = n; upper = k } ≡ load_entry e p w c
  unfolding load_entry
  register_loads a d n k h ea ed en =
      (λ i. record { channel = (ed ∙ ap (loaded e p.second w) ea.0) i; next = en i; upper = ea.1 i }) ∙ by_word (is_pair e) p.second refl (sym eb ∙ h)
