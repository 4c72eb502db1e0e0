-- Document 01, "Chaining" and "Registers": one word to a register of a channel. Absent bits are dropped.
-- Assumes nothing.
use Rattle.std.specs.Prelude.{ℕ, ◌%◌, Bool, true, false}
use Rattle.word_reload.specs.declared.Entry.{Entry}
use Rattle.word_reload.specs.declared.Entry.TheVariants.{CurrentA, CurrentB, CurrentCount, BaseA, BaseB, BaseCount, PatternAndMask, Vector, Mode, ChainAddress, Nothing}
use Rattle.word_address.specs.declared.Address.{Address}
use Rattle.word_address.specs.declared.Set.{Set}
use Rattle.word_tag.specs.Tag.{kept_tag, kept_chain}
use Rattle.word_mode.specs.Mode.{kept_high}
use Rattle.channel.specs.declared.Channel.{Channel}
use Rattle.channel.specs.Set.{◌⟨current≔◌⟩, ◌⟨base≔◌⟩, ◌⟨pattern≔◌⟩, ◌⟨mask≔◌⟩, ◌⟨mode≔◌⟩, ◌⟨interrupt≔◌⟩, ◌⟨vector≔◌⟩, ◌⟨chain≔◌⟩}

-- Upper before lower.
abbrev pub address_with : Bool → ℕ → Address → Address
address_with false w a = record { upper = kept_tag w; lower = a.lower }
address_with true w a = record { upper = a.upper; lower = w }

abbrev pub with_a : Bool → ℕ → Set → Set
with_a second w s = record { a = address_with second w s.a; b = s.b; count = s.count }

abbrev pub with_b : Bool → ℕ → Set → Set
with_b second w s = record { a = s.a; b = address_with second w s.b; count = s.count }

abbrev pub with_count : ℕ → Set → Set
with_count w s = record { a = s.a; b = s.b; count = w }

-- Pattern before mask.
abbrev pub compare_with : Bool → ℕ → Channel → Channel
compare_with false w c = c ⟨pattern≔ w ⟩
compare_with true w c = c ⟨mask≔ w ⟩

-- Mode high before mode low.
abbrev pub mode_with : Bool → ℕ → Channel → Channel
mode_with false w c = c ⟨mode≔ record { high = kept_high w; low = c.mode.low } ⟩
mode_with true w c = c ⟨mode≔ record { high = c.mode.high; low = w } ⟩

abbrev pub chain_with : Bool → ℕ → Channel → Channel
chain_with false w c = c ⟨chain≔ record { upper = kept_chain w; lower = c.chain.lower } ⟩
chain_with true w c = c ⟨chain≔ record { upper = c.chain.upper; lower = w } ⟩

-- the first or only word, or the second, of an entry
unfoldable pub loaded : Entry → Bool → ℕ → Channel → Channel
loaded CurrentA second w c = c ⟨current≔ with_a second w c.current ⟩
loaded CurrentB second w c = c ⟨current≔ with_b second w c.current ⟩
loaded CurrentCount second w c = c ⟨current≔ with_count w c.current ⟩
loaded BaseA second w c = c ⟨base≔ with_a second w c.base ⟩
loaded BaseB second w c = c ⟨base≔ with_b second w c.base ⟩
loaded BaseCount second w c = c ⟨base≔ with_count w c.base ⟩
loaded PatternAndMask second w c = compare_with second w c
loaded Vector second w c = c ⟨interrupt≔ c.interrupt ⟨vector≔ w % 256 ⟩ ⟩
loaded Mode second w c = mode_with second w c
loaded ChainAddress second w c = chain_with second w c
loaded Nothing second w c = c
