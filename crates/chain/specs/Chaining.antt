-- Document 01, "Chaining": one word of a chain, and what comes after it. Assumes nothing.
use Rattle.std.specs.Prelude.{ℕ, ◌%◌, Bool, true, false, not, cond, ◌&&◌, eqb, None, Option, Some}
use Rattle.word_tag.specs.Tag.{kept_chain}
use Rattle.word_address.specs.Address.{fetched_on, step_to}
use Rattle.word_reload.specs.declared.Entry.{Entry}
use Rattle.word_reload.specs.declared.Entry.TheVariants.{CurrentA, CurrentB, CurrentCount, BaseA, BaseB, BaseCount, PatternAndMask, Vector, Mode, ChainAddress, Nothing}
use Rattle.word_reload.specs.Reload.{entry_of, rest_of, is_pair}
use Rattle.channel.specs.declared.Channel.{Channel}
use Rattle.channel.specs.Set.{◌⟨chain≔◌⟩, ◌⟨status≔◌⟩, ◌⟨ca≔◌⟩, ◌⟨nac≔◌⟩, ◌⟨line≔◌⟩, ◌⟨change≔◌⟩, ◌⟨pending≔◌⟩}
use Rattle.channel_loading.specs.Loading.{loaded}
use Rattle.word_reload.specs.declared.Progress.{Progress}
use Rattle.word_reload.specs.declared.Stage.{Stage}
use Rattle.word_reload.specs.declared.Stage.TheVariants.{Reload, Entries}
use Rattle.chain.specs.declared.Loaded.{Loaded}

-- Each fetch adds 2 ..
unfoldable pub advanced : Channel → Channel
advanced c = c ⟨chain≔ fetched_on c.chain ⟩

-- .. and, by document 02, E5, hands on whether bits 23-16 of the chain address changed.
unfoldable pub changes_upper : Channel → Bool
changes_upper c = (step_to c.chain (fetched_on c.chain)).upper

-- The chain goes on with the entries that are left, from the first word of the next; or its last word has been fetched.
abbrev pub goes_on : ℕ → Bool → Option Progress
goes_on left true = None
goes_on left false = Some (record { left = left; second = false; upper = 0 })

unfoldable pub next_of : ℕ → Option Progress
next_of left = goes_on left (eqb left 0)

abbrev pub is_chain_address : Entry → Bool
is_chain_address CurrentA = false
is_chain_address CurrentB = false
is_chain_address CurrentCount = false
is_chain_address BaseA = false
is_chain_address BaseB = false
is_chain_address BaseCount = false
is_chain_address PatternAndMask = false
is_chain_address Vector = false
is_chain_address Mode = false
is_chain_address ChainAddress = true
is_chain_address Nothing = false

-- The reload word is fetched first; bits 15-10 mean nothing.
unfoldable pub load_reload : ℕ → Channel → Loaded
load_reload w c = record { channel = advanced c; next = next_of (w % 1024); upper = changes_upper c }

-- The first word of two. Until both words of a new chain address are fetched, the old one is used and read.
abbrev pub load_first_by : Bool → Entry → ℕ → ℕ → Channel → Loaded
load_first_by true e left w c = record { channel = advanced c; next = Some (record { left = left; second = true; upper = kept_chain w }); upper = changes_upper c }
load_first_by false e left w c = record { channel = loaded e false w (advanced c); next = Some (record { left = left; second = true; upper = 0 }); upper = changes_upper c }

-- The second word of two, or the only one. A new chain address takes the old one's place unstepped.
abbrev pub load_last_by : Bool → Entry → Progress → ℕ → Channel → Loaded
load_last_by true e p w c = record { channel = c ⟨chain≔ record { upper = p.upper; lower = w } ⟩; next = next_of (rest_of p.left); upper = false }
load_last_by false e p w c = record { channel = loaded e p.second w (advanced c); next = next_of (rest_of p.left); upper = changes_upper c }

abbrev pub load_entry_by : Bool → Entry → Progress → ℕ → Channel → Loaded
load_entry_by true e p w c = load_first_by (is_chain_address e) e p.left w c
load_entry_by false e p w c = load_last_by (is_chain_address e) e p w c

unfoldable pub load_entry : Entry → Progress → ℕ → Channel → Loaded
load_entry e p w c = load_entry_by (is_pair e && not p.second) e p w c

-- what comes after a word of another entry than the chain address
abbrev pub after_register : Entry → Progress → Option Progress
after_register e p = cond (is_pair e && not p.second) (Some (record { left = p.left; second = true; upper = 0 })) (next_of (rest_of p.left))

abbrev pub load_of : Stage → ℕ → Channel → Loaded
load_of Reload w c = load_reload w c
load_of (Entries p) w c = load_entry (entry_of p.left) p w c

-- The last fetch of a chain clears the stored change.
abbrev pub settled_by : Option Progress → Channel → Channel
settled_by (Some p) c = c
settled_by None c = c ⟨line≔ c.line ⟨change≔ false ⟩ ⟩

-- A channel whose chain is under way has none pending.
unfoldable pub fetched_of : Stage → ℕ → Channel → Loaded
fetched_of stage w c = let l = load_of stage w (c ⟨pending≔ false ⟩) in record { channel = settled_by l.next l.channel; next = l.next; upper = l.upper }

-- EOP with a chain fetch, the first too: nothing is loaded, the chain address stays, the chain is dropped, CA and NAC are set.
unfoldable pub dropped_of : Channel → Channel
dropped_of c = c ⟨status≔ c.status ⟨ca≔ true ⟩ ⟨nac≔ true ⟩ ⟩ ⟨pending≔ false ⟩
