-- Document 01, "Chaining" and points P1 to P3: a chain makes exactly as many fetches as its table is long. Assumes nothing.
use Rattle.std.specs.Prelude.{◌≡◌, List, ℕ, None}
use Rattle.facts.specs.Rows.{Row}
use Rattle.space.specs.declared.Width.TheVariants.{Word}
use Rattle.space.specs.Space.{value_in}
use Rattle.word_address.specs.Address.{number}
use Rattle.channel.specs.declared.Channel.{Channel}
use Rattle.chain.specs.declared.Loaded.{Loaded}

-- the word of a chain that is fetched next
abbrev pub word_at : List ℕ → Channel → ℕ
word_at m c = value_in Word m (number c.chain)

pub record WholeChain (words : ℕ) (r : Row Loaded) : Type 0 where
  pub count : r.count ≡ words
  pub complete : r.last.next ≡ None
