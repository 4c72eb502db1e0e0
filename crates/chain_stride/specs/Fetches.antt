-- Words of a chain that are fetched one after another: each is a fetch of document 01, "Chaining". Assumes nothing.
use Rattle.std.specs.Prelude.{ℕ, Bool, true, false, List, None, Option, Some}
use Rattle.facts.specs.Rows.{Row, Repeats, in_a_row}
use Rattle.space.specs.declared.Width.TheVariants.{Word}
use Rattle.space.specs.Space.{value_in}
use Rattle.word_address.specs.Address.{number}
use Rattle.channel.specs.declared.Channel.{Channel}
use Rattle.word_reload.specs.declared.Stage.{Stage}
use Rattle.word_reload.specs.declared.Stage.TheVariants.{Entries}
use Rattle.chain.specs.declared.Loaded.{Loaded}
use Rattle.chain.specs.Chaining.{fetched_of}
use Rattle.chain_stride.specs.declared.Fetched.{Fetched}
use Rattle.word_reload.specs.declared.Progress.{Progress}

abbrev pub goes_on : Option Progress → Bool
goes_on (Some p) = true
goes_on None = false

abbrev pub stage_after : Option Progress → Stage → Stage
stage_after (Some p) stage = Entries p
stage_after None stage = stage

-- a channel, and the stage of its chain
pub record FetchAt : Type 0 where
  pub stage : Stage
  pub channel : Channel

abbrev pub fetch_turns : List ℕ → Repeats FetchAt Loaded
fetch_turns m = record {
  result = λ s. fetched_of s.stage (value_in Word m (number s.channel.chain)) s.channel;
  follows = λ s l. goes_on l.next;
  next = λ s l. record { stage = stage_after l.next s.stage; channel = l.channel };
}

abbrev pub fetched_as : Fetched → Row Loaded
fetched_as r = record { last = record { channel = r.channel; next = r.next; upper = r.upper }; count = r.words }

-- With `done` words fetched, one, and of up to `more` each that follows.
abbrev pub fetches_of : List ℕ → ℕ → ℕ → Stage → Channel → Row Loaded
fetches_of m more done stage c = in_a_row (fetch_turns m) more done (record { stage = stage; channel = c })
