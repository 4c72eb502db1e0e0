-- The state that 72 words stand for, whatever they hold: one field a word, in the order of `Store`. Assumes nothing.
use Rattle.std.specs.Prelude.{ℕ, ◌+◌, ◌%◌, Bool, not, List, [], ◌∷◌, eqb, get_or, Option}
use Rattle.facts.specs.Look.{look, find}
use Rattle.port.specs.declared.Which.TheVariants.{One, Two}
use Rattle.word_reload.specs.declared.Progress.{Progress}
use Rattle.word_reload.specs.declared.Stage.{Stage}
use Rattle.word_reload.specs.declared.Stage.TheVariants.{Reload, Entries}
use Rattle.channel.specs.declared.Channel.{Channel}
use Rattle.step.specs.declared.Controller.{Controller}
use Rattle.port.specs.declared.Which.{Which}

abbrev pub word : ℕ → List ℕ → ℕ
word k w = get_or w k 0

-- Any value but 0 is set.
abbrev pub flag : ℕ → Bool
flag n = not (eqb n 0)

unfoldable pub stage_of : ℕ → Progress → Stage
stage_of t p = look Reload t ((1, Entries p) ∷ [])

unfoldable pub chain_of : ℕ → Stage → Option (Which × Stage)
chain_of t s = find t ((1, (One, s)) ∷ (2, (Two, s)) ∷ [])

-- Of the words of the bus and of the channel served last any but 1 and 2 is none.
unfoldable pub channel_of : ℕ → Option Which
channel_of t = find t ((1, One) ∷ (2, Two) ∷ [])

abbrev pub channel_at : ℕ → List ℕ → Channel
channel_at at w = record { current = record { a = record { upper = word at w; lower = word (at + 1) w }; b = record { upper = word (at + 2) w; lower = word (at + 3) w }; count = word (at + 4) w }; base = record { a = record { upper = word (at + 5) w; lower = word (at + 6) w }; b = record { upper = word (at + 7) w; lower = word (at + 8) w }; count = word (at + 9) w }; pattern = word (at + 10) w; mask = word (at + 11) w; mode = record { high = word (at + 12) w; low = word (at + 13) w }; chain = record { upper = word (at + 14) w; lower = word (at + 15) w }; interrupt = record { cie = flag (word (at + 16) w); ip = flag (word (at + 17) w); sip = flag (word (at + 18) w); vector = (word (at + 19) w) % 256; save = word (at + 20) w }; status = record { ca = flag (word (at + 21) w); nac = flag (word (at + 22) w); mch = flag (word (at + 23) w); mcl = flag (word (at + 24) w); why = record { tc = flag (word (at + 25) w); mc = flag (word (at + 26) w); eop = flag (word (at + 27) w) } }; line = record { active = flag (word (at + 28) w); change = flag (word (at + 29) w) }; pending = flag (word (at + 30) w) }

abbrev pub state_with : Option (Which × Stage) → Option Which → Option Which → Channel → Channel → List ℕ → Controller
state_with chain bus served one two w = record {
  pointer = word 0 w;
  master = word 1 w;
  control = record { chain = chain; bus = bus; note = flag (word 8 w); served = served };
  one = one;
  two = two;
}

abbrev pub progress_at : ℕ → List ℕ → Progress
progress_at at w = record { left = word at w; second = flag (word (at + 1) w); upper = word (at + 2) w }

unfoldable pub state_of : List ℕ → Controller
state_of w = state_with (chain_of (word 2 w) (stage_of (word 3 w) (progress_at 4 w))) (channel_of (word 7 w)) (channel_of (word 9 w)) (channel_at 10 w) (channel_at 41 w) w
