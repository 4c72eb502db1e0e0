-- Document 01, "Chaining": a chain's fetch, and what it leaves of the controller's own state. Assumes nothing.
use Rattle.std.specs.Prelude.{ℕ, Bool, true, false, List, Option}
use Rattle.port.specs.declared.Which.{Which}
use Rattle.space.specs.declared.Width.TheVariants.{Word}
use Rattle.space.specs.Space.{value_in}
use Rattle.word_address.specs.Address.{number}
use Rattle.word_reload.specs.declared.Stage.{Stage}
use Rattle.channel.specs.declared.Channel.{Channel}
use Rattle.chain.specs.declared.Loaded.{Loaded}
use Rattle.chain.specs.Chaining.{fetched_of, dropped_of}
use Rattle.channel_request.specs.Request.{requests}
use Rattle.step.specs.declared.Controller.{Controller}
use Rattle.step.specs.declared.Done.{Done}
use Rattle.step.specs.declared.Answer.{Answer}
use Rattle.step.specs.declared.Answer.TheVariants.{Fetched, Dropped}
use Rattle.step.specs.Set.{◌⟨control≔◌⟩}
use Rattle.step_bus.specs.After.{control_fetched, dropped_control}
use Rattle.step.specs.Controller.{at, with}
use Rattle.step_rules.specs.Rules.{is_interleaved}
use Rattle.word_reload.specs.declared.Progress.{Progress}

-- the controller after a word, whose channel is then c
abbrev pub after_word : Which → Channel → Option Progress → Controller → Controller
after_word w c next u =
    with w c (u ⟨control≔ control_fetched next (is_interleaved u.master) (requests c.mode c.line) w u.control ⟩)

abbrev pub fetched_by : Which → Loaded → Controller → Done Answer
fetched_by w l u = record { state = after_word w l.channel l.next u; answer = Fetched w (record { upper = l.upper }) }

-- EOP with a chain fetch drops the chain.
unfoldable pub drop_of : Which → Controller → Done Answer
drop_of w u = record { state = with w (dropped_of (at w u)) (u ⟨control≔ dropped_control u.control ⟩); answer = Dropped w }

-- One word a step; chaining reads memory.
unfoldable pub fetch_of : Which → Stage → Bool → Controller → List ℕ → Done Answer
fetch_of w stage true u m = drop_of w u
fetch_of w stage false u m = fetched_by w (fetched_of stage (value_in Word m (number (at w u).chain)) (at w u)) u
