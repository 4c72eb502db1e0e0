-- Document 02, E4: why a channel stands still, by the facts and the tests that the step itself goes by. Assumes nothing.
use Rattle.std.specs.Prelude.{ℕ, Bool, true, false, not, cond, ◌&&◌, List, [], ◌∷◌, None, Option, Some, Result, Ok, Err}
use Rattle.facts.specs.First.{first_or}
use Rattle.refusal.specs.declared.Refusal.{Refusal}
use Rattle.refusal.specs.declared.Refusal.TheVariants as refused
use Rattle.port.specs.declared.Which.{Which}
use Rattle.port.specs.Ports.{is_other, channel_at}
use Rattle.space_board.specs.declared.Board.{Board}
use Rattle.word_mode.specs.Mode.{with_mask}
use Rattle.channel.specs.declared.Channel.{Channel}
use Rattle.channel_request.specs.Request.{requests}
use Rattle.step_rules.specs.declared.Choice.{Choice}
use Rattle.step_rules.specs.declared.Choice.TheVariants as chosen
use Rattle.step_rules.specs.Rules.{Facts, Faults, beginning, refusals}
use Rattle.step.specs.declared.Controller.{Controller}
use Rattle.step.specs.Controller.{at}
use Rattle.step.specs.Choice.{facts_of, faults_of}
use Rattle.standstill.specs.declared.Cause.{Cause}
use Rattle.standstill.specs.declared.Cause.TheVariants.{NothingWrong, Disabled, ChainOnTheOther, GiveBackNote, BusKeptByTheOther, Ca, Sip, Nac, Masked, NoRequest, OddChain, NotCarried, OddWord, TurnOfTheOther}
use Rattle.word_reload.specs.declared.Stage.{Stage}

-- ---- this channel and the other

-- Chain under way on the other channel.
abbrev pub chain_on_the_other : Which → Option (Which × Stage) → Bool
chain_on_the_other w None = false
chain_on_the_other w (Some (v, stage)) = is_other w v

-- Bus kept by the other channel.
abbrev pub bus_kept_by_the_other : Which → Option Which → Bool
bus_kept_by_the_other w None = false
bus_kept_by_the_other w (Some v) = is_other w v

-- Other channel's turn: no chain is under way and nobody keeps the bus, so that rule 5 chooses, and it chooses the other.
abbrev pub turn_of_the_other : Which → Option (Which × Stage) → Option Which → Option Which → Bool
turn_of_the_other w None None None = false
turn_of_the_other w None None (Some v) = is_other w v
turn_of_the_other w None (Some v) t = false
turn_of_the_other w (Some (v, stage)) bus t = false

-- ---- what this channel would do

-- What this channel would do, were it let: the next fetch of its chain under way, the first of its pending chain, or a unit.
abbrev pub own_by : Option (Which × Stage) → Bool → Which → Choice
own_by None pending w = beginning pending w
own_by (Some (v, stage)) pending w = cond (is_other w v) (beginning pending w) (chosen.Fetch w stage)

-- It would do a unit: no chain of this channel is pending or under way.
abbrev pub is_unit : Choice → Bool
is_unit chosen.Disabled = false
is_unit (chosen.Refused r) = false
is_unit (chosen.Fetch v stage) = false
is_unit chosen.GiveBack = false
is_unit (chosen.Unit v) = true
is_unit (chosen.Hold v) = false
is_unit chosen.Release = false
is_unit chosen.Idle = false

-- Clearing the mask would make the request active.
abbrev pub requests_unmasked : Channel → Bool
requests_unmasked c = requests (with_mask false c.mode) c.line

-- Odd chain address; operation not carried; odd word address: the refusals of what it would do, each under its name.
unfoldable pub cause_of : Refusal → Cause
cause_of refused.OddChain = OddChain
cause_of refused.NotCarried = NotCarried
cause_of refused.OddWord = OddWord
cause_of r = NothingWrong

abbrev pub refusals_before : List (Bool × Refusal) → List (Bool × Cause) → List (Bool × Cause)
refusals_before [] causes = causes
refusals_before (e ∷ es) causes = (e.0, cause_of e.1) ∷ refusals_before es causes

-- ---- the reasons in their order, from the last part to the first, each with those that come after it

abbrev pub turn_causes : Which → Facts → List (Bool × Cause)
turn_causes w f = (turn_of_the_other w f.chain f.bus f.turn, TurnOfTheOther) ∷ []

-- From the odd chain address on.
abbrev pub refusal_causes : Choice → Which → Facts → Faults → List (Bool × Cause)
refusal_causes own w f g = refusals_before (refusals own g) (turn_causes w f)

-- From CA on: CA; SIP; NAC; masked with the line active; no request.
abbrev pub request_causes : Choice → Which → Channel → Facts → Faults → List (Bool × Cause)
request_causes own w c f g =
    (c.status.ca, Ca)
    ∷ (c.interrupt.sip, Sip)
    ∷ (c.status.nac, Nac)
    ∷ (not (f.active w) && requests_unmasked c, Masked)
    ∷ (not (f.active w) && not (requests_unmasked c), NoRequest)
    ∷ refusal_causes own w f g

-- A chain of this channel, pending or under way, passes over the tests from CA to no request.
abbrev pub own_causes : Choice → Which → Channel → Facts → Faults → List (Bool × Cause)
own_causes own w c f g = cond (is_unit own) (request_causes own w c f g) (refusal_causes own w f g)

-- All: disabled; chain under way on the other channel; give-back note; bus kept by the other channel; and from CA on.
abbrev pub causes_by : Which → Channel → Facts → Faults → List (Bool × Cause)
causes_by w c f g =
    (not f.enabled, Disabled)
    ∷ (chain_on_the_other w f.chain, ChainOnTheOther)
    ∷ (f.note, GiveBackNote)
    ∷ (bus_kept_by_the_other w f.bus, BusKeptByTheOther)
    ∷ own_causes (own_by f.chain (f.pending w) w) w c f g

abbrev pub causes : Board → Which → Controller → List (Bool × Cause)
causes b w u = causes_by w (at w u) (facts_of u) (faults_of b u)

-- The first that is true of the state.
unfoldable pub why_of : Board → Which → Controller → Cause
why_of b w u = first_or NothingWrong (causes b w u)

-- 10: channel other than 1 or 2.
abbrev pub why_by : Result Which Refusal → Board → Controller → Result Cause Refusal
why_by (Ok w) b u = Ok (why_of b w u)
why_by (Err r) b u = Err r

unfoldable pub why_at : ℕ → Board → Controller → Result Cause Refusal
why_at n b u = why_by (channel_at n) b u
