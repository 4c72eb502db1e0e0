-- Document 01, "Which step comes next": what the six rules intend, in their order, over the facts that they ask for; and the choice,
-- which is the first refusal of what they intend, or the intent. Assumes nothing.
use Rattle.std.specs.Prelude.{ℕ, ◌%◌, Bool, true, false, List, [], ◌∷◌, eqb, None, Option, Some}
use Rattle.facts.specs.Bits.{bit_at}
use Rattle.facts.specs.First.{first_some}
use Rattle.refusal.specs.declared.Refusal.{Refusal}
use Rattle.refusal.specs.declared.Refusal.TheVariants.{OddChain}
use Rattle.port.specs.declared.Which.{Which}
use Rattle.port.specs.declared.Which.TheVariants.{One, Two}
use Rattle.word_mode.specs.declared.RequestMode.{RequestMode}
use Rattle.word_mode.specs.declared.RequestMode.TheVariants.{Single, DemandHold, DemandRelease, DemandInterleave}
use Rattle.word_reload.specs.declared.Stage.{Stage}
use Rattle.word_reload.specs.declared.Stage.TheVariants.{Reload, Entries}
use Rattle.step_rules.specs.declared.Choice.{Choice}
use Rattle.step_rules.specs.declared.Choice.TheVariants.{Disabled, Refused, Fetch, GiveBack, Unit, Hold, Release, Idle}

-- Master mode: 0 enable, 1 CPU interleave.
abbrev pub is_enabled : ℕ → Bool
is_enabled master = eqb (master % 2) 1

abbrev pub is_interleaved : ℕ → Bool
is_interleaved master = bit_at 1 master

-- ---- what the rules intend, before any refusal

-- What the rules ask for: of each channel whether its request is active, its request mode and whether a chain is pending; and whose
-- turn it is among the candidates.
pub record Facts : Type 0 where
  pub enabled : Bool
  pub chain : Option (Which × Stage)
  pub note : Bool
  pub bus : Option Which
  pub active : Which → Bool
  pub mode : Which → RequestMode
  pub pending : Which → Bool
  pub turn : Option Which

-- Rule 4. A channel keeping the bus: a unit if its request is active; else demand hold answers "holding", and any other mode gives
-- the bus back.
abbrev pub keeping : Bool → RequestMode → Which → Choice
keeping true m w = Unit w
keeping false Single w = Release
keeping false DemandHold w = Hold w
keeping false DemandRelease w = Release
keeping false DemandInterleave w = Release

-- Rule 5. A candidate begins its chain or does a unit.
abbrev pub beginning : Bool → Which → Choice
beginning true w = Fetch w Reload
beginning false w = Unit w

-- If both are units in demand interleave, the channel not served last (channel 1 if none); otherwise the lower numbered.
abbrev pub turn_by : Bool → Bool → Bool → Option Which → Option Which
turn_by false false both s = None
turn_by false true both s = Some Two
turn_by true false both s = Some One
turn_by true true false s = Some One
turn_by true true true None = Some One
turn_by true true true (Some One) = Some Two
turn_by true true true (Some Two) = Some One

-- Rule 6. "Idle".
abbrev pub turned : Option Which → Facts → Choice
turned None f = Idle
turned (Some w) f = beginning (f.pending w) w

-- 1. Not enabled: nothing, "disabled". 2. A chain under way: fetch its next word. 3. A give-back note: clear it, "given back".
-- 4. A channel keeping the bus. 5. A candidate. 6. "Idle".
abbrev pub intent_by : Bool → Option (Which × Stage) → Bool → Option Which → Facts → Choice
intent_by false chain note bus f = Disabled
intent_by true (Some (w, stage)) note bus f = Fetch w stage
intent_by true None true bus f = GiveBack
intent_by true None false (Some w) f = keeping (f.active w) (f.mode w) w
intent_by true None false None f = turned f.turn f

unfoldable pub intent_of : Facts → Choice
intent_of f = intent_by f.enabled f.chain f.note f.bus f

-- ---- the refusals of a step

-- 6: first fetch of a chain from an odd address.
abbrev pub fetch_refusals : Bool → Stage → List (Bool × Refusal)
fetch_refusals odd Reload = (odd, OddChain) ∷ []
fetch_refusals odd (Entries p) = []

-- What may refuse a channel: its chain address is odd; its unit's own refusals.
pub record Faults : Type 0 where
  pub odd_table : Which → Bool
  pub unit : Which → List (Bool × Refusal)

-- Only a fetch and a unit are ever refused.
abbrev pub refusals : Choice → Faults → List (Bool × Refusal)
refusals Disabled g = []
refusals (Refused r) g = []
refusals (Fetch w stage) g = fetch_refusals (g.odd_table w) stage
refusals GiveBack g = []
refusals (Unit w) g = g.unit w
refusals (Hold w) g = []
refusals Release g = []
refusals Idle g = []

-- ---- which step comes next

abbrev pub refused_or : Option Refusal → Choice → Choice
refused_or None c = c
refused_or (Some r) c = Refused r

unfoldable pub choice_of : Facts → Faults → Choice
choice_of f g = refused_or (first_some (refusals (intent_of f) g)) (intent_of f)
