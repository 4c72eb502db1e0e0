-- The reasons part by part: what each part makes of what comes after it. Assumes nothing.
use mathlib.Core.Path.{◌≡◌, refl}
use mathlib.Core.Bool.{Bool, true, false, not, cond, ◌&&◌}
use mathlib.Core.List.{List, [], ◌∷◌}
use Rattle.facts.specs.First.{first_or, first_some}
use Rattle.std.specs.Prelude.{Option, None, Some, is_none}
use Rattle.refusal.specs.declared.Refusal.{Refusal}
use Rattle.space_board.specs.declared.Board.{Board}
use Rattle.port.specs.declared.Which.{Which}
use Rattle.word_address.specs.Address.{is_odd}
use Rattle.word_mode.specs.Mode.{operation_of, is_flipped}
use Rattle.word_operation.specs.Operation.{carried}
use Rattle.word_reload.specs.declared.Progress.{Progress}
use Rattle.word_reload.specs.declared.Stage.TheVariants.{Reload, Entries}
use Rattle.unit.specs.Unit.{odd_word}
use Rattle.step_rules.specs.declared.Choice.{Choice}
use Rattle.step_rules.specs.declared.Choice.TheVariants as chosen
use Rattle.step_rules.specs.Rules.{refusals}
use Rattle.step.specs.declared.Controller.{Controller}
use Rattle.step.specs.Controller.{at}
use Rattle.step.specs.Choice.{faults_of}
use Rattle.standstill.specs.declared.Cause.{Cause}
use Rattle.standstill.specs.declared.Cause.TheVariants.{NothingWrong, Disabled, ChainOnTheOther, GiveBackNote, BusKeptByTheOther, Ca, Sip, Nac, Masked, NoRequest, OddChain, NotCarried, OddWord, TurnOfTheOther}
use Rattle.standstill.specs.Causes.{cause_of, refusals_before}

-- what the reasons of the controller make of what comes after them, and what the tests from CA to no request do
abbrev pub shared_first : (off chained note kept : Bool) → Cause → Cause
shared_first off chained note kept more = cond off Disabled (cond chained ChainOnTheOther (cond note GiveBackNote (cond kept BusKeptByTheOther more)))

abbrev pub request_first : (ca sip nac active unmasked : Bool) → Cause → Cause
request_first ca sip nac active unmasked more =
    cond ca Ca (cond sip Sip (cond nac Nac (cond (not active && unmasked) Masked (cond (not active && not unmasked) NoRequest more))))

-- ---- the refusals of its own step

abbrev pub is_nothing : Cause → Bool
is_nothing NothingWrong = true
is_nothing Disabled = false
is_nothing ChainOnTheOther = false
is_nothing GiveBackNote = false
is_nothing BusKeptByTheOther = false
is_nothing Ca = false
is_nothing Sip = false
is_nothing Nac = false
is_nothing Masked = false
is_nothing NoRequest = false
is_nothing OddChain = false
is_nothing NotCarried = false
is_nothing OddWord = false
is_nothing TurnOfTheOther = false

-- every refusal of the table has a name
abbrev pub AllNamed : List (Bool × Refusal) → Type 0
AllNamed [] = true ≡ true
AllNamed (e ∷ es) = (is_nothing (cause_of e.1) ≡ false) × AllNamed es

pub steps_named : (b : Board) (u : Controller) (own : Choice) → AllNamed (refusals own (faults_of b u))
unfolding cause_of
steps_named b u chosen.Disabled = refl
steps_named b u (chosen.Refused r) = refl
steps_named b u (chosen.Fetch w Reload) = (refl, refl)
steps_named b u (chosen.Fetch w (Entries p)) = refl
steps_named b u chosen.GiveBack = refl
steps_named b u (chosen.Unit w) = (refl, (refl, refl))
steps_named b u (chosen.Hold w) = refl
steps_named b u chosen.Release = refl
steps_named b u chosen.Idle = refl

-- written out: the odd chain address of a chain's first fetch; nothing of a later one; operation not carried and odd word address of a unit
pub rows : (b : Board) (w : Which) (u : Controller) (p : Progress) (more : List (Bool × Cause))
    → (refusals_before (refusals (chosen.Fetch w Reload) (faults_of b u)) more ≡ (is_odd (at w u).chain, OddChain) ∷ more)
    × (refusals_before (refusals (chosen.Fetch w (Entries p)) (faults_of b u)) more ≡ more)
    × (refusals_before (refusals (chosen.Unit w) (faults_of b u)) more
    ≡ (not (carried (operation_of (at w u).mode)), NotCarried) ∷ (odd_word (operation_of (at w u).mode).moves (is_flipped (at w u).mode) (at w u).current, OddWord) ∷ more)
unfolding cause_of
rows b w u p more = (refl, refl, refl)

-- the reason by what refuses, or what comes after
abbrev pub cause_or : Option Refusal → Cause → Cause
cause_or None more = more
cause_or (Some r) more = cause_of r

pub refused_first : (t : List (Bool × Refusal)) (more : List (Bool × Cause)) → AllNamed t
    → first_or NothingWrong (refusals_before t more) ≡ cause_or (first_some t) (first_or NothingWrong more)
refused_first [] more h = refl
refused_first (x ∷ es) more h = go x.0 (refused_first es more h.1)
  where
    go : (b : Bool) → first_or NothingWrong (refusals_before es more) ≡ cause_or (first_some es) (first_or NothingWrong more)
        → cond b (cause_of x.1) (first_or NothingWrong (refusals_before es more)) ≡ cause_or (cond b (Some x.1) (first_some es)) (first_or NothingWrong more)
    go true i = refl
    go false i = i

-- nothing is wrong where nothing refuses and nothing comes after
pub refused_nothing : (t : List (Bool × Refusal)) (more : Cause) → AllNamed t → is_nothing (cause_or (first_some t) more) ≡ (is_none (first_some t) && is_nothing more)
refused_nothing [] more h = refl
refused_nothing (x ∷ es) more h = go x.0 (refused_nothing es more h.1)
  where
    go : (b : Bool) → is_nothing (cause_or (first_some es) more) ≡ (is_none (first_some es) && is_nothing more)
        → is_nothing (cause_or (cond b (Some x.1) (first_some es)) more) ≡ (is_none (cond b (Some x.1) (first_some es)) && is_nothing more)
    go true i = h.0
    go false i = i
