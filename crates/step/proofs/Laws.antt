-- A controller with a channel anew; and the view of the choice, of its registers. Assumes nothing.
use mathlib.Core.Path.{◌≡◌, refl, subst}
use mathlib.Core.Bool.{Bool, true, false, ◌&&◌}
use Rattle.refusal.specs.declared.Refusal.{Refusal}
use Rattle.port.specs.declared.Which.{Which}
use Rattle.port.specs.declared.Which.TheVariants.{One, Two}
use Rattle.channel.specs.declared.Channel.{Channel}
use Rattle.channel.specs.Candidate.{is_candidate, interleaves}
use Rattle.step_bus.specs.declared.Control.{Control}
use Rattle.space_board.specs.declared.Board.{Board}
use Rattle.step_rules.specs.declared.Choice.{Choice}
use Rattle.step_rules.specs.declared.Choice.TheVariants.{Disabled, Refused, GiveBack, Release, Idle}
use Rattle.step.specs.Step.{perform_of}
use Rattle.space.specs.Space.{Spaces}
use Rattle.std.specs.Prelude.{None, Option, Some}
use Rattle.step_rules.specs.Rules.{turn_by}
use Rattle.step_rules.proofs.View.{Turns, Because, because, only}
use Rattle.step.specs.declared.Controller.{Controller}
use Rattle.step.specs.Set.{◌⟨control≔◌⟩}
use Rattle.step.specs.Controller.{at, with}
use Rattle.step.specs.Choice.{turn, facts_of, faults_of, choice}

-- ---- a channel anew

pub at_of : (w : Which) (c : Channel) (u : Controller) → at w (with w c u) ≡ c
unfolding at with
at_of One c u = refl
at_of Two c u = refl

pub control_of : (w : Which) (c : Channel) (u : Controller) → (with w c u).control ≡ u.control
unfolding with
control_of One c u = refl
control_of Two c u = refl

pub master_of : (w : Which) (c : Channel) (u : Controller) → (with w c u).master ≡ u.master
unfolding with
master_of One c u = refl
master_of Two c u = refl

pub with_again : (w : Which) (c d : Channel) (u : Controller) (k l : Control) → with w d (with w c (u ⟨control≔ k ⟩) ⟨control≔ l ⟩) ≡ with w d (u ⟨control≔ l ⟩)
unfolding with
with_again One c d u k l = refl
with_again Two c d u k l = refl

-- ---- why a step comes next

abbrev pub Chosen : Board → Controller → Choice → Type 0
Chosen b u c = Because (facts_of u) (faults_of b u) c

pub chosen : (b : Board) (u : Controller) → Chosen b u (choice b u)
unfolding choice
chosen b u = because (facts_of u) (faults_of b u)

pub chosen_at : (b : Board) (u : Controller) {c : Choice} → choice b u ≡ c → Chosen b u c
chosen_at b u e = subst (Chosen b u) e (chosen b u)

pub chooses : (b : Board) (u : Controller) {c : Choice} → Chosen b u c → choice b u ≡ c
unfolding choice
chooses b u h = only (facts_of u) (faults_of b u) h

-- ---- whose turn it is, that one is a candidate; where it is nobody's, neither is

abbrev TurnFacts : Option Which → Controller → Type 0
TurnFacts None u = (w : Which) → is_candidate (at w u) ≡ false
TurnFacts (Some w) u = is_candidate (at w u) ≡ true

turn_named : (a b both : Bool) (s : Option Which) (u : Controller) → is_candidate u.one ≡ a → is_candidate u.two ≡ b → TurnFacts (turn_by a b both s) u
unfolding at
turn_named false false both s u p q = neither
  where
    neither : (w : Which) → is_candidate (at w u) ≡ false
    neither One = p
    neither Two = q
turn_named false true both s u p q = q
turn_named true false both s u p q = p
turn_named true true false s u p q = p
turn_named true true true None u p q = p
turn_named true true true (Some One) u p q = q
turn_named true true true (Some Two) u p q = p

turn_facts : {t : (Option Which)} (u : Controller) → Turns t (facts_of u) → TurnFacts t u
unfolding turn
turn_facts u t =
    subst (λ (x : Option Which). TurnFacts x u) t.turn
    (turn_named (is_candidate u.one) (is_candidate u.two) (interleaves u.one && interleaves u.two) u.control.served u refl refl)

pub is_candidate_lem : (w : Which) (u : Controller) → Turns (Some w) (facts_of u) → is_candidate (at w u) ≡ true
is_candidate_lem w u t = turn_facts u t

pub no_candidate : (w : Which) (u : Controller) → Turns None (facts_of u) → is_candidate (at w u) ≡ false
no_candidate w u t = turn_facts u t w

-- ---- EOP is ignored but by a unit, a fetch and while holding

pub eop_ignored : (r : Refusal) (u : Controller) (z : Spaces)
    → (perform_of Disabled true u z ≡ perform_of Disabled false u z)
    × (perform_of (Refused r) true u z ≡ perform_of (Refused r) false u z)
    × (perform_of GiveBack true u z ≡ perform_of GiveBack false u z)
    × (perform_of Release true u z ≡ perform_of Release false u z)
    × (perform_of Idle true u z ≡ perform_of Idle false u z)
unfolding perform_of
eop_ignored r u z = (refl, refl, refl, refl, refl)
