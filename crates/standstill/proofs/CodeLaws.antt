-- What the tests of the code, and the branches on them, make of the reasons.
use mathlib.Core.Path.{◌≡◌, sym, ap, ◌∙◌}
use mathlib.Core.Bool.{Bool, true, false, not, cond}
use Rattle.std.specs.Prelude.{None, Option, Some}
use Rattle.refusal.specs.declared.Refusal.{Refusal}
use Rattle.facts.specs.First.{first_or, first_some}
use Rattle.port.specs.declared.Which.{Which}
use Rattle.port.specs.Ports.{is_other}
use Rattle.word_reload.specs.declared.Stage.{Stage}
use Rattle.space_board.specs.declared.Board.{Board}
use Rattle.step_rules.specs.declared.Choice.{Choice}
use Rattle.step_rules.specs.declared.Choice.TheVariants.{Fetch, Unit}
use Rattle.step_rules.specs.Rules.{is_enabled, beginning, refusals}
use Rattle.channel.specs.declared.Channel.{Channel}
use Rattle.channel_request.specs.Request.{requests}
use Rattle.step.specs.declared.Controller.{Controller}
use Rattle.step.specs.Controller.{at}
use Rattle.step.specs.Choice.{facts_of, faults_of}
use Rattle.standstill.specs.declared.Cause.{Cause}
use Rattle.standstill.specs.declared.Cause.TheVariants.{NothingWrong}
use Rattle.standstill.specs.Causes.{chain_on_the_other, bus_kept_by_the_other, own_by, requests_unmasked, cause_of, turn_causes, refusal_causes, request_causes, own_causes, why_of}
use Rattle.standstill.proofs.Parts.{shared_first, request_first, steps_named, cause_or, refused_first}

module _ (own : Choice) (w : Which) (b : Board) (u : Controller) (n : Option Refusal) (r : Cause) (e : n ≡ first_some (refusals own (faults_of b u))) where
  abbrev turn : Cause
  turn = first_or NothingWrong (turn_causes w (facts_of u))

  first : cause_or n turn ≡ first_or NothingWrong (refusal_causes own w (facts_of u) (faults_of b u))
  first = ap (λ (k : Option Refusal). cause_or k turn) e ∙ sym (refused_first (refusals own (faults_of b u)) (turn_causes w (facts_of u)) (steps_named b u own))

  pub unrefused : n ≡ None → r ≡ turn → r ≡ first_or NothingWrong (refusal_causes own w (facts_of u) (faults_of b u))
  unrefused z h = h ∙ sym (ap (λ (k : Option Refusal). cause_or k turn) z) ∙ first

  pub refused : (x : Refusal) → n ≡ Some x → r ≡ cause_of x → r ≡ first_or NothingWrong (refusal_causes own w (facts_of u) (faults_of b u))
  refused x q h = h ∙ sym (ap (λ (k : Option Refusal). cause_or k turn) q) ∙ first

-- nothing of its request is in the way of a unit
pub asks : (w : Which) (b : Board) (u : Controller) (c : Channel) (active : Bool) (r : Cause) → c ≡ at w u
    → c.status.ca ≡ false → c.interrupt.sip ≡ false → c.status.nac ≡ false → active ≡ requests c.mode c.line → active ≡ true
    → r ≡ first_or NothingWrong (refusal_causes (Unit w) w (facts_of u) (faults_of b u))
    → r ≡ first_or NothingWrong (request_causes (Unit w) w (at w u) (facts_of u) (faults_of b u))
asks w b u c active r e ca sip nac ea a h =
    h
    ∙ sym (λ j. request_first ((sym (ap (λ (x : Channel). x.status.ca) e) ∙ ca) j) ((sym (ap (λ (x : Channel). x.interrupt.sip) e) ∙ sip) j)
    ((sym (ap (λ (x : Channel). x.status.nac) e) ∙ nac) j) ((sym (ea ∙ ap (λ (x : Channel). requests x.mode x.line) e) ∙ a) j) (requests_unmasked (at w u))
    (first_or NothingWrong (refusal_causes (Unit w) w (facts_of u) (faults_of b u))))

-- what the channel would do, by what is under way
module _ (w : Which) (b : Board) (u : Controller) (r : Cause) where
  abbrev Gives : Choice → Type 0
  Gives own = r ≡ first_or NothingWrong (own_causes own w (at w u) (facts_of u) (faults_of b u))

  pub would : {own i : Choice} → own ≡ i → Gives i → Gives own
  would e h = h ∙ ap (λ (i : Choice). first_or NothingWrong (own_causes i w (at w u) (facts_of u) (faults_of b u))) (sym e)

  module _ (chain : Option (Which × Stage)) (pending : Bool) where
    pub none : chain ≡ None → Gives (beginning pending w) → Gives (own_by chain pending w)
    none e h = would (ap (λ (x : Option (Which × Stage)). own_by x pending w) e) h

    module _ (v : Which) (s : Stage) (o : Bool) (e : chain ≡ Some (v, s)) (eo : o ≡ is_other w v) where
      its : own_by chain pending w ≡ cond o (beginning pending w) (Fetch w s)
      its = ap (λ (x : Option (Which × Stage)). own_by x pending w) e ∙ ap (λ (x : Bool). cond x (beginning pending w) (Fetch w s)) (sym eo)

      pub of_the_other : o ≡ true → Gives (beginning pending w) → Gives (own_by chain pending w)
      of_the_other q h = would (its ∙ ap (λ (x : Bool). cond x (beginning pending w) (Fetch w s)) q) h

      pub of_its_own : o ≡ false → Gives (Fetch w s) → Gives (own_by chain pending w)
      of_its_own q h = would (its ∙ ap (λ (x : Bool). cond x (beginning pending w) (Fetch w s)) q) h

-- nothing of the controller's own is in the way
pub passes : (w : Which) (b : Board) (u : Controller) (on chained kept : Bool) (r : Cause)
    → on ≡ is_enabled u.master → not on ≡ false
    → chained ≡ chain_on_the_other w u.control.chain → chained ≡ false
    → u.control.note ≡ false
    → kept ≡ bus_kept_by_the_other w u.control.bus → kept ≡ false
    → r ≡ first_or NothingWrong (own_causes (own_by u.control.chain (at w u).pending w) w (at w u) (facts_of u) (faults_of b u)) → r ≡ why_of b w u
unfolding why_of
passes w b u on chained kept r eo o ex x n ek k h =
    h
    ∙ sym (λ j. shared_first ((ap not (sym eo) ∙ o) j) ((sym ex ∙ x) j) (n j) ((sym ek ∙ k) j)
    (first_or NothingWrong (own_causes (own_by u.control.chain (at w u).pending w) w (at w u) (facts_of u) (faults_of b u))))
