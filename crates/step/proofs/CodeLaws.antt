-- The rules as laws: what a callee answered, and what the branch on it found, give the definition's case.
use mathlib.Core.Path.{◌≡◌, refl, sym, ap, ◌∙◌}
use mathlib.Core.Bool.{Bool, true, false}
use Rattle.std.specs.Prelude.{None, Option, Some}
use Rattle.space.specs.Space.{Spaces}
use Rattle.port.specs.declared.Which.{Which}
use Rattle.word_mode.specs.declared.RequestMode.{RequestMode}
use Rattle.word_mode.specs.Mode.{request_mode_of}
use Rattle.word_mode.specs.Reasons.{some}
use Rattle.unit.specs.declared.Moved.{Moved}
use Rattle.unit.specs.declared.Work.{Work}
use Rattle.unit.specs.Unit.{Worked, whole, worked}
use Rattle.channel.specs.declared.Channel.{Channel}
use Rattle.channel_request.specs.Request.{requests}
use Rattle.channel.specs.Ending.{reasons_of, moved_by, unended, after_by, after_unit}
use Rattle.word_reload.specs.declared.Stage.{Stage}
use Rattle.step_bus.specs.declared.Control.{Control}
use Rattle.step_bus.specs.After.{unended_control, control_by, control_fetched}
use Rattle.step_rules.specs.declared.Choice.{Choice}
use Rattle.step_rules.specs.declared.Choice.TheVariants.{Disabled, Fetch, GiveBack, Unit, Idle}
use Rattle.step_rules.specs.Rules.{is_enabled, is_interleaved, beginning, turned, intent_by, intent_of}
use Rattle.step_rules_code.specs.Channels.{keeper}
use Rattle.step.specs.declared.Controller.{Controller}
use Rattle.step.specs.declared.Done.{Done}
use Rattle.step.specs.declared.Answer.{Answer}
use Rattle.step.specs.declared.Answer.TheVariants as answer
use Rattle.step.specs.Set.{◌⟨control≔◌⟩}
use Rattle.step.specs.Controller.{at, with}
use Rattle.step.specs.Choice.{turn, facts_of}
use Rattle.step.specs.Fetching.{after_word}
use Rattle.step.specs.Step.{outcome, says, work_of, gone_on, ended_after, unit_answer, unit_of, perform_of}
use Rattle.word_reload.specs.declared.Progress.{Progress}

-- ---- a candidate

module _ (u : Controller) (t : Option Which) (et : t ≡ turn u) where
  by_turn : {s : (Option Which)} → t ≡ s → turned s (facts_of u) ≡ turned (turn u) (facts_of u)
  by_turn e = ap (λ (z : Option Which). turned z (facts_of u)) (sym e ∙ et)

  pub nobodys : t ≡ None → Idle ≡ turned (turn u) (facts_of u)
  nobodys e = by_turn e

  pub whose : (w : Which) (r : Choice) → t ≡ Some w → r ≡ beginning (at w u).pending w → r ≡ turned (turn u) (facts_of u)
  whose w r e er = er ∙ by_turn e

-- ---- the rules

module _ (u : Controller) where
  pub rule_1 : (on : Bool) → on ≡ is_enabled u.master → on ≡ false → Disabled ≡ intent_of (facts_of u)
  unfolding intent_of
  rule_1 on e h = sym (λ i. intent_by ((sym e ∙ h) i) u.control.chain u.control.note u.control.bus (facts_of u))

  pub rules_on : (r : Choice) (on : Bool) → on ≡ is_enabled u.master → on ≡ true → r ≡ intent_by true u.control.chain u.control.note u.control.bus (facts_of u) → r ≡ intent_of (facts_of u)
  unfolding intent_of
  rules_on r on e h q = q ∙ sym (λ i. intent_by ((sym e ∙ h) i) u.control.chain u.control.note u.control.bus (facts_of u))

  by : {chain : (Option (Which × Stage))} {note : Bool} {bus : (Option Which)} → u.control.chain ≡ chain → u.control.note ≡ note → u.control.bus ≡ bus
      → intent_by true chain note bus (facts_of u) ≡ intent_by true u.control.chain u.control.note u.control.bus (facts_of u)
  by p q b = sym (λ i. intent_by true (p i) (q i) (b i) (facts_of u))

  pub rule_2 : (w : Which) (s : Stage) → u.control.chain ≡ Some (w, s) → Fetch w s ≡ intent_by true u.control.chain u.control.note u.control.bus (facts_of u)
  rule_2 w s p = by p refl refl

  pub rule_3 : u.control.chain ≡ None → u.control.note ≡ true → GiveBack ≡ intent_by true u.control.chain u.control.note u.control.bus (facts_of u)
  rule_3 p n = by p n refl

  pub rule_4 : (r : Choice) (w : Which) → u.control.chain ≡ None → u.control.note ≡ false → u.control.bus ≡ Some w → r ≡ keeper w (at w u)
      → r ≡ intent_by true u.control.chain u.control.note u.control.bus (facts_of u)
  unfolding keeper
  rule_4 r w p n b er = er ∙ by p n b

  pub rule_5 : (r : Choice) → u.control.chain ≡ None → u.control.note ≡ false → u.control.bus ≡ None → r ≡ turned (turn u) (facts_of u)
      → r ≡ intent_by true u.control.chain u.control.note u.control.bus (facts_of u)
  rule_5 r p n b er = er ∙ by p n b

-- ---- what a step does

pub fetched : (w : Which) (u s : Controller) (d : Channel) (next : Option Progress) (active cpu : Bool) (k : Control) → active ≡ requests d.mode d.line
    → cpu ≡ is_interleaved u.master → k ≡ control_fetched next cpu active w u.control → s ≡ with w d (u ⟨control≔ k ⟩) → s ≡ after_word w d next u
fetched w u s d next active cpu k ea ei ek es = es ∙ (λ i. with w d (u ⟨control≔ (ek ∙ (λ j. control_fetched next (ei j) (ea j) w u.control)) i ⟩))

pub gone_on_lem : (w v : Which) (u : Controller) (m : Moved) (c : Channel) (k : Control) (r : RequestMode) (cpu : Bool) → w ≡ v → r ≡ request_mode_of (at w u).mode
    → cpu ≡ is_interleaved u.master → k ≡ unended_control r cpu w u.control → c ≡ unended (moved_by m (at v u)) → with v c (u ⟨control≔ k ⟩) ≡ gone_on w u m
unfolding gone_on
gone_on_lem w v u m c k r cpu e er ei ek ec = rw (ec, ek, ei, er, e)

-- an unended unit, and one that ends its operation
module _ (w : Which) (eop : Bool) (u : Controller) (m : Moved) (s : Controller) (ends : Bool) (e : ends ≡ some (reasons_of m eop)) where
  settled : Bool → Done Answer
  settled b =
      let c = at w u in
      let k = after_by b w (reasons_of m eop) (moved_by m c) in
      says (with w k.channel (u ⟨control≔ control_by b (request_mode_of c.mode) (is_interleaved u.master) k.chains w u.control ⟩)) (answer.Unit w (unit_answer m eop))

  is_settled : (b : Bool) → ends ≡ b → settled b ≡ unit_of w eop u m
  unfolding unit_of after_unit settled
  is_settled b h = ap settled (sym (sym e ∙ h))

  pub settles_on : ends ≡ false → s ≡ gone_on w u m → says s (answer.Unit w (unit_answer m eop)) ≡ unit_of w eop u m
  unfolding gone_on settled
  settles_on h es = ap (λ (x : Controller). says x (answer.Unit w (unit_answer m eop))) es ∙ is_settled false h

  pub settles_ended : ends ≡ true → s ≡ ended_after w (reasons_of m eop) u m → says s (answer.Unit w (unit_answer m eop)) ≡ unit_of w eop u m
  unfolding ended_after settled
  settles_ended h es = ap (λ (x : Controller). says x (answer.Unit w (unit_answer m eop))) es ∙ is_settled true h

pub does_unit : (w : Which) (eop : Bool) (u : Controller) (z z' : Spaces) (c : Channel) (k : Work) (m : Moved) (s : Done Answer) → c ≡ at w u → k ≡ work_of c
    → whole m z' ≡ worked k z → s ≡ unit_of w eop u m → outcome s z' ≡ perform_of (Unit w) eop u z
unfolding perform_of
does_unit w eop u z z' c k m s ec ek em es =
    ap (λ (x : Done Answer). outcome x z') es
    ∙ ap (λ (x : Worked). outcome (unit_of w eop u x.moved) x.spaces) (em ∙ ap (λ (x : Work). worked x z) (ek ∙ ap work_of ec))
