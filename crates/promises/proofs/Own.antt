-- What a step does to a channel and to the spaces, by whether it is a unit of that channel. For either channel. Assumes nothing.
use mathlib.Core.Path.{◌≡◌, refl, sym, ap, ◌∙◌}
use mathlib.Core.Bool.{Bool, true, false, not, true≢false}
use Rattle.std.specs.Prelude.{None, Option, Some}
use Rattle.space.specs.declared.Place.{Place}
use Rattle.space.specs.declared.Width.TheVariants.{Word}
use Rattle.space.specs.Space.{Spaces, get, value_in}
use Rattle.space.specs.Bytes.{gets}
use Rattle.unit_laws.specs.Local.{In, Agree, places}
use Rattle.unit_laws.proofs.Local.{puts_keeps}
use Rattle.port.specs.declared.Which.{Which}
use Rattle.port.specs.declared.Which.TheVariants.{One, Two}
use Rattle.word_mode.specs.declared.RequestMode.{RequestMode}
use Rattle.word_mode.specs.declared.RequestMode.TheVariants.{Single, DemandHold, DemandRelease, DemandInterleave}
use Rattle.word_mode.specs.Mode.{request_mode_of}
use Rattle.word_mode.specs.Reasons.{some}
use Rattle.word_address.specs.Address.{number}
use Rattle.unit.specs.Unit.{worked}
use Rattle.channel_request.specs.Request.{requests}
use Rattle.channel.specs.Set.{◌⟨line≔◌⟩}
use Rattle.channel.specs.Ending.{reasons_of, after_unit}
use Rattle.chain.specs.Chaining.{fetched_of}
use Rattle.word_reload.specs.declared.Stage.{Stage}
use Rattle.step_bus.specs.declared.Control.{Control}
use Rattle.step.specs.declared.Controller.{Controller}
use Rattle.step_rules.specs.declared.Choice.{Choice}
use Rattle.step_rules.specs.declared.Choice.TheVariants as chosen
use Rattle.step.specs.Controller.{at, with}
use Rattle.space_board.specs.declared.Board.{Board}
use Rattle.step_rules.proofs.View.Intends.{disabled, goes_on_by_rule, noted, keeps, holds, releases, begins_chain, begins_unit, idle}
use Rattle.step_rules.proofs.View.Because.{as_intended, refused}
use Rattle.step.specs.Choice.{choice}
use Rattle.step.proofs.Laws.{Chosen, chosen as why}
use Rattle.step_rules.specs.Rules.{is_interleaved}
use Rattle.step.specs.Fetching.{drop_of, fetch_of}
use Rattle.step_bus.specs.After.{control_fetched, control_by}
use Rattle.step.specs.Step.{work_of, unit_of, hold_of, perform_of}
use Rattle.promises.specs.Machine.{Machine, left, channel, unit_writes, unit_reads}
use Rattle.promises.proofs.Machine.{unit_spaces}
use Rattle.port.specs.Ports.{other}
use Rattle.promises.specs.Own.{same, owns, spares, chain_of_machine}
use Rattle.word_reload.specs.declared.Progress.{Progress}

abbrev pub fetches : Which → Choice → Bool
fetches w chosen.Disabled = false
fetches w (chosen.Refused r) = false
fetches w (chosen.Fetch v s) = same w v
fetches w chosen.GiveBack = false
fetches w (chosen.Unit v) = false
fetches w (chosen.Hold v) = false
fetches w chosen.Release = false
fetches w chosen.Idle = false

-- ---- a channel without a chain is not fetched for

differs : (b : Bool) → not b ≡ true → b ≡ false
differs true e = sym e
differs false e = refl

-- a chain that is begun is another channel's
another : (w v : Which) (u : Controller) → (at w u).pending ≡ false → (at v u).pending ≡ true → same w v ≡ false
another One One u e f = absurd (true≢false (sym f ∙ e))
another One Two u e f = refl
another Two One u e f = refl
another Two Two u e f = absurd (true≢false (sym f ∙ e))

module _ (w : Which) (b : Board) (u : Controller) (calm : (at w u).pending ≡ false) (f : spares w u.control.chain ≡ true) where
  by_reason : {c : Choice} → Chosen b u c → fetches w c ≡ false
  by_reason (as_intended (disabled e) r) = refl
  by_reason (as_intended (goes_on_by_rule v s e c) r) = differs (same w v) (sym (ap (spares w) c) ∙ f)
  by_reason (as_intended (noted e c n) r) = refl
  by_reason (as_intended (keeps v k) r) = refl
  by_reason (as_intended (holds v k h) r) = refl
  by_reason (as_intended (releases v k h) r) = refl
  by_reason (as_intended (begins_chain v t p) r) = another w v u calm p
  by_reason (as_intended (begins_unit v t p) r) = refl
  by_reason (as_intended (idle t) r) = refl
  by_reason (refused i r) = refl

  pub unfetched : fetches w (choice b u) ≡ false
  unfetched = by_reason (why b u)

-- but for the line, which a step leaves alone too
pub record LeftAlone (w : Which) (m n : Machine) : Type 0 where
  pub alone : channel w n ≡ channel w m ⟨line≔ (channel w n).line ⟩
  pub spared : spares w (chain_of_machine n) ≡ true

abbrev pub by : Choice → Machine → Machine
by c m = left (perform_of c false m.controller m.spaces)

spared_fetch : (w v : Which) → same w v ≡ false → (x : Option Progress) (cpu act : Bool) (k : Control) → spares w k.chain ≡ true
    → spares w (control_fetched x cpu act v k).chain ≡ true
spared_fetch w v e (Some p) cpu act k f = ap not e
spared_fetch w v e None true act k f = refl
spared_fetch w v e None false true k f = refl
spared_fetch w v e None false false k f = refl

spared_unit : (w v : Which) → same w v ≡ false → (ends : Bool) (r : RequestMode) (cpu chains : Bool) (k : Control) → spares w k.chain ≡ true
    → spares w (control_by ends r cpu chains v k).chain ≡ true
spared_unit w v e true r cpu true k f = ap not e
spared_unit w v e true r cpu false k f = f
spared_unit w v e false Single cpu chains k f = f
spared_unit w v e false DemandHold cpu chains k f = f
spared_unit w v e false DemandRelease cpu chains k f = f
spared_unit w v e false DemandInterleave cpu chains k f = f

-- the controller's own state after a fetch, and after a unit, of channel v
fetched_control : (v : Which) (g : Stage) (m : Machine) → Control
fetched_control v g m =
    let l = fetched_of g (value_in Word m.spaces.memory (number (at v m.controller).chain)) (at v m.controller) in
    control_fetched l.next (is_interleaved m.controller.master) (requests l.channel.mode l.channel.line) v m.controller.control

unit_control : (v : Which) (m : Machine) → Control
unit_control v m =
    let x = (worked (work_of (at v m.controller)) m.spaces).moved in
    control_by (some (reasons_of x false)) (request_mode_of (at v m.controller).mode) (is_interleaved m.controller.master)
    (after_unit v false x (at v m.controller)).chains v m.controller.control

spared_fetched : (w v : Which) (g : Stage) (m : Machine) → same w v ≡ false → spares w (chain_of_machine m) ≡ true → spares w (fetched_control v g m).chain ≡ true
unfolding fetched_control
spared_fetched w v g m e f =
    let l = fetched_of g (value_in Word m.spaces.memory (number (at v m.controller).chain)) (at v m.controller) in
    spared_fetch w v e l.next (is_interleaved m.controller.master) (requests l.channel.mode l.channel.line) m.controller.control f

spared_moved : (w v : Which) (m : Machine) → same w v ≡ false → spares w (chain_of_machine m) ≡ true → spares w (unit_control v m).chain ≡ true
unfolding unit_control
spared_moved w v m e f =
    let x = (worked (work_of (at v m.controller)) m.spaces).moved in
    spared_unit w v e (some (reasons_of x false)) (request_mode_of (at v m.controller).mode) (is_interleaved m.controller.master)
    (after_unit v false x (at v m.controller)).chains m.controller.control f

pub rest_of : (w : Which) (c : Choice) (m : Machine) → owns w c ≡ false → fetches w c ≡ false → spares w (chain_of_machine m) ≡ true → LeftAlone w m (by c m)
unfolding perform_of drop_of fetch_of unit_of hold_of at with fetched_control unit_control
rest_of w chosen.Disabled m e f s = record { alone = refl; spared = s }
rest_of w (chosen.Refused r) m e f s = record { alone = refl; spared = s }
rest_of One (chosen.Fetch One g) m e f s = absurd (true≢false f)
rest_of One (chosen.Fetch Two g) m e f s = record { alone = refl; spared = spared_fetched One Two g m refl s }
rest_of Two (chosen.Fetch One g) m e f s = record { alone = refl; spared = spared_fetched Two One g m refl s }
rest_of Two (chosen.Fetch Two g) m e f s = absurd (true≢false f)
rest_of One chosen.GiveBack m e f s = record { alone = refl; spared = s }
rest_of Two chosen.GiveBack m e f s = record { alone = refl; spared = s }
rest_of One (chosen.Unit One) m e f s = absurd (true≢false e)
rest_of One (chosen.Unit Two) m e f s = record { alone = refl; spared = spared_moved One Two m refl s }
rest_of Two (chosen.Unit One) m e f s = record { alone = refl; spared = spared_moved Two One m refl s }
rest_of Two (chosen.Unit Two) m e f s = absurd (true≢false e)
rest_of w (chosen.Hold v) m e f s = record { alone = refl; spared = s }
rest_of One chosen.Release m e f s = record { alone = refl; spared = s }
rest_of Two chosen.Release m e f s = record { alone = refl; spared = s }
rest_of w chosen.Idle m e f s = record { alone = refl; spared = s }

pub unit_keeps : (v : Which) (P : Place → Type 0) (m : Machine) → ((l : Place) → P l → ¬ (In l (places (unit_writes (channel v m)))))
    → Agree P (worked (work_of (channel v m)) m.spaces).spaces m.spaces
unit_keeps v P m h l p =
    ap (λ (z : Spaces). get z l) (sym (unit_spaces v (channel v m) m.spaces))
    ∙ puts_keeps (unit_writes (channel v m)) (gets m.spaces (unit_reads (channel v m))) m.spaces l (h l p)

pub others_keep : (w : Which) (P : Place → Type 0) (c : Choice) (m : Machine)
    → (owns (other w) c ≡ true → (l : Place) → P l → ¬ (In l (places (unit_writes (channel (other w) m))))) → owns w c ≡ false
    → Agree P (by c m).spaces m.spaces
unfolding perform_of
others_keep w P chosen.Disabled m u e l x = refl
others_keep w P (chosen.Refused r) m u e l x = refl
others_keep w P (chosen.Fetch v s) m u e l x = refl
others_keep w P chosen.GiveBack m u e l x = refl
others_keep One P (chosen.Unit One) m u e l x = absurd (true≢false e)
others_keep One P (chosen.Unit Two) m u e l x = unit_keeps Two P m (u refl) l x
others_keep Two P (chosen.Unit One) m u e l x = unit_keeps One P m (u refl) l x
others_keep Two P (chosen.Unit Two) m u e l x = absurd (true≢false e)
others_keep w P (chosen.Hold v) m u e l x = refl
others_keep w P chosen.Release m u e l x = refl
others_keep w P chosen.Idle m u e l x = refl
