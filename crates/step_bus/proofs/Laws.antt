-- Document 01, "Which step comes next", "Chaining" and "Ending": what each step leaves of the bus, the note and "served last", one by one.
-- Assumes nothing.
use mathlib.Core.Path.{◌≡◌, refl}
use mathlib.Core.Bool.{Bool, true, false, not, cond, ◌&&◌, ◌||◌}
use Rattle.std.specs.Prelude.{None, Option, Some}
use Rattle.port.specs.declared.Which.{Which}
use Rattle.word_mode.specs.declared.RequestMode.{RequestMode}
use Rattle.word_mode.specs.declared.RequestMode.TheVariants.{Single, DemandHold, DemandRelease, DemandInterleave}
use Rattle.word_mode.specs.Mode.{is_interleave}
use Rattle.step_bus.specs.declared.Back.{Back}
use Rattle.step_bus.specs.declared.Back.TheVariants.{Note, Bus}
use Rattle.step_bus.specs.declared.Control.{Control}
use Rattle.step_bus.specs.After.{unended_control, held_control, control_by, control_fetched, dropped_control, back_control}
use Rattle.word_reload.specs.declared.Progress.{Progress}

module _ (w : Which) (k : Control) where
  -- After an unended unit both dedicated modes keep the bus; single and interleave do not.
  pub dedicated_keep : (cpu : Bool) → ((unended_control DemandHold cpu w k).bus ≡ Some w) × ((unended_control DemandRelease cpu w k).bus ≡ Some w)
  dedicated_keep cpu = (refl, refl)

  pub others_free : (cpu : Bool) → ((unended_control Single cpu w k).bus ≡ None) × ((unended_control DemandInterleave cpu w k).bus ≡ None)
  others_free cpu = (refl, refl)

  -- Interleave leaves a give-back note with CPU interleave set; what else was noted stays.
  pub interleave_notes : (m : RequestMode) (cpu : Bool) → (unended_control m cpu w k).note ≡ (is_interleave m && cpu) || k.note
  interleave_notes Single cpu = refl
  interleave_notes DemandHold cpu = refl
  interleave_notes DemandRelease cpu = refl
  interleave_notes DemandInterleave cpu = refl

  -- An end frees the bus, after a unit and while holding.
  pub an_end_frees : (m : RequestMode) (cpu chains : Bool) → ((control_by true m cpu chains w k).bus ≡ None) × ((held_control chains w k).bus ≡ None)
  an_end_frees m cpu chains = (refl, refl)

  -- Served last is the channel of the latest unit, ended or not;
  pub a_unit_serves : (ends : Bool) (m : RequestMode) (cpu chains : Bool) → (control_by ends m cpu chains w k).served ≡ Some w
  a_unit_serves true m cpu chains = refl
  a_unit_serves false Single cpu chains = refl
  a_unit_serves false DemandHold cpu chains = refl
  a_unit_serves false DemandRelease cpu chains = refl
  a_unit_serves false DemandInterleave cpu chains = refl

  -- a fetch does not change it, nor a dropped chain, an end while holding, or what is given back.
  pub a_fetch_serves_nobody : (n : Option Progress) (cpu active : Bool) → (control_fetched n cpu active w k).served ≡ k.served
  a_fetch_serves_nobody (Some p) cpu active = refl
  a_fetch_serves_nobody None true active = refl
  a_fetch_serves_nobody None false true = refl
  a_fetch_serves_nobody None false false = refl

  pub others_serve_nobody : (chains : Bool) (b : Back)
      → ((dropped_control k).served ≡ k.served) × ((held_control chains w k).served ≡ k.served) × ((back_control b k).served ≡ k.served)
  others_serve_nobody chains Note = (refl, refl, refl)
  others_serve_nobody chains Bus = (refl, refl, refl)

  -- After the last fetch CPU interleave set leaves a give-back note; clear, the channel keeps the bus if its request is active.
  pub last_fetch_notes : (cpu active : Bool) → (control_fetched None cpu active w k).note ≡ cpu || k.note
  last_fetch_notes true active = refl
  last_fetch_notes false true = refl
  last_fetch_notes false false = refl

  pub last_fetch_keeps : (cpu active : Bool) → (control_fetched None cpu active w k).bus ≡ cond (not cpu && active) (Some w) k.bus
  last_fetch_keeps true active = refl
  last_fetch_keeps false true = refl
  last_fetch_keeps false false = refl
