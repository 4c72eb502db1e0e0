-- Promise D1d: every state that calls reach from a fresh controller is well formed. Assumes nothing.
use mathlib.Core.Path.{◌≡◌, refl, subst}
use mathlib.Core.List.{List, [], ◌∷◌}
use Rattle.std.specs.Prelude.{None, Option, Some}
use Rattle.port.specs.declared.Which.{Which}
use Rattle.word_reload.specs.declared.Stage.{Stage}
use Rattle.step.specs.declared.Controller.{Controller}
use Rattle.step.specs.Controller.{at}
use Rattle.step_rules.specs.Rules.{is_enabled}
use Rattle.call_reset.specs.Reset.{reset_of, no_channel, fresh_of}
use Rattle.promises.specs.WellFormed.{Tidy, Owner, Keeper, Owned, WellFormed}
use Rattle.promises.proofs.WellChannel.{reset_sound}
use Rattle.promises.proofs.WellCalls.{reset_well, pointed_well, write_well, line_well, acknowledge_well}
use Rattle.promises.proofs.WellStep.{step_well, run_well}
use Rattle.space.specs.Space.{Spaces}
use Rattle.promises.specs.Calls.{Call, call}
use Rattle.promises.specs.Reached.{after_calls, ReachedWell}

pub fresh_well : WellFormed fresh_of
unfolding fresh_of reset_of
fresh_well = record { pointer_bits = refl; master_bits = refl; one = reset_sound no_channel zero_tidy; two = reset_sound no_channel zero_tidy; half = tt; owned = tt }
  where
    zero_tidy : Tidy no_channel
    zero_tidy = record { current_tags = record { a = refl; b = refl }; base_tags = record { a = refl; b = refl }; chain_tag = refl; mode_high = refl; vector_byte = refl }

-- each call keeps the controller well formed
call_well : (c : Call) (u : Controller) (z : Spaces) → WellFormed u → WellFormed (call c (record { controller = u; spaces = z })).after.controller
unfolding call
call_well Call.reset u z h = reset_well u h
call_well (Call.write_pointer w) u z h = pointed_well u h w
call_well Call.read_pointer u z h = h
call_well (Call.write w) u z h = write_well u h w
call_well Call.read u z h = h
call_well (Call.line n active) u z h = line_well u h n active
call_well Call.acknowledge u z h = acknowledge_well u h
call_well (Call.step eop) u z h = step_well u h eop z
call_well (Call.run budget) u z h = run_well budget u z h
call_well (Call.why n) u z h = h

calls_well : (cs : List (Call × Spaces)) (u : Controller) → WellFormed u → WellFormed (after_calls cs u)
unfolding after_calls
calls_well [] u h = h
calls_well (c ∷ cs) u h = calls_well cs _ (call_well c.0 u c.1 h)

pub reached_well : ReachedWell
reached_well cs = calls_well cs fresh_of fresh_well

-- ---- the owner of the bus, as it is said

pub chain_owner : (u : Controller) (w : Which) (s : Stage) → WellFormed u → u.control.chain ≡ Some (w, s)
    → (u.control.bus ≡ None) × Owner u.control.note (is_enabled u.master) (at w u)
chain_owner u w s h e =
    go u.control.bus (subst (λ (x : Option (Which × Stage)). Owned x u.control.bus u.control.note (is_enabled u.master) (λ v. at v u)) e h.owned)
  where
    go : (bus : Option Which) → Owned (Some (w, s)) bus u.control.note (is_enabled u.master) (λ v. at v u)
        → (bus ≡ None) × Owner u.control.note (is_enabled u.master) (at w u)
    go None o = (refl, o)
    go (Some v) o = absurd o

pub bus_keeper : (u : Controller) (w : Which) → WellFormed u → u.control.bus ≡ Some w
    → (u.control.chain ≡ None) × Keeper u.control.note (is_enabled u.master) (at w u)
bus_keeper u w h e =
    go u.control.chain (subst (λ (b : Option Which). Owned u.control.chain b u.control.note (is_enabled u.master) (λ v. at v u)) e h.owned)
  where
    go : (chain : Option (Which × Stage)) → Owned chain (Some w) u.control.note (is_enabled u.master) (λ v. at v u)
        → (chain ≡ None) × Keeper u.control.note (is_enabled u.master) (at w u)
    go None o = (refl, o)
    go (Some (v, s)) o = absurd o
