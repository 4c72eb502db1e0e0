-- Promise D1d: Reset, pointer and register writes, request lines and acknowledge keep the controller well formed. Assumes nothing.
use mathlib.Core.Path.{◌≡◌, refl, sym, subst}
use mathlib.Core.Bool.{Bool, true, false, cond, ◌&&◌}
use Prim.Native.Nat.{ℕ, ◌%◌}
use native.Mathlib.Omega.{arith}
use Rattle.refusal.specs.declared.Refusal.{Refusal}
use Rattle.refusal.specs.declared.Refusal.TheVariants.{OtherChannelsIp, CannotChain}
use Rattle.std.specs.Prelude.{None, Option, Some, Result, Ok, Err}
use Rattle.port.specs.declared.Which.{Which}
use Rattle.port.specs.declared.Which.TheVariants.{One, Two}
use Rattle.port_write.specs.declared.WritePort.{WritePort}
use Rattle.port_write.specs.declared.WritePort.TheVariants as port
use Rattle.port_write.specs.Writable.{write_port}
use Rattle.word_command.specs.declared.Command.{Command}
use Rattle.word_command.specs.declared.Command.TheVariants.{Reset, Interrupts, SoftwareRequest, Flip, HardwareMask, StartChain}
use Rattle.word_command.specs.Command.{command_of}
use Rattle.word_mode.specs.Mode.{with_request, with_mask, with_flip}
use Rattle.channel.specs.declared.Channel.{Channel}
use Rattle.channel.specs.Set.{◌⟨mode≔◌⟩}
use Rattle.word_reload.specs.declared.Stage.{Stage}
use Rattle.step_bus.specs.declared.Control.{Control}
use Rattle.step.specs.declared.Controller.{Controller}
use Rattle.step.specs.Controller.{at, with}
use Rattle.step.specs.Set.{◌⟨control≔◌⟩, ◌⟨master≔◌⟩}
use Rattle.step_rules.specs.Rules.{is_enabled}
use Rattle.channel_command.specs.Effects.{cie_by, ip_by, chain_started, cannot_chain}
use Rattle.call_command.specs.Commands.{refuses, takes, unless_busy, busy_by, is_busy, carried_out, commanded_by, commanded, obeyed}
use Rattle.call_write.specs.Writing.{write_by, write_of}
use Rattle.call_pointer.specs.Pointer.{pointed}
use Rattle.port.specs.Ports.{is_other, channel_at}
use Rattle.call_reset.specs.Reset.{reset_of}
use Rattle.call_line.specs.Lines.{lined, lined_by, lined_at}
use Rattle.call_acknowledge.specs.Acknowledge.{acknowledged, acknowledged_at, acknowledge_by, acknowledge_of, interrupts}
use Rattle.promises.specs.WellFormed.{Clear, Software, Sound, TidyHalf, Owner, Keeper, Owned, WellFormed}
use Rattle.promises.proofs.WellChannel.{no, written_sound, requested_sound, masked_sound, flipped_sound, interrupts_sound, started_sound, reset_sound, lined_sound}
use Rattle.promises.proofs.WellEnding.{acknowledged_sound, acknowledged_same}

-- ---- a channel and the controller's own state anew

pub sound_at : (w : Which) (u : Controller) → WellFormed u → Sound (at w u)
unfolding at
sound_at One u h = h.one
sound_at Two u h = h.two

-- the channel that was put is there
pub at_with : (P : Channel → Type 0) (w : Which) (c : Channel) (u : Controller) → P c → P (at w (with w c u))
unfolding at with
at_with P One c u p = p
at_with P Two c u p = p

pub placed : (w : Which) (c : Channel) (k : Control) (u : Controller) → WellFormed u → Sound c → TidyHalf k.chain
    → Owned k.chain k.bus k.note (is_enabled u.master) (λ v. at v (with w c (u ⟨control≔ k ⟩)))
    → WellFormed (with w c (u ⟨control≔ k ⟩))
unfolding at with
placed One c k u h s t o = record { pointer_bits = h.pointer_bits; master_bits = h.master_bits; one = s; two = h.two; half = t; owned = o }
placed Two c k u h s t o = record { pointer_bits = h.pointer_bits; master_bits = h.master_bits; one = h.one; two = s; half = t; owned = o }

-- a channel that stays clear, in its mode, still owns the bus
record Stays (c d : Channel) : Type 0 where
  clear : Clear d
  mode : c.mode ≡ d.mode

module _ (c d : Which → Channel) (s : (w : Which) → Clear (c w) → Stays (c w) (d w)) (note on : Bool) where
  owner_stays : (w : Which) → Owner note on (c w) → Owner note on (d w)
  owner_stays w o = record { no_note = o.no_note; enabled = o.enabled; clear = (s w o.clear).clear }

  owned_stays : (chain : Option (Which × Stage)) (bus : Option Which) → Owned chain bus note on c → Owned chain bus note on d
  owned_stays None None o = o
  owned_stays None (Some w) o = record { owner = owner_stays w o.owner; software = subst Software (s w o.owner.clear).mode o.software }
  owned_stays (Some (w, s)) None o = owner_stays w o
  owned_stays (Some (w, s)) (Some v) o = o

pub controlled : (k : Control) (u : Controller) → WellFormed u → TidyHalf k.chain → Owned k.chain k.bus k.note (is_enabled u.master) (λ v. at v u)
    → WellFormed (u ⟨control≔ k ⟩)
unfolding at
controlled k u h t o = record {
  pointer_bits = h.pointer_bits;
  master_bits = h.master_bits;
  one = h.one;
  two = h.two;
  half = t;
  owned = owned_stays (λ v. at v u) (λ v. at v (u ⟨control≔ k ⟩)) same k.note (is_enabled u.master) k.chain k.bus o;
}
  where
    same : (v : Which) → Clear (at v u) → Stays (at v u) (at v (u ⟨control≔ k ⟩))
    same One e = record { clear = e; mode = refl }
    same Two e = record { clear = e; mode = refl }

-- a channel anew that stays as it is where it owns the bus
replaced : (w : Which) (c : Channel) (u : Controller) → WellFormed u → Sound c → (Clear (at w u) → Stays (at w u) c) → WellFormed (with w c u)
unfolding at with
replaced w c u h s f =
    placed w c u.control u h s h.half
    (owned_stays (λ v. at v u) (λ v. at v (with w c u)) (same w f) u.control.note (is_enabled u.master) u.control.chain u.control.bus h.owned)
  where
    same : (w : Which) → (Clear (at w u) → Stays (at w u) c) → (v : Which) → Clear (at v u) → Stays (at v u) (at v (with w c u))
    same One f One e = f e
    same One f Two e = record { clear = e; mode = refl }
    same Two f One e = record { clear = e; mode = refl }
    same Two f Two e = f e

-- who owns the bus, by what is known of the chain and the bus
module _ (note on : Bool) (c : Which → Channel) where
  pub free_owned : (bus : Option Which) → bus ≡ None → Owned None bus note on c
  free_owned bus e = subst (λ (b : Option Which). Owned None b note on c) (sym e) tt

  pub loose_owned : (chain : Option (Which × Stage)) → chain ≡ None → Owned chain None note on c
  loose_owned chain e = subst (λ (x : Option (Which × Stage)). Owned x None note on c) (sym e) tt

  pub chain_owned : (bus : Option Which) (w : Which) (s : Stage) → bus ≡ None → Owner note on (c w) → Owned (Some (w, s)) bus note on c
  chain_owned bus w s e o = subst (λ (b : Option Which). Owned (Some (w, s)) b note on c) (sym e) o

  pub kept_owned : (chain : Option (Which × Stage)) (w : Which) → chain ≡ None → Keeper note on (c w) → Owned chain (Some w) note on c
  kept_owned chain w e o = subst (λ (x : Option (Which × Stage)). Owned x (Some w) note on c) (sym e) o

  idle_owned : (bus : Option Which) (chain : Option (Which × Stage)) → busy_by bus chain ≡ false → Owned chain bus note on c
  idle_owned None None e = tt
  idle_owned None (Some (w, s)) e = no e refl
  idle_owned (Some w) chain e = no e refl

-- ---- register writes: without Reset nobody owns the bus

module _ (u : Controller) (h : WellFormed u) where
  pub reset_well : WellFormed (reset_of u)
  unfolding reset_of
  reset_well = record { pointer_bits = h.pointer_bits; master_bits = refl; one = reset_sound u.one h.one.0; two = reset_sound u.two h.two.0; half = tt; owned = tt }

  pub pointed_well : (w : ℕ) → WellFormed (pointed w u)
  unfolding at
  pointed_well w = record {
    pointer_bits = omega arith;
    master_bits = h.master_bits;
    one = h.one;
    two = h.two;
    half = h.half;
    owned = owned_stays (λ v. at v u) (λ v. at v (pointed w u)) same u.control.note (is_enabled u.master) u.control.chain u.control.bus h.owned;
  }
    where
      same : (v : Which) → Clear (at v u) → Stays (at v u) (at v (pointed w u))
      same One e = record { clear = e; mode = refl }
      same Two e = record { clear = e; mode = refl }

  module _ (idle : is_busy u ≡ false) where
    stored : (w : Which) (c : Channel) → Sound c → WellFormed (with w c u)
    unfolding is_busy
    stored w c s =
        placed w c u.control u h s h.half
        (idle_owned u.control.note (is_enabled u.master) (λ v. at v (with w c u)) u.control.bus u.control.chain idle)

    mastered : (w : ℕ) → WellFormed (u ⟨master≔ w % 16 ⟩)
    unfolding is_busy
    mastered w = record {
      pointer_bits = h.pointer_bits;
      master_bits = omega arith;
      one = h.one;
      two = h.two;
      half = h.half;
      owned = idle_owned u.control.note (is_enabled (w % 16)) (λ v. at v (u ⟨master≔ w % 16 ⟩)) u.control.bus u.control.chain idle;
    }

-- 3, 4 and 5 change nothing
unrefused : (b : Bool) (r : Refusal) (u v : Controller) → WellFormed u → (b ≡ false → WellFormed v) → WellFormed (cond b (refuses r u) (takes v)).state
unrefused true r u v h f = h
unrefused false r u v h f = f refl

module _ (u : Controller) (h : WellFormed u) where
  carried_well : (x : Command) (w : Which) → is_busy u ≡ false → WellFormed (carried_out x w u).state
  carried_well Reset w i = reset_well u h
  carried_well (Interrupts k set e p) w i =
      unrefused (p && is_other w k) OtherChannelsIp u (with k (ip_by p set k (cie_by e set (at k u))) u) h
      (λ q. stored u h i k (ip_by p set k (cie_by e set (at k u))) (interrupts_sound p e set k (at k u) (sound_at k u h)))
  carried_well (SoftwareRequest k set) w i = stored u h i k (at k u ⟨mode≔ with_request set (at k u).mode ⟩) (requested_sound set (at k u) (sound_at k u h))
  carried_well (Flip k set) w i = stored u h i k (at k u ⟨mode≔ with_flip set (at k u).mode ⟩) (flipped_sound set (at k u) (sound_at k u h))
  carried_well (HardwareMask k set) w i = stored u h i k (at k u ⟨mode≔ with_mask set (at k u).mode ⟩) (masked_sound set (at k u) (sound_at k u h))
  carried_well (StartChain k) w i =
      unrefused (cannot_chain (at k u)) CannotChain u (with k (chain_started (at k u)) u) h
      (λ q. stored u h i k (chain_started (at k u)) (started_sound (at k u) q (sound_at k u h)))

  obeyed_well : (x : Option Command) (w : Which) → is_busy u ≡ false → WellFormed (obeyed x w u).state
  obeyed_well None w i = h
  obeyed_well (Some x) w i = carried_well x w i

  plain_well : (busy : Bool) (x : Option Command) (w : Which) → is_busy u ≡ busy → WellFormed (commanded_by false busy x w u).state
  plain_well true x w i = h
  plain_well false x w i = obeyed_well x w i

  commanded_well : (x : Option Command) (w : Which) → WellFormed (commanded x w u).state
  unfolding commanded
  commanded_well (Some Reset) w = reset_well u h
  commanded_well (Some (Interrupts k set e p)) w = plain_well (is_busy u) (Some (Interrupts k set e p)) w refl
  commanded_well (Some (SoftwareRequest k set)) w = plain_well (is_busy u) (Some (SoftwareRequest k set)) w refl
  commanded_well (Some (Flip k set)) w = plain_well (is_busy u) (Some (Flip k set)) w refl
  commanded_well (Some (HardwareMask k set)) w = plain_well (is_busy u) (Some (HardwareMask k set)) w refl
  commanded_well (Some (StartChain k)) w = plain_well (is_busy u) (Some (StartChain k)) w refl
  commanded_well None w = plain_well (is_busy u) None w refl

  unless_well : (busy : Bool) (v : Controller) → is_busy u ≡ busy → (is_busy u ≡ false → WellFormed v) → WellFormed (unless_busy busy u (takes v)).state
  unless_well true v i f = h
  unless_well false v i f = f i

  write_by_lem : (p : Option WritePort) (w : ℕ) → WellFormed (write_by p w u).state
  write_by_lem (Some port.MasterMode) w = unless_well (is_busy u) _ refl (λ i. mastered u h i w)
  write_by_lem (Some (port.Command k)) w = commanded_well (command_of w) k
  write_by_lem (Some (port.Of k r)) w = unless_well (is_busy u) _ refl (λ i. stored u h i k _ (written_sound r w (at k u) (sound_at k u h)))
  write_by_lem None w = h

  pub write_well : (w : ℕ) → WellFormed (write_of w u).state
  unfolding write_of
  write_well w = write_by_lem (write_port u.pointer) w

  -- ---- request lines and acknowledge

  lined_well : (w : Which) (active : Bool) → WellFormed (with w (lined active (at w u)) u)
  unfolding lined
  lined_well w active = replaced w (lined active (at w u)) u h (lined_sound active (at w u) (sound_at w u h)) (λ e. record { clear = e; mode = refl })

  pub line_well : (n : ℕ) (active : Bool) → WellFormed (lined_at n active u).state
  unfolding lined_at
  line_well n active = go (channel_at n)
    where
      go : (r : Result Which Refusal) → WellFormed (lined_by r active u).state
      go (Ok w) = lined_well w active
      go (Err r) = h

  -- only a channel with SIP changes, and it owns no bus
  acknowledged_well : (w : Which) → WellFormed (acknowledged_at w u).state
  unfolding acknowledged_at
  acknowledged_well w =
      replaced w (acknowledged w (at w u)) u h (acknowledged_sound w (at w u) (sound_at w u h))
      (λ e. subst (Stays (at w u)) (sym (acknowledged_same w (at w u) e.no_sip)) (record { clear = e; mode = refl }))

  pub acknowledge_well : WellFormed (acknowledge_of u).state
  unfolding acknowledge_of
  acknowledge_well = go (interrupts u.one) (interrupts u.two)
    where
      go : (a b : Bool) → WellFormed (acknowledge_by a b u).state
      go true b = acknowledged_well One
      go false true = acknowledged_well Two
      go false false = h
