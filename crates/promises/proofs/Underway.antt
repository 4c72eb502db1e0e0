-- An operation of a channel, unit by unit: an unended unit goes on to the next, and what is no unit of it leaves it where it stands.
-- Assumes nothing.
use mathlib.Core.Path.{◌≡◌, refl, sym, ap, ◌∙◌, subst}
use mathlib.Core.Bool.{Bool, true, false, cond}
use Prim.Native.Nat.{ℕ, zero, suc, ◌-◌, ◌%◌, ◌≤◌, ◌<◌}
use native.Mathlib.Omega.{arith}
use Rattle.unit_laws.specs.Local.{Prog}
use Rattle.unit_laws.specs.Op.{Seen, bump, after}
use Rattle.unit_laws.proofs.Op.{Unended, Steady}
use Rattle.unit_count.specs.Count.{fewer}
use Rattle.unit_count.proofs.Laws.{fewer_left, units_some, units_mod}
use Rattle.word_address.specs.declared.Set.{Set}
use Rattle.word_mode.specs.declared.Mode.{Mode}
use Rattle.word_mode.specs.declared.Reasons.{Reasons}
use Rattle.word_mode.specs.declared.RequestMode.{RequestMode}
use Rattle.word_mode.specs.declared.RequestMode.TheVariants.{Single, DemandHold, DemandRelease, DemandInterleave}
use Rattle.word_operation.specs.declared.Operation.{Operation}
use Rattle.word_mode.specs.Mode.{operation_of, is_flipped, match_control, request_mode_of, is_requested, interrupt_of, reload_of}
use Rattle.word_mode.proofs.Laws.{control_request}
use Rattle.word_mode.specs.Reasons.{some, enabled_for}
use Rattle.unit.specs.declared.Moved.{Moved}
use Rattle.unit.specs.Unit.{moved_of, worked}
use Rattle.unit_accesses.specs.Accesses.{stepped_set}
use Rattle.channel.specs.declared.Channel.{Channel}
use Rattle.channel.proofs.Laws.{ends_exactly}
use Rattle.channel.specs.Ending.{saved, with_ip, flagged, interrupted_by, interrupted, reloads, finished, waited, end_of, moved_by, reasons_of, spent, unended_by, unended, after_by, after_unit}
use Rattle.step_bus.specs.declared.Control.{Control}
use Rattle.step_rules.specs.declared.Choice.{Choice}
use Rattle.step_rules.specs.declared.Choice.TheVariants as chosen
use Rattle.step_rules.specs.Rules.{is_interleaved}
use Rattle.port.specs.Ports.{channel_number}
use Rattle.step.specs.Answers.{unit, paper}
use Rattle.step.specs.Controller.{at, with}
use Rattle.step.specs.Step.{unit_of, perform_of, step_of}
use Rattle.step_bus.specs.After.{control_by}
use Rattle.port.specs.declared.Which.{Which}
use Rattle.port.specs.declared.Which.TheVariants.{One, Two}
use Rattle.promises.specs.Machine.{Machine, answer, next_choice, channel, unit_reads, unit_writes}
use Rattle.promises.specs.Calls.{Moment, next}
use Rattle.promises.specs.Own.{owns, spares, chain_of_machine, made, units_of, Armed}
use Rattle.promises.proofs.Seen.{seen}
use Rattle.promises.proofs.Own.{LeftAlone, by}
use Rattle.promises.proofs.Stretch.{owns_unit, unit_is, rest_next}

-- the accesses of the channel's next unit
abbrev pub prog : Which → Prog Machine
prog w = record { reads = λ m. unit_reads (channel w m); writes = λ m. unit_writes (channel w m); next = λ m x. m }

-- ---- a unit

-- its answer has the end reasons that it has, and its changes of bits 23-16
pub unit_answer_lem : (w : Which) (m : Machine) → owns w (next_choice m) ≡ true
    → paper (answer m) ≡ record { number = 0; name = unit; channel = channel_number w; why = reasons_of (made w m) false; upper = (made w m).upper }
unfolding step_of perform_of unit_of
unit_answer_lem w m e = ap (λ (c : Choice). paper (perform_of c false m.controller m.spaces).stepped.answer) (owns_unit w (next_choice m) e)

pub unit_left : (w : Which) (m : Machine) → channel w (by (chosen.Unit w) m) ≡ (after_unit w false (made w m) (channel w m)).channel
unfolding perform_of unit_of at with
unit_left One m = refl
unit_left Two m = refl

abbrev control_by_lem : Bool → Which → Machine → Control
control_by_lem ends w m =
    control_by ends (request_mode_of (channel w m).mode) (is_interleaved m.controller.master) (after_unit w false (made w m) (channel w m)).chains w m.controller.control

control_left : (w : Which) (m : Machine) → (by (chosen.Unit w) m).controller.control ≡ control_by_lem (some (reasons_of (made w m) false)) w m
unfolding perform_of unit_of at with
control_left One m = refl
control_left Two m = refl

-- unended, it puts no chain under way ..
unended_chain : (w : Which) (r : RequestMode) (cpu chains : Bool) (k : Control) → (control_by false r cpu chains w k).chain ≡ k.chain
unended_chain w Single cpu chains k = refl
unended_chain w DemandHold cpu chains k = refl
unended_chain w DemandRelease cpu chains k = refl
unended_chain w DemandInterleave cpu chains k = refl

-- .. and leaves the registers that it does not move
pub record Goes (c d : Channel) : Type 0 where
  pub pattern : d.pattern ≡ c.pattern
  pub mask : d.mask ≡ c.mask
  pub op : operation_of d.mode ≡ operation_of c.mode
  pub flip : is_flipped d.mode ≡ is_flipped c.mode
  pub control : match_control d.mode ≡ match_control c.mode
  pub pending : d.pending ≡ c.pending

goes_spent : (b : Bool) (c : Channel) → Goes c (spent b c)
unfolding operation_of
goes_spent true c = record { pattern = refl; mask = refl; op = refl; flip = refl; control = control_request false c.mode; pending = refl }
goes_spent false c = record { pattern = refl; mask = refl; op = refl; flip = refl; control = refl; pending = refl }

goes_same : (c : Channel) → Goes c c
goes_same c = record { pattern = refl; mask = refl; op = refl; flip = refl; control = refl; pending = refl }

goes_mode : (r : RequestMode) (c : Channel) → Goes c (unended_by r c)
goes_mode Single c = goes_spent (is_requested c.mode) c
goes_mode DemandHold c = goes_same c
goes_mode DemandRelease c = goes_same c
goes_mode DemandInterleave c = goes_same c

spent_current : (b : Bool) (c : Channel) → (spent b c).current ≡ c.current
spent_current true c = refl
spent_current false c = refl

mode_current : (r : RequestMode) (c : Channel) → (unended_by r c).current ≡ c.current
mode_current Single c = spent_current (is_requested c.mode) c
mode_current DemandHold c = refl
mode_current DemandRelease c = refl
mode_current DemandInterleave c = refl

goes_moved : (x : Moved) (c d : Channel) → Goes (moved_by x c) d → Goes c d
unfolding moved_by
goes_moved x c d g = record { pattern = g.pattern; mask = g.mask; op = g.op; flip = g.flip; control = g.control; pending = g.pending }

module _ (w : Which) (x : Moved) (c : Channel) (e : some (reasons_of x false) ≡ false) where
  after_is : (after_unit w false x c).channel ≡ unended_by (request_mode_of (moved_by x c).mode) (moved_by x c)
  unfolding after_unit unended
  after_is = ap (λ (b : Bool). (after_by b w (reasons_of x false) (moved_by x c)).channel) e

  goes_after : Goes c (after_unit w false x c).channel
  goes_after = subst (Goes c) (sym after_is) (goes_moved x c _ (goes_mode (request_mode_of (moved_by x c).mode) (moved_by x c)))

  current_after : (after_unit w false x c).channel.current ≡ x.set
  unfolding moved_by
  current_after = ap (λ (k : Channel). k.current) after_is ∙ mode_current (request_mode_of (moved_by x c).mode) (moved_by x c)

-- the channel after an unended unit
module _ (w : Which) (m : Machine) (e : some (reasons_of (made w m) false) ≡ false) where
  pub unit_goes : Goes (channel w m) (channel w (by (chosen.Unit w) m))
  unit_goes = subst (Goes (channel w m)) (sym (unit_left w m)) (goes_after w (made w m) (channel w m) e)

  pub unit_current : (channel w (by (chosen.Unit w) m)).current ≡ (made w m).set
  unit_current = ap (λ (c : Channel). c.current) (unit_left w m) ∙ current_after w (made w m) (channel w m) e

-- ---- a unit that ends the operation leaves the registers that it moved, where no reload is enabled for a reason

interrupted_keeps : (b ip : Bool) (w : Which) (c : Channel) → ((interrupted_by b ip w c).current ≡ c.current) × ((interrupted_by b ip w c).mode ≡ c.mode)
unfolding with_ip saved
interrupted_keeps false ip w c = (refl, refl)
interrupted_keeps true false w c = (refl, refl)
interrupted_keeps true true w c = (refl, refl)

waited_current : (b : Bool) (why : Reasons) (c : Channel) → reloads why c ≡ false → (waited b why c).channel.current ≡ c.current
unfolding finished
waited_current true why c e = refl
waited_current false why c e = ap (λ (b : Bool). cond b c.base c.current) e

end_current : (w : Which) (why : Reasons) (c : Channel) → reloads why c ≡ false → (end_of w why c).channel.current ≡ c.current
unfolding end_of interrupted flagged
end_current w why c e =
    let i = interrupted w why (flagged why c) in
    let k = interrupted_keeps (enabled_for (interrupt_of (flagged why c).mode) why) c.interrupt.ip w (flagged why c) in
    waited_current i.interrupt.sip why i (ap (λ (m : Mode). enabled_for (reload_of m) why) k.1 ∙ e) ∙ k.0

pub ended_current : (w : Which) (m : Machine) → some (reasons_of (made w m) false) ≡ true → enabled_for (reload_of (channel w m).mode) (reasons_of (made w m) false) ≡ false
    → (channel w (by (chosen.Unit w) m)).current ≡ (made w m).set
unfolding after_unit moved_by
ended_current w m e r =
    let why = reasons_of (made w m) false in
    ap (λ (c : Channel). c.current) (unit_left w m)
    ∙ ap (λ (b : Bool). (after_by b w why (moved_by (made w m) (channel w m))).channel.current) e
    ∙ end_current w why (moved_by (made w m) (channel w m)) r

-- ---- where the operation stands

-- its operation is o, and k of n units are done; no chain of the channel is pending or under way
pub record Underway (w : Which) (o : Operation) (n k : ℕ) (m : Machine) : Type 0 where
  pub operation : operation_of (channel w m).mode ≡ o
  pub count : (channel w m).current.count ≡ (n - k) % 65536
  pub pending : (channel w m).pending ≡ false
  pub spared : spares w (chain_of_machine m) ≡ true

pub begins : (w : Which) (o : Operation) (n : ℕ) (m : Machine) → units_of w m ≡ n → Armed w o m → Underway w o n zero m
begins w o n m e h = record {
  operation = h.operation;
  count = let u = units_mod (channel w m).current.count h.sixteen_bits in omega arith;
  pending = h.pending;
  spared = h.spared;
}

pub units_fit : (w : Which) (o : Operation) (n : ℕ) (m : Machine) → units_of w m ≡ n → Armed w o m → n ≤ 65536
units_fit w o n m e h = subst (λ (c : ℕ). c ≤ 65536) e (units_some (channel w m).current.count h.sixteen_bits).1

module _ (w : Which) (o : Operation) (n k : ℕ) (m : Machine) where
  pub count_made : n ≤ 65536 → k < n → Underway w o n k m → (made w m).set.count ≡ (n - suc k) % 65536
  unfolding worked moved_of stepped_set
  count_made fits b h = ap fewer h.count ∙ fewer_left n k fits b

  pub next_underway : n ≤ 65536 → k < n → Underway w o n k m → some (reasons_of (made w m) false) ≡ false → Underway w o n (suc k) (by (chosen.Unit w) m)
  next_underway fits b h e = record {
    operation = (unit_goes w m e).op ∙ h.operation;
    count = ap (λ (s : Set). s.count) (unit_current w m e) ∙ count_made fits b h;
    pending = (unit_goes w m e).pending ∙ h.pending;
    spared = ap (λ (x : Control). spares w x.chain) (control_left w m) ∙ ap (λ (x : Bool). spares w (control_by_lem x w m).chain) e
        ∙ ap (spares w) (unended_chain w (request_mode_of (channel w m).mode) (is_interleaved m.controller.master) (after_unit w false (made w m) (channel w m)).chains m.controller.control)
        ∙ h.spared;
  }

  pub rest_underway : (m' : Machine) → LeftAlone w m m' → Underway w o n k m → Underway w o n k m'
  rest_underway m' l h = record {
    operation = ap (λ (x : Channel). operation_of x.mode) l.alone ∙ h.operation;
    count = ap (λ (x : Channel). x.current.count) l.alone ∙ h.count;
    pending = ap (λ (x : Channel). x.pending) l.alone ∙ h.pending;
    spared = l.spared;
  }

module _ (w : Which) (o : Operation) (n : ℕ) (At : ℕ → Machine → Type 0)
    (underway : (k : ℕ) (m : Machine) → At k m → Underway w o n k m)
    (goes : (k : ℕ) (m : Machine) → k < n → At k m → some (reasons_of (made w m) false) ≡ false → At (suc k) (by (chosen.Unit w) m))
    (rests : (k : ℕ) (m m' : Machine) → LeftAlone w m m' → At k m → At k m') where
  pub steady : (k : ℕ) (x : Moment) → k < n → At k x.machine → Steady (seen w) n At k x
  steady k x b h = record {
    goes = λ e f c. subst (At (suc k)) (sym (unit_is w x e)) (goes k x.machine b h (ends_exactly (made w x.machine) ∙ f));
    rest = λ e. rests k x.machine (next x).machine (rest_next w x (underway k x.machine h).pending (underway k x.machine h).spared e) h;
  }

-- ---- any stretch

pub bump_grows : (b : Bool) (k : ℕ) → k ≤ bump b k
bump_grows true k = omega arith
bump_grows false k = omega arith

module _ {M R : Type 0} (v : Seen M R) where
  pub after_grows : (i k : ℕ) (m : M) → k ≤ after v k i m
  after_grows zero k m = omega arith
  after_grows (suc i) k m =
      let g = after_grows i (bump (v.mine m) k) (v.step m) in
      let b = bump_grows (v.mine m) k in
      omega arith

  pub steady_step : (n : ℕ) (At : ℕ → R → Type 0) (k : ℕ) (m : M) → Steady v n At k m → Unended v m → bump (v.mine m) k < n
      → At (bump (v.mine m) k) (v.reg (v.step m))
  steady_step n At k m h u = go (v.mine m) refl
    where
      go : (b : Bool) → v.mine m ≡ b → bump b k < n → At (bump b k) (v.reg (v.step m))
      go true e c = h.goes e (u e) c
      go false e c = h.rest e
