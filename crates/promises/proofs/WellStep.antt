-- Promise D1d: a step keeps the controller well formed, and so does a run. Assumes nothing.
use mathlib.Core.Path.{◌≡◌, refl, sym, ap, ◌∙◌, subst}
use mathlib.Core.Bool.{Bool, true, false, cond, ◌||◌, true≢false}
use mathlib.Core.List.{List}
use mathlib.Core.Logic.{◌⊎◌, inl, inr}
use Prim.Native.Nat.{ℕ, zero, suc}
use lib.Dec.{ltb}
use Rattle.refusal.specs.declared.Refusal.TheVariants.{LongRun}
use Rattle.std.specs.Prelude.{None, Option, Some}
use Rattle.space.specs.declared.Width.TheVariants.{Word}
use Rattle.space.specs.Space.{Spaces, value_in}
use Rattle.port.specs.declared.Which.{Which}
use Rattle.word_address.specs.Address.{number}
use Rattle.word_mode.specs.declared.Reasons.{Reasons}
use Rattle.word_mode.specs.declared.RequestMode.{RequestMode}
use Rattle.word_mode.specs.declared.RequestMode.TheVariants.{Single, DemandHold, DemandRelease, DemandInterleave}
use Rattle.word_mode.specs.Mode.{request_mode_of}
use Rattle.word_mode.specs.Reasons.{some}
use Rattle.unit.specs.declared.Moved.{Moved}
use Rattle.unit.specs.Unit.{worked}
use Rattle.channel.specs.declared.Channel.{Channel}
use Rattle.channel.specs.declared.Ended.{Ended}
use Rattle.channel.specs.Set.{◌⟨pending≔◌⟩}
use Rattle.channel.specs.Candidate.{is_candidate}
use Rattle.channel_request.specs.Request.{requests}
use Rattle.channel_request.specs.Candidate.{candidate_of}
use Rattle.channel_request.proofs.Candidate.{Ready, candidate_exactly}
use Rattle.channel.specs.Ending.{end_of, moved_by, unended_by, unended, reasons_of, after_by, after_unit}
use Rattle.word_reload.specs.declared.Stage.{Stage}
use Rattle.word_reload.specs.declared.Stage.TheVariants.{Entries}
use Rattle.chain.specs.Chaining.{fetched_of, dropped_of}
use Rattle.step_bus.specs.declared.Control.{Control}
use Rattle.step.specs.declared.Controller.{Controller}
use Rattle.step_rules.specs.declared.Choice.{Choice}
use Rattle.step_rules.specs.declared.Choice.TheVariants as chosen
use Rattle.step.specs.declared.Answer.TheVariants as answer
use Rattle.step.specs.Controller.{at, with}
use Rattle.step.specs.Step.{work_of, Outcome, outcome, says, unit_of, eop_alone, hold_of, perform_of, step_of}
use Rattle.step_bus.specs.After.{chain_after, unended_control, control_by, control_fetched}
use Rattle.step.specs.Set.{◌⟨control≔◌⟩}
use Rattle.step_bus.specs.Set.{◌⟨chain≔◌⟩, ◌⟨bus≔◌⟩, ◌⟨note≔◌⟩}
use Rattle.space_board.specs.declared.Board.{Board}
use Rattle.space_board.specs.Board.{board_of}
use Rattle.step_rules.proofs.View.{Keeps, Turns}
use Rattle.step_rules.proofs.View.Intends.{disabled, goes_on_by_rule, noted, keeps, holds, releases, begins_chain, begins_unit, idle}
use Rattle.step_rules.proofs.View.Because.{as_intended, refused}
use Rattle.step.specs.Choice.{facts_of, choice}
use Rattle.step.proofs.Laws.{Chosen, chosen as why, is_candidate_lem}
use Rattle.step_rules.specs.Rules.{is_enabled, is_interleaved}
use Rattle.step.specs.Fetching.{drop_of, fetch_of}
use Rattle.call_run.specs.Run.{stops, next, advanced, run_from, run_of}
use Rattle.promises.specs.WellFormed.{Tidy, TidyStage, ClearFlags, Clear, Software, TidyHalf, Owner, Keeper, Owned, WellFormed}
use Rattle.promises.proofs.WellChannel.{no, clear_settled}
use Rattle.promises.proofs.WellEnding.{EndedWell, ended_well, moved_tidy, moved_clear, unended_tidy, unended_clear, TidyNext, Finished, fetched_well, dropped_sound}
use Rattle.promises.proofs.WellCalls.{sound_at, at_with, placed, controlled, free_owned, loose_owned, chain_owned, kept_owned}
use Rattle.word_reload.specs.declared.Progress.{Progress}

-- ---- what the next step's choice presumes

-- a fetch: the bus is free, and the channel is clear but for the chain pending, which the fetch takes
record Fetching (s : Stage) (bus : Option Which) (note on : Bool) (c : Channel) : Type 0 where
  free : bus ≡ None
  owner : Owner note on (c ⟨pending≔ false ⟩)
  stage : TidyStage s

-- a unit, or holding: no chain is under way
record Working (chain : Option (Which × Stage)) (note on : Bool) (c : Channel) : Type 0 where
  no_chain : chain ≡ None
  owner : Owner note on c

abbrev Meant : Choice → Controller → Type 0
Meant chosen.Disabled u = Unit {0}
Meant (chosen.Refused r) u = Unit {0}
Meant (chosen.Fetch w s) u = Fetching s u.control.bus u.control.note (is_enabled u.master) (at w u)
Meant chosen.GiveBack u = (u.control.chain ≡ None) × (u.control.bus ≡ None)
Meant (chosen.Unit w) u = Working u.control.chain u.control.note (is_enabled u.master) (at w u)
Meant (chosen.Hold w) u = Working u.control.chain u.control.note (is_enabled u.master) (at w u)
Meant chosen.Release u = u.control.chain ≡ None
Meant chosen.Idle u = Unit {0}

unpending : {sip ca nac pending : Bool} → ClearFlags sip ca nac pending → ClearFlags sip ca nac false
unpending h = record { no_sip = h.no_sip; no_ca = h.no_ca; no_nac = h.no_nac; no_pending = refl }

-- a candidate without a chain pending has NAC, SIP and CA clear
able : (p r n s a : Bool) → candidate_of p r n s a ≡ true → p ≡ false → ClearFlags s a n p
able p r n s a e q = go ((candidate_exactly p r n s a).0 e)
  where
    go : (p ≡ true) ⊎ Ready r n s a → ClearFlags s a n p
    go (inl t) = no q t
    go (inr k) = record { no_sip = k.no_sip; no_ca = k.no_ca; no_nac = k.no_nac; no_pending = q }

module _ (u : Controller) (h : WellFormed u) where
  abbrev Owns : Option (Which × Stage) → Option Which → Type 0
  Owns chain bus = Owned chain bus u.control.note (is_enabled u.master) (λ v. at v u)

  owns : {chain : (Option (Which × Stage))} → u.control.chain ≡ chain → Owns chain u.control.bus
  owns c = subst (λ (x : Option (Which × Stage)). Owns x u.control.bus) c h.owned

  under_way : (w : Which) (s : Stage) (bus : Option Which) → Owns (Some (w, s)) bus → TidyStage s → Fetching s bus u.control.note (is_enabled u.master) (at w u)
  under_way w s None o t = record { free = refl; owner = record { no_note = o.no_note; enabled = o.enabled; clear = unpending o.clear }; stage = t }
  under_way w s (Some v) o t = absurd o

  noted_free : (bus : Option Which) → Owns None bus → u.control.note ≡ true → bus ≡ None
  noted_free None o n = refl
  noted_free (Some w) o n = absurd (true≢false (sym n ∙ o.owner.no_note))

  working : (a : Bool) (w : Which) → Keeps a w (facts_of u) → Working u.control.chain u.control.note (is_enabled u.master) (at w u)
  working a w k = record { no_chain = k.calm.chain; owner = (subst (Owns None) k.bus (owns k.calm.chain)).owner }

  in_turn : (w : Which) (c : Channel) → Turns (Some w) (facts_of u) → Clear c → Owner u.control.note (is_enabled u.master) c
  in_turn w c t e = record { no_note = t.calm.note; enabled = t.calm.enabled; clear = e }

  meant : (b : Board) {c : Choice} → Chosen b u c → Meant c u
  unfolding is_candidate
  meant b (as_intended (disabled e) r) = tt
  meant b (as_intended (goes_on_by_rule w s e c) r) = under_way w s u.control.bus (owns c) (subst TidyHalf c h.half)
  meant b (as_intended (noted e c n) r) = (c, noted_free u.control.bus (owns c) n)
  meant b (as_intended (keeps w k) r) = working true w k
  meant b (as_intended (holds w k m) r) = working false w k
  meant b (as_intended (releases w k m) r) = k.calm.chain
  meant b (as_intended (begins_chain w t p) r) =
      let s = (sound_at w u h).1 in
      record {
        free = t.bus;
        owner = in_turn w (at w u ⟨pending≔ false ⟩) t (record { no_sip = s.pending_sip p; no_ca = s.pending_ca p; no_nac = s.pending_nac p; no_pending = refl });
        stage = tt;
      }
  meant b (as_intended (begins_unit w t p) r) =
      let c = at w u in
      record {
        no_chain = t.calm.chain;
        owner = in_turn w c t (able c.pending (requests c.mode c.line) c.status.nac c.interrupt.sip c.status.ca (is_candidate_lem w u t) p);
      }
  meant b (as_intended (idle t) r) = tt
  meant b (refused i r) = tt

-- ---- what the step does

abbrev is_single : RequestMode → Bool
is_single Single = true
is_single DemandHold = false
is_single DemandRelease = false
is_single DemandInterleave = false

module _ (u : Controller) (h : WellFormed u) where
  abbrev note : Bool
  note = u.control.note

  abbrev on : Bool
  on = is_enabled u.master

  -- the controller with channel w and its own state anew
  abbrev put : Which → Channel → Control → Controller
  put w c k = with w c (u ⟨control≔ k ⟩)

  -- the owner of the bus is the channel that was put
  owner : (w : Which) (c : Channel) (k : Control) → Owner note on c → Owner note on (at w (put w c k))
  owner w c k o = at_with (Owner note on) w c (u ⟨control≔ k ⟩) o

  keeping : (w : Which) (c : Channel) (k : Control) → Keeper note on c → Keeper note on (at w (put w c k))
  keeping w c k o = at_with (Keeper note on) w c (u ⟨control≔ k ⟩) o

  module _ (w : Which) (s : Stage) (f : Fetching s u.control.bus note on (at w u)) where
    fetched_half : (x : Option Progress) (cpu act : Bool) → TidyNext x → TidyHalf (control_fetched x cpu act w u.control).chain
    fetched_half (Some p) cpu act t = t
    fetched_half None true act t = tt
    fetched_half None false true t = tt
    fetched_half None false false t = tt

    fetched_owned : (x : Option Progress) (cpu act : Bool) (c : Channel) (k : Control) → Clear c → (Finished x → act ≡ true → Software c.mode)
        → let j = control_fetched x cpu act w u.control in Owned j.chain j.bus j.note on (λ v. at v (put w c k))
    fetched_owned (Some p) cpu act c k e g =
        chain_owned note on (λ v. at v (put w c k)) u.control.bus w (Entries p) f.free
        (owner w c k (record { no_note = f.owner.no_note; enabled = f.owner.enabled; clear = e }))
    fetched_owned None true act c k e g = free_owned true on (λ v. at v (put w c k)) u.control.bus f.free
    fetched_owned None false true c k e g =
        keeping w c k (record { owner = record { no_note = f.owner.no_note; enabled = f.owner.enabled; clear = e }; software = g tt refl })
    fetched_owned None false false c k e g = free_owned note on (λ v. at v (put w c k)) u.control.bus f.free

    fetch_well : (eop : Bool) (m : List ℕ) → WellFormed (fetch_of w s eop u m).state
    unfolding fetch_of drop_of
    fetch_well true m =
        let c = dropped_of (at w u) in
        let k = u.control ⟨chain≔ None ⟩ in
        placed w c k u h (dropped_sound (at w u) (sound_at w u h).0 f.owner.clear.no_sip) tt
        (free_owned note on (λ v. at v (put w c k)) u.control.bus f.free)
    fetch_well false m =
        let l = fetched_of s (value_in Word m (number (at w u).chain)) (at w u) in
        let x = fetched_well s (value_in Word m (number (at w u).chain)) (at w u) f.stage (sound_at w u h).0 f.owner.clear in
        let cpu = is_interleaved u.master in
        let act = requests l.channel.mode l.channel.line in
        let k = control_fetched l.next cpu act w u.control in
        placed w l.channel k u h (x.tidy, clear_settled x.clear) (fetched_half l.next cpu act x.half)
        (fetched_owned l.next cpu act l.channel k x.clear x.software)

  module _ (w : Which) (f : Working u.control.chain note on (at w u)) where
    -- an end: the bus is free, or a chain is put under way
    end_well : (e : Ended) (s : Option Which) → EndedWell e
        → WellFormed (put w e.channel (record { chain = chain_after e.chains w u.control.chain; bus = None; note = note; served = s }))
    end_well e s x = placed w e.channel k u h x.sound (after e.chains) (owned e.chains refl)
      where
        k : Control
        k = record { chain = chain_after e.chains w u.control.chain; bus = None; note = note; served = s }

        after : (b : Bool) → TidyHalf (chain_after b w u.control.chain)
        after true = tt
        after false = h.half

        owned : (b : Bool) → e.chains ≡ b → Owned (chain_after b w u.control.chain) None note on (λ v. at v (put w e.channel k))
        owned true q = owner w e.channel k (record { no_note = f.owner.no_note; enabled = f.owner.enabled; clear = x.clear q })
        owned false q = loose_owned note on (λ v. at v (put w e.channel k)) u.control.chain f.no_chain

    -- an unended unit: both dedicated modes keep the bus
    unended_well : (r : RequestMode) (cpu : Bool) (c : Channel) → Tidy c → Clear c → request_mode_of c.mode ≡ r
        → WellFormed (put w (unended_by r c) (unended_control r cpu w u.control))
    unended_well r cpu c t e q =
        placed w (unended_by r c) (unended_control r cpu w u.control) u h
        (unended_tidy r c t, clear_settled (unended_clear r c e)) (half r) (owned r q (unended_control r cpu w u.control))
      where
        half : (r : RequestMode) → TidyHalf (unended_control r cpu w u.control).chain
        half Single = h.half
        half DemandHold = h.half
        half DemandRelease = h.half
        half DemandInterleave = h.half

        keeper_of : (r : RequestMode) → request_mode_of c.mode ≡ r → is_single r ≡ false → Keeper note on c
        keeper_of r q n = record {
          owner = record { no_note = f.owner.no_note; enabled = f.owner.enabled; clear = e };
          software = λ p. no (ap is_single q ∙ n) (ap is_single p);
        }

        owned : (r : RequestMode) → request_mode_of c.mode ≡ r → (k : Control)
            → let j = unended_control r cpu w u.control in Owned j.chain j.bus j.note on (λ v. at v (put w (unended_by r c) k))
        owned Single q k = loose_owned note on (λ v. at v (put w (unended_by Single c) k)) u.control.chain f.no_chain
        owned DemandHold q k =
            kept_owned note on (λ v. at v (put w c k)) u.control.chain w f.no_chain
            (keeping w c k (keeper_of DemandHold q refl))
        owned DemandRelease q k =
            kept_owned note on (λ v. at v (put w c k)) u.control.chain w f.no_chain
            (keeping w c k (keeper_of DemandRelease q refl))
        owned DemandInterleave q k = loose_owned (cpu || note) on (λ v. at v (put w c k)) u.control.chain f.no_chain

    after_well : (b : Bool) (cpu : Bool) (why : Reasons) (m : Moved) → Tidy (moved_by m (at w u))
        → let e = after_by b w why (moved_by m (at w u)) in WellFormed (put w e.channel (control_by b (request_mode_of (at w u).mode) cpu e.chains w u.control))
    unfolding unended moved_by
    after_well true cpu why m t =
        end_well (end_of w why (moved_by m (at w u))) (Some w) (ended_well w why (moved_by m (at w u)) t (moved_clear m (at w u) f.owner.clear))
    after_well false cpu why m t = unended_well (request_mode_of (at w u).mode) cpu (moved_by m (at w u)) t (moved_clear m (at w u) f.owner.clear) refl

    unit_well : (eop : Bool) (z : Spaces) → WellFormed (unit_of w eop u (worked (work_of (at w u)) z).moved).state
    unfolding unit_of after_unit
    unit_well eop z =
        let m = (worked (work_of (at w u)) z).moved in
        after_well (some (reasons_of m eop)) (is_interleaved u.master) (reasons_of m eop) m (moved_tidy (at w u) z (sound_at w u h).0)

    hold_well : (eop : Bool) → WellFormed (hold_of w eop u).state
    unfolding hold_of
    hold_well true = end_well (end_of w eop_alone (at w u)) u.control.served (ended_well w eop_alone (at w u) (sound_at w u h).0 f.owner.clear)
    hold_well false = h

  performed_well : (x : Choice) (eop : Bool) (z : Spaces) → Meant x u
      → WellFormed (perform_of x eop u z).stepped.state
  unfolding perform_of
  performed_well chosen.Disabled eop z f = h
  performed_well (chosen.Refused r) eop z f = h
  performed_well (chosen.Fetch w s) eop z f = fetch_well w s f eop z.memory
  performed_well chosen.GiveBack eop z f =
      controlled (u.control ⟨note≔ false ⟩) u h h.half
      (subst (λ (x : Option (Which × Stage)). Owned x u.control.bus false on (λ v. at v u)) (sym f.0)
      (free_owned false on (λ v. at v u) u.control.bus f.1))
  performed_well (chosen.Unit w) eop z f = unit_well w f eop z
  performed_well (chosen.Hold w) eop z f = hold_well w f eop
  performed_well chosen.Release eop z f =
      controlled (u.control ⟨bus≔ None ⟩) u h h.half
      (loose_owned note on (λ v. at v u) u.control.chain f)
  performed_well chosen.Idle eop z f = h

  pub step_well : (eop : Bool) (z : Spaces) → WellFormed (step_of eop u z).stepped.state
  unfolding step_of
  step_well eop z = performed_well (choice (board_of z) u) eop z (meant u h (board_of z) (why (board_of z) u))

-- ---- the run, by its steps

run_from_lem : (n k : ℕ) (o : Outcome) → WellFormed o.stepped.state → WellFormed (run_from n k o).last.stepped.state
unfolding advanced
run_from_lem zero k o h = h
run_from_lem (suc n) k o h = let p = step_well o.stepped.state h false o.spaces in go (stops (next o).stepped.answer) p (run_from_lem n (suc k) (next o) p)
  where
    go : (b : Bool) → WellFormed (next o).stepped.state → WellFormed (run_from n (suc k) (next o)).last.stepped.state
        → WellFormed (cond b (record { last = next o; steps = k }) (run_from n (suc k) (next o))).last.stepped.state
    go true p q = p
    go false p q = q

pub run_well : (budget : ℕ) (u : Controller) (z : Spaces) → WellFormed u → WellFormed (run_of budget u z).last.stepped.state
unfolding run_of
run_well budget u z h = go (ltb 65536 budget)
  where
    go : (b : Bool) → WellFormed (cond b (record { last = outcome (says u (answer.Refused LongRun)) z; steps = 0 }) (run_from budget 0 (outcome (says u answer.Idle) z))).last.stepped.state
    go true = h
    go false = run_from_lem budget 0 (outcome (says u answer.Idle) z) h
