-- Promise D1d, a channel: what a unit, an end, acknowledge and a chain's fetch do to it keeps its absent bits 0 and its flags settled.
-- Assumes nothing.
use mathlib.Core.Path.{◌≡◌, refl, ap, ◌∙◌}
use mathlib.Core.Bool.{Bool, true, false, not, cond, ◌&&◌, ◌||◌}
use Prim.Native.Nat.{ℕ, ◌%◌}
use lib.Dec.{eqb}
use Rattle.std.specs.Prelude.{None, Option, Some}
use Rattle.space.specs.declared.Width.{Width}
use Rattle.space.specs.declared.Width.TheVariants.{Byte, Word}
use Rattle.space.specs.Space.{Spaces}
use Rattle.port.specs.declared.Which.{Which}
use Rattle.word_address.specs.declared.Address.{Address}
use Rattle.word_address.specs.declared.Set.{Set}
use Rattle.word_tag.specs.Tag.{kept_chain}
use Rattle.word_address.specs.Address.{stepped_on, fetched_on}
use Rattle.word_address.proofs.Laws.{kept_with, chain_chain, chain_with_lem}
use Rattle.word_mode.specs.declared.Mode.{Mode}
use Rattle.word_mode.specs.declared.Reasons.{Reasons}
use Rattle.word_operation.specs.declared.Moves.{Moves}
use Rattle.word_operation.specs.declared.Moves.TheVariants.{Transfer, Search, Funnel}
use Rattle.word_mode.specs.declared.RequestMode.{RequestMode}
use Rattle.word_mode.specs.declared.RequestMode.TheVariants.{Single, DemandHold, DemandRelease, DemandInterleave}
use Rattle.word_mode.specs.Mode.{operation_of, is_flipped, request_mode_of, is_requested, is_masked, interrupt_of}
use Rattle.word_mode.specs.Reasons.{enabled_for}
use Rattle.word_reload.specs.declared.Entry.{Entry}
use Rattle.word_reload.specs.Reload.{entry_of, rest_of, is_pair}
use Rattle.unit.specs.declared.Moved.{Moved}
use Rattle.unit_accesses.specs.Accesses.{stepped_set}
use Rattle.unit.specs.Unit.{moved_of, worked}
use Rattle.channel.specs.declared.Channel.{Channel}
use Rattle.channel_request.specs.declared.Line.{Line}
use Rattle.channel.specs.declared.Ended.{Ended}
use Rattle.channel.specs.Set.{◌⟨interrupt≔◌⟩, ◌⟨sip≔◌⟩, ◌⟨pending≔◌⟩, ◌⟨change≔◌⟩}
use Rattle.channel_request.specs.Request.{arrived, requests}
use Rattle.channel.specs.Ending.{saved, with_ip, flagged, interrupted_by, interrupted, reloads, chains, finished, waited, end_of, moved_by, spent, unended_by}
use Rattle.word_reload.specs.declared.Progress.{Progress}
use Rattle.word_reload.specs.declared.Stage.{Stage}
use Rattle.word_reload.specs.declared.Stage.TheVariants.{Reload, Entries}
use Rattle.chain.specs.declared.Loaded.{Loaded}
use Rattle.chain.specs.Chaining.{advanced, goes_on, next_of, is_chain_address, load_reload, load_first_by, load_last_by, load_entry_by, load_entry, load_of, settled_by, fetched_of, dropped_of}
use Rattle.step.specs.Step.{work_of}
use Rattle.call_acknowledge.specs.Acknowledge.{finished_later, acknowledged_by, acknowledged}
use Rattle.promises.specs.WellFormed.{TidyTag, TidySet, Tidy, TidyStage, SettledFlags, ClearFlags, Clear, Software, Sound}
use Rattle.promises.proofs.WellChannel.{no, settle, stopped, current_anew, chain_anew, mode_anew, loaded_tidy, loaded_flags, request_tidy}

-- ---- the end

-- reload current from base, or not
reloaded : (r : Bool) (c : Channel) → Tidy c → TidySet (cond r c.base c.current)
reloaded true c h = h.base_tags
reloaded false c h = h.current_tags

finished_tidy : (why : Reasons) (c : Channel) → Tidy c → Tidy (finished why c)
unfolding finished
finished_tidy why c h = current_anew _ c (reloaded (reloads why c) c h) h

-- NAC is set only if neither reload nor chaining is enabled
unset : (r h : Bool) {nac : Bool} → nac ≡ false → h ≡ true → cond (r || h) nac true ≡ false
unset true h e q = e
unset false true e q = e
unset false false e q = no refl q

-- what an end leaves: a chain is put under way only for a channel with all four flags clear
pub record EndedWell (e : Ended) : Type 0 where
  pub sound : Sound e.channel
  pub clear : e.chains ≡ true → Clear e.channel

waited_well : (b : Bool) (why : Reasons) (c : Channel) → Tidy c → c.interrupt.sip ≡ b → c.status.ca ≡ false → c.status.nac ≡ false → c.pending ≡ false
    → EndedWell (waited b why c)
unfolding finished
waited_well true why c h s a n p = record {
  sound = (
    h,
    record {
      ca_nac = λ e. no a e;
      pending_sip = λ e. no p e;
      pending_ca = λ e. no p e;
      pending_nac = λ e. no p e;
      sip_nac = λ e. n;
      sip_ca = λ e. a;
    },
  );
  clear = λ e. no refl e;
}
waited_well false why c h s a n p = record {
  sound = (finished_tidy why c h, settle s a p);
  clear = λ e. record { no_sip = s; no_ca = a; no_nac = unset (reloads why c) (chains why c) n e; no_pending = p };
}

interrupted_well : (on ip : Bool) (w : Which) (why : Reasons) (c : Channel) → Tidy c → Clear c
    → EndedWell (waited (interrupted_by on ip w c).interrupt.sip why (interrupted_by on ip w c))
unfolding with_ip saved
interrupted_well false ip w why c t h = waited_well c.interrupt.sip why c t refl h.no_ca h.no_nac h.no_pending
interrupted_well true false w why c t h = waited_well c.interrupt.sip why (with_ip w c) t refl h.no_ca h.no_nac h.no_pending
interrupted_well true true w why c t h = waited_well true why (c ⟨interrupt≔ c.interrupt ⟨sip≔ true ⟩ ⟩) t refl h.no_ca h.no_nac h.no_pending

pub ended_well : (w : Which) (why : Reasons) (c : Channel) → Tidy c → Clear c → EndedWell (end_of w why c)
unfolding end_of interrupted flagged
ended_well w why c t h =
    interrupted_well (enabled_for (interrupt_of (flagged why c).mode) why) c.interrupt.ip w why (flagged why c)
    (mode_anew _ c (request_tidy false c.mode t.mode_high) t) h

-- ---- acknowledge

-- a chain is left pending only if NAC is not set
later : (r h : Bool) {sip ca nac pending : Bool} → sip ≡ false → ca ≡ false → nac ≡ false → pending ≡ false
    → SettledFlags sip ca (cond (r || h) nac true) (pending || h)
later r true s a n p = record {
  ca_nac = λ e. no a e;
  pending_sip = λ e. s;
  pending_ca = λ e. a;
  pending_nac = λ e. unset r true n refl;
  sip_nac = λ e. no s e;
  sip_ca = λ e. no s e;
}
later r false s a n p = settle s a (unpending _ p)
  where
    unpending : (b : Bool) → b ≡ false → b || false ≡ false
    unpending true e = e
    unpending false e = refl

acknowledged_by_lem : (b : Bool) (w : Which) (c : Channel) → c.interrupt.sip ≡ b → Sound c → Sound (acknowledged_by b w c)
unfolding finished_later finished with_ip saved
acknowledged_by_lem true w c e h =
    let d = with_ip w (c ⟨interrupt≔ c.interrupt ⟨sip≔ false ⟩ ⟩) in
    (finished_tidy c.status.why d h.0, later (reloads c.status.why d) (chains c.status.why d) refl (h.1.sip_ca e) (h.1.sip_nac e) (idle c.pending refl))
  where
    idle : (b : Bool) → c.pending ≡ b → c.pending ≡ false
    idle true q = no (h.1.pending_sip q) e
    idle false q = q
acknowledged_by_lem false w c e h = h

pub acknowledged_sound : (w : Which) (c : Channel) → Sound c → Sound (acknowledged w c)
unfolding acknowledged
acknowledged_sound w c h = acknowledged_by_lem c.interrupt.sip w c refl h

-- without SIP it changes nothing
pub acknowledged_same : (w : Which) (c : Channel) → c.interrupt.sip ≡ false → acknowledged w c ≡ c
unfolding acknowledged
acknowledged_same w c e = ap (λ (b : Bool). acknowledged_by b w c) e

-- ---- a unit

stepped_tidy : (w : Width) (a : Address) → TidyTag a → TidyTag (stepped_on w a)
unfolding stepped_on
stepped_tidy w a h = kept_with a _ h

set_tidy : (m : Moves) (flip : Bool) (s : Set) → TidySet s → TidySet (stepped_set m flip s)
unfolding stepped_set
set_tidy (Transfer w) true s h = record { a = stepped_tidy w s.a h.a; b = stepped_tidy w s.b h.b }
set_tidy (Transfer w) false s h = record { a = stepped_tidy w s.a h.a; b = stepped_tidy w s.b h.b }
set_tidy (Search w) true s h = record { a = h.a; b = stepped_tidy w s.b h.b }
set_tidy (Search w) false s h = record { a = stepped_tidy w s.a h.a; b = h.b }
set_tidy Funnel true s h = record { a = stepped_tidy Byte (stepped_on Byte s.a) (stepped_tidy Byte s.a h.a); b = stepped_tidy Word s.b h.b }
set_tidy Funnel false s h = record { a = stepped_tidy Byte (stepped_on Byte s.a) (stepped_tidy Byte s.a h.a); b = stepped_tidy Word s.b h.b }

pub moved_tidy : (c : Channel) (z : Spaces) → Tidy c → Tidy (moved_by (worked (work_of c) z).moved c)
unfolding moved_by worked moved_of
moved_tidy c z h = current_anew _ c (set_tidy (operation_of c.mode).moves (is_flipped c.mode) c.current h.current_tags) h

pub moved_clear : (m : Moved) (c : Channel) → Clear c → Clear (moved_by m c)
unfolding moved_by
moved_clear m c h = h

spent_tidy : (b : Bool) (c : Channel) → Tidy c → Tidy (spent b c)
spent_tidy true c h = mode_anew _ c (request_tidy false c.mode h.mode_high) h
spent_tidy false c h = h

spent_clear : (b : Bool) (c : Channel) → Clear c → Clear (spent b c)
spent_clear true c h = h
spent_clear false c h = h

pub unended_tidy : (r : RequestMode) (c : Channel) → Tidy c → Tidy (unended_by r c)
unended_tidy Single c h = spent_tidy (is_requested c.mode) c h
unended_tidy DemandHold c h = h
unended_tidy DemandRelease c h = h
unended_tidy DemandInterleave c h = h

pub unended_clear : (r : RequestMode) (c : Channel) → Clear c → Clear (unended_by r c)
unended_clear Single c h = spent_clear (is_requested c.mode) c h
unended_clear DemandHold c h = h
unended_clear DemandRelease c h = h
unended_clear DemandInterleave c h = h

-- ---- a chain's fetch

abbrev pub TidyNext : Option Progress → Type 0
TidyNext (Some p) = kept_chain p.upper ≡ p.upper
TidyNext None = Unit {0}

abbrev pub Finished : Option Progress → Type 0
Finished (Some p) = ⊥
Finished None = Unit {0}

record LoadedWell (l : Loaded) : Type 0 where
  tidy : Tidy l.channel
  clear : Clear l.channel
  half : TidyNext l.next

goes_on_tidy : (left : ℕ) (b : Bool) → TidyNext (goes_on left b)
goes_on_tidy left true = tt
goes_on_tidy left false = refl

next_tidy : (left : ℕ) → TidyNext (next_of left)
unfolding next_of
next_tidy left = goes_on_tidy left (eqb left 0)

advanced_tidy : (c : Channel) → Tidy c → Tidy (advanced c)
unfolding advanced fetched_on
advanced_tidy c h = chain_anew _ c (chain_with_lem c.chain _ h.chain_tag) h

module _ (c : Channel) (t : Tidy c) (h : Clear c) where
  advanced_clear : Clear (advanced c)
  unfolding advanced
  advanced_clear = h

  first_well : (b : Bool) (e : Entry) (left w : ℕ) → LoadedWell (load_first_by b e left w c)
  first_well true e left w = record { tidy = advanced_tidy c t; clear = advanced_clear; half = chain_chain w }
  first_well false e left w = record {
    tidy = loaded_tidy e false w (advanced c) (advanced_tidy c t);
    clear = loaded_flags ClearFlags e false w (advanced c) advanced_clear;
    half = refl;
  }

  last_well : (b : Bool) (e : Entry) (p : Progress) (w : ℕ) → kept_chain p.upper ≡ p.upper → LoadedWell (load_last_by b e p w c)
  last_well true e p w q = record { tidy = chain_anew _ c q t; clear = h; half = next_tidy (rest_of p.left) }
  last_well false e p w q = record {
    tidy = loaded_tidy e p.second w (advanced c) (advanced_tidy c t);
    clear = loaded_flags ClearFlags e p.second w (advanced c) advanced_clear;
    half = next_tidy (rest_of p.left);
  }

  entry_well : (b : Bool) (e : Entry) (p : Progress) (w : ℕ) → kept_chain p.upper ≡ p.upper → LoadedWell (load_entry_by b e p w c)
  entry_well true e p w q = first_well (is_chain_address e) e p.left w
  entry_well false e p w q = last_well (is_chain_address e) e p w q

  load_well : (s : Stage) (w : ℕ) → TidyStage s → LoadedWell (load_of s w c)
  unfolding load_reload load_entry
  load_well Reload w q = record { tidy = advanced_tidy c t; clear = advanced_clear; half = next_tidy (w % 1024) }
  load_well (Entries p) w q = entry_well (is_pair (entry_of p.left) && not p.second) (entry_of p.left) p w q

-- what a fetch leaves: if it was the last and the request is active, then in single by the software bit
pub record FetchedWell (l : Loaded) : Type 0 where
  pub tidy : Tidy l.channel
  pub clear : Clear l.channel
  pub half : TidyNext l.next
  pub software : Finished l.next → requests l.channel.mode l.channel.line ≡ true → Software l.channel.mode

-- single's request without a stored change is its software bit
by_software : (m : Mode) (l : Line) → l.change ≡ false → requests m l ≡ true → Software m
unfolding requests
by_software m l e q s = go (is_requested m) (not (is_masked m)) (arrived (request_mode_of m) l) (ap (λ (r : RequestMode). arrived r l) s ∙ e) q
  where
    go : (a b d : Bool) → d ≡ false → a || (b && d) ≡ true → a ≡ true
    go true b d f p = refl
    go false true d f p = no f p
    go false false d f p = p

settled_well : (x : Option Progress) (c : Channel) (k : Bool) → LoadedWell (record { channel = c; next = x; upper = k }) → FetchedWell (record { channel = settled_by x c; next = x; upper = k })
settled_well (Some p) c k h = record { tidy = h.tidy; clear = h.clear; half = h.half; software = λ f. absurd f }
settled_well None c k h = record { tidy = h.tidy; clear = h.clear; half = tt; software = λ f q. by_software c.mode (c.line ⟨change≔ false ⟩) refl q }

pub fetched_well : (s : Stage) (w : ℕ) (c : Channel) → TidyStage s → Tidy c → Clear (c ⟨pending≔ false ⟩) → FetchedWell (fetched_of s w c)
unfolding fetched_of
fetched_well s w c q t h =
    let l = load_of s w (c ⟨pending≔ false ⟩) in
    settled_well l.next l.channel l.upper (load_well (c ⟨pending≔ false ⟩) t h s w q)

pub dropped_sound : (c : Channel) → Tidy c → c.interrupt.sip ≡ false → Sound (dropped_of c)
unfolding dropped_of
dropped_sound c t s = (t, stopped s)
