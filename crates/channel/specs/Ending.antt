-- Document 01, "Ending", and what an unended unit leaves. Assumes nothing.
use Rattle.std.specs.Prelude.{Bool, true, false, cond, ◌||◌}
use Rattle.port.specs.declared.Which.{Which}
use Rattle.port.specs.declared.Which.TheVariants.{One, Two}
use Rattle.word_mode.specs.declared.Reasons.{Reasons}
use Rattle.word_mode.specs.declared.RequestMode.{RequestMode}
use Rattle.word_mode.specs.declared.RequestMode.TheVariants.{Single, DemandHold, DemandRelease, DemandInterleave}
use Rattle.word_mode.specs.Mode.{request_mode_of, is_requested, is_masked, with_request, interrupt_of, reload_of, chain_of}
use Rattle.word_mode.specs.Reasons.{some, enabled_for}
use Rattle.word_status.specs.declared.Flags.{Flags}
use Rattle.word_status.specs.Status.{save_word}
use Rattle.channel.specs.declared.Channel.{Channel}
use Rattle.unit.specs.declared.Moved.{Moved}
use Rattle.channel.specs.declared.Ended.{Ended}
use Rattle.channel.specs.Set.{◌⟨current≔◌⟩, ◌⟨mode≔◌⟩, ◌⟨interrupt≔◌⟩, ◌⟨status≔◌⟩, ◌⟨line≔◌⟩, ◌⟨ip≔◌⟩, ◌⟨sip≔◌⟩, ◌⟨save≔◌⟩, ◌⟨nac≔◌⟩, ◌⟨mch≔◌⟩, ◌⟨mcl≔◌⟩, ◌⟨why≔◌⟩, ◌⟨change≔◌⟩}

-- ---- the words that a channel shows

-- the flags of the status and save words; WFB is the controller's to say
abbrev pub flags_of : Bool → Channel → Flags
flags_of wfb c = record {
  cie = c.interrupt.cie;
  ip = c.interrupt.ip;
  ca = c.status.ca;
  nac = c.status.nac;
  wfb = wfb;
  sip = c.interrupt.sip;
  masked = is_masked c.mode;
  line = c.line.active;
  mch = c.status.mch;
  mcl = c.status.mcl;
  mc = c.status.why.mc;
  eop = c.status.why.eop;
  tc = c.status.why.tc;
}

abbrev pub is_two : Which → Bool
is_two One = false
is_two Two = true

-- load save
unfoldable pub saved : Which → Channel → Channel
saved which c = c ⟨interrupt≔ c.interrupt ⟨save≔ save_word (is_two which) c.interrupt.vector (flags_of false c) ⟩ ⟩

-- set IP and load save
unfoldable pub with_ip : Which → Channel → Channel
with_ip which c = saved which (c ⟨interrupt≔ c.interrupt ⟨ip≔ true ⟩ ⟩)

-- ---- the end

-- An end writes TC, MC, EOP, clears the software bit and the stored change (and frees the bus).
unfoldable pub flagged : Reasons → Channel → Channel
flagged why c = c ⟨status≔ c.status ⟨why≔ why ⟩ ⟩ ⟨mode≔ with_request false c.mode ⟩ ⟨line≔ c.line ⟨change≔ false ⟩ ⟩

-- If interrupt is enabled for a reason: IP clear, set IP and load save; IP set, set SIP and wait.
abbrev pub interrupted_by : Bool → Bool → Which → Channel → Channel
interrupted_by false ip which c = c
interrupted_by true false which c = with_ip which c
interrupted_by true true which c = c ⟨interrupt≔ c.interrupt ⟨sip≔ true ⟩ ⟩

unfoldable pub interrupted : Which → Reasons → Channel → Channel
interrupted which why c = interrupted_by (enabled_for (interrupt_of c.mode) why) c.interrupt.ip which c

-- Reload current from base if enabled for a reason; set NAC if neither that nor chaining is.
abbrev pub reloads : Reasons → Channel → Bool
reloads why c = enabled_for (reload_of c.mode) why

abbrev pub chains : Reasons → Channel → Bool
chains why c = enabled_for (chain_of c.mode) why

unfoldable pub finished : Reasons → Channel → Channel
finished why c =
    c ⟨current≔ cond (reloads why c) c.base c.current ⟩
    ⟨status≔ c.status ⟨nac≔ cond (reloads why c || chains why c) c.status.nac true ⟩ ⟩

-- Without SIP the end is finished; if chaining is enabled for a reason, a chain is put under way.
abbrev pub waited : Bool → Reasons → Channel → Ended
waited true why c = record { channel = c; chains = false }
waited false why c = record { channel = finished why c; chains = chains why c }

unfoldable pub end_of : Which → Reasons → Channel → Ended
end_of which why c = let i = interrupted which why (flagged why c) in waited i.interrupt.sip why i

-- ---- after a unit

-- what the unit made of the current registers and of MCH and MCL
unfoldable pub moved_by : Moved → Channel → Channel
moved_by m c = c ⟨current≔ m.set ⟩ ⟨status≔ c.status ⟨mch≔ m.compared.mch ⟩ ⟨mcl≔ m.compared.mcl ⟩ ⟩

abbrev pub reasons_of : Moved → Bool → Reasons
reasons_of m eop = record { tc = m.tc; mc = m.compared.met; eop = eop }

-- Single spends its software bit or else its stored change.
abbrev pub spent : Bool → Channel → Channel
spent true c = c ⟨mode≔ with_request false c.mode ⟩
spent false c = c ⟨line≔ c.line ⟨change≔ false ⟩ ⟩

abbrev pub unended_by : RequestMode → Channel → Channel
unended_by Single c = spent (is_requested c.mode) c
unended_by DemandHold c = c
unended_by DemandRelease c = c
unended_by DemandInterleave c = c

unfoldable pub unended : Channel → Channel
unended c = unended_by (request_mode_of c.mode) c

-- the channel after a unit, ended or not, and whether a chain is to be put under way
abbrev pub after_by : Bool → Which → Reasons → Channel → Ended
after_by true which why c = end_of which why c
after_by false which why c = record { channel = unended c; chains = false }

unfoldable pub after_unit : Which → Bool → Moved → Channel → Ended
after_unit which eop m c = after_by (some (reasons_of m eop)) which (reasons_of m eop) (moved_by m c)
