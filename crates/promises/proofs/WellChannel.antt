-- Promise D1d, a channel: what register writes, commands, Reset and the request line do to a channel keeps its absent bits 0 and its flags
-- settled. Assumes nothing.
use mathlib.Core.Path.{◌≡◌, refl, sym, ◌∙◌}
use mathlib.Core.Bool.{Bool, true, false, true≢false}
use Prim.Native.Nat.{ℕ}
use native.Mathlib.Omega.{arith}
use Rattle.facts.proofs.Flags.{neither}
use Rattle.port.specs.declared.Which.{Which}
use Rattle.port.specs.declared.Register.{Register}
use Rattle.port.specs.declared.Register.TheVariants as register
use Rattle.word_address.specs.declared.Address.{Address}
use Rattle.word_address.specs.declared.Set.{Set}
use Rattle.word_address.proofs.Laws.{kept_kept, chain_chain}
use Rattle.word_mode.specs.declared.Mode.{Mode}
use Rattle.word_mode.specs.Mode.{kept_high, with_request, with_mask, with_flip}
use Rattle.word_reload.specs.declared.Entry.{Entry}
use Rattle.word_reload.specs.declared.Entry.TheVariants as entry
use Rattle.channel.specs.declared.Channel.{Channel}
use Rattle.channel.specs.Set.{◌⟨current≔◌⟩, ◌⟨base≔◌⟩, ◌⟨mode≔◌⟩, ◌⟨chain≔◌⟩}
use Rattle.channel_loading.specs.Loading.{address_with, with_a, with_b, with_count, loaded}
use Rattle.channel.specs.Ending.{saved, with_ip}
use Rattle.channel.specs.Reset.{reset_channel}
use Rattle.channel_command.specs.Effects.{cie_by, ip_by, chain_started, cannot_chain}
use Rattle.call_write.specs.Writing.{chain_written, register_written}
use Rattle.call_line.specs.Lines.{lined}
use Rattle.promises.specs.WellFormed.{TidyTag, TidyChain, TidySet, TidyMode, Tidy, FlagsOf, SettledFlags, ClearFlags, Sound}

-- ---- flags

pub no : {A : Type 0} {b : Bool} → b ≡ false → b ≡ true → A
no e f = absurd (true≢false (sym f ∙ e))

-- without SIP, CA and a chain pending, NAC may be either
pub settle : {sip ca nac pending : Bool} → sip ≡ false → ca ≡ false → pending ≡ false → SettledFlags sip ca nac pending
settle s c p = record {
  ca_nac = λ e. no c e;
  pending_sip = λ e. no p e;
  pending_ca = λ e. no p e;
  pending_nac = λ e. no p e;
  sip_nac = λ e. no s e;
  sip_ca = λ e. no s e;
}

pub clear_settled : {sip ca nac pending : Bool} → ClearFlags sip ca nac pending → SettledFlags sip ca nac pending
clear_settled h = settle h.no_sip h.no_ca h.no_pending

-- CA with NAC, and neither SIP nor a chain pending: after a reset, and after a dropped chain
pub stopped : {sip : Bool} → sip ≡ false → SettledFlags sip true true false
stopped s = record {
  ca_nac = λ e. refl;
  pending_sip = λ e. no refl e;
  pending_ca = λ e. no refl e;
  pending_nac = λ e. no refl e;
  sip_nac = λ e. no s e;
  sip_ca = λ e. no s e;
}

-- ---- one register anew

pub current_anew : (s : Set) (c : Channel) → TidySet s → Tidy c → Tidy (c ⟨current≔ s ⟩)
current_anew s c t h = record { current_tags = t; base_tags = h.base_tags; chain_tag = h.chain_tag; mode_high = h.mode_high; vector_byte = h.vector_byte }

base_anew : (s : Set) (c : Channel) → TidySet s → Tidy c → Tidy (c ⟨base≔ s ⟩)
base_anew s c t h = record { current_tags = h.current_tags; base_tags = t; chain_tag = h.chain_tag; mode_high = h.mode_high; vector_byte = h.vector_byte }

pub chain_anew : (a : Address) (c : Channel) → TidyChain a → Tidy c → Tidy (c ⟨chain≔ a ⟩)
chain_anew a c t h = record { current_tags = h.current_tags; base_tags = h.base_tags; chain_tag = t; mode_high = h.mode_high; vector_byte = h.vector_byte }

pub mode_anew : (m : Mode) (c : Channel) → TidyMode m → Tidy c → Tidy (c ⟨mode≔ m ⟩)
mode_anew m c t h = record { current_tags = h.current_tags; base_tags = h.base_tags; chain_tag = h.chain_tag; mode_high = t; vector_byte = h.vector_byte }

-- ---- one word into a register

high_high : (w : ℕ) → kept_high (kept_high w) ≡ kept_high w
high_high w = omega arith

address_tidy : (second : Bool) (w : ℕ) (a : Address) → TidyTag a → TidyTag (address_with second w a)
address_tidy false w a h = kept_kept w
address_tidy true w a h = h

a_tidy : (second : Bool) (w : ℕ) (s : Set) → TidySet s → TidySet (with_a second w s)
a_tidy second w s h = record { a = address_tidy second w s.a h.a; b = h.b }

b_tidy : (second : Bool) (w : ℕ) (s : Set) → TidySet s → TidySet (with_b second w s)
b_tidy second w s h = record { a = h.a; b = address_tidy second w s.b h.b }

count_tidy : (w : ℕ) (s : Set) → TidySet s → TidySet (with_count w s)
count_tidy w s h = record { a = h.a; b = h.b }

pub loaded_tidy : (e : Entry) (second : Bool) (w : ℕ) (c : Channel) → Tidy c → Tidy (loaded e second w c)
unfolding loaded
loaded_tidy entry.CurrentA second w c h = current_anew _ c (a_tidy second w c.current h.current_tags) h
loaded_tidy entry.CurrentB second w c h = current_anew _ c (b_tidy second w c.current h.current_tags) h
loaded_tidy entry.CurrentCount second w c h = current_anew _ c (count_tidy w c.current h.current_tags) h
loaded_tidy entry.BaseA second w c h = base_anew _ c (a_tidy second w c.base h.base_tags) h
loaded_tidy entry.BaseB second w c h = base_anew _ c (b_tidy second w c.base h.base_tags) h
loaded_tidy entry.BaseCount second w c h = base_anew _ c (count_tidy w c.base h.base_tags) h
loaded_tidy entry.PatternAndMask false w c h = h
loaded_tidy entry.PatternAndMask true w c h = h
loaded_tidy entry.Vector second w c h =
    record { current_tags = h.current_tags; base_tags = h.base_tags; chain_tag = h.chain_tag; mode_high = h.mode_high; vector_byte = omega arith }
loaded_tidy entry.Mode false w c h = mode_anew _ c (high_high w) h
loaded_tidy entry.Mode true w c h = mode_anew _ c h.mode_high h
loaded_tidy entry.ChainAddress false w c h = chain_anew _ c (chain_chain w) h
loaded_tidy entry.ChainAddress true w c h = chain_anew _ c h.chain_tag h
loaded_tidy entry.Nothing second w c h = h

-- no word that is loaded changes the four flags
pub loaded_flags : (P : Bool → Bool → Bool → Bool → Type 0) (e : Entry) (second : Bool) (w : ℕ) (c : Channel) → FlagsOf P c → FlagsOf P (loaded e second w c)
unfolding loaded
loaded_flags P entry.CurrentA second w c h = h
loaded_flags P entry.CurrentB second w c h = h
loaded_flags P entry.CurrentCount second w c h = h
loaded_flags P entry.BaseA second w c h = h
loaded_flags P entry.BaseB second w c h = h
loaded_flags P entry.BaseCount second w c h = h
loaded_flags P entry.PatternAndMask false w c h = h
loaded_flags P entry.PatternAndMask true w c h = h
loaded_flags P entry.Vector second w c h = h
loaded_flags P entry.Mode false w c h = h
loaded_flags P entry.Mode true w c h = h
loaded_flags P entry.ChainAddress false w c h = h
loaded_flags P entry.ChainAddress true w c h = h
loaded_flags P entry.Nothing second w c h = h

pub loaded_sound : (e : Entry) (second : Bool) (w : ℕ) (c : Channel) → Sound c → Sound (loaded e second w c)
loaded_sound e second w c h = (loaded_tidy e second w c h.0, loaded_flags SettledFlags e second w c h.1)

-- ---- the registers that the CPU writes

-- writing a chain word clears CA, and NAC stays
uncalled : {sip ca nac pending : Bool} → SettledFlags sip ca nac pending → SettledFlags sip false nac pending
uncalled h = record {
  ca_nac = λ e. no refl e;
  pending_sip = h.pending_sip;
  pending_ca = λ e. refl;
  pending_nac = h.pending_nac;
  sip_nac = h.sip_nac;
  sip_ca = λ e. refl;
}

chain_written_lem : (second : Bool) (w : ℕ) (c : Channel) → Sound c → Sound (chain_written second w c)
unfolding chain_written
chain_written_lem second w c h = let s = loaded_sound entry.ChainAddress second w c h in (s.0, uncalled s.1)

pub written_sound : (r : Register) (w : ℕ) (c : Channel) → Sound c → Sound (register_written r w c)
unfolding register_written
written_sound register.CurrentAUpper w c h = loaded_sound entry.CurrentA false w c h
written_sound register.CurrentALower w c h = loaded_sound entry.CurrentA true w c h
written_sound register.CurrentBUpper w c h = loaded_sound entry.CurrentB false w c h
written_sound register.CurrentBLower w c h = loaded_sound entry.CurrentB true w c h
written_sound register.BaseAUpper w c h = loaded_sound entry.BaseA false w c h
written_sound register.BaseALower w c h = loaded_sound entry.BaseA true w c h
written_sound register.BaseBUpper w c h = loaded_sound entry.BaseB false w c h
written_sound register.BaseBLower w c h = loaded_sound entry.BaseB true w c h
written_sound register.CurrentCount w c h = loaded_sound entry.CurrentCount false w c h
written_sound register.BaseCount w c h = loaded_sound entry.BaseCount false w c h
written_sound register.Pattern w c h = loaded_sound entry.PatternAndMask false w c h
written_sound register.Mask w c h = loaded_sound entry.PatternAndMask true w c h
written_sound register.Vector w c h = loaded_sound entry.Vector false w c h
written_sound register.ModeLow w c h = loaded_sound entry.Mode true w c h
written_sound register.ChainUpper w c h = chain_written_lem false w c h
written_sound register.ChainLower w c h = chain_written_lem true w c h

-- ---- commands

pub request_tidy : (set : Bool) (m : Mode) → TidyMode m → TidyMode (with_request set m)
request_tidy true m h = omega arith
request_tidy false m h = omega arith

mask_tidy : (set : Bool) (m : Mode) → TidyMode m → TidyMode (with_mask set m)
mask_tidy true m h = omega arith
mask_tidy false m h = omega arith

pub requested_sound : (set : Bool) (c : Channel) → Sound c → Sound (c ⟨mode≔ with_request set c.mode ⟩)
requested_sound set c h = (mode_anew _ c (request_tidy set c.mode h.0.mode_high) h.0, h.1)

pub masked_sound : (set : Bool) (c : Channel) → Sound c → Sound (c ⟨mode≔ with_mask set c.mode ⟩)
masked_sound set c h = (mode_anew _ c (mask_tidy set c.mode h.0.mode_high) h.0, h.1)

pub flipped_sound : (set : Bool) (c : Channel) → Sound c → Sound (c ⟨mode≔ with_flip set c.mode ⟩)
flipped_sound set c h = (mode_anew _ c h.0.mode_high h.0, h.1)

-- CIE and IP are none of the four flags
cie_sound : (e set : Bool) (c : Channel) → Sound c → Sound (cie_by e set c)
cie_sound true set c h = h
cie_sound false set c h = h

ip_sound : (p set : Bool) (w : Which) (c : Channel) → Sound c → Sound (ip_by p set w c)
unfolding with_ip saved
ip_sound true true w c h = h
ip_sound true false w c h = h
ip_sound false set w c h = h

pub interrupts_sound : (p e set : Bool) (w : Which) (c : Channel) → Sound c → Sound (ip_by p set w (cie_by e set c))
interrupts_sound p e set w c h = ip_sound p set w (cie_by e set c) (cie_sound e set c h)

-- Start Chain is refused with CA or SIP, and clears NAC
pub started_sound : (c : Channel) → cannot_chain c ≡ false → Sound c → Sound (chain_started c)
started_sound c e h =
    let n = neither c.status.ca c.interrupt.sip e in (
      h.0,
      record {
        ca_nac = λ q. no n.0 q;
        pending_sip = λ q. n.1;
        pending_ca = λ q. n.0;
        pending_nac = λ q. refl;
        sip_nac = λ q. no n.1 q;
        sip_ca = λ q. no n.1 q;
      },
    )

pub reset_sound : (c : Channel) → Tidy c → Sound (reset_channel c)
unfolding reset_channel
reset_sound c h = (h, stopped refl)

pub lined_sound : (active : Bool) (c : Channel) → Sound c → Sound (lined active c)
unfolding lined
lined_sound active c h = h
