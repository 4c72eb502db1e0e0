-- Promise D1d, the record: what holds in every state that calls reach from a fresh controller. Absent bits are 0; CA comes with NAC; a
-- chain is pending without SIP, CA and NAC; SIP is without NAC and CA; a chain under way, a kept bus and a note exclude one another; who
-- chains or keeps the bus is enabled and clear. Assumes nothing.
use Rattle.std.specs.Prelude.{◌≡◌, Bool, true, false, ℕ, ◌%◌, None, Option, Some}
use Rattle.port.specs.declared.Which.{Which}
use Rattle.port.specs.Ports.{kept_pointer}
use Rattle.word_address.specs.declared.Address.{Address}
use Rattle.word_address.specs.declared.Set.{Set}
use Rattle.word_tag.specs.Tag.{kept_tag, kept_chain}
use Rattle.word_mode.specs.declared.Mode.{Mode}
use Rattle.word_mode.specs.declared.RequestMode.TheVariants.{Single}
use Rattle.word_mode.specs.Mode.{request_mode_of, is_requested, kept_high}
use Rattle.channel.specs.declared.Channel.{Channel}
use Rattle.word_reload.specs.declared.Stage.{Stage}
use Rattle.word_reload.specs.declared.Stage.TheVariants.{Reload, Entries}
use Rattle.step.specs.declared.Controller.{Controller}
use Rattle.step.specs.Controller.{at}
use Rattle.step_rules.specs.Rules.{is_enabled}

-- ---- absent bits

abbrev pub TidyTag : Address → Type 0
TidyTag a = kept_tag a.upper ≡ a.upper

abbrev pub TidyChain : Address → Type 0
TidyChain a = kept_chain a.upper ≡ a.upper

pub record TidySet (s : Set) : Type 0 where
  pub a : TidyTag s.a
  pub b : TidyTag s.b

abbrev pub TidyMode : Mode → Type 0
TidyMode m = kept_high m.high ≡ m.high

pub record TidyBits (current base : Set) (chain : Address) (mode : Mode) (vector : ℕ) : Type 0 where
  pub current_tags : TidySet current
  pub base_tags : TidySet base
  pub chain_tag : TidyChain chain
  pub mode_high : TidyMode mode
  pub vector_byte : vector % 256 ≡ vector

abbrev pub Tidy : Channel → Type 0
Tidy c = TidyBits c.current c.base c.chain c.mode c.interrupt.vector

-- the upper word of a new chain address of which the lower is still to be fetched
abbrev pub TidyStage : Stage → Type 0
TidyStage Reload = Unit {0}
TidyStage (Entries p) = kept_chain p.upper ≡ p.upper

abbrev pub TidyHalf : Option (Which × Stage) → Type 0
TidyHalf None = Unit {0}
TidyHalf (Some (w, s)) = TidyStage s

-- ---- the flags of a channel

-- something of the four flags SIP, CA, NAC and a chain pending
abbrev pub FlagsOf : (Bool → Bool → Bool → Bool → Type 0) → Channel → Type 0
FlagsOf P c = P c.interrupt.sip c.status.ca c.status.nac c.pending

pub record SettledFlags (sip ca nac pending : Bool) : Type 0 where
  pub ca_nac : ca ≡ true → nac ≡ true
  pub pending_sip : pending ≡ true → sip ≡ false
  pub pending_ca : pending ≡ true → ca ≡ false
  pub pending_nac : pending ≡ true → nac ≡ false
  pub sip_nac : sip ≡ true → nac ≡ false
  pub sip_ca : sip ≡ true → ca ≡ false

pub record ClearFlags (sip ca nac pending : Bool) : Type 0 where
  pub no_sip : sip ≡ false
  pub no_ca : ca ≡ false
  pub no_nac : nac ≡ false
  pub no_pending : pending ≡ false

abbrev pub Settled : Channel → Type 0
Settled c = FlagsOf SettledFlags c

abbrev pub Clear : Channel → Type 0
Clear c = FlagsOf ClearFlags c

-- ---- who has the bus

-- the channel whose chain is under way; and the one that keeps the bus, in single by its software bit
pub record Owner (note on : Bool) (c : Channel) : Type 0 where
  pub no_note : note ≡ false
  pub enabled : on ≡ true
  pub clear : Clear c

abbrev pub Software : Mode → Type 0
Software m = request_mode_of m ≡ Single → is_requested m ≡ true

pub record Keeper (note on : Bool) (c : Channel) : Type 0 where
  pub owner : Owner note on c
  pub software : Software c.mode

-- a chain under way leaves the bus free
abbrev pub Owned : Option (Which × Stage) → Option Which → Bool → Bool → (Which → Channel) → Type 0
Owned None None note on c = Unit {0}
Owned None (Some w) note on c = Keeper note on (c w)
Owned (Some (w, s)) None note on c = Owner note on (c w)
Owned (Some (w, s)) (Some v) note on c = ⊥

-- ---- the controller

abbrev pub Sound : Channel → Type 0
Sound c = Tidy c × Settled c

pub record WellFormed (u : Controller) : Type 0 where
  pub pointer_bits : kept_pointer u.pointer ≡ u.pointer
  pub master_bits : u.master % 16 ≡ u.master
  pub one : Sound u.one
  pub two : Sound u.two
  pub half : TidyHalf u.control.chain
  pub owned : Owned u.control.chain u.control.bus u.control.note (is_enabled u.master) (λ w. at w u)
