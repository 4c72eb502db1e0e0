-- Document 01, "Acknowledge". Assumes nothing.
use Rattle.std.specs.Prelude.{ℕ, Bool, true, false, ◌&&◌, ◌||◌, Result, Ok, Err}
use Rattle.refusal.specs.declared.Refusal.{Refusal}
use Rattle.refusal.specs.declared.Refusal.TheVariants.{NothingToAcknowledge}
use Rattle.facts.specs.Bits.{bit_at}
use Rattle.port.specs.declared.Which.{Which}
use Rattle.port.specs.declared.Which.TheVariants.{One, Two}
use Rattle.channel.specs.declared.Channel.{Channel}
use Rattle.channel.specs.Set.{◌⟨interrupt≔◌⟩, ◌⟨sip≔◌⟩, ◌⟨pending≔◌⟩}
use Rattle.channel.specs.Ending.{with_ip, chains, finished}
use Rattle.step.specs.declared.Controller.{Controller}
use Rattle.step.specs.Controller.{at, with}
use Rattle.step.specs.declared.Done.{Done}
use Rattle.call_acknowledge.specs.declared.Acknowledgement.{Acknowledgement}
use Rattle.call_acknowledge.specs.declared.Acknowledgement.TheVariants.{Word, NoWord}

-- It takes a channel with CIE and (IP or SIP).
abbrev pub interrupts : Channel → Bool
interrupts c = c.interrupt.cie && (c.interrupt.ip || c.interrupt.sip)

-- The end is finished by the status's TC, MC, EOP and the mode as they then stand; its chain is left pending.
unfoldable pub finished_later : Channel → Channel
finished_later c =
    finished c.status.why c ⟨pending≔ (finished c.status.why c).pending || chains c.status.why c ⟩

-- If SIP: clear it, set IP, load save, and finish the end; otherwise nothing changes.
abbrev pub acknowledged_by : Bool → Which → Channel → Channel
acknowledged_by true w c = finished_later (with_ip w (c ⟨interrupt≔ c.interrupt ⟨sip≔ false ⟩ ⟩))
acknowledged_by false w c = c

unfoldable pub acknowledged : Which → Channel → Channel
acknowledged w c = acknowledged_by c.interrupt.sip w c

-- Master mode: 3 no vector.
abbrev pub is_vectorless : ℕ → Bool
is_vectorless master = bit_at 3 master

-- It answers the channel and its save word (no word if master mode 3 is set), as it stood before the call.
abbrev pub answered : Bool → Which → Channel → Acknowledgement
answered true w c = NoWord w
answered false w c = Word w c.interrupt.save

unfoldable pub acknowledged_at : Which → Controller → Done (Result Acknowledgement Refusal)
acknowledged_at w u = record { state = with w (acknowledged w (at w u)) u; answer = Ok (answered (is_vectorless u.master) w (at w u)) }

-- Channel 1, then 2. 9: nothing to acknowledge.
abbrev pub acknowledge_by : Bool → Bool → Controller → Done (Result Acknowledgement Refusal)
acknowledge_by true two u = acknowledged_at One u
acknowledge_by false true u = acknowledged_at Two u
acknowledge_by false false u = record { state = u; answer = Err NothingToAcknowledge }

unfoldable pub acknowledge_of : Controller → Done (Result Acknowledgement Refusal)
acknowledge_of u = acknowledge_by (interrupts u.one) (interrupts u.two) u
