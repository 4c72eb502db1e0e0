-- Document 01, "Registers": what the commands that name CIE and IP, and Start Chain, do to a channel. Assumes nothing.
use Rattle.std.specs.Prelude.{Bool, true, false, ◌||◌}
use Rattle.port.specs.declared.Which.{Which}
use Rattle.channel.specs.declared.Channel.{Channel}
use Rattle.channel.specs.Set.{◌⟨interrupt≔◌⟩, ◌⟨cie≔◌⟩, ◌⟨ip≔◌⟩, ◌⟨status≔◌⟩, ◌⟨nac≔◌⟩, ◌⟨pending≔◌⟩}
use Rattle.channel.specs.Ending.{with_ip}

-- CIE, if it is named; IP, if it is named: setting IP loads the save register, clearing IP does not change SIP.
abbrev pub cie_by : Bool → Bool → Channel → Channel
cie_by true set c = c ⟨interrupt≔ c.interrupt ⟨cie≔ set ⟩ ⟩
cie_by false set c = c

abbrev pub ip_by : Bool → Bool → Which → Channel → Channel
ip_by true true w c = with_ip w c
ip_by true false w c = c ⟨interrupt≔ c.interrupt ⟨ip≔ false ⟩ ⟩
ip_by false set w c = c

-- Start Chain clears NAC and leaves a chain pending.
abbrev pub chain_started : Channel → Channel
chain_started c = c ⟨status≔ c.status ⟨nac≔ false ⟩ ⟩ ⟨pending≔ true ⟩

abbrev pub cannot_chain : Channel → Bool
cannot_chain c = c.status.ca || c.interrupt.sip
