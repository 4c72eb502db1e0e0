-- Document 01, "Registers": what Reset does to a channel. Assumes nothing.
use Rattle.std.specs.Prelude.{true, false}
use Rattle.channel.specs.declared.Channel.{Channel}
use Rattle.channel.specs.Set.{◌⟨interrupt≔◌⟩, ◌⟨cie≔◌⟩, ◌⟨ip≔◌⟩, ◌⟨sip≔◌⟩, ◌⟨status≔◌⟩, ◌⟨ca≔◌⟩, ◌⟨nac≔◌⟩, ◌⟨line≔◌⟩, ◌⟨change≔◌⟩, ◌⟨pending≔◌⟩}

-- Reset clears CIE, IP and SIP, sets CA and NAC, drops any stored change and pending chain; line levels and all other registers stay.
unfoldable pub reset_channel : Channel → Channel
reset_channel c =
    c ⟨interrupt≔ c.interrupt ⟨cie≔ false ⟩ ⟨ip≔ false ⟩ ⟨sip≔ false ⟩ ⟩ ⟨status≔ c.status ⟨ca≔ true ⟩ ⟨nac≔ true ⟩ ⟩
    ⟨line≔ c.line ⟨change≔ false ⟩ ⟩ ⟨pending≔ false ⟩
