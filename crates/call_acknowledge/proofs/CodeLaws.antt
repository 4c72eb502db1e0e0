-- An acknowledged channel.
use mathlib.Core.Path.{◌≡◌, sym, ap, ◌∙◌}
use mathlib.Core.Bool.{true, false}
use Rattle.port.specs.declared.Which.{Which}
use Rattle.channel.specs.declared.Channel.{Channel}
use Rattle.channel.specs.Set.{◌⟨interrupt≔◌⟩, ◌⟨sip≔◌⟩}
use Rattle.channel.specs.Ending.{with_ip}
use Rattle.call_acknowledge.specs.Acknowledge.{finished_later, acknowledged_by, acknowledged}

pub second : (w : Which) (c d r : Channel) → c.interrupt.sip ≡ true → d ≡ with_ip w (c ⟨interrupt≔ c.interrupt ⟨sip≔ false ⟩ ⟩) → r ≡ finished_later d
    → r ≡ acknowledged w c
unfolding acknowledged
second w c d r s ed er = er ∙ ap finished_later ed ∙ sym (λ i. acknowledged_by (s i) w c)
