-- The parts of an end put together, from what the calls answered.
use mathlib.Core.Path.{◌≡◌, sym, ap, ◌∙◌}
use mathlib.Core.Bool.{Bool, true, false}
use Rattle.port.specs.declared.Which.{Which}
use Rattle.word_mode.specs.declared.Reasons.{Reasons}
use Rattle.word_mode.specs.Mode.{interrupt_of, chain_of}
use Rattle.word_mode.specs.Reasons.{enabled_for}
use Rattle.channel.specs.declared.Channel.{Channel}
use Rattle.channel.specs.Ending.{with_ip, interrupted_by, interrupted, flagged, finished, waited, end_of}

pub first_interrupt : (which : Which) (why : Reasons) (c r : Channel) (t : Reasons) (e : Bool)
    → t ≡ interrupt_of c.mode → e ≡ enabled_for t why → e ≡ true → c.interrupt.ip ≡ false → r ≡ with_ip which c → r ≡ interrupted which why c
unfolding interrupted
first_interrupt which why c r t e et ee on off er =
    let asked : enabled_for (interrupt_of c.mode) why ≡ true = sym (ee ∙ ap (λ (x : Reasons). enabled_for x why) et) ∙ on in
    er ∙ sym (λ i. interrupted_by (asked i) (off i) which c)

pub end_finished : (which : Which) (why : Reasons) (c f i g : Channel) (t : Reasons) (e : Bool)
    → f ≡ flagged why c → i ≡ interrupted which why f → i.interrupt.sip ≡ false → t ≡ chain_of i.mode → e ≡ enabled_for t why → g ≡ finished why i
    → record { channel = g; chains = e } ≡ end_of which why c
unfolding end_of
end_finished which why c f i g t e ef ei off et ee eg =
    let asked : e ≡ enabled_for (chain_of i.mode) why = ee ∙ ap (λ (x : Reasons). enabled_for x why) et in
    let made : record { channel = g; chains = e } ≡ waited false why i = λ j. record { channel = eg j; chains = asked j } in
    made ∙ sym (λ j. waited (off j) why i) ∙ ap (λ (x : Channel). waited x.interrupt.sip why x) (ei ∙ ap (interrupted which why) ef)
