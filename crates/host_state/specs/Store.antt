-- The state as 72 words that a host keeps: one field a word, in this order. Assumes nothing.
use Rattle.std.specs.Prelude.{ℕ, suc, set, Bool, true, false, List, [], ◌∷◌, ◌++◌, None, Option, Some}
use Rattle.word_reload.specs.declared.Progress.{Progress}
use Rattle.word_reload.specs.declared.Stage.TheVariants.{Reload, Entries}
use Rattle.channel.specs.declared.Channel.{Channel}
use Rattle.step.specs.declared.Controller.{Controller}
use Rattle.port.specs.Ports.{channel_number}
use Rattle.port.specs.declared.Which.{Which}
use Rattle.word_reload.specs.declared.Stage.{Stage}

abbrev pub bit : Bool → ℕ
bit true = 1
bit false = 0

-- The chain under way: its channel, or 0.
abbrev pub chain_word : Option (Which × Stage) → ℕ
chain_word None = 0
chain_word (Some (w, s)) = channel_number w

-- 0 where its reload word is fetched next, 1 where its entries are.
abbrev pub stage_word : Option (Which × Stage) → ℕ
stage_word None = 0
stage_word (Some (w, Reload)) = 0
stage_word (Some (w, Entries p)) = 1

abbrev pub no_progress : Progress
no_progress = record { left = 0; second = false; upper = 0 }

abbrev pub progress_of : Option (Which × Stage) → Progress
progress_of None = no_progress
progress_of (Some (w, Reload)) = no_progress
progress_of (Some (w, Entries p)) = p

-- The channel that keeps the bus, and the channel served last: its number, or 0.
abbrev pub channel_word : Option Which → ℕ
channel_word None = 0
channel_word (Some w) = channel_number w

abbrev pub channel_words : Channel → List ℕ
channel_words c =
    c.current.a.upper ∷
    c.current.a.lower ∷
    c.current.b.upper ∷
    c.current.b.lower ∷
    c.current.count ∷
    c.base.a.upper ∷
    c.base.a.lower ∷
    c.base.b.upper ∷
    c.base.b.lower ∷
    c.base.count ∷
    c.pattern ∷
    c.mask ∷
    c.mode.high ∷
    c.mode.low ∷
    c.chain.upper ∷
    c.chain.lower ∷
    bit c.interrupt.cie ∷
    bit c.interrupt.ip ∷
    bit c.interrupt.sip ∷
    c.interrupt.vector ∷
    c.interrupt.save ∷
    bit c.status.ca ∷
    bit c.status.nac ∷
    bit c.status.mch ∷
    bit c.status.mcl ∷
    bit c.status.why.tc ∷
    bit c.status.why.mc ∷
    bit c.status.why.eop ∷
    bit c.line.active ∷
    bit c.line.change ∷
    bit c.pending ∷
    []

abbrev pub words_with : ℕ → ℕ → Progress → ℕ → ℕ → Controller → List ℕ
words_with chain stage p bus served u =
    u.pointer ∷
    u.master ∷
    chain ∷
    stage ∷
    p.left ∷
    bit p.second ∷
    p.upper ∷
    bus ∷
    bit u.control.note ∷
    served ∷
    (channel_words u.one ++ channel_words u.two)

unfoldable pub words_of : Controller → List ℕ
words_of u =
    let k = u.control in
    words_with (chain_word k.chain) (stage_word k.chain) (progress_of k.chain) (channel_word k.bus) (channel_word k.served) u

-- Values put into a list one after the other, from number `at` on.
unfoldable pub put_from : ℕ → List ℕ → List ℕ → List ℕ
put_from at [] w = w
put_from at (v ∷ vs) w = put_from (suc at) vs (set w at v)
