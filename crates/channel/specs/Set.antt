-- The record with one field anew, for each field of each record. Generated from src/.
use Rattle.std.specs.Prelude.{ℕ, Bool}
use Rattle.word_address.specs.declared.Address.{Address}
use Rattle.channel.specs.declared.Channel.{Channel}
use Rattle.channel.specs.declared.Ended.{Ended}
use Rattle.channel.specs.declared.Interrupt.{Interrupt}
use Rattle.channel_request.specs.declared.Line.{Line}
use Rattle.word_mode.specs.declared.Mode.{Mode}
use Rattle.word_mode.specs.declared.Reasons.{Reasons}
use Rattle.word_address.specs.declared.Set.{Set}
use Rattle.channel.specs.declared.Status.{Status}

infixl 90 ◌⟨cie≔◌⟩
infixl 90 ◌⟨ip≔◌⟩
infixl 90 ◌⟨sip≔◌⟩
infixl 90 ◌⟨vector≔◌⟩
infixl 90 ◌⟨save≔◌⟩
infixl 90 ◌⟨ca≔◌⟩
infixl 90 ◌⟨nac≔◌⟩
infixl 90 ◌⟨mch≔◌⟩
infixl 90 ◌⟨mcl≔◌⟩
infixl 90 ◌⟨why≔◌⟩
infixl 90 ◌⟨active≔◌⟩
infixl 90 ◌⟨change≔◌⟩
infixl 90 ◌⟨current≔◌⟩
infixl 90 ◌⟨base≔◌⟩
infixl 90 ◌⟨pattern≔◌⟩
infixl 90 ◌⟨mask≔◌⟩
infixl 90 ◌⟨mode≔◌⟩
infixl 90 ◌⟨chain≔◌⟩
infixl 90 ◌⟨interrupt≔◌⟩
infixl 90 ◌⟨status≔◌⟩
infixl 90 ◌⟨line≔◌⟩
infixl 90 ◌⟨pending≔◌⟩
infixl 90 ◌⟨channel≔◌⟩
infixl 90 ◌⟨chains≔◌⟩
abbrev pub ◌⟨cie≔◌⟩ : Interrupt → Bool → Interrupt
◌⟨cie≔◌⟩ x v = record { cie = v; ip = x.ip; sip = x.sip; vector = x.vector; save = x.save }

abbrev pub ◌⟨ip≔◌⟩ : Interrupt → Bool → Interrupt
◌⟨ip≔◌⟩ x v = record { cie = x.cie; ip = v; sip = x.sip; vector = x.vector; save = x.save }

abbrev pub ◌⟨sip≔◌⟩ : Interrupt → Bool → Interrupt
◌⟨sip≔◌⟩ x v = record { cie = x.cie; ip = x.ip; sip = v; vector = x.vector; save = x.save }

abbrev pub ◌⟨vector≔◌⟩ : Interrupt → ℕ → Interrupt
◌⟨vector≔◌⟩ x v = record { cie = x.cie; ip = x.ip; sip = x.sip; vector = v; save = x.save }

abbrev pub ◌⟨save≔◌⟩ : Interrupt → ℕ → Interrupt
◌⟨save≔◌⟩ x v = record { cie = x.cie; ip = x.ip; sip = x.sip; vector = x.vector; save = v }

abbrev pub ◌⟨ca≔◌⟩ : Status → Bool → Status
◌⟨ca≔◌⟩ x v = record { ca = v; nac = x.nac; mch = x.mch; mcl = x.mcl; why = x.why }

abbrev pub ◌⟨nac≔◌⟩ : Status → Bool → Status
◌⟨nac≔◌⟩ x v = record { ca = x.ca; nac = v; mch = x.mch; mcl = x.mcl; why = x.why }

abbrev pub ◌⟨mch≔◌⟩ : Status → Bool → Status
◌⟨mch≔◌⟩ x v = record { ca = x.ca; nac = x.nac; mch = v; mcl = x.mcl; why = x.why }

abbrev pub ◌⟨mcl≔◌⟩ : Status → Bool → Status
◌⟨mcl≔◌⟩ x v = record { ca = x.ca; nac = x.nac; mch = x.mch; mcl = v; why = x.why }

abbrev pub ◌⟨why≔◌⟩ : Status → Reasons → Status
◌⟨why≔◌⟩ x v = record { ca = x.ca; nac = x.nac; mch = x.mch; mcl = x.mcl; why = v }

abbrev pub ◌⟨active≔◌⟩ : Line → Bool → Line
◌⟨active≔◌⟩ x v = record { active = v; change = x.change }

abbrev pub ◌⟨change≔◌⟩ : Line → Bool → Line
◌⟨change≔◌⟩ x v = record { active = x.active; change = v }

abbrev pub ◌⟨current≔◌⟩ : Channel → Set → Channel
◌⟨current≔◌⟩ x v = record { current = v; base = x.base; pattern = x.pattern; mask = x.mask; mode = x.mode; chain = x.chain; interrupt = x.interrupt; status = x.status; line = x.line; pending = x.pending }

abbrev pub ◌⟨base≔◌⟩ : Channel → Set → Channel
◌⟨base≔◌⟩ x v = record { current = x.current; base = v; pattern = x.pattern; mask = x.mask; mode = x.mode; chain = x.chain; interrupt = x.interrupt; status = x.status; line = x.line; pending = x.pending }

abbrev pub ◌⟨pattern≔◌⟩ : Channel → ℕ → Channel
◌⟨pattern≔◌⟩ x v = record { current = x.current; base = x.base; pattern = v; mask = x.mask; mode = x.mode; chain = x.chain; interrupt = x.interrupt; status = x.status; line = x.line; pending = x.pending }

abbrev pub ◌⟨mask≔◌⟩ : Channel → ℕ → Channel
◌⟨mask≔◌⟩ x v = record { current = x.current; base = x.base; pattern = x.pattern; mask = v; mode = x.mode; chain = x.chain; interrupt = x.interrupt; status = x.status; line = x.line; pending = x.pending }

abbrev pub ◌⟨mode≔◌⟩ : Channel → Mode → Channel
◌⟨mode≔◌⟩ x v = record { current = x.current; base = x.base; pattern = x.pattern; mask = x.mask; mode = v; chain = x.chain; interrupt = x.interrupt; status = x.status; line = x.line; pending = x.pending }

abbrev pub ◌⟨chain≔◌⟩ : Channel → Address → Channel
◌⟨chain≔◌⟩ x v = record { current = x.current; base = x.base; pattern = x.pattern; mask = x.mask; mode = x.mode; chain = v; interrupt = x.interrupt; status = x.status; line = x.line; pending = x.pending }

abbrev pub ◌⟨interrupt≔◌⟩ : Channel → Interrupt → Channel
◌⟨interrupt≔◌⟩ x v = record { current = x.current; base = x.base; pattern = x.pattern; mask = x.mask; mode = x.mode; chain = x.chain; interrupt = v; status = x.status; line = x.line; pending = x.pending }

abbrev pub ◌⟨status≔◌⟩ : Channel → Status → Channel
◌⟨status≔◌⟩ x v = record { current = x.current; base = x.base; pattern = x.pattern; mask = x.mask; mode = x.mode; chain = x.chain; interrupt = x.interrupt; status = v; line = x.line; pending = x.pending }

abbrev pub ◌⟨line≔◌⟩ : Channel → Line → Channel
◌⟨line≔◌⟩ x v = record { current = x.current; base = x.base; pattern = x.pattern; mask = x.mask; mode = x.mode; chain = x.chain; interrupt = x.interrupt; status = x.status; line = v; pending = x.pending }

abbrev pub ◌⟨pending≔◌⟩ : Channel → Bool → Channel
◌⟨pending≔◌⟩ x v = record { current = x.current; base = x.base; pattern = x.pattern; mask = x.mask; mode = x.mode; chain = x.chain; interrupt = x.interrupt; status = x.status; line = x.line; pending = v }

abbrev pub ◌⟨channel≔◌⟩ : Ended → Channel → Ended
◌⟨channel≔◌⟩ x v = record { channel = v; chains = x.chains }

abbrev pub ◌⟨chains≔◌⟩ : Ended → Bool → Ended
◌⟨chains≔◌⟩ x v = record { channel = x.channel; chains = v }
