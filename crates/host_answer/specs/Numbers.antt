-- Each answer as one number, for a host: bits 7-0 are document 01's refusal number, or 0. Assumes nothing.
use Rattle.std.specs.Prelude.{ℕ, ◌+◌, ◌*◌, ◌%◌, Bool, Result, Ok, Err, ⊤}
use Rattle.refusal.specs.declared.Refusal.{Refusal}
use Rattle.refusal.specs.Refusals.{number}
use Rattle.port.specs.declared.Which.{Which}
use Rattle.port.specs.declared.Which.TheVariants.{One, Two}
use Rattle.word_mode.specs.declared.Reasons.{Reasons}
use Rattle.step_bus.specs.declared.Back.TheVariants.{Note, Bus}
use Rattle.step.specs.declared.Answer.{Answer}
use Rattle.step.specs.declared.Answer.TheVariants.{Refused, Disabled, Idle, GivenBack, Holding, Fetched, Dropped, Unit, Ended}
use Rattle.port.specs.Ports.{channel_number}
use Rattle.call_acknowledge.specs.declared.Acknowledgement.{Acknowledgement}
use Rattle.call_acknowledge.specs.declared.Acknowledgement.TheVariants as ack
use Rattle.standstill.specs.declared.Cause.{Cause}
use Rattle.standstill.specs.Answers.{cause_number}
use Rattle.facts.specs.Bits.{bit_if}

-- The upper half of a unit's answer: the channel, the end reasons TC, MC, EOP from bit 8 up, and in bits 13-12 the number of changes of
-- bits 23-16, which is at most 2.
abbrev pub unit_half : ℕ → Reasons → ℕ → ℕ
unit_half channel why upper = channel + bit_if why.tc 0x100 + bit_if why.mc 0x200 + bit_if why.eop 0x400 + upper % 4 * 0x1000

-- .. and of a fetch's: it has no end reasons.
abbrev pub fetch_half : ℕ → Bool → ℕ
fetch_half channel upper = channel + bit_if upper 0x1000

-- A kind in bits 15-8, and the upper half in bits 31-16.
abbrev pub packed : ℕ → ℕ → ℕ
packed kind upper = kind * 256 + upper * 65536

abbrev pub step_number : Answer → ℕ
step_number (Refused r) = number r
step_number Disabled = packed 0 0
step_number Idle = packed 1 0
step_number (GivenBack Note) = packed 2 0
step_number (GivenBack Bus) = packed 3 0
step_number (Holding w) = packed 4 (channel_number w)
step_number (Fetched w d) = packed 5 (fetch_half (channel_number w) d.upper)
step_number (Dropped w) = packed 6 (channel_number w)
step_number (Unit w d) = packed 7 (unit_half (channel_number w) d.why d.upper)
step_number (Ended w) = packed 8 (channel_number w)

-- The number of steps stands above the last answer's 32 bits.
abbrev pub run_number : ℕ → Answer → ℕ
run_number steps a = steps * 4294967296 + step_number a

-- A refusal's number, or what is told of a call that was carried out.
abbrev pub number_of : {A : Type 0} → (A → ℕ) → Result A Refusal → ℕ
number_of told (Err r) = number r
number_of told (Ok a) = told a

-- Bits 31-16 the register.
abbrev pub read_number : Result ℕ Refusal → ℕ
read_number = number_of (packed 0)

abbrev pub write_number : Result ⊤ Refusal → ℕ
write_number = number_of (λ _. 0)

abbrev pub line_number : Result ⊤ Refusal → ℕ
line_number = write_number

-- Bits 9-8 the channel, bit 10 whether there is a word, bits 31-16 the word.
abbrev pub word_kind : Which → ℕ
word_kind One = 5
word_kind Two = 6

abbrev pub acknowledged_told : Acknowledgement → ℕ
acknowledged_told (ack.Word w v) = packed (word_kind w) v
acknowledged_told (ack.NoWord w) = packed (channel_number w) 0

abbrev pub ack_number : Result Acknowledgement Refusal → ℕ
ack_number = number_of acknowledged_told

-- Bits 15-8 why the channel stands still, 0 being nothing wrong.
abbrev pub cause_told : Cause → ℕ
cause_told c = packed (cause_number c) 0

abbrev pub why_number : Result Cause Refusal → ℕ
why_number = number_of cause_told
