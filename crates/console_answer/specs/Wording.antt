-- The console's language: what each answer prints. Assumes nothing.
use Rattle.std.specs.Prelude.{ℕ, Bool, true, false, not, List, [], eqb, Result, Ok, Err, ⊤}
use Rattle.word_mode.specs.declared.Reasons.{Reasons}
use Rattle.step.specs.declared.Answer.{Answer}
use Rattle.step.specs.declared.Answer.TheVariants as answer
use Rattle.call_acknowledge.specs.declared.Acknowledgement.{Acknowledgement}
use Rattle.call_acknowledge.specs.declared.Acknowledgement.TheVariants as ack
use Rattle.standstill.specs.declared.Cause.{Cause}
use Rattle.standstill.specs.declared.Cause.TheVariants as cause
use Rattle.refusal.specs.declared.Refusal.{Refusal}
use Rattle.text_scan.specs.Words.{bytes}
use Rattle.text_print.specs.Text.{◌⧺◌, hex4_of, decimal_of, channel_of}
use Rattle.console_refusal.specs.Refusals.{refusal_of}

-- a word where it applies
unfoldable pub if_so : Bool → List ℕ → List ℕ
if_so true words = words
if_so false words = []

unfoldable pub reasons_of : Reasons → List ℕ
reasons_of why = if_so why.tc (bytes " TC") ⧺ if_so why.mc (bytes " MC") ⧺ if_so why.eop (bytes " EOP")

-- how often the upper address byte changed, where it did
unfoldable pub upper_of : ℕ → List ℕ
upper_of changes = if_so (not (eqb changes 0)) (bytes " upper " ⧺ decimal_of changes)

-- an answer of a step: its channel, its name, its end reasons and its changes of the upper address byte
unfoldable pub answer_of : Answer → List ℕ
answer_of (answer.Refused r) = refusal_of r
answer_of answer.Disabled = bytes "0 disabled"
answer_of answer.Idle = bytes "0 idle"
answer_of (answer.GivenBack b) = bytes "0 given back"
answer_of (answer.Holding w) = channel_of w ⧺ bytes " holding"
answer_of (answer.Fetched w d) = channel_of w ⧺ bytes " fetched" ⧺ if_so d.upper (bytes " upper 1")
answer_of (answer.Dropped w) = channel_of w ⧺ bytes " dropped"
answer_of (answer.Unit w d) = channel_of w ⧺ bytes " unit" ⧺ reasons_of d.why ⧺ upper_of d.upper
answer_of (answer.Ended w) = channel_of w ⧺ bytes " ended"

unfoldable pub write_of : Result ⊤ Refusal → List ℕ
write_of (Err r) = refusal_of r
write_of (Ok taken) = bytes "written"

unfoldable pub read_of : Result ℕ Refusal → List ℕ
read_of (Err r) = refusal_of r
read_of (Ok w) = bytes "read " ⧺ hex4_of w

unfoldable pub level_of : ℕ → Bool → List ℕ
level_of c true = bytes "line " ⧺ decimal_of c ⧺ bytes " active"
level_of c false = bytes "line " ⧺ decimal_of c ⧺ bytes " inactive"

unfoldable pub line_of : ℕ → Bool → Result ⊤ Refusal → List ℕ
line_of c active (Err r) = refusal_of r
line_of c active (Ok taken) = level_of c active

unfoldable pub acknowledge_of : Result Acknowledgement Refusal → List ℕ
acknowledge_of (Err r) = refusal_of r
acknowledge_of (Ok (ack.Word w word)) = bytes "acknowledged " ⧺ channel_of w ⧺ bytes " " ⧺ hex4_of word
acknowledge_of (Ok (ack.NoWord w)) = bytes "acknowledged " ⧺ channel_of w

unfoldable pub run_of : ℕ → Answer → List ℕ
run_of steps a = bytes "ran " ⧺ decimal_of steps ⧺ bytes " " ⧺ answer_of a

-- why a channel stands still, in document 02's words
unfoldable pub cause_of : Cause → List ℕ
cause_of cause.NothingWrong = bytes "nothing wrong"
cause_of cause.Disabled = bytes "disabled"
cause_of cause.ChainOnTheOther = bytes "chain under way on the other channel"
cause_of cause.GiveBackNote = bytes "give-back note"
cause_of cause.BusKeptByTheOther = bytes "bus kept by the other channel"
cause_of cause.Ca = bytes "CA"
cause_of cause.Sip = bytes "SIP"
cause_of cause.Nac = bytes "NAC"
cause_of cause.Masked = bytes "masked with the line active"
cause_of cause.NoRequest = bytes "no request"
cause_of cause.OddChain = bytes "odd chain address"
cause_of cause.NotCarried = bytes "operation not carried"
cause_of cause.OddWord = bytes "odd word address"
cause_of cause.TurnOfTheOther = bytes "other channel's turn"

unfoldable pub why_of : ℕ → Result Cause Refusal → List ℕ
why_of c (Err r) = refusal_of r
why_of c (Ok why) = decimal_of c ⧺ bytes " " ⧺ cause_of why
