-- Document 01, "Which step comes next" and "Refusal numbers": an answer's number and values, as document 01 gives them.
-- Assumes nothing.
use Rattle.std.specs.Prelude.{ℕ, false}
use Rattle.facts.specs.Bits.{bit_if}
use Rattle.refusal.specs.Refusals.{number}
use Rattle.port.specs.Ports.{channel_number}
use Rattle.word_mode.specs.declared.Reasons.{Reasons}
use Rattle.step_bus.specs.declared.Back.TheVariants.{Note, Bus}
use Rattle.step.specs.declared.Answer.{Answer}
use Rattle.step.specs.declared.Answer.TheVariants.{Refused, Disabled, Idle, GivenBack, Holding, Fetched, Dropped, Unit, Ended}

pub data AnswerName : Type 0 where
  refused disabled idle given_back holding fetched dropped unit ended : AnswerName

-- refusal number or 0; the answer's name; its channel or 0; its end reasons; and (document 02, E5) how many of its steps changed bits 23-16
pub record Paper : Type 0 where
  pub number : ℕ
  pub name : AnswerName
  pub channel : ℕ
  pub why : Reasons
  pub upper : ℕ

abbrev pub none : Reasons
none = record { tc = false; mc = false; eop = false }

abbrev pub paper : Answer → Paper
paper (Refused r) = record { number = number r; name = refused; channel = 0; why = none; upper = 0 }
paper Disabled = record { number = 0; name = disabled; channel = 0; why = none; upper = 0 }
paper Idle = record { number = 0; name = idle; channel = 0; why = none; upper = 0 }
paper (GivenBack Note) = record { number = 0; name = given_back; channel = 0; why = none; upper = 0 }
paper (GivenBack Bus) = record { number = 0; name = given_back; channel = 0; why = none; upper = 0 }
paper (Holding w) = record { number = 0; name = holding; channel = channel_number w; why = none; upper = 0 }
paper (Fetched w d) = record { number = 0; name = fetched; channel = channel_number w; why = none; upper = bit_if d.upper 1 }
paper (Dropped w) = record { number = 0; name = dropped; channel = channel_number w; why = none; upper = 0 }
paper (Unit w d) = record { number = 0; name = unit; channel = channel_number w; why = d.why; upper = d.upper }
paper (Ended w) = record { number = 0; name = ended; channel = channel_number w; why = none; upper = 0 }
