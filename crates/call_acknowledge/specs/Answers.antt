-- Document 01, "Acknowledge" and "Refusal numbers": the answer, as document 01 gives it. Assumes nothing.
use Rattle.std.specs.Prelude.{ℕ, Bool, true, false, Result, Ok, Err}
use Rattle.refusal.specs.declared.Refusal.{Refusal}
use Rattle.refusal.specs.Refusals.{number}
use Rattle.port.specs.Ports.{channel_number}
use Rattle.call_acknowledge.specs.declared.Acknowledgement.{Acknowledgement}
use Rattle.call_acknowledge.specs.declared.Acknowledgement.TheVariants.{Word, NoWord}

-- refusal number or 0; the channel or 0; whether a word is given, and the word or 0
pub record PaperAck : Type 0 where
  pub number : ℕ
  pub channel : ℕ
  pub given : Bool
  pub word : ℕ

abbrev pub paper_ack : Result Acknowledgement Refusal → PaperAck
paper_ack (Err r) = record { number = number r; channel = 0; given = false; word = 0 }
paper_ack (Ok (Word w v)) = record { number = 0; channel = channel_number w; given = true; word = v }
paper_ack (Ok (NoWord w)) = record { number = 0; channel = channel_number w; given = false; word = 0 }
