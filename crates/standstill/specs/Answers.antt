-- Document 02, E4: the answer of why, as numbers. Assumes nothing.
use Rattle.std.specs.Prelude.{ℕ, Result, Ok, Err}
use Rattle.standstill.specs.declared.Cause.{Cause}
use Rattle.standstill.specs.declared.Cause.TheVariants.{NothingWrong, Disabled, ChainOnTheOther, GiveBackNote, BusKeptByTheOther, Ca, Sip, Nac, Masked, NoRequest, OddChain, NotCarried, OddWord, TurnOfTheOther}
use Rattle.refusal.specs.declared.Refusal.{Refusal}
use Rattle.refusal.specs.Refusals.{number}

-- In document 02's order, nothing wrong being 0; 13 to 15 are for the reasons of E6 and E9.
abbrev pub cause_number : Cause → ℕ
cause_number NothingWrong = 0
cause_number Disabled = 1
cause_number ChainOnTheOther = 2
cause_number GiveBackNote = 3
cause_number BusKeptByTheOther = 4
cause_number Ca = 5
cause_number Sip = 6
cause_number Nac = 7
cause_number Masked = 8
cause_number NoRequest = 9
cause_number OddChain = 10
cause_number NotCarried = 11
cause_number OddWord = 12
cause_number TurnOfTheOther = 16

-- refusal number or 0; the reason's number
pub record PaperWhy : Type 0 where
  pub number : ℕ
  pub cause : ℕ

abbrev pub paper_why : Result Cause Refusal → PaperWhy
paper_why (Err r) = record { number = number r; cause = 0 }
paper_why (Ok c) = record { number = 0; cause = cause_number c }
