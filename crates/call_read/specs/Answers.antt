-- Document 01, "Refusal numbers": the answer of a register read, as document 01 gives it. Assumes nothing.
use Rattle.std.specs.Prelude.{ℕ, Result, Ok, Err}
use Rattle.refusal.specs.declared.Refusal.{Refusal}
use Rattle.refusal.specs.Refusals.{number}

-- refusal number or 0; the word read, 0 where it is refused
pub record PaperRead : Type 0 where
  pub number : ℕ
  pub word : ℕ

abbrev pub paper_read : Result ℕ Refusal → PaperRead
paper_read (Err r) = record { number = number r; word = 0 }
paper_read (Ok v) = record { number = 0; word = v }
