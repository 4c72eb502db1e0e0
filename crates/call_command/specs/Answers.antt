-- Document 01, "Refusal numbers": the answer of a register write, as document 01 gives it. Assumes nothing.
use Rattle.std.specs.Prelude.{ℕ, Result, Ok, Err, ⊤}
use Rattle.refusal.specs.declared.Refusal.{Refusal}
use Rattle.refusal.specs.Refusals.{number}

-- refusal number or 0
abbrev pub paper_write : Result ⊤ Refusal → ℕ
paper_write (Err r) = number r
paper_write (Ok taken) = 0
