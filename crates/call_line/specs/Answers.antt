-- Document 01, "Refusal numbers": the answer of a line's level, as document 01 gives it. Assumes nothing.
use Rattle.std.specs.Prelude.{ℕ, Result, Ok, Err, ⊤}
use Rattle.refusal.specs.declared.Refusal.{Refusal}
use Rattle.refusal.specs.Refusals.{number}

-- refusal number or 0
abbrev pub paper_line : Result ⊤ Refusal → ℕ
paper_line (Err r) = number r
paper_line (Ok taken) = 0
