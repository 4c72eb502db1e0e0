-- Document 01, "Registers" and "Moving a unit": what each operation does, a row for each code. Assumes nothing.
use Rattle.std.specs.Prelude.{ℕ, Bool, true, false, List, [], ◌∷◌}
use Rattle.facts.specs.Look.{look}
use Rattle.space.specs.declared.Width.{Width}
use Rattle.space.specs.declared.Width.TheVariants.{Byte, Word}
use Rattle.word_operation.specs.declared.Moves.{Moves}
use Rattle.word_operation.specs.declared.Moves.TheVariants.{Transfer, Search, Funnel}
use Rattle.word_operation.specs.declared.Operation.{Operation}

-- Carried without or with comparison, or not at all: then its moves mean nothing.
abbrev pub moving : Moves → Operation
moving m = record { carried = true; compares = false; moves = m }

abbrev pub comparing : Moves → Operation
comparing m = record { carried = true; compares = true; moves = m }

abbrev pub not_carried : Operation
not_carried = record { carried = false; compares = false; moves = Transfer Byte }

-- 0 word, 1 byte, 8 and 9 funnelled transfer; 4 word, 5 byte, C and D funnelled transfer-and-search; E word, F byte search;
-- 2, 3, 6, 7 flyby; A, B illegal. Only operations 4, 5 and C to F compare.
abbrev pub operations : List (ℕ × Operation)
operations =
    (0, moving (Transfer Word)) ∷ (1, moving (Transfer Byte)) ∷ (2, not_carried) ∷ (3, not_carried)
    ∷ (4, comparing (Transfer Word)) ∷ (5, comparing (Transfer Byte)) ∷ (6, not_carried) ∷ (7, not_carried)
    ∷ (8, moving Funnel) ∷ (9, moving Funnel) ∷ (0xA, not_carried) ∷ (0xB, not_carried)
    ∷ (0xC, comparing Funnel) ∷ (0xD, comparing Funnel) ∷ (0xE, comparing (Search Word)) ∷ (0xF, comparing (Search Byte)) ∷ []

abbrev pub operation_at : ℕ → Operation
operation_at code = look not_carried code operations

abbrev pub carried : Operation → Bool
carried o = o.carried

-- In funnelling the datum is the word.
abbrev pub datum_width : Moves → Width
datum_width (Transfer w) = w
datum_width (Search w) = w
datum_width Funnel = Word
