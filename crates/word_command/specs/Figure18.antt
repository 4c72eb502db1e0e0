-- Figure 18 of 001: the codes of its commands, in its order. A bit that is not decoded (X) is 0 in a code. Assumes nothing.
use Rattle.std.specs.Prelude.{ℕ, ◌+◌, List, [], ◌∷◌, ◌++◌, map, Option, None}
use Rattle.facts.specs.Look.{look}
use Rattle.word_command.specs.Command.{command_of}
use Rattle.word_command.specs.declared.Command.{Command}

-- Set Channel 1, Channel 2; Clear Channel 1, Channel 2.
abbrev pub set_and_clear : ℕ → List ℕ
set_and_clear code = (code + 2) ∷ (code + 3) ∷ code ∷ (code + 1) ∷ []

-- Reset; Start Chain; software request; hardware mask; CIE, or, IP with neither E nor P, with P, with E, with both; flip bit.
abbrev pub codes : List ℕ
codes =
    0x00
    ∷ 0xA0
    ∷ 0xA1
    ∷ (set_and_clear 0x40
    ++ set_and_clear 0x80
    ++ set_and_clear 0x20
    ++ set_and_clear 0x24
    ++ set_and_clear 0x30
    ++ set_and_clear 0x34
    ++ set_and_clear 0x60)

abbrev pub listed : List (ℕ × Option Command)
listed = map (λ code. (code, command_of code)) codes

-- The command of a code; a number that is no code of the figure has none.
unfoldable pub command_at : ℕ → Option Command
command_at code = look None code listed
