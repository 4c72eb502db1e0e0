-- The console's language: the first word of a line names what it asks for. Assumes nothing.
use Rattle.std.specs.Prelude.{ℕ, cond, List, [], ◌∷◌, Option, None, Some}
use Rattle.text_scan.specs.Words.{bytes, same_of}
use Rattle.console_line.specs.declared.Name.{Name}
use Rattle.console_line.specs.declared.Name.TheVariants as name

unfoldable pub named : List ℕ → List (List ℕ × Name) → Option Name
named s [] = None
named s (e ∷ es) = cond (same_of s e.0) (Some e.1) (named s es)

abbrev pub names : List (List ℕ × Name)
names =
    (bytes "reset", name.Reset)
    ∷ (bytes "pointer", name.Pointer)
    ∷ (bytes "write", name.Write)
    ∷ (bytes "read", name.Read)
    ∷ (bytes "set", name.Set)
    ∷ (bytes "get", name.Get)
    ∷ (bytes "line", name.Line)
    ∷ (bytes "acknowledge", name.Acknowledge)
    ∷ (bytes "step", name.Step)
    ∷ (bytes "run", name.Run)
    ∷ (bytes "why", name.Why)
    ∷ (bytes "poke", name.Poke)
    ∷ (bytes "peek", name.Peek)
    ∷ (bytes "state", name.State)
    ∷ (bytes "help", name.Help)
    ∷ []
