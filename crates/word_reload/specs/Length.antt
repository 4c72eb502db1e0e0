-- Document 01, "Chaining": how many words of a chain are still to be fetched, and where a chain can stand. Assumes nothing.
use Rattle.std.specs.Prelude.{◌≡◌, true, cond, ℕ, ◌-◌, ◌<◌, None, Option, Some}
use Rattle.word_reload.specs.declared.Progress.{Progress}
use Rattle.word_reload.specs.declared.Stage.{Stage}
use Rattle.word_reload.specs.declared.Stage.TheVariants.{Reload, Entries}
use Rattle.word_reload.specs.Reload.{entry_of, is_pair, words_of}

-- The words of the entries that are left: without the reload word, and without the first word of an entry whose second comes.
abbrev pub words_left : Progress → ℕ
words_left p = words_of p.left - cond p.second 2 1

-- The words from a stage on, of which w is fetched first; and those after a fetch.
abbrev pub words_from : Stage → ℕ → ℕ
words_from Reload w = words_of w
words_from (Entries p) w = words_left p

abbrev pub words_after : Option Progress → ℕ
words_after (Some p) = words_left p
words_after None = 0

-- Some of the bits 9 to 0 are left, and a second word comes of a two-word entry alone.
pub record Proper (p : Progress) : Type 0 where
  pub some : 0 < p.left
  pub bits : p.left < 1024
  pub pair : p.second ≡ true → is_pair (entry_of p.left) ≡ true

abbrev pub ProperStage : Stage → Type 0
ProperStage Reload = Unit {0}
ProperStage (Entries p) = Proper p

abbrev pub ProperNext : Option Progress → Type 0
ProperNext (Some p) = Proper p
ProperNext None = Unit {0}
