-- Document 01, "Registers": end reasons, and the mode's triples TC, MC, EOP. Assumes nothing.
use Rattle.std.specs.Prelude.{ℕ, ◌+◌, Bool, ◌&&◌, ◌||◌}
use Rattle.facts.specs.Bits.{bit_at}
use Rattle.word_mode.specs.declared.Reasons.{Reasons}

-- Each triple TC, MC, EOP from its lowest bit, which is bit k.
abbrev pub triple : ℕ → ℕ → Reasons
triple k low = record { tc = bit_at k low; mc = bit_at (k + 1) low; eop = bit_at (k + 2) low }

unfoldable pub some : Reasons → Bool
some why = (why.tc || why.mc) || why.eop

-- The triple is enabled for one of the reasons.
unfoldable pub enabled_for : Reasons → Reasons → Bool
enabled_for t why = ((t.tc && why.tc) || (t.mc && why.mc)) || (t.eop && why.eop)
