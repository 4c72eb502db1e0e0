use Rattle.std.proofs.Common.{rules, arith, refl}
use Rattle.std.proofs.lemmas.Slice.Eq.{text_from_reads}
use Rattle.text_scan.specs.Words.{bytes}
use Rattle.console_line.specs.Reading.{space_of}
use Rattle.console_line.proofs.space_named.Goals as goal

pub returns-in-memory : goal.returns-in-memory
unfolding space_of
returns-in-memory c = rw (text_from_reads c.args.s.now (bytes "memory") (omega arith) (search rules)) refl
