use Rattle.std.proofs.Common.{rules, arith, refl}
use Rattle.std.proofs.lemmas.Slice.Eq.{text_from_reads}
use Rattle.text_scan.specs.Words.{bytes}
use Rattle.console_line.specs.Names.{named}
use Rattle.console_line.proofs.name_of.Goals as goal

pub returns-in-pointer : goal.returns-in-pointer
unfolding named
returns-in-pointer c = rw (text_from_reads c.args.s.now (bytes "pointer") (omega arith) (search rules)) refl

pub returns-in-acknowledge : goal.returns-in-acknowledge
unfolding named
returns-in-acknowledge c = rw (text_from_reads c.args.s.now (bytes "acknowledge") (omega arith) (search rules)) refl
