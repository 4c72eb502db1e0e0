use Rattle.std.proofs.Common.{rules, arith, refl, ◌≡◌, sym, ◌∙◌}
use Rattle.std.proofs.lemmas.Slice.Eq.{text_from_reads}
use Rattle.text_scan.specs.Words.{bytes, first_of}
use Rattle.console_line.specs.Reading.{level_at}
use Rattle.console_line.proofs.level.Goals as goal

pub returns-in-active : goal.returns-in-active
unfolding level_at
returns-in-active c =
    let e : first_of c.args.s.now ≡ bytes "active" = sym c.first.ensures ∙ text_from_reads c.first.result.now (bytes "active") (omega arith) (search rules) in rw e refl

pub returns-in-inactive : goal.returns-in-inactive
unfolding level_at
returns-in-inactive c =
    let e : first_of c.args.s.now ≡ bytes "inactive" = sym c.first.ensures ∙ text_from_reads c.first.result.now (bytes "inactive") (omega arith) (search rules) in rw e refl
