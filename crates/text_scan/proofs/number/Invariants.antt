use Rattle.std.proofs.Common.{◌≡◌, drop}
use Rattle.text_scan.specs.Numbers.{number_of, digits_from}
use Rattle.text_scan.proofs.number.Given as goal

abbrev pub invariant-loop-b : goal.invariant-loop-b
invariant-loop-b g l = number_of g.row.RADIX l.s ≡ digits_from g.row.RADIX l.value (drop l.b-index l.s)
