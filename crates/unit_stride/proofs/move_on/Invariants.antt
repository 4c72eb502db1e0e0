use Rattle.std.proofs.Common.{◌-◌, ◌+◌, cond}
use Rattle.unit_stride.proofs.CodeLaws.{UnitLoop}
use Rattle.unit_stride.proofs.move_on.Given as goal

abbrev pub invariant-loop-going : goal.invariant-loop-going
invariant-loop-going l = UnitLoop l.board l.limit l.initial.memory l.initial.io l.initial.work l.memory l.io l.work l.moved l.units l.going

abbrev pub decreases-loop-going : goal.decreases-loop-going
decreases-loop-going l = cond l.going (l.limit + 1 - l.units) 0
