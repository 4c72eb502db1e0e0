use Rattle.std.proofs.Common.{◌-◌, ◌+◌, cond}
use Rattle.unit_stride.proofs.CodeLaws.{Turning}
use Rattle.unit_stride.proofs.carry_on.Given as goal

abbrev pub invariant-loop-going : goal.invariant-loop-going
invariant-loop-going l = Turning l.board l.both l.limit l.initial.memory l.initial.io l.initial.next l.memory l.io l.moved l.pair l.next l.units l.going

abbrev pub decreases-loop-going : goal.decreases-loop-going
decreases-loop-going l = cond l.going (l.limit + 1 - l.units) 0
