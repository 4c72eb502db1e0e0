use Rattle.std.proofs.Common.{◌-◌}
use Rattle.call_run.proofs.CodeLaws.{RunLoop}
use Rattle.call_run.proofs.advance.Given as goal

abbrev pub invariant-loop-done : goal.invariant-loop-done
invariant-loop-done l = RunLoop l.eop l.budget l.initial.memory l.initial.io l.initial.state l.initial.answer l.memory l.io l.state l.answer l.done

abbrev pub decreases-loop-done : goal.decreases-loop-done
decreases-loop-done l = l.budget - l.done
