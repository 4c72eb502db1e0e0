use Rattle.std.proofs.Common.{◌-◌, ◌≤◌}
use Rattle.console.proofs.print.help.Given as goal

abbrev pub invariant-loop-n : goal.invariant-loop-n
invariant-loop-n g l = l.n ≤ 17

abbrev pub decreases-loop-n : goal.decreases-loop-n
decreases-loop-n g l = 17 - l.n
