use Rattle.std.proofs.Common.{◌-◌, ◌+◌, cond}
use Rattle.chain_stride.proofs.CodeLaws.{FetchLoop}
use Rattle.chain_stride.proofs.fetch_on.Given as goal

abbrev pub invariant-loop-going : goal.invariant-loop-going
invariant-loop-going l = FetchLoop l.limit l.memory l.initial.channel l.initial.stage l.channel l.stage l.next l.upper l.words l.going

abbrev pub decreases-loop-going : goal.decreases-loop-going
decreases-loop-going l = cond l.going (l.limit + 1 - l.words) 0
