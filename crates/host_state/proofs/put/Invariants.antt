use Rattle.std.proofs.Common.{◌≡◌, ◌+◌, ◌-◌, ◌≤◌, drop}
use Rattle.host_state.specs.Store.{put_from}
use Rattle.host_state.proofs.put.Given as goal

-- what is left to put in gives what the whole gives
abbrev pub invariant-loop-k : goal.invariant-loop-k
invariant-loop-k l = (l.k ≤ 31) × (put_from (l.at + l.k) (drop l.k l.words) l.w ≡ put_from l.at l.words l.initial.w)

abbrev pub decreases-loop-k : goal.decreases-loop-k
decreases-loop-k l = 31 - l.k
