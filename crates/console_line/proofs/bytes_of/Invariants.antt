use Rattle.std.proofs.Common.{◌-◌, ◌≡◌, ◌≤◌, [], length}
use Rattle.console_line.specs.Reading.{bytes_from}
use Rattle.console_line.proofs.bytes_of.Given as goal

abbrev pub invariant-loop-left : goal.invariant-loop-left
invariant-loop-left l = (length l.bytes.items ≤ 64) × (bytes_from (64 - length l.bytes.items) l.left l.bytes.items ≡ bytes_from 64 l.fn.s [])

abbrev pub decreases-loop-left : goal.decreases-loop-left
decreases-loop-left l = 64 - length l.bytes.items
