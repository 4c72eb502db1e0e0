use mathlib.Core.Path.{sym}
use Rattle.step_stride.proofs.PairLaws.{out_of_turn}
use Rattle.step_stride.specs.Stride.{take_turns}
use Rattle.step_stride.proofs.take_turns.Goals as goal

pub returns-then-is_interleave : goal.returns-then-is_interleave
unfolding take_turns
returns-then-is_interleave c = rw (c.is_interleaved.ensures, c.is_in_turn.ensures, c.is_in_turn-then-is_interleave.ensures)

pub returns : goal.returns
unfolding take_turns
returns c = let a = c.args in sym (out_of_turn a.w a.u _ _ c.request_mode.ensures c.is_interleave.ensures c.if-is_interleave.false)
