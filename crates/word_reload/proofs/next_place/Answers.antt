use Rattle.std.proofs.Common.{◌%◌, arith}
use lib.Bits.{and_mask}
use Rattle.word_reload.proofs.Laws.{leading}
use Rattle.word_reload.specs.Reload.{next_of}
use Rattle.word_reload.proofs.next_place.Goals as goal

pub overflow_sub-result : goal.overflow_sub-result
overflow_sub-result c = let n = c.args.left in rw (and_mask n 10) (omega (arith, leading (n % 1024) (omega arith)))

pub returns : goal.returns
unfolding next_of
returns c = let n = c.args.left in rw (and_mask n 10) (omega (arith, leading (n % 1024) (omega arith)))
