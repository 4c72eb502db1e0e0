use Rattle.std.proofs.Common.{◌%◌, arith, lit<}
use lib.Bits.{and_mask}
use Rattle.facts.proofs.Masks.{and_low}
use Rattle.word_reload.proofs.Laws.{counted}
use Rattle.word_reload.specs.Reload.{words_of}
use Rattle.word_reload.proofs.words.Goals as goal

pub returns : goal.returns
unfolding words_of
returns c = let n = c.args.reload in rw (and_mask n 10, and_low n 10 875 (lit< tt)) (omega (arith, counted (n % 1024) (omega arith)))
