use Rattle.std.proofs.Common.{◌≡◌, ◌/◌, ◌%◌, arith, lit<}
use lib.Bits.{and_mask, and_high}
use Rattle.facts.proofs.Masks.{and_split}
use Rattle.word_tag.proofs.kept_chain.Goals as goal

pub returns : goal.returns
returns c =
    let w = c.args.w in
    let h : w % 256 / 2 % 4 ≡ w / 2 % 4 = omega arith in
    let g : w / 256 % 256 ≡ w / 256 = omega arith in
    omega (arith, and_split w 8 255 6 (lit< tt), and_mask (w / 256) 8, and_high (w % 256) 2 1)
