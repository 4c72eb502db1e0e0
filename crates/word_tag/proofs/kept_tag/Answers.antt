use Rattle.std.proofs.Common.{◌≡◌, ◌/◌, ◌%◌, arith, lit<}
use lib.Bits.{and_mask, and_high}
use Rattle.facts.proofs.Masks.{and_split}
use Rattle.word_tag.proofs.kept_tag.Goals as goal

pub returns : goal.returns
returns c =
    let w = c.args.w in
    let h : w % 64 / 2 % 16 ≡ w / 2 % 16 = omega arith in
    let g : w / 64 % 1024 ≡ w / 64 = omega arith in
    omega (arith, and_split w 6 1023 30 (lit< tt), and_mask (w / 64) 10, and_high (w % 64) 4 1)
