use Rattle.std.proofs.Common.{◌-◌, ◌<◌, arith}
use lib.Bits.{and_mask}
use Rattle.word_reload.proofs.Laws.{lows, next_le}
use Rattle.word_reload.specs.Reload.{rest_of}
use Rattle.word_reload.proofs.rest.Goals as goal

pub returns : goal.returns
unfolding rest_of
returns c =
    let h : c.next_place-place.result < 11 = omega (arith, next_le c.args.left, c.next_place-place.ensures) in
    rw (lows c.next_place-place.result h, ← c.next_place-place.ensures) (and_mask c.args.left (9 - c.next_place-place.result))
