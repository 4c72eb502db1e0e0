use Rattle.std.proofs.Common.{arith}
use lib.Bits.{and_high}
use Rattle.port.proofs.kept_pointer.Goals as goal

pub returns : goal.returns
returns c = omega (arith, and_high c.args.w 6 1)
