-- The bytes of one of the two spaces that the bench has, and the bench with others there. Assumes nothing.
use Rattle.std.specs.Borrow.{Lends, MutBor, Fml, RattleType, u8}
use Rattle.std.specs.contracts.alloc.Global as global
use Rattle.std.specs.contracts.vec.Vec as vec
use Rattle.std.specs.contracts.impls.GlobalAllocator.TheImpl.{ghosts}
use Rattle.console_line.specs.declared.LentSpace.{LentSpace}
use Rattle.console_line.specs.declared.LentSpace.TheVariants.{Memory, Io}
use Rattle.console.specs.declared.bench.Bench.{Bench}
use Rattle.console.specs.contracts.bench.Bench.{the_row}

-- `Vec<u8>` as the logic holds it
abbrev pub bytes_row : RattleType
bytes_row = vec.the_row u8 global.the_row ghosts

abbrev pub bytes_in : LentSpace → Bench → bytes_row.Denot
bytes_in Memory b = b.memory
bytes_in Io b = b.io

abbrev pub with_bytes : LentSpace → Bench → bytes_row.Denot → Bench
with_bytes Memory b v = record b { memory = v }
with_bytes Io b v = record b { io = v }

-- r lends a space: what is last written through it is there, and nothing else has changed
abbrev pub LendsSpace : LentSpace → MutBor Bench → MutBor bytes_row.Denot → Fml
LendsSpace space b r = Lends the_row bytes_row b r (with_bytes space b.now)
