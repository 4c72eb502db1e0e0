-- Spaces of one size stand on one board. Assumes nothing.
use mathlib.Core.Path.{◌≡◌}
use Rattle.space.specs.Space.{Spaces, SameSize}
use Rattle.space.specs.Space.Space.{in_memory, in_io}
use Rattle.space_board.specs.Board.{board_of}

pub same_board : {s t : Spaces} → SameSize s t → board_of s ≡ board_of t
same_board e = λ i. record { memory = e.at in_memory i; io = e.at in_io i }
