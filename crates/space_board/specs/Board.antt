-- What the choice of a step looks at besides the registers: the lengths of the lent spaces. No rule of document 01 asks for them; the
-- strict board, the four spaces and the row of document 02 do. Assumes nothing.
use Rattle.std.specs.Prelude.{length}
use Rattle.space.specs.Space.{Spaces}
use Rattle.space_board.specs.declared.Board.{Board}

abbrev pub board_of : Spaces → Board
board_of z = record { memory = length z.memory; io = length z.io }
