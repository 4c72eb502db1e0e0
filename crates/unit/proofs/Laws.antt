-- A unit leaves both spaces as long as they were. Assumes nothing.
use Rattle.space.specs.Space.{Spaces, SameSize}
use Rattle.space.proofs.Laws.{size_stores}
use Rattle.word_mode.specs.Mode.{operation_of, is_flipped}
use Rattle.unit_accesses.specs.Accesses.{bytes, writes_of, written_of, datum_at, stored_at}
use Rattle.unit.specs.declared.Work.{Work}
use Rattle.unit.specs.Unit.{worked}

-- a unit leaves both spaces as long as they were
pub worked_size : (w : Work) (z : Spaces) → SameSize (worked w z).spaces z
unfolding worked stored_at
worked_size w z =
    let m = (operation_of w.mode).moves in
    let flip = is_flipped w.mode in
    size_stores 0 (bytes (writes_of m flip w.set)) (written_of m flip w.set (datum_at m flip w.set z)) z
