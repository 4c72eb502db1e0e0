-- Units that follow each other with nothing between them, of one channel or of two that take turns: each is a unit of document 01,
-- "Moving a unit". Assumes nothing.
use Prim.Native.Nat.{ℕ, zero, suc}
use mathlib.Core.Path.{◌≡◌, refl}
use mathlib.Core.Bool.{Bool, true, false, cond}
use Rattle.facts.specs.Rows.{Row, in_a_row}
use Rattle.space.specs.Space.{Spaces}
use Rattle.space_board.specs.declared.Board.{Board}
use Rattle.port.specs.declared.Which.{Which}
use Rattle.unit.specs.declared.Work.{Work}
use Rattle.unit.specs.Unit.{Worked, worked}
use Rattle.unit_stride.specs.Units.{onward, follows, moved_on, UnitDone, onwards}

-- ---- the same, where the other rests all the time

abbrev pub resting : Which → Work → Row Worked → Row UnitDone
resting w k r = record { last = record { which = w; rests = k; unit = r.last }; count = r.count }

pub of_one : (b : Board) (w : Which) (k : Work) (n j : ℕ) (x : Work) (z : Spaces) → onwards b false n j (record { which = w; work = x; other = k }) z ≡ resting w k (moved_on b n j x z)
unfolding in_a_row
of_one b w k zero j x z = refl
of_one b w k (suc n) j x z =
    let d = worked x z in
    go (follows b d.moved (onward x d.moved)) (of_one b w k n (suc j) (onward x d.moved) d.spaces)
  where
    go : (b : Bool) {a : Row UnitDone} {c : Row Worked} → a ≡ resting w k c
        → cond b a (record { last = record { which = w; rests = k; unit = worked x z }; count = suc j }) ≡ resting w k (cond b c (record { last = worked x z; count = suc j }))
    go true e = e
    go false e = refl
