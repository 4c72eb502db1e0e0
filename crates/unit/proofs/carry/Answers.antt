use Rattle.unit.proofs.CodeLaws.{carried}
use Rattle.unit.proofs.carry.Goals as goal

pub returns : goal.returns
returns c = let a = c.args in carried a.w _ _ _ _ _ _ _ _ _ c.operation-o.ensures c.is_flipped.ensures c.access-done.ensures c.datum_width.ensures c.match_control.ensures c.compare-compared.ensures c.is_terminal.ensures
