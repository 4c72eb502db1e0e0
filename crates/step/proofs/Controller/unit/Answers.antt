use Rattle.step.proofs.CodeLaws.{does_unit}
use Rattle.step.proofs.Controller.unit.Goals as goal

pub returns : goal.returns
returns c = let a = c.args in does_unit a.w a.eop a.self _ _ _ _ _ _ c.channel.ensures c.work_of.ensures c.carry-m.ensures c.settle_unit.ensures
