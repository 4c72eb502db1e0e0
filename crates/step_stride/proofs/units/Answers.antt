use Rattle.step_stride.proofs.CodeLaws.{does_units}
use Rattle.step_stride.proofs.units.Goals as goal

pub returns : goal.returns
returns c = let a = c.args in does_units a.w a.left a.eop a.u _ _ _ _ _ _ _ _ _ _ c.take_turns-both.ensures c.request_mode.ensures c.limit-limit.ensures c.pair.ensures c.lends.ensures c.carry_on-k.ensures c.rest_other.ensures c.settle_unit-s.ensures
