use Rattle.step.proofs.CodeLaws.{gone_on_lem}
use Rattle.port.specs.declared.Which.TheVariants.{One, Two}
use Rattle.step.specs.Controller.{at, with}
use Rattle.step.proofs.Controller.go_on.Goals as goal

pub returns-in-One : goal.returns-in-One
unfolding at with
returns-in-One c = let a = c.args in gone_on_lem a.w One a.self a.m _ _ _ _ c.in-One.is c.request_mode.ensures c.is_interleaved-cpu.ensures c.unended_control-next.ensures c.go_on-c.ensures

pub returns-in-Two : goal.returns-in-Two
unfolding at with
returns-in-Two c = let a = c.args in gone_on_lem a.w Two a.self a.m _ _ _ _ c.in-Two.is c.request_mode.ensures c.is_interleaved-cpu.ensures c.unended_control-next.ensures c.go_on-c-in-Two.ensures
