use Rattle.step.proofs.CodeLaws.{rule_4}
use Rattle.step.proofs.Controller.enabled_intent.Goals as goal

pub returns-in-Some-bus : goal.returns-in-Some-bus
returns-in-Some-bus c = rule_4 c.args.self _ _ c.in-None.is c.if-control.false c.in-Some-bus.is c.keeper.ensures
