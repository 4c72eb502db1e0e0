-- The channels of a controller. Assumes nothing.
use Rattle.port.specs.declared.Which.{Which}
use Rattle.port.specs.declared.Which.TheVariants.{One, Two}
use Rattle.channel.specs.declared.Channel.{Channel}
use Rattle.step.specs.declared.Controller.{Controller}
use Rattle.step.specs.Set.{◌⟨one≔◌⟩, ◌⟨two≔◌⟩}

unfoldable pub at : Which → Controller → Channel
at One u = u.one
at Two u = u.two

unfoldable pub with : Which → Channel → Controller → Controller
with One c u = u ⟨one≔ c ⟩
with Two c u = u ⟨two≔ c ⟩
