-- A refused acknowledge changes nothing. Assumes nothing.
use mathlib.Core.Path.{◌≡◌, refl}
use mathlib.Core.Bool.{false}
use Rattle.step.specs.declared.Controller.{Controller}
use Rattle.call_acknowledge.specs.Acknowledge.{acknowledge_by}

pub refused_keeps : (u : Controller) → (acknowledge_by false false u).state ≡ u
refused_keeps u = refl
