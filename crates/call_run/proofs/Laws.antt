-- Advancing by one step is a step. Assumes nothing.
use mathlib.Core.Path.{◌≡◌, refl}
use mathlib.Core.Bool.{Bool, true, false, cond}
use Rattle.space.specs.Space.{Spaces}
use Rattle.step.specs.declared.Controller.{Controller}
use Rattle.step.specs.Step.{RunOutcome, step_of}
use Rattle.call_run.specs.Run.{stops, advanced, advance_of}

pub by_one : (eop : Bool) (u : Controller) (z : Spaces) → (advance_of eop 1 u z).last ≡ step_of eop u z
unfolding advance_of advanced
by_one eop u z = same (stops (step_of eop u z).stepped.answer)
  where
    same : (b : Bool) → (cond {A = RunOutcome} b (record { last = step_of eop u z; steps = 0 }) (record { last = step_of eop u z; steps = 1 })).last ≡ step_of eop u z
    same true = refl
    same false = refl
