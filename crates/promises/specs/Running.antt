-- Demand 1, the run: its steps are the steps of the stretch, it stops where document 01 says, it answers their number, and a refused
-- step keeps the steps before it. Assumes nothing.
use Rattle.refusal.specs.declared.Refusal.TheVariants.{LongRun}
use Rattle.std.specs.Prelude.{◌≡◌, true, false, ◌⊎◌, ℕ, ◌+◌, ◌<◌, ltb}
use Rattle.space.specs.Space.{Spaces}
use Rattle.unit_laws.specs.Machine.{iter, Every}
use Rattle.step.specs.declared.Controller.{Controller}
use Rattle.step.specs.declared.Answer.TheVariants.{Refused}
use Rattle.step.specs.Answers.{paper}
use Rattle.step.specs.Step.{outcome, RunOutcome, says}
use Rattle.call_run.specs.Run.{stops, run_of}
use Rattle.promises.specs.Machine.{Machine, left, outcome_of, step, answer}

abbrev pub machine : Controller → Spaces → Machine
machine u z = record { controller = u; spaces = z }

-- none of the steps stops the run
abbrev pub Going : ℕ → Machine → Type 0
Going n m = Every step (λ x. stops (answer x) ≡ false) n m

-- the whole budget
pub record Whole (n k : ℕ) (m : Machine) (r : RunOutcome) : Type 0 where
  pub steps : r.steps ≡ k + n
  pub left_at : left r.last ≡ iter step n m
  pub going : Going n m
  pub unrefused : (paper r.last.stepped.answer).number ≡ 0

-- it stopped on step number j, from 0, which is not counted
pub record Stopped (n k : ℕ) (m : Machine) (r : RunOutcome) : Type 0 where
  pub at : ℕ
  pub within : at < n
  pub steps : r.steps ≡ k + at
  pub last : r.last ≡ outcome_of (iter step at m)
  pub stop : stops (answer (iter step at m)) ≡ true
  pub going : Going at m

-- ---- the run

pub record Run (budget : ℕ) (u : Controller) (z : Spaces) : Type 0 where
  -- 11, and nothing is done: run of more than 65,536
  pub refused : ltb 65536 budget ≡ true → run_of budget u z ≡ record { last = outcome (says u (Refused LongRun)) z; steps = 0 }
  -- else its steps are the stretch's, and it answers how many came before the one that stops it, or else the whole budget
  pub carried : ltb 65536 budget ≡ false → Whole budget 0 (machine u z) (run_of budget u z) ⊎ Stopped budget 0 (machine u z) (run_of budget u z)
