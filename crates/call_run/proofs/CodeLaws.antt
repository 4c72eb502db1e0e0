-- One turn of a run at the numbers that the loop has.
use Prim.Native.Nat.{ℕ, ◌+◌, ◌-◌, ◌<◌, ◌≤◌}
use native.Mathlib.Omega.{arith}
use mathlib.Core.Path.{◌≡◌, sym, ap, subst, ◌∙◌}
use mathlib.Core.Bool.{Bool, true, false}
use mathlib.Core.List.{List}
use lib.ListN.{length}
use borrow.Author.Tests.{lt-ltb, le-ltb}
use Rattle.refusal.specs.declared.Refusal.TheVariants.{LongRun}
use Rattle.space.specs.Space.{Spaces, spaces}
use Rattle.step.specs.declared.Controller.{Controller}
use Rattle.step.specs.declared.Answer.{Answer}
use Rattle.step.specs.declared.Answer.TheVariants.{Refused}
use Rattle.step.specs.Step.{Outcome, outcome, RunOutcome, ran_as, says}
use Rattle.step.specs.declared.Ran.{Ran}
use Rattle.call_run.specs.Run.{stops, advanced, advance_of, run_of}
use Rattle.call_run.proofs.Strides.{Strides}

-- a stride that ends the run, and one after which it goes on
module _ (eop : Bool) (n k : ℕ) (o : Outcome) (s : RunOutcome) (r : Ran) (z : Spaces) (t : Strides eop n k o s) (e : ran_as r z ≡ s) where
  pub stopped : stops r.answer ≡ true → record { last = outcome (says r.state r.answer) z; steps = k } ≡ advanced eop (n - k) k o
  stopped q = ap (λ (x : RunOutcome). record { last = x.last; steps = k }) e ∙ t.stop (sym (ap (λ (x : RunOutcome). stops x.last.stepped.answer) e) ∙ q)

  pub turned : stops r.answer ≡ false
      → advanced eop (n - (k + r.steps)) (k + r.steps) (outcome (says r.state r.answer) z) ≡ advanced eop (n - k) k o
  turned q =
      ap (λ (x : RunOutcome). advanced eop (n - (k + x.steps)) (k + x.steps) x.last) e
      ∙ t.on (sym (ap (λ (x : RunOutcome). stops x.last.stepped.answer) e) ∙ q)

  pub counts : (0 < r.steps) × (k + r.steps ≤ n)
  counts = subst (λ (x : RunOutcome). (0 < x.steps) × (k + x.steps ≤ n)) (sym e) (t.some, t.within)

pub spent : (eop : Bool) (n k : ℕ) (o : Outcome) → k ≤ n → n ≤ k → record { last = o; steps = k } ≡ advanced eop (n - k) k o
unfolding advanced
spent eop n k o h g = let d : n - k ≡ 0 = omega arith in rw d

pub begun : (eop : Bool) (n : ℕ) (o : Outcome) → advanced eop (n - 0) 0 o ≡ advanced eop n 0 o
begun eop n o = ap (λ (l : ℕ). advanced eop l 0 o) (omega arith)

pub whole : (n : ℕ) (u : Controller) (z : Spaces) → n ≤ 65536 → advance_of false n u z ≡ run_of n u z
unfolding advance_of run_of
whole n u z h = rw (le-ltb 65536 n h)

pub refused : (n : ℕ) (u : Controller) (z : Spaces) → 65536 < n → record { last = outcome (says u (Refused LongRun)) z; steps = 0 } ≡ run_of n u z
unfolding run_of
refused n u z h = rw (lt-ltb 65536 n h)

-- what is left to run gives what the whole run gives
pub record RunLoop (eop : Bool) (n : ℕ) (m₀ i₀ : List ℕ) (u₀ : Controller) (a₀ : Answer) (m i : List ℕ) (u : Controller) (a : Answer) (k : ℕ) : Type 0 where
  pub within : k ≤ n
  pub memory_long : length m ≡ length m₀
  pub io_long : length i ≡ length i₀
  pub same : advanced eop (n - k) k (outcome (says u a) (spaces m i)) ≡ advanced eop n 0 (outcome (says u₀ a₀) (spaces m₀ i₀))
