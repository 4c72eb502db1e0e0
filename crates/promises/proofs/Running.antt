-- Demand 1, the run: its steps are the steps of the stretch, it stops where document 01 says, it answers their number, and a refused
-- step keeps the steps before it. Assumes nothing.
use mathlib.Core.Path.{◌≡◌, refl, sym, ap, subst}
use mathlib.Core.Bool.{Bool, true, false, cond, true≢false}
use mathlib.Core.Logic.{◌⊎◌, inl, inr}
use Prim.Native.Nat.{ℕ, zero, suc}
use native.Mathlib.Nat.{zero-lt-suc}
use native.Mathlib.Omega.{arith}
use lib.Dec.{ltb}
use Rattle.refusal.specs.declared.Refusal.TheVariants.{LongRun}
use Rattle.space.specs.Space.{Spaces}
use Rattle.step.specs.declared.Controller.{Controller}
use Rattle.step.specs.declared.Answer.{Answer}
use Rattle.step_bus.specs.declared.Back.TheVariants.{Note, Bus}
use Rattle.step.specs.declared.Answer.TheVariants.{Refused, Disabled, Idle, GivenBack, Holding, Fetched, Dropped, Unit, Ended}
use Rattle.step.specs.Answers.{paper}
use Rattle.step.specs.Step.{Outcome, outcome, RunOutcome, says}
use Rattle.call_run.specs.Run.{stops, next, advanced, run_from, run_of}
use Rattle.promises.specs.Machine.{left}
use Rattle.promises.specs.Running.{machine, Whole, Stopped, Run}

-- an answer that does not stop a run is no refusal
going_on : (a : Answer) → stops a ≡ false → (paper a).number ≡ 0
going_on (Refused r) e = absurd (true≢false e)
going_on Disabled e = refl
going_on Idle e = refl
going_on (GivenBack Note) e = refl
going_on (GivenBack Bus) e = refl
going_on (Holding w) e = refl
going_on (Fetched w d) e = refl
going_on (Dropped w) e = refl
going_on (Unit w d) e = refl
going_on (Ended w) e = refl

ran_from : (n k : ℕ) (o : Outcome) → (paper o.stepped.answer).number ≡ 0 → Whole n k (left o) (run_from n k o) ⊎ Stopped n k (left o) (run_from n k o)
unfolding advanced
ran_from zero k o q = inl (record { steps = omega arith; left_at = refl; going = tt; unrefused = q })
ran_from (suc n) k o q = go (stops (next o).stepped.answer) refl (λ e. ran_from n (suc k) (next o) (going_on (next o).stepped.answer e))
  where
    r : (b : Bool) → RunOutcome
    r b = cond b (record { last = next o; steps = k }) (run_from n (suc k) (next o))

    same : (b : Bool) → stops (next o).stepped.answer ≡ b → r (stops (next o).stepped.answer) ≡ r b
    same b e = ap r e

    go : (b : Bool) → stops (next o).stepped.answer ≡ b
        → (stops (next o).stepped.answer ≡ false → Whole n (suc k) (left (next o)) (run_from n (suc k) (next o)) ⊎ Stopped n (suc k) (left (next o)) (run_from n (suc k) (next o)))
        → Whole (suc n) k (left o) (r (stops (next o).stepped.answer)) ⊎ Stopped (suc n) k (left o) (r (stops (next o).stepped.answer))
    go true e h = inr (subst (Stopped (suc n) k (left o)) (sym (same true e))
        (record { at = zero; within = zero-lt-suc n; steps = omega arith; last = refl; stop = e; going = tt }))
    go false e h = more (h e)
      where
        more : Whole n (suc k) (left (next o)) (run_from n (suc k) (next o)) ⊎ Stopped n (suc k) (left (next o)) (run_from n (suc k) (next o))
            → Whole (suc n) k (left o) (r (stops (next o).stepped.answer)) ⊎ Stopped (suc n) k (left o) (r (stops (next o).stepped.answer))
        more (inl x) = inl (subst (Whole (suc n) k (left o)) (sym (same false e))
            (record { steps = (let s = x.steps in omega arith); left_at = x.left_at; going = (e, x.going); unrefused = x.unrefused }))
        more (inr x) = inr (subst (Stopped (suc n) k (left o)) (sym (same false e))
            (record { at = suc x.at; within = (let s = x.within in omega arith); steps = (let s = x.steps in omega arith); last = x.last; stop = x.stop; going = (e, x.going) }))

ran : (budget : ℕ) (u : Controller) (z : Spaces) → ltb 65536 budget ≡ false → Whole budget 0 (machine u z) (run_of budget u z) ⊎ Stopped budget 0 (machine u z) (run_of budget u z)
unfolding run_of
ran budget u z e =
    subst (λ (r : RunOutcome). Whole budget 0 (machine u z) r ⊎ Stopped budget 0 (machine u z) r)
    (sym (ap (λ (b : Bool). cond b (record { last = outcome (says u (Refused LongRun)) z; steps = 0 }) (run_from budget 0 (outcome (says u Idle) z))) e))
    (ran_from budget 0 (outcome (says u Idle) z) refl)

too_long : (budget : ℕ) (u : Controller) (z : Spaces) → ltb 65536 budget ≡ true → run_of budget u z ≡ record { last = outcome (says u (Refused LongRun)) z; steps = 0 }
unfolding run_of
too_long budget u z e = ap (λ (b : Bool). cond b (record { last = outcome (says u (Refused LongRun)) z; steps = 0 }) (run_from budget 0 (outcome (says u Idle) z))) e

pub run : (budget : ℕ) (u : Controller) (z : Spaces) → Run budget u z
run budget u z = record { refused = too_long budget u z; carried = ran budget u z }
