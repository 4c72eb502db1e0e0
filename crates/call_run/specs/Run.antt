-- Document 01, "Refusal numbers": a run of up to 65,536 steps without EOP. Assumes nothing.
use Rattle.std.specs.Prelude.{ℕ, zero, suc, Bool, true, false, cond, ltb}
use Rattle.refusal.specs.declared.Refusal.TheVariants.{LongRun}
use Rattle.space.specs.Space.{Spaces}
use Rattle.step.specs.declared.Controller.{Controller}
use Rattle.step.specs.declared.Answer.{Answer}
use Rattle.step.specs.declared.Answer.TheVariants.{Refused, Disabled, Idle, GivenBack, Holding, Fetched, Dropped, Unit, Ended}
use Rattle.step.specs.Step.{Outcome, outcome, RunOutcome, says, step_of}

-- Run stops on a refusal, "idle", "disabled" or "holding".
abbrev pub stops : Answer → Bool
stops (Refused r) = true
stops Disabled = true
stops Idle = true
stops (GivenBack b) = false
stops (Holding w) = true
stops (Fetched w d) = false
stops (Dropped w) = false
stops (Unit w d) = false
stops (Ended w) = false

abbrev pub next_by : Bool → Outcome → Outcome
next_by eop o = step_of eop o.stepped.state o.spaces

-- Of a budget `left` steps are left, and `done` are done with the outcome o.
unfoldable pub advanced : Bool → ℕ → ℕ → Outcome → RunOutcome
advanced eop zero done o = record { last = o; steps = done }
advanced eop (suc left) done o =
    let p = next_by eop o in
    let more = advanced eop left (suc done) p in
    cond (stops p.stepped.answer) (record { last = p; steps = done }) more

unfoldable pub advance_of : Bool → ℕ → Controller → Spaces → RunOutcome
advance_of eop budget u z = advanced eop budget 0 (outcome (says u Idle) z)

-- without EOP
abbrev pub next : Outcome → Outcome
next = next_by false

abbrev pub run_from : ℕ → ℕ → Outcome → RunOutcome
run_from = advanced false

-- It answers the last answer and the steps before that one, or else the whole budget. A run of 0 changes nothing and answers "idle", 0.
-- 11: run of more than 65,536.
unfoldable pub run_of : ℕ → Controller → Spaces → RunOutcome
run_of budget u z =
    cond (ltb 65536 budget) (record { last = outcome (says u (Refused LongRun)) z; steps = 0 }) (run_from budget 0 (outcome (says u Idle) z))
