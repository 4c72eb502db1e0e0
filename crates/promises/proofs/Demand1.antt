-- Demand 1, one theorem over the Call. Assumes nothing.
use mathlib.Core.Path.{◌≡◌, refl, sym, ap, ◌∙◌, subst}
use mathlib.Core.Bool.{Bool, true, false, cond}
use mathlib.Core.Logic.{◌⊎◌, inl, inr, ◌≢◌}
use mathlib.Core.List.{List, [], ◌∷◌}
use Prim.Native.Nat.{ℕ}
use native.Mathlib.Omega.{arith}
use borrow.Author.Tests.{lt-ltb, le-ltb}
use lib.Dec.{ltb}
use Rattle.refusal.specs.declared.Refusal.{Refusal}
use Rattle.refusal.specs.declared.Refusal.TheVariants.{LongRun}
use Rattle.facts.specs.First.{first_of}
use Rattle.facts.proofs.First.{exactly}
use Rattle.space.specs.Space.{Spaces}
use Rattle.unit_laws.specs.Machine.{iter}
use Rattle.step.specs.declared.Controller.{Controller}
use Rattle.step.specs.declared.Answer.TheVariants as answer
use Rattle.step.specs.Answers.{paper}
use Rattle.step.specs.Step.{Outcome, outcome, says, RunOutcome, step_of}
use Rattle.call_read.specs.Answers.{paper_read}
use Rattle.call_read.specs.Reading.{read_of}
use Rattle.call_acknowledge.specs.Answers.{paper_ack}
use Rattle.call_acknowledge.specs.Acknowledge.{acknowledge_of}
use Rattle.call_command.specs.Answers.{paper_write}
use Rattle.call_write.specs.Writing.{write_of}
use Rattle.call_line.specs.Answers.{paper_line}
use Rattle.call_line.specs.Lines.{lined_at}
use Rattle.call_run.specs.Run.{run_of}
use Rattle.space_board.specs.Board.{board_of}
use Rattle.standstill.specs.Causes.{why_at}
use Rattle.standstill.specs.Answers.{paper_why}
use Rattle.promises.specs.Machine.{Machine, left, step}
use Rattle.promises.specs.Calls.{Call, only, word_told, ack_told, step_told, why_told, run_outcome, call}
use Rattle.promises.specs.Demand1.{step_table, provided, run_table, table, Demand1}
use Rattle.promises.specs.Running.{Whole, Stopped}
use Rattle.promises.proofs.Refusals.{read_refused, write_refused, line_refused, ack_refused, step_refused, why_refused}
use Rattle.promises.proofs.Running as running

-- a refused step's answer has its number and nothing else
told_only : (o : Outcome) (k : ℕ) (r : Refusal) (u : Controller) (z : Spaces) → o ≡ outcome (says u (answer.Refused r)) z
    → step_told (paper o.stepped.answer) k ≡ only (paper o.stepped.answer).number k
told_only o k r u z e = subst (λ (x : Outcome). step_told (paper x.stepped.answer) k ≡ only (paper x.stepped.answer).number k) (sym e) refl

-- ---- a run

provided_true : (t : List (Bool × ℕ)) → first_of (provided true t) ≡ first_of t
provided_true [] = refl
provided_true (e ∷ es) = ap (cond e.0 e.1) (provided_true es)

provided_false : (t : List (Bool × ℕ)) → first_of (provided false t) ≡ 0
provided_false [] = refl
provided_false (e ∷ es) = provided_false es

module _ (budget : ℕ) (m : Machine) where
  abbrev r : RunOutcome
  r = run_of budget m.controller m.spaces

  abbrev number : ℕ
  number = (paper r.last.stepped.answer).number

  -- the table of the step after those that are counted
  abbrev last : List (Bool × ℕ)
  last = step_table (iter step r.steps m).controller (iter step r.steps m).spaces

  -- what 11 leaves to the steps
  carried_table : ltb 65536 budget ≡ false → (b : Bool) → ltb r.steps budget ≡ b → first_of (run_table budget m) ≡ first_of (provided b last)
  carried_table e b f = (λ i. cond (e i) 11 (first_of (provided (ltb r.steps budget) last))) ∙ ap (λ (x : Bool). first_of (provided x last)) f

  module _ (e : ltb 65536 budget ≡ false) where
    carried_number : Whole budget 0 m r ⊎ Stopped budget 0 m r → number ≡ first_of (run_table budget m)
    carried_number (inl h) =
        let s = h.steps in
        h.unrefused ∙ sym (carried_table e false (le-ltb r.steps budget (omega arith)) ∙ provided_false last)
    carried_number (inr h) =
        let s = h.steps in let w = h.within in
        let k : r.steps ≡ h.at = omega arith in
        let x = iter step h.at m in
        ap (λ (o : Outcome). (paper o.stepped.answer).number) h.last
        ∙ (step_refused false x.controller x.spaces).0
        ∙ ap (λ (i : ℕ). first_of (step_table (iter step i m).controller (iter step i m).spaces)) (sym k)
        ∙ sym (carried_table e true (lt-ltb r.steps budget (omega arith)) ∙ provided_true last)

    carried_keeps : Whole budget 0 m r ⊎ Stopped budget 0 m r → number ≢ 0
        → (left r.last ≡ iter step r.steps m) × ((run_outcome r).told ≡ only number r.steps)
    carried_keeps (inl h) q = absurd (q h.unrefused)
    carried_keeps (inr h) q =
        let s = h.steps in
        let k : r.steps ≡ h.at = omega arith in
        let x = iter step h.at m in
        let n = (step_refused false x.controller x.spaces).1 (λ y. q (ap (λ (o : Outcome). (paper o.stepped.answer).number) h.last ∙ y)) in
        (ap left (h.last ∙ n.1) ∙ ap (λ (i : ℕ). iter step i m) (sym k), told_only r.last r.steps n.0 _ _ (h.last ∙ n.1))

  abbrev too_long : RunOutcome
  too_long = record { last = outcome (says m.controller (answer.Refused LongRun)) m.spaces; steps = 0 }

  run_number_lem : (b : Bool) → ltb 65536 budget ≡ b → number ≡ first_of (run_table budget m)
  run_number_lem true e =
      ap (λ (x : RunOutcome). (paper x.last.stepped.answer).number) ((running.run budget m.controller m.spaces).refused e)
      ∙ sym (λ i. cond (e i) 11 (first_of (provided (ltb r.steps budget) last)))
  run_number_lem false e = carried_number e ((running.run budget m.controller m.spaces).carried e)

  run_keeps : (b : Bool) → ltb 65536 budget ≡ b → number ≢ 0 → (left r.last ≡ iter step r.steps m) × ((run_outcome r).told ≡ only number r.steps)
  run_keeps true e q =
      let t = (running.run budget m.controller m.spaces).refused e in (
        ap (λ (x : RunOutcome). left x.last) t ∙ sym (ap (λ (x : RunOutcome). iter step x.steps m) t),
        told_only r.last r.steps _ _ _ (ap (λ (x : RunOutcome). x.last) t),
      )
  run_keeps false e q = carried_keeps e ((running.run budget m.controller m.spaces).carried e) q

-- ---- any call

pub demand1 : (c : Call) (m : Machine) → Demand1 c m
unfolding call
demand1 Call.reset m = record { refusals = exactly 0 0 [] refl; keeps = λ h. absurd (h refl); nothing = λ h. absurd (h refl) }
demand1 (Call.write_pointer w) m = record { refusals = exactly 0 0 [] refl; keeps = λ h. absurd (h refl); nothing = λ h. absurd (h refl) }
demand1 Call.read_pointer m = record { refusals = exactly 0 0 [] refl; keeps = λ h. absurd (h refl); nothing = λ h. absurd (h refl) }
demand1 (Call.write w) m =
    let l = write_refused w m.controller in
    record {
      refusals = exactly 0 (paper_write (write_of w m.controller).answer) (table (Call.write w) m) l.number;
      keeps = λ h. ap (λ (u : Controller). record { controller = u; spaces = m.spaces }) (l.nothing h);
      nothing = λ h. refl;
    }
demand1 Call.read m =
    let l = read_refused m.controller in
    record {
      refusals = exactly 0 (paper_read (read_of m.controller)).number (table Call.read m) l.0;
      keeps = λ h. refl;
      nothing = λ h. ap (λ (v : ℕ). word_told (record { number = (paper_read (read_of m.controller)).number; word = v })) (l.1 h);
    }
demand1 (Call.line n active) m =
    let l = line_refused n active m.controller in
    record {
      refusals = exactly 0 (paper_line (lined_at n active m.controller).answer) (table (Call.line n active) m) l.0;
      keeps = λ h. ap (λ (u : Controller). record { controller = u; spaces = m.spaces }) (l.1 h);
      nothing = λ h. refl;
    }
demand1 Call.acknowledge m =
    let l = ack_refused m.controller in
    record {
      refusals = exactly 0 (paper_ack (acknowledge_of m.controller).answer).number (table Call.acknowledge m) l.0;
      keeps = λ h. ap (λ (u : Controller). record { controller = u; spaces = m.spaces }) (l.1 h).0;
      nothing = λ h. ap ack_told (l.1 h).1;
    }
demand1 (Call.step eop) m =
    let l = step_refused eop m.controller m.spaces in
    record {
      refusals = exactly 0 (paper (step_of eop m.controller m.spaces).stepped.answer).number (table (Call.step eop) m) l.0;
      keeps = λ h. ap left (l.1 h).1;
      nothing = λ h. told_only (step_of eop m.controller m.spaces) 0 (l.1 h).0 _ _ (l.1 h).1;
    }
demand1 (Call.run budget) m = record {
  refusals = exactly 0 (number budget m) (table (Call.run budget) m) (run_number_lem budget m (ltb 65536 budget) refl);
  keeps = λ h. (run_keeps budget m (ltb 65536 budget) refl h).0;
  nothing = λ h. (run_keeps budget m (ltb 65536 budget) refl h).1;
}
demand1 (Call.why n) m =
    let k = board_of m.spaces in
    let l = why_refused n k m.controller in
    record {
      refusals = exactly 0 (paper_why (why_at n k m.controller)).number (table (Call.why n) m) l.0;
      keeps = λ h. refl;
      nothing = λ h. ap (λ (x : ℕ). why_told (record { number = (paper_why (why_at n k m.controller)).number; cause = x })) (l.1 h);
    }
