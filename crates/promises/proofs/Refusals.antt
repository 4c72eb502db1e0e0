-- Demand 1, call by call: the number is the first of the call's table, and a refused call changes nothing. Assumes nothing.
use mathlib.Core.Path.{◌≡◌, refl, sym, ap, ◌∙◌}
use mathlib.Core.Bool.{Bool, true, false, not, cond, ◌&&◌, ◌||◌}
use mathlib.Core.Logic.{◌≢◌}
use mathlib.Core.List.{List, [], ◌∷◌}
use Prim.Native.Nat.{ℕ, zero, suc, ◌<◌}
use native.Mathlib.Omega.{arith}
use lib.Dec.{eqb, leb}
use Rattle.refusal.specs.declared.Refusal.{Refusal}
use Rattle.refusal.specs.declared.Refusal.TheVariants.{NoRegister, Busy, NoCommand, OtherChannelsIp, CannotChain}
use Rattle.refusal.specs.Refusals.{number, number_or_0, numbered}
use Rattle.refusal.proofs.Laws.{first_numbered}
use Rattle.std.specs.Prelude.{None, Option, Some, Ok}
use Rattle.facts.specs.Bits.{bit_at}
use Rattle.facts.specs.Look.{look, find}
use Rattle.space.specs.Space.{Spaces}
use Rattle.port.specs.declared.Which.{Which}
use Rattle.port.specs.declared.Which.TheVariants.{One, Two}
use Rattle.port_read.specs.declared.ReadPort.{ReadPort}
use Rattle.port_write.specs.declared.WritePort.{WritePort}
use Rattle.port_write.specs.declared.WritePort.TheVariants as writes
use Rattle.port_read.specs.Readable.{read_port}
use Rattle.port_write.specs.Writable.{write_port}
use Rattle.word_command.specs.declared.Command.{Command}
use Rattle.word_command.specs.Command.{channel_of, kinds, command_of}
use Rattle.channel.specs.declared.Channel.{Channel}
use Rattle.word_reload.specs.declared.Stage.{Stage}
use Rattle.step.specs.declared.Controller.{Controller}
use Rattle.word_reload.specs.declared.Stage.TheVariants.{Reload}
use Rattle.step_rules.specs.declared.Choice.{Choice}
use Rattle.step_rules.specs.declared.Choice.TheVariants as chosen
use Rattle.step.specs.declared.Answer.TheVariants as answer
use Rattle.step.specs.Answers.{paper}
use Rattle.step.specs.Controller.{at}
use Rattle.call_acknowledge.proofs.Laws.{refused_keeps}
use Rattle.facts.specs.First.{first_of, first_some}
use Rattle.space_board.specs.declared.Board.{Board}
use Rattle.space_board.specs.Board.{board_of}
use Rattle.standstill.specs.Causes.{why_at}
use Rattle.standstill.specs.Answers.{paper_why}
use Rattle.step_rules.specs.Rules.{refusals}
use Rattle.step_rules.proofs.View.{Intends, intended}
use Rattle.step_rules.proofs.View.Intends.{disabled, goes_on_by_rule, noted, keeps, holds, releases, begins_chain, begins_unit, idle}
use Rattle.step_rules.proofs.View.Because.{as_intended, refused}
use Rattle.step.specs.Choice.{facts_of, faults_of}
use Rattle.step.proofs.Laws.{Chosen, chosen as why}
use Rattle.step.specs.Fetching.{drop_of, fetch_of}
use Rattle.step.specs.Step.{outcome, says, unit_of, hold_of, perform_of, step_of}
use Rattle.call_read.specs.Reading.{read_by, read_of}
use Rattle.port.specs.Ports.{is_other, channel_at}
use Rattle.channel_command.specs.Effects.{cannot_chain}
use Rattle.call_command.specs.Commands.{refuses, takes, unless_busy, is_busy, is_reset, commanded_by, commanded, Written}
use Rattle.call_write.specs.Writing.{write_by, write_of}
use Rattle.call_read.specs.Answers.{paper_read}
use Rattle.call_command.specs.Answers.{paper_write}
use Rattle.call_line.specs.Lines.{lined_at}
use Rattle.call_acknowledge.specs.Acknowledge.{interrupts, is_vectorless, answered, acknowledged_at, acknowledge_by, acknowledge_of}
use Rattle.call_line.specs.Answers.{paper_line}
use Rattle.call_acknowledge.specs.Answers.{paper_ack}
use Rattle.promises.specs.Demand1.{read_table, kind_of, write_table, channel_table, ack_table, step_table}

read_looks : (p : Option ReadPort) (u : Controller)
    → ((paper_read (read_by p u)).number ≡ first_of (read_table p)) × ((paper_read (read_by p u)).number ≢ 0 → (paper_read (read_by p u)).word ≡ 0)
read_looks None u = (refl, λ h. refl)
read_looks (Some p) u = (refl, λ h. absurd (h refl))

pub read_refused : (u : Controller)
    → ((paper_read (read_of u)).number ≡ first_of (read_table (read_port u.pointer))) × ((paper_read (read_of u)).number ≢ 0 → (paper_read (read_of u)).word ≡ 0)
unfolding read_of
read_refused u = read_looks (read_port u.pointer) u

-- what is looked at of one write's outcome
pub record Looked (r : Written) (n : ℕ) (u : Controller) : Type 0 where
  pub number : paper_write r.answer ≡ n
  pub nothing : paper_write r.answer ≢ 0 → r.state ≡ u

refused_looks : (r : Refusal) (u : Controller) → Looked (refuses r u) (number r) u
refused_looks r u = record { number = refl; nothing = λ h. refl }

taken_looks : (v u : Controller) → Looked (takes v) 0 u
taken_looks v u = record { number = refl; nothing = λ h. absurd (h refl) }

either_looks : (b : Bool) (r : Refusal) (v u : Controller) → Looked (cond b (refuses r u) (takes v)) (cond b (number r) 0) u
either_looks true r v u = refused_looks r u
either_looks false r v u = taken_looks v u

-- a write that is refused by 2 where the controller is busy, and else as r
busy_looks : (busy : Bool) (r : Written) (n : ℕ) (u : Controller) → Looked r n u → Looked (unless_busy busy u r) (cond busy 2 n) u
busy_looks true r n u l = refused_looks Busy u
busy_looks false r n u l = l

-- ---- a command, by its kind

module _ (k c : Which) (set e p : Bool) (u : Controller) where
  abbrev x : ℕ → Option Command
  x n = find n (kinds c set e p)

  abbrev rows : ℕ → List (Bool × ℕ)
  rows n = (not (eqb n 0) && is_busy u, 2) ∷ (leb 6 n, 3) ∷ ((eqb n 1 && p) && is_other k c, 4) ∷ (eqb n 5 && cannot_chain (at c u), 5) ∷ []

  kind_looks : (n : ℕ) → n < 8 → Looked (commanded_by (is_reset (x n)) (is_busy u) (x n) k u) (first_of (rows n)) u
  unfolding find
  kind_looks zero h = taken_looks _ u
  kind_looks (suc zero) h = busy_looks (is_busy u) _ _ u (either_looks (p && is_other k c) OtherChannelsIp _ u)
  kind_looks (suc (suc zero)) h = busy_looks (is_busy u) _ _ u (taken_looks _ u)
  kind_looks (suc (suc (suc zero))) h = busy_looks (is_busy u) _ _ u (taken_looks _ u)
  kind_looks (suc (suc (suc (suc zero)))) h = busy_looks (is_busy u) _ _ u (taken_looks _ u)
  kind_looks (suc (suc (suc (suc (suc zero))))) h = busy_looks (is_busy u) _ _ u (either_looks (cannot_chain (at c u)) CannotChain _ u)
  kind_looks (suc (suc (suc (suc (suc (suc zero)))))) h = busy_looks (is_busy u) _ _ u (refused_looks NoCommand u)
  kind_looks (suc (suc (suc (suc (suc (suc (suc zero))))))) h = busy_looks (is_busy u) _ _ u (refused_looks NoCommand u)
  kind_looks (suc (suc (suc (suc (suc (suc (suc (suc n)))))))) h = absurd (omega arith)

write_looks : (p : Option WritePort) (w : ℕ) (u : Controller) → Looked (write_by p w u) (first_of (write_table p w u)) u
unfolding commanded command_of
write_looks (Some writes.MasterMode) w u = busy_looks (is_busy u) _ _ u (taken_looks _ u)
write_looks (Some (writes.Command k)) w u = kind_looks k (channel_of w) (bit_at 1 w) (bit_at 4 w) (bit_at 2 w) u (kind_of w) (omega arith)
write_looks (Some (writes.Of k r)) w u = busy_looks (is_busy u) _ _ u (taken_looks _ u)
write_looks None w u = refused_looks NoRegister u

pub write_refused : (w : ℕ) (u : Controller) → Looked (write_of w u) (first_of (write_table (write_port u.pointer) w u)) u
unfolding write_of
write_refused w u = write_looks (write_port u.pointer) w u

line_number_lem : (a b : Bool) (n : ℕ) (active : Bool) (u : Controller) → eqb n 1 ≡ a → eqb n 2 ≡ b
    → (paper_line (lined_at n active u).answer ≡ first_of ((not (a || b), 10) ∷ [])) × (paper_line (lined_at n active u).answer ≢ 0 → (lined_at n active u).state ≡ u)
unfolding lined_at channel_at look
line_number_lem true b n active u ea eb = rw ea (refl, λ h. absurd (h refl))
line_number_lem false true n active u ea eb = rw (ea, eb) (refl, λ h. absurd (h refl))
line_number_lem false false n active u ea eb = rw (ea, eb) (refl, λ h. refl)

pub line_refused : (n : ℕ) (active : Bool) (u : Controller)
    → (paper_line (lined_at n active u).answer ≡ first_of (channel_table n)) × (paper_line (lined_at n active u).answer ≢ 0 → (lined_at n active u).state ≡ u)
line_refused n active u = line_number_lem (eqb n 1) (eqb n 2) n active u refl refl

why_number_lem : (a b : Bool) (n : ℕ) (k : Board) (u : Controller) → eqb n 1 ≡ a → eqb n 2 ≡ b
    → ((paper_why (why_at n k u)).number ≡ first_of ((not (a || b), 10) ∷ [])) × ((paper_why (why_at n k u)).number ≢ 0 → (paper_why (why_at n k u)).cause ≡ 0)
unfolding why_at channel_at look
why_number_lem true b n k u ea eb = rw ea (refl, λ h. absurd (h refl))
why_number_lem false true n k u ea eb = rw (ea, eb) (refl, λ h. absurd (h refl))
why_number_lem false false n k u ea eb = rw (ea, eb) (refl, λ h. refl)

pub why_refused : (n : ℕ) (k : Board) (u : Controller)
    → ((paper_why (why_at n k u)).number ≡ first_of (channel_table n)) × ((paper_why (why_at n k u)).number ≢ 0 → (paper_why (why_at n k u)).cause ≡ 0)
why_refused n k u = why_number_lem (eqb n 1) (eqb n 2) n k u refl refl

answered_number : (b : Bool) (w : Which) (c : Channel) → (paper_ack (Ok (answered b w c))).number ≡ 0
answered_number true w c = refl
answered_number false w c = refl

ack_number_lem : (a b : Bool) (u : Controller)
    → ((paper_ack (acknowledge_by a b u).answer).number ≡ first_of ((not (a || b), 9) ∷ []))
    × ((paper_ack (acknowledge_by a b u).answer).number ≢ 0
    → ((acknowledge_by a b u).state ≡ u)
    × (paper_ack (acknowledge_by a b u).answer ≡ record { number = (paper_ack (acknowledge_by a b u).answer).number; channel = 0; given = false; word = 0 }))
unfolding acknowledged_at
ack_number_lem true b u = let e = answered_number (is_vectorless u.master) One (at One u) in (e, λ h. absurd (h e))
ack_number_lem false true u = let e = answered_number (is_vectorless u.master) Two (at Two u) in (e, λ h. absurd (h e))
ack_number_lem false false u = (refl, λ h. (refused_keeps u, refl))

pub ack_refused : (u : Controller)
    → ((paper_ack (acknowledge_of u).answer).number ≡ first_of (ack_table u))
    × ((paper_ack (acknowledge_of u).answer).number ≢ 0
    → ((acknowledge_of u).state ≡ u) × (paper_ack (acknowledge_of u).answer ≡ record { number = (paper_ack (acknowledge_of u).answer).number; channel = 0; given = false; word = 0 }))
unfolding acknowledge_of
ack_refused u = ack_number_lem (interrupts u.one) (interrupts u.two) u

module _ (eop : Bool) (u : Controller) (z : Spaces) where
  abbrev told : Choice → ℕ
  told c = (paper (perform_of c eop u z).stepped.answer).number

  fetch_number : (w : Which) (s : Stage) → told (chosen.Fetch w s) ≡ 0
  unfolding perform_of drop_of fetch_of
  fetch_number w s = go eop
    where
      go : (b : Bool) → (paper (fetch_of w s b u z.memory).answer).number ≡ 0
      go true = refl
      go false = refl

  hold_number : (w : Which) → told (chosen.Hold w) ≡ 0
  unfolding perform_of hold_of
  hold_number w = go eop
    where
      go : (b : Bool) → (paper (hold_of w b u).answer).number ≡ 0
      go true = refl
      go false = refl

  -- what is intended has no number
  unrefused : {c : Choice} → Intends (facts_of u) c → told c ≡ 0
  unfolding perform_of unit_of
  unrefused (disabled e) = refl
  unrefused (goes_on_by_rule w s e c) = fetch_number w s
  unrefused (noted e c n) = refl
  unrefused (keeps w k) = refl
  unrefused (holds w k h) = hold_number w
  unrefused (releases w k h) = refl
  unrefused (begins_chain w t p) = fetch_number w Reload
  unrefused (begins_unit w t p) = refl
  unrefused (idle t) = refl

  -- the number of the table, by what refuses
  by_table : {c : Choice} {n : Option Refusal} → Intends (facts_of u) c → first_some (refusals c (faults_of (board_of z) u)) ≡ n → first_of (step_table u z) ≡ number_or_0 n
  by_table {c} i e =
      ap (λ (x : Choice). first_of (numbered (refusals x (faults_of (board_of z) u)))) (intended (facts_of u) i)
      ∙ first_numbered (refusals c (faults_of (board_of z) u))
      ∙ ap number_or_0 e

  -- only a refusal has a number, which is the table's, and it changes nothing
  looked : {c : Choice} → Chosen (board_of z) u c → (told c ≡ first_of (step_table u z)) × (told c ≢ 0 → (r : Refusal) × (perform_of c eop u z ≡ outcome (says u (answer.Refused r)) z))
  unfolding perform_of
  looked (as_intended i r) = (unrefused i ∙ sym (by_table i r), λ h. absurd (h (unrefused i)))
  looked (refused {c} {r} i e) = (sym (by_table i e), λ h. (r, refl))

pub step_refused : (eop : Bool) (u : Controller) (z : Spaces)
    → ((paper (step_of eop u z).stepped.answer).number ≡ first_of (step_table u z))
    × ((paper (step_of eop u z).stepped.answer).number ≢ 0 → (r : Refusal) × (step_of eop u z ≡ outcome (says u (answer.Refused r)) z))
unfolding step_of
step_refused eop u z = looked eop u z (why (board_of z) u)
