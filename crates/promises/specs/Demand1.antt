-- Demand 1: any call is carried out or refused by a number from the list, exactly when the table says, in its order; a refused call leaves the
-- controller and both lent spaces as they were, and every value that it answers is 0; a run keeps the steps before a refused one. Assumes nothing.
use Rattle.std.specs.Prelude.{◌≡◌, Bool, true, not, ◌&&◌, ◌||◌, ◌≢◌, List, [], ◌∷◌, ℕ, ◌/◌, ◌%◌, eqb, leb, ltb, Option, None, Some}
use Rattle.facts.specs.Bits.{bit_at}
use Rattle.word_command.specs.Command.{channel_of}
use Rattle.refusal.specs.Refusals.{numbered}
use Rattle.space.specs.Space.{Spaces}
use Rattle.port.specs.declared.Which.{Which}
use Rattle.port_read.specs.declared.ReadPort.{ReadPort}
use Rattle.port_write.specs.declared.WritePort.{WritePort}
use Rattle.port_write.specs.declared.WritePort.TheVariants as writes
use Rattle.port_read.specs.Readable.{read_port}
use Rattle.port_write.specs.Writable.{write_port}
use Rattle.step.specs.declared.Controller.{Controller}
use Rattle.step.specs.Controller.{at}
use Rattle.facts.specs.First.{Exactly}
use Rattle.space_board.specs.Board.{board_of}
use Rattle.step_rules.specs.Rules.{intent_of, refusals}
use Rattle.step.specs.Choice.{facts_of, faults_of}
use Rattle.port.specs.Ports.{is_other}
use Rattle.channel_command.specs.Effects.{cannot_chain}
use Rattle.call_command.specs.Commands.{is_busy}
use Rattle.call_acknowledge.specs.Acknowledge.{interrupts}
use Rattle.call_run.specs.Run.{run_of}
use Rattle.unit_laws.specs.Machine.{iter}
use Rattle.promises.specs.Machine.{Machine, step}
use Rattle.promises.specs.Calls.{Call, only, call}

-- 1: no register at the pointer for this direction
abbrev pub read_table : Option ReadPort → List (Bool × ℕ)
read_table None = (true, 1) ∷ []
read_table (Some p) = []

-- bits 7-5 of a command give the kind
abbrev pub kind_of : ℕ → ℕ
kind_of w = w / 32 % 8

-- 2: register write while a channel keeps the bus or a chain is under way, unless it is Reset, kind 0; 3: command kind 6 or 7; 4: IP named (kind 1, bit 2
-- set) at the other channel's port; 5: Start Chain, kind 5, with CA or SIP set
abbrev pub command_table : Which → ℕ → Controller → List (Bool × ℕ)
command_table k w u =
    (not (eqb (kind_of w) 0) && is_busy u, 2)
    ∷ (leb 6 (kind_of w), 3)
    ∷ ((eqb (kind_of w) 1 && bit_at 2 w) && is_other k (channel_of w), 4)
    ∷ (eqb (kind_of w) 5 && cannot_chain (at (channel_of w) u), 5)
    ∷ []

abbrev pub write_table : Option WritePort → ℕ → Controller → List (Bool × ℕ)
write_table (Some writes.MasterMode) w u = (is_busy u, 2) ∷ []
write_table (Some (writes.Command k)) w u = command_table k w u
write_table (Some (writes.Of k r)) w u = (is_busy u, 2) ∷ []
write_table None w u = (true, 1) ∷ []

-- 10: channel other than 1 or 2
abbrev pub channel_table : ℕ → List (Bool × ℕ)
channel_table n = (not (eqb n 1 || eqb n 2), 10) ∷ []

-- 9: nothing to acknowledge
abbrev pub ack_table : Controller → List (Bool × ℕ)
ack_table u = (not (interrupts u.one || interrupts u.two), 9) ∷ []

-- 6 to 8, of what the rules intend
abbrev pub step_table : Controller → Spaces → List (Bool × ℕ)
step_table u z = numbered (refusals (intent_of (facts_of u)) (faults_of (board_of z) u))

-- the rows of a table, none of which holds unless b does
abbrev pub provided : Bool → List (Bool × ℕ) → List (Bool × ℕ)
provided b [] = []
provided b (e ∷ es) = (b && e.0, e.1) ∷ provided b es

-- how many steps a run counts
abbrev pub steps_of : ℕ → Machine → ℕ
steps_of budget m = (run_of budget m.controller m.spaces).steps

-- 11: run of more than 65,536. Run stops on a refusal: that of the step after those that it counts, where these are not the whole budget.
abbrev pub run_table : ℕ → Machine → List (Bool × ℕ)
run_table budget m =
    let last = iter step (steps_of budget m) m in
    (ltb 65536 budget, 11) ∷ provided (ltb (steps_of budget m) budget) (step_table last.controller last.spaces)

abbrev pub table : Call → Machine → List (Bool × ℕ)
table Call.reset m = []
table (Call.write_pointer w) m = []
table Call.read_pointer m = []
table (Call.write w) m = write_table (write_port m.controller.pointer) w m.controller
table Call.read m = read_table (read_port m.controller.pointer)
table (Call.line n active) m = channel_table n
table Call.acknowledge m = ack_table m.controller
table (Call.step eop) m = step_table m.controller m.spaces
table (Call.run budget) m = run_table budget m
table (Call.why n) m = channel_table n

pub record Demand1 (c : Call) (m : Machine) : Type 0 where
  -- the number is the first of the table whose condition holds, or 0; each is given if and only if its condition holds and no earlier one does
  pub refusals : Exactly 0 (call c m).told.number (table c m)
  -- a refused call leaves the machine as it was; a run that a step stops leaves what the steps before it left
  pub keeps : (call c m).told.number ≢ 0 → (call c m).after ≡ iter step (call c m).told.steps m
  -- every value is 0; a run counts the steps before the refused one, and no other call counts any
  pub nothing : (call c m).told.number ≢ 0 → (call c m).told ≡ only (call c m).told.number (call c m).told.steps
