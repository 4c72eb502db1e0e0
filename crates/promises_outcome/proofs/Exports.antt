-- The exported calls: bits 7-0 of each answer are document 01's number, and a refused call leaves what it was lent. Assumes nothing.
use Rattle.promises.specs.Machine.{Machine, step}
use Rattle.promises.specs.Calls.{Call, call}
use Rattle.promises.specs.Demand1.{read_table, write_table, step_table, provided, steps_of, table}
use Rattle.promises.proofs.Demand1.{demand1}
use Rattle.promises_outcome.specs.Exports.{low, lent, Export}
use Rattle.port_read.specs.declared.ReadPort.{ReadPort}
use Rattle.port_write.specs.declared.WritePort.{WritePort}
use Rattle.port_write.specs.declared.WritePort.TheVariants as writes
use Rattle.port_read.specs.Readable.{read_port}
use Rattle.port_write.specs.Writable.{write_port}
use mathlib.Core.Path.{◌≡◌, refl, sym, ap, subst, ◌∙◌}
use mathlib.Core.Bool.{Bool, true, false, cond}
use mathlib.Core.Logic.{◌≢◌}
use mathlib.Core.List.{List, [], ◌∷◌}
use Prim.Native.Nat.{ℕ, zero, suc, ◌/◌, ◌<◌}
use native.Mathlib.Nat.{zero-lt-suc, mod-eq_of_lt}
use native.Mathlib.Omega.{arith}
use lib.Dec.{ltb}
use borrow.Author.Tests.{lt-ltb}
use Rattle.std.specs.Prelude.{Option, None, Some, Result, Ok, Err}
use Rattle.refusal.specs.declared.Refusal.{Refusal}
use Rattle.refusal.specs.Refusals.{number, numbered}
use Rattle.refusal.proofs.Laws.{numbers}
use Rattle.facts.proofs.Bits.{bit_le}
use Rattle.facts.specs.First.{first_of, Exactly}
use Rattle.space.specs.Space.{Spaces}
use Rattle.space_board.specs.declared.Board.{Board}
use Rattle.space_board.specs.Board.{board_of}
use Rattle.port.specs.declared.Which.{Which}
use Rattle.port.specs.declared.Which.TheVariants.{One, Two}
use Rattle.word_mode.specs.declared.Reasons.{Reasons}
use Rattle.word_reload.specs.declared.Stage.TheVariants.{Reload, Entries}
use Rattle.step_bus.specs.declared.Back.TheVariants.{Note, Bus}
use Rattle.step_rules.specs.declared.Choice.{Choice}
use Rattle.step_rules.specs.declared.Choice.TheVariants as choice
use Rattle.step_rules.specs.Rules.{intent_of, refusals}
use Rattle.step.specs.declared.Controller.{Controller}
use Rattle.step.specs.declared.Answer.{Answer}
use Rattle.step.specs.declared.Answer.TheVariants.{Refused, Disabled, Idle, GivenBack, Holding, Fetched, Dropped, Unit, Ended}
use Rattle.port.specs.Ports.{channel_number}
use Rattle.step.specs.Answers.{paper}
use Rattle.step.specs.Choice.{facts_of, faults_of}
use Rattle.step.specs.Step.{RunOutcome, step_of}
use Rattle.call_read.specs.Reading.{read_of}
use Rattle.call_read.specs.Answers.{paper_read}
use Rattle.call_acknowledge.specs.declared.Acknowledgement.{Acknowledgement}
use Rattle.call_acknowledge.specs.declared.Acknowledgement.TheVariants as ack
use Rattle.call_acknowledge.specs.Acknowledge.{acknowledge_of}
use Rattle.call_acknowledge.specs.Answers.{paper_ack}
use Rattle.call_run.specs.Run.{run_of}
use Rattle.standstill.specs.declared.Cause.{Cause}
use Rattle.standstill.specs.Causes.{why_at}
use Rattle.standstill.specs.Answers.{cause_number, paper_why}
use Rattle.host_state.specs.Load.{state_of}
use Rattle.host_answer.specs.Numbers.{unit_half, fetch_half, packed, step_number, run_number, read_number, word_kind, ack_number, why_number}
use Rattle.host.specs.Calls.{is_refusal, words_after, written_left, lined_left, acknowledged_left, stepped_left, ran_left, why_answered}
use Rattle.unit_laws.specs.Machine.{iter}

-- ---- document 01's numbers are bytes

abbrev ByteRows : List (Bool × ℕ) → Type 0
ByteRows [] = true ≡ true
ByteRows (e ∷ es) = (e.1 < 256) × ByteRows es

first_byte : (t : List (Bool × ℕ)) → ByteRows t → first_of t < 256
first_byte [] h = omega arith
first_byte (x ∷ es) h = go x.0 (first_byte es h.1)
  where
    go : (b : Bool) → first_of es < 256 → cond b x.1 (first_of es) < 256
    go true f = h.0
    go false f = f

byte : (n : ℕ) (t : List (Bool × ℕ)) → Exactly 0 n t → ByteRows t → n < 256
byte n t e h = subst (λ (k : ℕ). k < 256) (sym e.is) (first_byte t h)

step_bytes : (c : Choice) (b : Board) (u : Controller) → ByteRows (numbered (refusals c (faults_of b u)))
step_bytes choice.Disabled b u = refl
step_bytes (choice.Refused r) b u = refl
step_bytes (choice.Fetch w Reload) b u = (omega arith, refl)
step_bytes (choice.Fetch w (Entries p)) b u = refl
step_bytes choice.GiveBack b u = refl
step_bytes (choice.Unit w) b u = (omega arith, (omega arith, refl))
step_bytes (choice.Hold w) b u = refl
step_bytes choice.Release b u = refl
step_bytes choice.Idle b u = refl

read_bytes : (p : Option ReadPort) → ByteRows (read_table p)
read_bytes None = (omega arith, refl)
read_bytes (Some p) = refl

write_bytes : (p : Option WritePort) (v : ℕ) (u : Controller) → ByteRows (write_table p v u)
write_bytes (Some writes.MasterMode) v u = (omega arith, refl)
write_bytes (Some (writes.Command k)) v u = (omega arith, (omega arith, (omega arith, (omega arith, refl))))
write_bytes (Some (writes.Of k r)) v u = (omega arith, refl)
write_bytes None v u = (omega arith, refl)

provided_bytes : (b : Bool) (t : List (Bool × ℕ)) → ByteRows t → ByteRows (provided b t)
provided_bytes b [] h = refl
provided_bytes b (e ∷ es) h = (h.0, provided_bytes b es h.1)

table_bytes : (c : Call) (m : Machine) → ByteRows (table c m)
table_bytes Call.reset m = refl
table_bytes (Call.write_pointer w) m = refl
table_bytes Call.read_pointer m = refl
table_bytes (Call.write w) m = write_bytes (write_port m.controller.pointer) w m.controller
table_bytes Call.read m = read_bytes (read_port m.controller.pointer)
table_bytes (Call.line n active) m = (omega arith, refl)
table_bytes Call.acknowledge m = (omega arith, refl)
table_bytes (Call.why n) m = (omega arith, refl)
table_bytes (Call.step eop) m = step_bytes (intent_of (facts_of m.controller)) (board_of m.spaces) m.controller
table_bytes (Call.run budget) m =
    let last = iter step (steps_of budget m) m in (
      omega arith,
      provided_bytes (ltb (steps_of budget m) budget) (step_table last.controller last.spaces)
          (step_bytes (intent_of (facts_of last.controller)) (board_of last.spaces) last.controller),
    )

number_byte : (c : Call) (m : Machine) → (call c m).told.number < 256
number_byte c m = byte _ _ (demand1 c m).refusals (table_bytes c m)

-- ---- an answer's bits 7-0 are document 01's number, and where that is not 0 nothing stands above them

pub record Says (answer number : ℕ) : Type 0 where
  pub below : low answer ≡ number
  pub alone : number ≢ 0 → answer ≡ number

number_says : (n : ℕ) → n < 256 → Says n n
number_says n h = record { below = mod-eq_of_lt h; alone = λ q. refl }

packed_says : (kind upper : ℕ) → Says (packed kind upper) 0
packed_says kind upper = record { below = omega arith; alone = λ q. absurd (q refl) }

read_says : (a : Result ℕ Refusal) → Says (read_number a) (paper_read a).number
read_says (Err r) = number_says (number r) (numbers r).1
read_says (Ok v) = packed_says 0 v

ack_says : (a : Result Acknowledgement Refusal) → Says (ack_number a) (paper_ack a).number
ack_says (Err r) = number_says (number r) (numbers r).1
ack_says (Ok (ack.Word w v)) = packed_says (word_kind w) v
ack_says (Ok (ack.NoWord w)) = packed_says (channel_number w) 0

why_says : (a : Result Cause Refusal) → Says (why_number a) (paper_why a).number
why_says (Err r) = number_says (number r) (numbers r).1
why_says (Ok c) = packed_says (cause_number c) 0

step_says : (a : Answer) → (paper a).number < 256 → Says (step_number a) (paper a).number
step_says (Refused r) h = number_says (number r) h
step_says Disabled h = packed_says 0 0
step_says Idle h = packed_says 1 0
step_says (GivenBack Note) h = packed_says 2 0
step_says (GivenBack Bus) h = packed_says 3 0
step_says (Holding w) h = packed_says 4 (channel_number w)
step_says (Fetched w d) h = packed_says 5 (fetch_half (channel_number w) d.upper)
step_says (Dropped w) h = packed_says 6 (channel_number w)
step_says (Unit w d) h = packed_says 7 (unit_half (channel_number w) d.why d.upper)
step_says (Ended w) h = packed_says 8 (channel_number w)

-- ---- a step's answer has 32 bits

channel_small : (w : Which) → channel_number w < 3
channel_small One = omega arith
channel_small Two = omega arith

half_fits : (w : Which) (why : Reasons) (upper : ℕ) → unit_half (channel_number w) why upper < 65536
half_fits w why upper = omega (arith, channel_small w, bit_le why.tc 0x100, bit_le why.mc 0x200, bit_le why.eop 0x400)

of_channel : (kind : ℕ) (w : Which) → kind < 256 → packed kind (channel_number w) < 4294967296
of_channel kind w h = omega (arith, channel_small w)

step_fits : (a : Answer) → (paper a).number < 256 → step_number a < 4294967296
step_fits (Refused r) h = omega (arith, h)
step_fits Disabled h = omega arith
step_fits Idle h = omega arith
step_fits (GivenBack Note) h = omega arith
step_fits (GivenBack Bus) h = omega arith
step_fits (Holding w) h = of_channel 4 w (omega arith)
step_fits (Fetched w d) h = omega (arith, channel_small w, bit_le d.upper 0x1000)
step_fits (Dropped w) h = of_channel 6 w (omega arith)
step_fits (Unit w d) h = omega (arith, half_fits w d.why d.upper)
step_fits (Ended w) h = of_channel 8 w (omega arith)

-- ---- a refusal leaves the words

above_0 : (n : ℕ) → n ≢ 0 → 0 < n
above_0 zero q = absurd (q refl)
above_0 (suc n) q = zero-lt-suc n

refuses : (n : ℕ) → 0 < n → n < 256 → is_refusal n ≡ true
refuses n h g = rw (lt-ltb 0 n h, lt-ltb n 256 g)

stays : {answer number : ℕ} → Says answer number → number < 256 → (u : Controller) (w : List ℕ) → low answer ≢ 0 → words_after answer u w ≡ w
unfolding words_after
stays {answer} {number} s h u w q =
    let n : number ≢ 0 = λ e. q (s.below ∙ e) in
    rw (s.alone n, refuses number (above_0 number n) h)

-- ---- the exported calls

module _ (budget : ℕ) (w : List ℕ) (z : Spaces) where
  abbrev ran : RunOutcome
  ran = run_of budget (state_of w) z

  abbrev last : ℕ
  last = step_number ran.last.stepped.answer

  small : (paper ran.last.stepped.answer).number < 256
  unfolding call
  small = number_byte (Call.run budget) (lent w z)

  last_says : Says last (paper ran.last.stepped.answer).number
  last_says = step_says ran.last.stepped.answer small

  words_stay : low last ≢ 0 → ran.steps ≡ 0 → words_after (run_number ran.steps ran.last.stepped.answer) ran.last.stepped.state w ≡ w
  words_stay q none =
      let e : run_number ran.steps ran.last.stepped.answer ≡ last = (let x = none in omega arith) in
      rw e (stays last_says small ran.last.stepped.state w q)

  low_last : low (run_number ran.steps ran.last.stepped.answer) ≡ low last
  low_last = omega arith

-- the spaces of a refused call that counts no step
spaces_stay : (c : Call) (m : Machine) → (call c m).told.number ≢ 0 → (call c m).told.steps ≡ 0 → (call c m).after.spaces ≡ m.spaces
spaces_stay c m q none = ap (λ (x : Machine). x.spaces) ((demand1 c m).keeps q ∙ ap (λ (k : ℕ). iter step k m) none)

pub export : (c : Call) (w : List ℕ) (z : Spaces) → Export c w z
unfolding call written_left lined_left acknowledged_left stepped_left ran_left why_answered
export Call.reset w z = record { number = refl; nothing = λ q. absurd (q refl) }
export (Call.write_pointer p) w z = record { number = refl; nothing = λ q. absurd (q refl) }
export Call.read_pointer w z = record { number = refl; nothing = λ q. absurd (q refl) }
export (Call.write v) w z =
    let h = number_byte (Call.write v) (lent w z) in
    record { number = (number_says _ h).below; nothing = λ q none. (stays (number_says _ h) h _ w q, refl) }
export Call.read w z = record { number = (read_says (read_of (state_of w))).below; nothing = λ q none. (refl, refl) }
export (Call.line n active) w z =
    let h = number_byte (Call.line n active) (lent w z) in
    record { number = (number_says _ h).below; nothing = λ q none. (stays (number_says _ h) h _ w q, refl) }
export Call.acknowledge w z =
    let h = number_byte Call.acknowledge (lent w z) in
    let s = ack_says (acknowledge_of (state_of w)).answer in
    record { number = s.below; nothing = λ q none. (stays s h _ w q, refl) }
export (Call.step eop) w z =
    let h = number_byte (Call.step eop) (lent w z) in
    let s = step_says (step_of eop (state_of w) z).stepped.answer h in
    record { number = s.below; nothing = λ q none. (stays s h _ w q, spaces_stay (Call.step eop) (lent w z) (λ e. q (s.below ∙ e)) refl) }
export (Call.run budget) w z = record {
  number = low_last budget w z ∙ (last_says budget w z).below;
  nothing = λ q none. (
    words_stay budget w z (λ e. q (low_last budget w z ∙ e)) none,
    spaces_stay (Call.run budget) (lent w z) (λ e. q (low_last budget w z ∙ (last_says budget w z).below ∙ e)) none,
  );
}
export (Call.why n) w z = record {
  number = (why_says (why_at n (board_of z) (state_of w))).below;
  nothing = λ q none. (refl, refl);
}

-- the steps of a run stand above its last answer's 32 bits
pub run_steps : (budget : ℕ) (w : List ℕ) (z : Spaces) → (ran_left budget w z).number / 4294967296 ≡ (call (Call.run budget) (lent w z)).told.steps
unfolding call ran_left
run_steps budget w z = omega (arith, step_fits (ran budget w z).last.stepped.answer (small budget w z))
