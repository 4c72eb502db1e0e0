-- The calls of document 01 and of the requests, and what each leaves and answers, by the definitions that the contracts cite. Assumes nothing.
use Rattle.std.specs.Prelude.{ℕ, Bool, false, List, [], ◌∷◌, Result, ⊤}
use Rattle.word_mode.specs.declared.Reasons.{Reasons}
use Rattle.step.specs.Answers.{Paper, none, paper}
use Rattle.step.specs.Step.{Outcome, RunOutcome, step_of}
use Rattle.call_reset.specs.Reset.{reset_of}
use Rattle.call_pointer.specs.Pointer.{pointed}
use Rattle.call_read.specs.Reading.{read_of}
use Rattle.call_read.specs.Answers.{PaperRead, paper_read}
use Rattle.call_command.specs.Answers.{paper_write}
use Rattle.call_write.specs.Writing.{write_of}
use Rattle.call_line.specs.Lines.{lined_at}
use Rattle.call_line.specs.Answers.{paper_line}
use Rattle.step.specs.declared.Done.{Done}
use Rattle.refusal.specs.declared.Refusal.{Refusal}
use Rattle.call_acknowledge.specs.declared.Acknowledgement.{Acknowledgement}
use Rattle.call_acknowledge.specs.Acknowledge.{acknowledge_of}
use Rattle.call_acknowledge.specs.Answers.{PaperAck, paper_ack}
use Rattle.call_run.specs.Run.{run_of}
use Rattle.space_board.specs.Board.{board_of}
use Rattle.standstill.specs.Causes.{why_at}
use Rattle.standstill.specs.Answers.{PaperWhy, paper_why}
use Rattle.promises.specs.Machine.{Machine, left}

-- The host may call: reset; pointer write and read; register write and read; request-line level for a channel; interrupt acknowledge; step (with
-- EOP given or not); run of up to 65,536 steps without EOP. And why a channel stands still (document 02, E4).
pub data Call : Type 0 where
  reset : Call
  write_pointer : ℕ → Call
  read_pointer : Call
  write : ℕ → Call
  read : Call
  line : ℕ → Bool → Call
  acknowledge : Call
  step : Bool → Call
  run : ℕ → Call
  why : ℕ → Call

-- What a call answers, as document 01 gives it: the refusal number or 0; a channel or 0; end reasons; how often bits 23-16 of an address changed
-- (document 02, E5); whether a word is given; the word or 0; of a run how many steps came before the one that it answers; and why a channel
-- stands still, 0 being nothing wrong.
pub record Told : Type 0 where
  pub number : ℕ
  pub channel : ℕ
  pub why : Reasons
  pub upper : ℕ
  pub given : Bool
  pub word : ℕ
  pub steps : ℕ
  pub cause : ℕ

-- every value is 0 but the number, and a run's steps
abbrev pub only : ℕ → ℕ → Told
only n k = record { number = n; channel = 0; why = none; upper = 0; given = false; word = 0; steps = k; cause = 0 }

abbrev pub word_told : PaperRead → Told
word_told p = record { number = p.number; channel = 0; why = none; upper = 0; given = false; word = p.word; steps = 0; cause = 0 }

abbrev pub ack_told : PaperAck → Told
ack_told p = record { number = p.number; channel = p.channel; why = none; upper = 0; given = p.given; word = p.word; steps = 0; cause = 0 }

abbrev pub step_told : Paper → ℕ → Told
step_told p k = record { number = p.number; channel = p.channel; why = p.why; upper = p.upper; given = false; word = 0; steps = k; cause = 0 }

abbrev pub why_told : PaperWhy → Told
why_told p = record { number = p.number; channel = 0; why = none; upper = 0; given = false; word = 0; steps = 0; cause = p.cause }

-- ---- the outcome of a call: its answer and the machine after it

pub record CallOutcome : Type 0 where
  pub told : Told
  pub after : Machine

abbrev pub write_outcome : Machine → Done (Result ⊤ Refusal) → CallOutcome
write_outcome m r = record { told = only (paper_write r.answer) 0; after = record { controller = r.state; spaces = m.spaces } }

abbrev pub line_outcome : Machine → Done (Result ⊤ Refusal) → CallOutcome
line_outcome m r = record { told = only (paper_line r.answer) 0; after = record { controller = r.state; spaces = m.spaces } }

abbrev pub ack_outcome : Machine → Done (Result Acknowledgement Refusal) → CallOutcome
ack_outcome m r = record { told = ack_told (paper_ack r.answer); after = record { controller = r.state; spaces = m.spaces } }

abbrev pub step_outcome : Outcome → CallOutcome
step_outcome o = record { told = step_told (paper o.stepped.answer) 0; after = left o }

abbrev pub run_outcome : RunOutcome → CallOutcome
run_outcome r = record { told = step_told (paper r.last.stepped.answer) r.steps; after = left r.last }

unfoldable pub call : Call → Machine → CallOutcome
call reset m = record { told = only 0 0; after = record { controller = reset_of m.controller; spaces = m.spaces } }
call (write_pointer w) m = record { told = only 0 0; after = record { controller = pointed w m.controller; spaces = m.spaces } }
call read_pointer m = record { told = word_told (record { number = 0; word = m.controller.pointer }); after = m }
call (write w) m = write_outcome m (write_of w m.controller)
call read m = record { told = word_told (paper_read (read_of m.controller)); after = m }
call (line n active) m = line_outcome m (lined_at n active m.controller)
call acknowledge m = ack_outcome m (acknowledge_of m.controller)
call (step eop) m = step_outcome (step_of eop m.controller m.spaces)
call (run budget) m = run_outcome (run_of budget m.controller m.spaces)
call (why n) m = record { told = why_told (paper_why (why_at n (board_of m.spaces) m.controller)); after = m }

-- ---- a stretch: steps without EOP, and between them request-line calls for either channel, pointer writes and reads, and register reads

pub data StretchCall : Type 0 where
  steps : StretchCall
  lines : ℕ → Bool → StretchCall
  points : ℕ → StretchCall
  reads_pointer : StretchCall
  reads : StretchCall

abbrev pub call_of : StretchCall → Call
call_of steps = step false
call_of (lines n active) = line n active
call_of (points w) = write_pointer w
call_of reads_pointer = read_pointer
call_of reads = read

-- the calls that are still to be made, and the machine before them
pub record Moment : Type 0 where
  pub calls : List StretchCall
  pub machine : Machine

-- the next of them is made; after the last nothing happens
abbrev pub called : List StretchCall → Machine → Moment
called [] m = record { calls = []; machine = m }
called (c ∷ cs) m = record { calls = cs; machine = (call (call_of c) m).after }

abbrev pub next : Moment → Moment
next x = called x.calls x.machine
