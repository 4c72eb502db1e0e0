-- What each host call that a line names leaves, and the lines that tell a read and a look, by the model's own definitions. Assumes nothing.
use Rattle.std.specs.Prelude.{ℕ, List}
use Rattle.space.specs.Space.{Spaces}
use Rattle.space_board.specs.declared.Board.{Board}
use Rattle.step.specs.declared.Controller.{Controller}
use Rattle.step.specs.Step.{step_of}
use Rattle.call_pointer.specs.Pointer.{pointed}
use Rattle.call_write.specs.Writing.{write_of}
use Rattle.call_reset.specs.Reset.{reset_of}
use Rattle.call_read.specs.Reading.{read_of}
use Rattle.call_line.specs.Lines.{lined_at}
use Rattle.call_acknowledge.specs.Acknowledge.{acknowledge_of}
use Rattle.call_run.specs.Run.{run_of}
use Rattle.standstill.specs.Causes.{why_at}
use Rattle.text_print.specs.Text.{line}
use Rattle.console_answer.specs.Wording as wording
use Rattle.console_line.specs.declared.RegisterCall.{RegisterCall}
use Rattle.console_line.specs.declared.RegisterCall.TheVariants.{Reset, WritePointer, ReadPointer, Write, Read, Set, Get, Line, Acknowledge}
use Rattle.console_line.specs.declared.Advance.{Advance}
use Rattle.console_line.specs.declared.Advance.TheVariants.{Step, Run}

-- The calls that reach the controller alone.
unfoldable pub call_of : RegisterCall → Controller → Controller
call_of Reset u = reset_of u
call_of (WritePointer w) u = pointed w u
call_of ReadPointer u = u
call_of (Write w) u = (write_of w u).state
call_of Read u = u
call_of (Set p w) u = (write_of w (pointed p u)).state
call_of (Get p) u = pointed p u
call_of (Line c active) u = (lined_at c active u).state
call_of Acknowledge u = (acknowledge_of u).state

-- The controller and both spaces.
pub record BenchLeft : Type 0 where
  pub state : Controller
  pub spaces : Spaces

abbrev pub leaves : Controller → Spaces → BenchLeft
leaves u z = record { state = u; spaces = z }

unfoldable pub advance_of : Advance → Controller → Spaces → BenchLeft
advance_of (Step eop) u z =
    let o = step_of eop u z in
    leaves o.stepped.state o.spaces
advance_of (Run n) u z =
    let o = (run_of n u z).last in
    leaves o.stepped.state o.spaces

-- The lines that tell what a register read and a look answer.
abbrev pub read_line : Controller → List ℕ
read_line u = line (wording.read_of (read_of u))

abbrev pub why_line : ℕ → Board → Controller → List ℕ
why_line c b u = line (wording.why_of c (why_at c b u))
