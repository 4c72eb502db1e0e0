-- Demand 1, of the calls that a host really makes: bits 7-0 of each answer are document 01's number, and a refused call leaves the words that it was
-- lent exactly as they were, whatever they hold, and both spaces. Assumes nothing.
use Rattle.std.specs.Prelude.{◌≡◌, ◌≢◌, List, ℕ, ◌%◌}
use Rattle.space.specs.Space.{Spaces}
use Rattle.space_board.specs.Board.{board_of}
use Rattle.call_read.specs.Reading.{read_of}
use Rattle.host_state.specs.Load.{state_of}
use Rattle.host_answer.specs.Numbers.{read_number}
use Rattle.host.specs.Calls.{Returned, Crossed, crossed, reset_left, pointed_left, written_left, lined_left, acknowledged_left, stepped_left, ran_left, why_answered}
use Rattle.promises.specs.Machine.{Machine}
use Rattle.promises.specs.Calls.{Call, call}

-- bits 7-0 of an answer
abbrev pub low : ℕ → ℕ
low n = n % 256

-- with the spaces, which such a call does not touch
abbrev pub beside : Spaces → Returned → Crossed
beside z r = crossed r.number r.words z

-- What the export of a call leaves and answers, as its contract says. Reset and the pointer's calls are never refused, and answer no number.
abbrev pub exported : Call → List ℕ → Spaces → Crossed
exported Call.reset w z = crossed 0 (reset_left w) z
exported (Call.write_pointer p) w z = crossed 0 (pointed_left p w) z
exported Call.read_pointer w z = crossed 0 w z
exported (Call.write v) w z = beside z (written_left v w)
exported Call.read w z = crossed (read_number (read_of (state_of w))) w z
exported (Call.line n active) w z = beside z (lined_left n active w)
exported Call.acknowledge w z = beside z (acknowledged_left w)
exported (Call.step eop) w z = stepped_left eop w z
exported (Call.run budget) w z = ran_left budget w z
exported (Call.why n) w z = crossed (why_answered n (board_of z) w) w z

-- the machine that the words stand for
abbrev pub lent : List ℕ → Spaces → Machine
lent w z = record { controller = state_of w; spaces = z }

pub record Export (c : Call) (w : List ℕ) (z : Spaces) : Type 0 where
  pub number : low (exported c w z).number ≡ (call c (lent w z)).told.number
  -- a run that a later step stops keeps the steps before it
  pub nothing : low (exported c w z).number ≢ 0 → (call c (lent w z)).told.steps ≡ 0 → ((exported c w z).words ≡ w) × ((exported c w z).spaces ≡ z)
