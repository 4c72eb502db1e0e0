-- Document 02, E4: the reason why a channel stands still, in every state that calls reach. Assumes nothing.
use Rattle.std.specs.Prelude.{◌≡◌, Bool, true, false, ◌≢◌, ◌↔◌, List}
use Rattle.facts.specs.First.{Exactly}
use Rattle.port.specs.declared.Which.{Which}
use Rattle.space.specs.Space.{Spaces}
use Rattle.space_board.specs.Board.{board_of}
use Rattle.step.specs.declared.Answer.{Answer}
use Rattle.step.specs.declared.Answer.TheVariants as told
use Rattle.call_reset.specs.Reset.{fresh_of}
use Rattle.standstill.specs.declared.Cause.{Cause}
use Rattle.standstill.specs.declared.Cause.TheVariants.{NothingWrong}
use Rattle.standstill.specs.Causes.{causes, why_of}
use Rattle.promises.specs.Machine.{Machine, answer}
use Rattle.promises.specs.Calls.{Call}
use Rattle.promises.specs.Own.{same}
use Rattle.promises.specs.Reached.{after_calls}

-- it fetched a word or did a unit for channel w
abbrev pub served : Which → Answer → Bool
served w (told.Refused r) = false
served w told.Disabled = false
served w told.Idle = false
served w (told.GivenBack back) = false
served w (told.Holding v) = false
served w (told.Fetched v d) = same w v
served w (told.Dropped v) = false
served w (told.Unit v d) = same w v
served w (told.Ended v) = false

-- the reason that is named
abbrev pub why : Which → Machine → Cause
why w m = why_of (board_of m.spaces) w m.controller

-- it is true of the state, and no earlier one of the list is
abbrev pub FirstReason : Which → Machine → Type 0
FirstReason w m = Exactly NothingWrong (why w m) (causes (board_of m.spaces) w m.controller)

pub record Standstill (w : Which) (m : Machine) : Type 0 where
  pub reason : FirstReason w m
  -- nothing wrong if and only if the next step, without EOP, fetches a word or does a unit for this channel
  pub moves : why w m ≡ NothingWrong ↔ served w (answer m) ≡ true
  -- with any other reason it does neither
  pub stands : why w m ≢ NothingWrong → served w (answer m) ≡ false

abbrev pub StandsStill : Type 0
StandsStill = (w : Which) (cs : List (Call × Spaces)) (z : Spaces) → Standstill w (record { controller = after_calls cs fresh_of; spaces = z })
