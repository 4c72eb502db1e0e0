-- Document 01, "Refusal numbers": the list. Assumes nothing.
use Rattle.std.specs.Prelude.{ℕ, Bool, List, [], ◌∷◌, Option, None, Some}
use Rattle.refusal.specs.declared.Refusal.{Refusal}
use Rattle.refusal.specs.declared.Refusal.TheVariants.{NoRegister, Busy, NoCommand, OtherChannelsIp, CannotChain, OddChain, NotCarried, OddWord, NothingToAcknowledge, NoChannel, LongRun}

-- 1: no register at the pointer for this direction. 2: register write while a channel keeps the bus or a chain is under way, unless it is
-- Reset. 3: command kind 6 or 7. 4: IP named at the other channel's port. 5: Start Chain with CA or SIP set. 6: first fetch of a chain from
-- an odd address. 7: unit with operation 2, 3, 6, 7, A or B. 8: unit with a word side at an odd address that it uses. 9: nothing to
-- acknowledge. 10: channel other than 1 or 2. 11: run of more than 65,536.
abbrev pub number : Refusal → ℕ
number NoRegister = 1
number Busy = 2
number NoCommand = 3
number OtherChannelsIp = 4
number CannotChain = 5
number OddChain = 6
number NotCarried = 7
number OddWord = 8
number NothingToAcknowledge = 9
number NoChannel = 10
number LongRun = 11

-- refusal number or 0
abbrev pub number_or_0 : Option Refusal → ℕ
number_or_0 None = 0
number_or_0 (Some r) = number r

-- a table of conditions and refusals, with their numbers
abbrev pub numbered : List (Bool × Refusal) → List (Bool × ℕ)
numbered [] = []
numbered (e ∷ es) = (e.0, number e.1) ∷ numbered es
