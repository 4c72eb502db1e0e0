-- The console's language: what a refusal prints. Assumes nothing.
use Rattle.std.specs.Prelude.{ℕ, List}
use Rattle.refusal.specs.declared.Refusal.{Refusal}
use Rattle.refusal.specs.declared.Refusal.TheVariants.{NoRegister, Busy, NoCommand, OtherChannelsIp, CannotChain, OddChain, NotCarried, OddWord, NothingToAcknowledge, NoChannel, LongRun}
use Rattle.refusal.specs.Refusals.{number}
use Rattle.text_scan.specs.Words.{bytes}
use Rattle.text_print.specs.Text.{◌⧺◌, decimal_of}

unfoldable pub refusal_words : Refusal → List ℕ
refusal_words NoRegister = bytes "no register at the pointer for this direction"
refusal_words Busy = bytes "a channel keeps the bus or a chain is under way"
refusal_words NoCommand = bytes "command kind 6 or 7"
refusal_words OtherChannelsIp = bytes "IP named at the other channel's port"
refusal_words CannotChain = bytes "Start Chain with CA or SIP set"
refusal_words OddChain = bytes "first fetch of a chain from an odd address"
refusal_words NotCarried = bytes "operation not carried"
refusal_words OddWord = bytes "word side at an odd address"
refusal_words NothingToAcknowledge = bytes "nothing to acknowledge"
refusal_words NoChannel = bytes "channel other than 1 or 2"
refusal_words LongRun = bytes "run of more than 65536"

unfoldable pub refusal_of : Refusal → List ℕ
refusal_of r = bytes "refused " ⧺ decimal_of (number r) ⧺ bytes " " ⧺ refusal_words r
