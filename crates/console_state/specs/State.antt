-- The console's language: the lines of `state`. Assumes nothing.
use Rattle.std.specs.Prelude.{ℕ, List, None, Option, Some}
use Rattle.port.specs.declared.Which.{Which}
use Rattle.word_address.specs.declared.Address.{Address}
use Rattle.word_address.specs.declared.Set.{Set}
use Rattle.word_status.specs.Status.{status_word}
use Rattle.word_reload.specs.Length.{words_left}
use Rattle.channel.specs.Ending.{flags_of}
use Rattle.word_reload.specs.declared.Stage.{Stage}
use Rattle.word_reload.specs.declared.Stage.TheVariants.{Reload, Entries}
use Rattle.step.specs.declared.Controller.{Controller}
use Rattle.step.specs.Controller.{at}
use Rattle.call_read.specs.Reading.{waits_for_bus}
use Rattle.text_scan.specs.Words.{bytes}
use Rattle.text_print.specs.Text.{◌⧺◌, hex2_of, hex4_of, decimal_of, bit_of, channel_of}

-- `served` and `bus`: 0 or a channel
unfoldable pub which_of : Option Which → List ℕ
which_of None = bytes "0"
which_of (Some w) = channel_of w

-- `chain`: 0 where none is under way, `start` where the reload word is fetched next, or the words still to fetch
unfoldable pub stage_of : Stage → List ℕ
stage_of Reload = bytes " start"
stage_of (Entries p) = bytes " " ⧺ decimal_of (words_left p)

unfoldable pub chain_of : Option (Which × Stage) → List ℕ
chain_of None = bytes "0"
chain_of (Some (w, s)) = channel_of w ⧺ stage_of s

-- pointer HHHH master HHHH
unfoldable pub words_text : Controller → List ℕ
words_text u = bytes "pointer " ⧺ hex4_of u.pointer ⧺ bytes " master " ⧺ hex4_of u.master

-- pointer HHHH master HHHH served C note B bus C chain X
unfoldable pub controller_of : Controller → List ℕ
controller_of u =
    words_text u
    ⧺ bytes " served " ⧺ which_of u.control.served
    ⧺ bytes " note " ⧺ bit_of u.control.note
    ⧺ bytes " bus " ⧺ which_of u.control.bus
    ⧺ bytes " chain " ⧺ chain_of u.control.chain

-- two words are the upper and the lower, or the high and the low
unfoldable pub two_words : ℕ → ℕ → List ℕ
two_words upper lower = hex4_of upper ⧺ bytes " " ⧺ hex4_of lower

unfoldable pub address_of : Address → List ℕ
address_of a = two_words a.upper a.lower

-- A HHHH HHHH B HHHH HHHH count HHHH
unfoldable pub set_of : Set → List ℕ
set_of s = bytes " A " ⧺ address_of s.a ⧺ bytes " B " ⧺ address_of s.b ⧺ bytes " count " ⧺ hex4_of s.count

unfoldable pub current_of : Which → Controller → List ℕ
current_of w u = channel_of w ⧺ set_of (at w u).current

unfoldable pub base_of : Which → Controller → List ℕ
base_of w u = channel_of w ⧺ bytes " base" ⧺ set_of (at w u).base

-- pattern HHHH mask HHHH vector HH save HHHH
unfoldable pub compared_of : Which → Controller → List ℕ
compared_of w u =
    channel_of w
    ⧺ bytes " pattern " ⧺ hex4_of (at w u).pattern
    ⧺ bytes " mask " ⧺ hex4_of (at w u).mask
    ⧺ bytes " vector " ⧺ hex2_of (at w u).interrupt.vector
    ⧺ bytes " save " ⧺ hex4_of (at w u).interrupt.save

-- mode HHHH HHHH chain HHHH HHHH
unfoldable pub modes_of : Which → Controller → List ℕ
modes_of w u =
    channel_of w
    ⧺ bytes " mode " ⧺ two_words (at w u).mode.high (at w u).mode.low
    ⧺ bytes " chain " ⧺ address_of (at w u).chain

-- the word that a read of the status port gives
unfoldable pub status_of : Which → Controller → ℕ
status_of w u = status_word (flags_of (waits_for_bus w u) (at w u))

-- status HHHH change B pending B
unfoldable pub status_line : Which → Controller → List ℕ
status_line w u =
    channel_of w
    ⧺ bytes " status " ⧺ hex4_of (status_of w u)
    ⧺ bytes " change " ⧺ bit_of (at w u).line.change
    ⧺ bytes " pending " ⧺ bit_of (at w u).pending
