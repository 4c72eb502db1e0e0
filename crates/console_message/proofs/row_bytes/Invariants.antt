use Rattle.std.proofs.Common.{◌≡◌, take}
use Rattle.text_print.specs.Text.{written, appended}
use Rattle.console_message.specs.Phrases.{bytes_of}
use Rattle.console_message.proofs.row_bytes.Given as goal

abbrev pub invariant-loop-b : goal.invariant-loop-b
invariant-loop-b l = written l.t ≡ appended (written l.initial.t) (bytes_of (take l.b-index l.bytes))
