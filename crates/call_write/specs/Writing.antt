-- Document 01, "Registers": what a register write does, and refusals 1 and 2 in their order. Assumes nothing.
use Rattle.std.specs.Prelude.{ℕ, ◌%◌, Bool, true, false, Option, None, Some}
use Rattle.refusal.specs.declared.Refusal.TheVariants.{NoRegister}
use Rattle.port.specs.declared.Register.{Register}
use Rattle.port.specs.declared.Register.TheVariants.{CurrentAUpper, CurrentALower, CurrentBUpper, CurrentBLower, BaseAUpper, BaseALower, BaseBUpper, BaseBLower, CurrentCount, BaseCount, Pattern, Mask, Vector, ModeLow, ChainUpper, ChainLower}
use Rattle.port_write.specs.declared.WritePort.{WritePort}
use Rattle.port_write.specs.declared.WritePort.TheVariants.{MasterMode, Command, Of}
use Rattle.port_write.specs.Writable.{write_port}
use Rattle.word_reload.specs.declared.Entry.TheVariants as entry
use Rattle.channel.specs.declared.Channel.{Channel}
use Rattle.channel.specs.Set.{◌⟨status≔◌⟩, ◌⟨ca≔◌⟩}
use Rattle.channel_loading.specs.Loading.{loaded}
use Rattle.word_command.specs.Command.{command_of}
use Rattle.step.specs.declared.Controller.{Controller}
use Rattle.step.specs.Controller.{at, with}
use Rattle.step.specs.Set.{◌⟨master≔◌⟩}
use Rattle.call_command.specs.Commands.{Written, refuses, takes, unless_busy, is_busy, commanded}

-- Writing either chain word by the CPU clears CA.
unfoldable pub chain_written : Bool → ℕ → Channel → Channel
chain_written second w c = loaded entry.ChainAddress second w c ⟨status≔ (loaded entry.ChainAddress second w c).status ⟨ca≔ false ⟩ ⟩

unfoldable pub register_written : Register → ℕ → Channel → Channel
register_written CurrentAUpper w c = loaded entry.CurrentA false w c
register_written CurrentALower w c = loaded entry.CurrentA true w c
register_written CurrentBUpper w c = loaded entry.CurrentB false w c
register_written CurrentBLower w c = loaded entry.CurrentB true w c
register_written BaseAUpper w c = loaded entry.BaseA false w c
register_written BaseALower w c = loaded entry.BaseA true w c
register_written BaseBUpper w c = loaded entry.BaseB false w c
register_written BaseBLower w c = loaded entry.BaseB true w c
register_written CurrentCount w c = loaded entry.CurrentCount false w c
register_written BaseCount w c = loaded entry.BaseCount false w c
register_written Pattern w c = loaded entry.PatternAndMask false w c
register_written Mask w c = loaded entry.PatternAndMask true w c
register_written Vector w c = loaded entry.Vector false w c
register_written ModeLow w c = loaded entry.Mode true w c
register_written ChainUpper w c = chain_written false w c
register_written ChainLower w c = chain_written true w c

-- 1: no register at the pointer for this direction. Master mode keeps bits 3-0. A command has its own exception to 2.
abbrev pub write_by : Option WritePort → ℕ → Controller → Written
write_by (Some MasterMode) w u = unless_busy (is_busy u) u (takes (u ⟨master≔ w % 16 ⟩))
write_by (Some (Command k)) w u = commanded (command_of w) k u
write_by (Some (Of k r)) w u = unless_busy (is_busy u) u (takes (with k (register_written r w (at k u)) u))
write_by None w u = refuses NoRegister u

unfoldable pub write_of : ℕ → Controller → Written
write_of w u = write_by (write_port u.pointer) w u
