-- Document 01, "Registers": what is read at the pointer. Assumes nothing.
use Rattle.std.specs.Prelude.{ℕ, Bool, false, not, ◌&&◌, None, Option, Some, Result, Ok, Err}
use Rattle.refusal.specs.declared.Refusal.{Refusal}
use Rattle.refusal.specs.declared.Refusal.TheVariants.{NoRegister}
use Rattle.port.specs.declared.Which.{Which}
use Rattle.port.specs.declared.Register.{Register}
use Rattle.port.specs.declared.Register.TheVariants.{CurrentAUpper, CurrentALower, CurrentBUpper, CurrentBLower, BaseAUpper, BaseALower, BaseBUpper, BaseBLower, CurrentCount, BaseCount, Pattern, Mask, Vector, ModeLow, ChainUpper, ChainLower}
use Rattle.port.specs.Ports.{is_other}
use Rattle.port_read.specs.declared.ReadPort.{ReadPort}
use Rattle.port_read.specs.declared.ReadPort.TheVariants.{MasterMode, Status, Save, ModeHigh, Of}
use Rattle.port_read.specs.Readable.{read_port}
use Rattle.word_status.specs.Status.{status_word}
use Rattle.channel.specs.declared.Channel.{Channel}
use Rattle.channel.specs.Candidate.{is_candidate}
use Rattle.channel.specs.Ending.{flags_of}
use Rattle.step.specs.declared.Controller.{Controller}
use Rattle.step.specs.Controller.{at}

-- WFB is being a candidate that doesn't keep the bus.
abbrev pub keeps_bus : Which → Option Which → Bool
keeps_bus w None = false
keeps_bus w (Some k) = not (is_other w k)

unfoldable pub waits_for_bus : Which → Controller → Bool
waits_for_bus w u = is_candidate (at w u) && not (keeps_bus w u.control.bus)

unfoldable pub register_read : Register → Channel → ℕ
register_read CurrentAUpper c = c.current.a.upper
register_read CurrentALower c = c.current.a.lower
register_read CurrentBUpper c = c.current.b.upper
register_read CurrentBLower c = c.current.b.lower
register_read BaseAUpper c = c.base.a.upper
register_read BaseALower c = c.base.a.lower
register_read BaseBUpper c = c.base.b.upper
register_read BaseBLower c = c.base.b.lower
register_read CurrentCount c = c.current.count
register_read BaseCount c = c.base.count
register_read Pattern c = c.pattern
register_read Mask c = c.mask
register_read Vector c = c.interrupt.vector
register_read ModeLow c = c.mode.low
register_read ChainUpper c = c.chain.upper
register_read ChainLower c = c.chain.lower

abbrev pub value_of : ReadPort → Controller → ℕ
value_of MasterMode u = u.master
value_of (Status w) u = status_word (flags_of (waits_for_bus w u) (at w u))
value_of (Save w) u = (at w u).interrupt.save
value_of (ModeHigh w) u = (at w u).mode.high
value_of (Of w r) u = register_read r (at w u)

-- 1: no register at the pointer for this direction.
abbrev pub read_by : Option ReadPort → Controller → Result ℕ Refusal
read_by None u = Err NoRegister
read_by (Some p) u = Ok (value_of p u)

unfoldable pub read_of : Controller → Result ℕ Refusal
read_of u = read_by (read_port u.pointer) u
