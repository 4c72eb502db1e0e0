-- Document 01, "Registers": what the commands of Figure 18 do, and refusals 2 to 5 in their order. Assumes nothing.
use Rattle.std.specs.Prelude.{Bool, true, false, cond, ◌&&◌, None, Option, Some, Result, Ok, Err, ⊤}
use Rattle.refusal.specs.declared.Refusal.{Refusal}
use Rattle.refusal.specs.declared.Refusal.TheVariants.{Busy, NoCommand, OtherChannelsIp, CannotChain}
use Rattle.port.specs.declared.Which.{Which}
use Rattle.word_mode.specs.Mode.{with_flip, with_mask, with_request}
use Rattle.channel.specs.Set.{◌⟨mode≔◌⟩}
use Rattle.channel_command.specs.Effects.{cie_by, ip_by, chain_started, cannot_chain}
use Rattle.word_command.specs.declared.Command.{Command}
use Rattle.word_command.specs.declared.Command.TheVariants.{Reset, Interrupts, SoftwareRequest, Flip, HardwareMask, StartChain}
use Rattle.step.specs.declared.Controller.{Controller}
use Rattle.step.specs.Controller.{at, with}
use Rattle.call_reset.specs.Reset.{reset_of}
use Rattle.step.specs.declared.Done.{Done}
use Rattle.port.specs.Ports.{is_other}
use Rattle.word_reload.specs.declared.Stage.{Stage}

-- what a register write leaves and answers
abbrev pub Written : Type 0
Written = Done (Result ⊤ Refusal)

abbrev pub refuses : Refusal → Controller → Written
refuses r u = record { state = u; answer = Err r }

abbrev pub takes : Controller → Written
takes u = record { state = u; answer = Ok tt }

-- A channel keeps the bus or a chain is under way.
abbrev pub busy_by : Option Which → Option (Which × Stage) → Bool
busy_by None None = false
busy_by None (Some (w, s)) = true
busy_by (Some w) chain = true

unfoldable pub is_busy : Controller → Bool
is_busy u = busy_by u.control.bus u.control.chain

-- 2: register write while a channel keeps the bus or a chain is under way.
abbrev pub unless_busy : Bool → Controller → Written → Written
unless_busy true u r = refuses Busy u
unless_busy false u r = r

-- 4: IP named at the other channel's port. 5: Start Chain with CA or SIP set.
abbrev pub carried_out : Command → Which → Controller → Written
carried_out Reset w u = takes (reset_of u)
carried_out (Interrupts k set e p) w u = cond (p && is_other w k) (refuses OtherChannelsIp u) (takes (with k (ip_by p set k (cie_by e set (at k u))) u))
carried_out (SoftwareRequest k set) w u = takes (with k (at k u ⟨mode≔ with_request set (at k u).mode ⟩) u)
carried_out (Flip k set) w u = takes (with k (at k u ⟨mode≔ with_flip set (at k u).mode ⟩) u)
carried_out (HardwareMask k set) w u = takes (with k (at k u ⟨mode≔ with_mask set (at k u).mode ⟩) u)
carried_out (StartChain k) w u = cond (cannot_chain (at k u)) (refuses CannotChain u) (takes (with k (chain_started (at k u)) u))

-- 3: command kind 6 or 7.
abbrev pub obeyed : Option Command → Which → Controller → Written
obeyed None w u = refuses NoCommand u
obeyed (Some x) w u = carried_out x w u

-- Unless it is Reset, a command is a register write like the others.
abbrev pub is_reset : Option Command → Bool
is_reset None = false
is_reset (Some Reset) = true
is_reset (Some (Interrupts k set e p)) = false
is_reset (Some (SoftwareRequest k set)) = false
is_reset (Some (Flip k set)) = false
is_reset (Some (HardwareMask k set)) = false
is_reset (Some (StartChain k)) = false

abbrev pub commanded_by : Bool → Bool → Option Command → Which → Controller → Written
commanded_by true busy x w u = obeyed x w u
commanded_by false busy x w u = unless_busy busy u (obeyed x w u)

unfoldable pub commanded : Option Command → Which → Controller → Written
commanded x w u = commanded_by (is_reset x) (is_busy u) x w u
