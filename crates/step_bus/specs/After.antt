-- Document 01, "Which step comes next", "Chaining" and "Ending": what a step leaves of what belongs to no channel. Assumes nothing.
use Rattle.std.specs.Prelude.{Bool, true, false, ◌||◌, None, Option, Some}
use Rattle.port.specs.declared.Which.{Which}
use Rattle.word_mode.specs.declared.RequestMode.{RequestMode}
use Rattle.word_mode.specs.declared.RequestMode.TheVariants.{Single, DemandHold, DemandRelease, DemandInterleave}
use Rattle.word_reload.specs.declared.Stage.TheVariants.{Reload, Entries}
use Rattle.step_bus.specs.declared.Back.{Back}
use Rattle.step_bus.specs.declared.Back.TheVariants.{Note, Bus}
use Rattle.step_bus.specs.declared.Control.{Control}
use Rattle.step_bus.specs.Set.{◌⟨chain≔◌⟩, ◌⟨bus≔◌⟩, ◌⟨note≔◌⟩}
use Rattle.word_reload.specs.declared.Progress.{Progress}
use Rattle.word_reload.specs.declared.Stage.{Stage}

-- An end puts a chain under way if chaining is enabled for a reason.
abbrev pub chain_after : Bool → Which → Option (Which × Stage) → Option (Which × Stage)
chain_after true w chain = Some (w, Reload)
chain_after false w chain = chain

-- After an unended unit both dedicated modes keep the bus; single does not. Interleave does not keep it, and with CPU interleave set
-- leaves a give-back note. An end frees the bus. Served last is the channel of the latest unit.
abbrev pub unended_control : RequestMode → Bool → Which → Control → Control
unended_control Single cpu w k = record { chain = k.chain; bus = None; note = k.note; served = Some w }
unended_control DemandHold cpu w k = record { chain = k.chain; bus = Some w; note = k.note; served = Some w }
unended_control DemandRelease cpu w k = record { chain = k.chain; bus = Some w; note = k.note; served = Some w }
unended_control DemandInterleave cpu w k = record { chain = k.chain; bus = None; note = cpu || k.note; served = Some w }

abbrev pub ended_control : Bool → Which → Control → Control
ended_control chains w k = record { chain = chain_after chains w k.chain; bus = None; note = k.note; served = Some w }

-- EOP while holding ends the operation without a unit: served last stays.
abbrev pub held_control : Bool → Which → Control → Control
held_control chains w k = record { chain = chain_after chains w k.chain; bus = None; note = k.note; served = k.served }

abbrev pub control_by : Bool → RequestMode → Bool → Bool → Which → Control → Control
control_by true m cpu chains w k = ended_control chains w k
control_by false m cpu chains w k = unended_control m cpu w k

-- After the last fetch CPU interleave set leaves a give-back note; clear, the channel keeps the bus if its request is active.
abbrev pub control_fetched : Option Progress → Bool → Bool → Which → Control → Control
control_fetched (Some p) cpu active w k = k ⟨chain≔ Some (w, Entries p) ⟩
control_fetched None true active w k = k ⟨chain≔ None ⟩ ⟨note≔ true ⟩
control_fetched None false true w k = k ⟨chain≔ None ⟩ ⟨bus≔ Some w ⟩
control_fetched None false false w k = k ⟨chain≔ None ⟩

-- EOP with a fetch: the chain is dropped.
abbrev pub dropped_control : Control → Control
dropped_control k = k ⟨chain≔ None ⟩

-- A give-back note: clear it. Any other mode than demand hold gives the bus back.
abbrev pub back_control : Back → Control → Control
back_control Note k = k ⟨note≔ false ⟩
back_control Bus k = k ⟨bus≔ None ⟩
