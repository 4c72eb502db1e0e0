-- A machine is a controller and the two lent spaces; a stretch of n is n steps without EOP. A unit, as the program of accesses that
-- the laws speak of, is the unit that the step does. Assumes nothing.
use mathlib.Core.Path.{◌≡◌, refl}
use mathlib.Core.Bool.{false}
use Rattle.space.specs.Space.{Spaces}
use Rattle.space.specs.Bytes.{gets}
use Rattle.unit_laws.specs.Local.{exec}
use Rattle.port.specs.declared.Which.{Which}
use Rattle.word_mode.specs.Mode.{operation_of, is_flipped}
use Rattle.unit_accesses.specs.Accesses.{datum_at}
use Rattle.unit.specs.Unit.{worked}
use Rattle.unit_accesses.proofs.Laws.{writes_exactly}
use Rattle.channel.specs.declared.Channel.{Channel}
use Rattle.channel.specs.Ending.{after_unit}
use Rattle.step.specs.Step.{work_of}
use Rattle.promises.specs.Machine.{unit_reads, unit}

-- it is the unit of the step: the same registers ..
pub unit_channel : (w : Which) (c : Channel) (z : Spaces) → (exec (unit w) c z).reg ≡ (after_unit w false (worked (work_of c) z).moved c).channel
unfolding worked datum_at
unit_channel w c z = refl

-- .. and the same spaces
pub unit_spaces : (w : Which) (c : Channel) (z : Spaces) → (exec (unit w) c z).spaces ≡ (worked (work_of c) z).spaces
unfolding worked datum_at
unit_spaces w c z = writes_exactly (operation_of c.mode).moves (is_flipped c.mode) c.current (gets z (unit_reads c)) z
