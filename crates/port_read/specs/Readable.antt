-- Document 01, "Registers": the ports that are read. Assumes nothing.
use Rattle.std.specs.Prelude.{ℕ, List, ◌∷◌, Option}
use Rattle.facts.specs.Look.{find}
use Rattle.port.specs.declared.Which.TheVariants.{One, Two}
use Rattle.port.specs.Ports.{registers, both}
use Rattle.port_read.specs.declared.ReadPort.{ReadPort}
use Rattle.port_read.specs.declared.ReadPort.TheVariants.{MasterMode, Status, Save, ModeHigh, Of}

-- Master mode 38 (both); status (read); interrupt save and mode high, which are read only.
abbrev pub readable : List (ℕ × ReadPort)
readable =
    (0x38, MasterMode)
    ∷ (0x2E, Status One)
    ∷ (0x2C, Status Two)
    ∷ (0x2A, Save One)
    ∷ (0x28, Save Two)
    ∷ (0x56, ModeHigh One)
    ∷ (0x54, ModeHigh Two)
    ∷ both Of registers

unfoldable pub read_port : ℕ → Option ReadPort
read_port pointer = find pointer readable
