-- Document 01, "Registers": the ports that are written. Assumes nothing.
use Rattle.std.specs.Prelude.{ℕ, List, ◌∷◌, Option}
use Rattle.facts.specs.Look.{find}
use Rattle.port.specs.declared.Which.TheVariants.{One, Two}
use Rattle.port.specs.Ports.{registers, both}
use Rattle.port_write.specs.declared.WritePort.{WritePort}
use Rattle.port_write.specs.declared.WritePort.TheVariants.{MasterMode, Command, Of}

-- Master mode 38 (both); command (write).
abbrev pub writable : List (ℕ × WritePort)
writable = (0x38, MasterMode) ∷ (0x2E, Command One) ∷ (0x2C, Command Two) ∷ both Of registers

unfoldable pub write_port : ℕ → Option WritePort
write_port pointer = find pointer writable
