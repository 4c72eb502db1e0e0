-- Document 01, "Registers": the pointer. Assumes nothing.
use Rattle.std.specs.Prelude.{ℕ}
use Rattle.port.specs.Ports.{kept_pointer}
use Rattle.step.specs.declared.Controller.{Controller}
use Rattle.step.specs.Set.{◌⟨pointer≔◌⟩}

-- The pointer keeps bits 1 to 6 of the word written.
abbrev pub pointed : ℕ → Controller → Controller
pointed w u = u ⟨pointer≔ kept_pointer w ⟩
