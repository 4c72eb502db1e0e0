-- The record with one field anew, for each field of each record. Generated from src/.
use Rattle.std.specs.Prelude.{Bool, Option}
use Rattle.step_bus.specs.declared.Control.{Control}
use Rattle.word_reload.specs.declared.Stage.{Stage}
use Rattle.port.specs.declared.Which.{Which}

infixl 90 ◌⟨chain≔◌⟩
infixl 90 ◌⟨bus≔◌⟩
infixl 90 ◌⟨note≔◌⟩
infixl 90 ◌⟨served≔◌⟩
abbrev pub ◌⟨chain≔◌⟩ : Control → Option (Which × Stage) → Control
◌⟨chain≔◌⟩ x v = record { chain = v; bus = x.bus; note = x.note; served = x.served }

abbrev pub ◌⟨bus≔◌⟩ : Control → Option Which → Control
◌⟨bus≔◌⟩ x v = record { chain = x.chain; bus = v; note = x.note; served = x.served }

abbrev pub ◌⟨note≔◌⟩ : Control → Bool → Control
◌⟨note≔◌⟩ x v = record { chain = x.chain; bus = x.bus; note = v; served = x.served }

abbrev pub ◌⟨served≔◌⟩ : Control → Option Which → Control
◌⟨served≔◌⟩ x v = record { chain = x.chain; bus = x.bus; note = x.note; served = v }
