-- The record with one field anew, for each field of each record. Generated from src/.
use Rattle.std.specs.Prelude.{ℕ}
use Rattle.step.specs.declared.Answer.{Answer}
use Rattle.channel.specs.declared.Channel.{Channel}
use Rattle.step_bus.specs.declared.Control.{Control}
use Rattle.step.specs.declared.Controller.{Controller}
use Rattle.step.specs.declared.Done.{Done}

infixl 90 ◌⟨pointer≔◌⟩
infixl 90 ◌⟨master≔◌⟩
infixl 90 ◌⟨control≔◌⟩
infixl 90 ◌⟨one≔◌⟩
infixl 90 ◌⟨two≔◌⟩
infixl 90 ◌⟨state≔◌⟩
infixl 90 ◌⟨answer≔◌⟩
abbrev pub ◌⟨pointer≔◌⟩ : Controller → ℕ → Controller
◌⟨pointer≔◌⟩ x v = record { pointer = v; master = x.master; control = x.control; one = x.one; two = x.two }

abbrev pub ◌⟨master≔◌⟩ : Controller → ℕ → Controller
◌⟨master≔◌⟩ x v = record { pointer = x.pointer; master = v; control = x.control; one = x.one; two = x.two }

abbrev pub ◌⟨control≔◌⟩ : Controller → Control → Controller
◌⟨control≔◌⟩ x v = record { pointer = x.pointer; master = x.master; control = v; one = x.one; two = x.two }

abbrev pub ◌⟨one≔◌⟩ : Controller → Channel → Controller
◌⟨one≔◌⟩ x v = record { pointer = x.pointer; master = x.master; control = x.control; one = v; two = x.two }

abbrev pub ◌⟨two≔◌⟩ : Controller → Channel → Controller
◌⟨two≔◌⟩ x v = record { pointer = x.pointer; master = x.master; control = x.control; one = x.one; two = v }

abbrev pub ◌⟨state≔◌⟩ : Done Answer → Controller → Done Answer
◌⟨state≔◌⟩ x v = record { state = v; answer = x.answer }

abbrev pub ◌⟨answer≔◌⟩ : Done Answer → Answer → Done Answer
◌⟨answer≔◌⟩ x v = record { state = x.state; answer = v }
