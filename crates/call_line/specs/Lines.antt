-- Document 01, "Which step comes next": the request lines. Assumes nothing.
use Rattle.std.specs.Prelude.{ℕ, Bool, not, ◌&&◌, ◌||◌, Result, Ok, Err, ⊤}
use Rattle.refusal.specs.declared.Refusal.{Refusal}
use Rattle.port.specs.declared.Which.{Which}
use Rattle.port.specs.Ports.{channel_at}
use Rattle.channel.specs.declared.Channel.{Channel}
use Rattle.channel.specs.Set.{◌⟨line≔◌⟩}
use Rattle.step.specs.declared.Controller.{Controller}
use Rattle.step.specs.Controller.{at, with}
use Rattle.step.specs.declared.Done.{Done}

-- An inactive-to-active change is stored in every mode, masked or not.
unfoldable pub lined : Bool → Channel → Channel
lined active c = c ⟨line≔ record { active = active; change = c.line.change || (active && not c.line.active) } ⟩

-- 10: channel other than 1 or 2.
abbrev pub lined_by : Result Which Refusal → Bool → Controller → Done (Result ⊤ Refusal)
lined_by (Ok w) active u = record { state = with w (lined active (at w u)) u; answer = Ok tt }
lined_by (Err r) active u = record { state = u; answer = Err r }

unfoldable pub lined_at : ℕ → Bool → Controller → Done (Result ⊤ Refusal)
lined_at n active u = lined_by (channel_at n) active u
