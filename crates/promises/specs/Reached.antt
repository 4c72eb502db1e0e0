-- Promise D1d: every state that calls reach from a fresh controller is well formed. Assumes nothing.
use Rattle.std.specs.Prelude.{List, [], ◌∷◌}
use Rattle.space.specs.Space.{Spaces}
use Rattle.step.specs.declared.Controller.{Controller}
use Rattle.call_reset.specs.Reset.{fresh_of}
use Rattle.promises.specs.Calls.{Call, call}
use Rattle.promises.specs.WellFormed.{WellFormed}

-- The calls of a list, one after the other, each over the spaces that are lent to it.
unfoldable pub after_calls : List (Call × Spaces) → Controller → Controller
after_calls [] u = u
after_calls (c ∷ cs) u = after_calls cs (call c.0 (record { controller = u; spaces = c.1 })).after.controller

abbrev pub ReachedWell : Type 0
ReachedWell = (cs : List (Call × Spaces)) → WellFormed (after_calls cs fresh_of)
