use Rattle.std.proofs.Common.{rules, ◌∙◌}
use Rattle.std.proofs.lemmas.List.{length-set}
use Rattle.console_line.proofs.Laws.{still_0}
use Rattle.console_line.proofs.poke_bytes.PokeBytes.push.Goals as goal

pub invariant_of-self : goal.invariant_of-self
invariant_of-self c = (search rules, length-set _ _ _ ∙ c.self.invariant.1, still_0 _ _ _ (search rules) c.self.invariant.2)
