use Rattle.unit_accesses.proofs.CodeLaws.{search_made}
use Rattle.unit_accesses.proofs.search_source.Goals as goal

pub returns : goal.returns
returns c = let a = c.args in search_made a.flip a.s a.w _ _ _ _ _ _ _ c.source.ensures c.read_on-got.ensures c.destination.ensures c.next_set.ensures c.count_changes.ensures
