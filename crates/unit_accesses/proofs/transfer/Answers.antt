use Rattle.unit_accesses.proofs.CodeLaws.{transfer_made}
use Rattle.unit_accesses.proofs.transfer.Goals as goal

pub returns : goal.returns
returns c = let a = c.args in transfer_made a.flip a.s a.w _ _ _ _ _ _ _ _ _ c.source.ensures c.read_on-got.ensures c.destination.ensures c.write_on-to.ensures c.next_set.ensures c.count_changes.ensures
