use Rattle.unit_accesses.proofs.CodeLaws.{bytes_made}
use Rattle.unit_accesses.proofs.bytes_to_word.Goals as goal

pub returns : goal.returns
returns c = let a = c.args in bytes_made a.s _ _ _ _ _ _ _ _ _ _ _ c.read_on-first.ensures c.read_on-second.ensures c.is_high_first.ensures c.join-datum.ensures c.write_on-to.ensures c.next_set.ensures c.count_changes.ensures
