use Rattle.unit_accesses.proofs.CodeLaws.{word_made}
use Rattle.unit_accesses.proofs.word_to_bytes.Goals as goal

pub returns : goal.returns
returns c = let a = c.args in word_made a.s _ _ _ _ _ _ _ _ _ _ _ _ c.is_high_first-high.ensures c.read_on-got.ensures c.first_half.ensures c.write_on-half.ensures c.second_half.ensures c.write_on-to.ensures c.next_set.ensures c.count_changes.ensures
