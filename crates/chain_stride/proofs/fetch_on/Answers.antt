use Rattle.chain_stride.proofs.CodeLaws.{goes_more, goes_complete}
use Rattle.chain_stride.proofs.fetch_on.Goals as goal

pub loop-going-preserved-in-Some : goal.loop-going-preserved-in-Some
loop-going-preserved-in-Some c =
    goes_more _ _ _ _ _ _ _ _ _ _ c.loop-going.invariant _ _ _ _ c.loop-going-test.true c.number.ensures c.read_memory-word.ensures c.fetch-l.ensures c.in-Some.is

pub loop-going-preserved : goal.loop-going-preserved
loop-going-preserved c =
    goes_complete _ _ _ _ _ _ _ _ _ _ c.loop-going.invariant _ _ _ c.loop-going-test.true c.number.ensures c.read_memory-word.ensures c.fetch-l.ensures c.in-None.is
