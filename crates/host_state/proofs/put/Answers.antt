use Rattle.std.proofs.Common.{◌∙◌, sym, arith}
use Rattle.host_state.proofs.Laws.{put_on, put_done}
use Rattle.host_state.proofs.put.Goals as goal

pub loop-k-preserved : goal.loop-k-preserved
loop-k-preserved c =
    let s = c.args in
    let l = c.loop-k in
    (omega arith, put_on s.at l.k s.words.now l.w (omega arith) ∙ l.invariant.1)

pub returns : goal.returns
returns c =
    let s = c.args in
    let l = c.loop-k in
    sym (put_done s.at l.k s.words.now l.w (omega arith)) ∙ l.invariant.1
