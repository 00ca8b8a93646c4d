use Rattle.std.proofs.Common.{◌∙◌}
use Rattle.std.specs.Slice.Iter.{chunks_rest}
use Rattle.table.proofs.Laws.{one_more, no_room}
use Rattle.table.proofs.words.put_hex.Goals as goal

pub loop-pair-preserved : goal.loop-pair-preserved
loop-pair-preserved g c = record {
  pairs = c.in-Some.ensures.steps.0 ∙ c.loop-pair.invariant.pairs;
  all = one_more _ c.in-Some.pair.now (chunks_rest c.next.new.self) _ _ _ _ c.in-Some.ensures.steps.1.0 c.in_ok-byte.ensures c.in_ok-push.ensures c.loop-pair.invariant.all;
}

pub returns-in_err-push : goal.returns-in_err-push
returns-in_err-push g c =
    let unfit = no_room _ c.in-Some.pair.now (chunks_rest c.next.new.self) _ _ _ _ c.in-Some.ensures.steps.1.0 c.in_ok-byte.ensures c.in_err-push.ensures.0 c.loop-pair.invariant.all in
    rw c.from_residual-in_err-push.ensures unfit
