use Rattle.std.proofs.Common.{refl}
use Rattle.std.proofs.lemmas.Option.{MatchOption-at_some}
use Rattle.rolls.proofs.Enrolling.{filled_more}
use Rattle.rolls.proofs.roll.Roll.new.Goals as goal

pub loop-index-preserved : goal.loop-index-preserved
loop-index-preserved g c =
    filled_more g.K.KeyCheck.meaning.is_key g.K.KeyCheck.key c.args.members.now c.loop-index.index _ c.loop-index.below _ _
    c.in_ok-key.key _ c.loop-index-test.true c.loop-index.invariant c.if-not-stands_above.ensures refl
    (g.K.KeyCheck.keyed c.in_ok-key.key) (MatchOption-at_some _ _ _ c.in_ok-key.ensures.ok_part c.from_bytes.ensures) (MatchOption-at_some _ _ _ c.unwrap.ensures c.push.ensures)
