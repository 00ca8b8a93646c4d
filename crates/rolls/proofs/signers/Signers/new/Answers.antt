use Rattle.std.proofs.Common.{get_or, sym, refl, ◌∙◌}
use Rattle.rolls.specs.Gathered.{unknown, twice}
use Rattle.rolls.proofs.Gathering.{front-none, front_more}
use Rattle.rolls.proofs.signers.Signers.new.Goals as goal

pub loop-index-init : goal.loop-index-init
loop-index-init c = front-none c.args.length c.args.members.now

pub returns-then-index-length : goal.returns-then-index-length
returns-then-index-length c =
    unknown c.loop-index.index-index c.if-length-gt-MAX_MEMBERS.false c.loop-index-test.true c.loop-index.invariant.each c.if-index-length.true refl

pub returns-then-contains : goal.returns-then-contains
returns-then-contains c =
    twice c.loop-index.index-index c.if-length-gt-MAX_MEMBERS.false c.loop-index-test.true c.loop-index.invariant.each c.if-index-length.false
    (sym (c.loop-index.invariant.bits (get_or c.args.members.now c.loop-index.index-index 0)) ∙ sym c.if-contains.ensures) refl

pub loop-index-preserved : goal.loop-index-preserved
loop-index-preserved c =
    front_more c.args.length c.args.members.now c.loop-index.index-index _ c.if-length-gt-MAX_MEMBERS.false c.loop-index-test.true
    c.if-index-length.false (sym c.if-contains.ensures) c.loop-index.invariant
