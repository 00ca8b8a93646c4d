use Rattle.std.proofs.Common.{length, drop, ◌++◌, Ok, ap, ◌∙◌, length-take-le, arith}
use Rattle.bundle.specs.Verdicts.{verdict, some_long}
use Rattle.bundle.proofs.Messages.{short_there}
use Rattle.bundle.proofs.Listing.{front_more, front_all, counted_all, not_long}
use Rattle.bundle.proofs.judging.judge.Goals as goal

pub verdict-requires : goal.verdict-requires
verdict-requires g c =
    let es = g.E.Entries.entries c.args.entries.now in
    let e = rw (c.unwrap.ensures) at c.entry.ensures in
    short_there es _ _ e.0 e.1 (not_long c.messages_fit.result (some_long es) c.if-not-messages_fit.false c.messages_fit.ensures)

pub loop-place-preserved : goal.loop-place-preserved
loop-place-preserved g c =
    let es = g.E.Entries.entries c.args.entries.now in
    let e = rw (c.unwrap.ensures) at c.entry.ensures in
    front_more (verdict (g.V.Verifier.judging c.args.verifier.now)) es c.loop-place.place _ c.loop-place.slot-items c.verdict.result e.0 (omega arith) e.1 c.verdict.ensures c.loop-place.invariant

pub returns : goal.returns
returns g c =
    let es = g.E.Entries.entries c.args.entries.now in
    let s = not_long c.messages_fit.result (some_long es) c.if-not-messages_fit.false c.messages_fit.ensures in
    let n = c.len-count.ensures in
    let l = length-take-le c.len-count.result c.args.verdicts.now (omega arith) in
    record {
      answer = ap Ok n ∙ counted_all es (length c.args.verdicts.now) s (omega arith) (omega arith);
      listing = (λ i. front_all (verdict (g.V.Verifier.judging c.args.verifier.now)) es c.loop-place.place c.loop-place.slot-items (omega arith) (omega arith) c.loop-place.invariant i ++ drop (n i) c.args.verdicts.now);
    }
