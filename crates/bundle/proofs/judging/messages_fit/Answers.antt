use Rattle.std.proofs.Common.{length, refl, arith}
use Rattle.std.proofs.lemmas.Iterator.{cases_from_all, YieldsList-from_range}
use Rattle.std.proofs.lemmas.Grind.{common_steps}
use Rattle.bundle.proofs.Messages.{Fits, Long, all_fit}
use Rattle.bundle.proofs.judging.messages_fit.Goals as goal

pub returns : goal.returns
returns g c =
    let es = g.E.Entries.entries c.args.entries.now in
    let n = c.len.ensures in
    all_fit es c.all.result
    (cases_from_all _ _ _ (Fits es) (Long es) c.all.ensures.ran (YieldsList-from_range 0 c.len.result (length es) refl (omega (arith, n)))
    (λ x q k. grind (arith, common_steps, k)) (λ x q k. grind (arith, common_steps, k)))
