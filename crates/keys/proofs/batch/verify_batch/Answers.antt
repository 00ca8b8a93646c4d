use Rattle.std.proofs.Common.{length, refl, rules, arith}
use Rattle.std.proofs.lemmas.Iterator.{cases_from_all, YieldsList-from_range}
use Rattle.keys.proofs.Batches.{Good, Bad, judged_all}
use Rattle.keys.proofs.batch.verify_batch.Goals as goal

pub returns : goal.returns
returns g c =
    let m = g.K.KeyCheck.meaning in
    let es = g.R.BatchReader.entries c.args.reader.now in
    let h = cases_from_all _ _ _ (Good m es) (Bad m es) c.all.ensures.ran (YieldsList-from_range 0 _ (length es) refl (omega arith)) (λ x q k. search rules) (λ x q k. search rules) in
    judged_all m es _ h
