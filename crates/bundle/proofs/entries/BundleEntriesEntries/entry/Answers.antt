use Rattle.std.proofs.Common.{arith, subst}
use Rattle.std.proofs.lemmas.Grind.{common_steps}
use Rattle.schemes.specs.Judging.{At}
use Rattle.bundle.specs.Places.{held_by}
use Rattle.bundle.proofs.Looking.{seen_at}
use Rattle.bundle.proofs.entries.BundleEntriesEntries.entry.Goals as goal

pub returns : goal.returns
returns g c =
    let j = g.V.Verifier.judging c.args.self.now.verifier.now in
    let s = seen_at j (held_by c.args.self.now.bundle.now) c.args.place c.raw.result c.raw.ensures in
    subst (At _ _) (grind (arith, common_steps)) s
