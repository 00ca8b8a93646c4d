use Rattle.std.proofs.Common.{arith}
use Rattle.std.proofs.lemmas.Grind.{common_steps}
use Rattle.bundle.specs.Places.{held_by}
use Rattle.bundle.proofs.Looking.{message_at}
use Rattle.bundle.proofs.entries.BundleEntriesEntries.message.Goals as goal

pub returns : goal.returns
returns g c = message_at (g.V.Verifier.judging c.args.self.now.verifier.now) (held_by c.args.self.now.bundle.now) c.args.place c.raw.result _ c.raw.ensures (grind (arith, common_steps))
