use Rattle.std.proofs.Common.{arith}
use Rattle.std.proofs.lemmas.Grind.{common_steps}
use Rattle.list_scheme.proofs.RoundTrip.{ok_canonical, reads_back}
use Rattle.list_scheme.proofs.scheme.ListSchemeVerifier.read.Goals as goal

pub returns-clause-written : goal.returns-clause-written
returns-clause-written g c = ok_canonical g.K.KeyCheck.meaning.width c.args.bound c.args.bytes.now (λ i. (c.type_inv.bytes i).fits) c.read.result (grind (arith, common_steps))

pub returns-clause-reads_back : goal.returns-clause-reads_back
returns-clause-reads_back g c p h e = grind (arith, common_steps, reads_back g.K.KeyCheck.meaning.width c.args.bound p h)
