use Rattle.rolls.specs.Signers.{bitmap}
use Rattle.rolls.proofs.Writings.{put_written}
use Rattle.rolls.proofs.Placing.{ok_put}
use Rattle.rolls.proofs.signers.Signers.write.Goals as goal

pub returns-clause-written : goal.returns-clause-written
returns-clause-written c =
    put_written (bitmap c.args.self.now) c.args.out.now c.put.new.out c.bytes.result c.size-size.result c.put.result c.ok_or.result
    c.args.self.now.within c.size-size.ensures c.bytes.ensures c.put.ensures c.ok_or.ensures.value

pub returns-clause-laid_out : goal.returns-clause-laid_out
returns-clause-laid_out c = ok_put c.args.self.now c.args.out.now c.put.new.out c.ok_or.result (returns-clause-written c)
