use Rattle.std.proofs.Common.{◌≡◌, true, false, rules, tests}
use Rattle.std.proofs.lemmas.Iterator.{first_from_Range}
use Rattle.rolls.specs.Bitmap.{has}
use Rattle.rolls.proofs.BitLaws.{first_set}
use Rattle.rolls.proofs.signers.Signers.next_member.Goals as goal

pub returns : goal.returns
returns c =
    let bits = c.args.self.now.bits in
    first_set c.args.self.now.len bits c.args.from c.find.result c.args.self.now.fits
    (first_from_Range _ _ _ _ (λ i. has bits i ≡ true) (λ i. has bits i ≡ false) c.find.ensures.ran (λ x q k. search (rules, tests)) (λ x q k. search (rules, tests)))
