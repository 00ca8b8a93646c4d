use Rattle.std.proofs.Common.{◌∙◌}
use Rattle.std.proofs.lemmas.Slice.Eq.{slice_eq-Decides}
use Rattle.std.proofs.lemmas.Bool.Decides.{Decides-eqb}
use Rattle.keys.proofs.Residues.{good_decided}
use Rattle.keys.proofs.residue.ResidueKeyKeyCheck.verify.Goals as goal

pub returns : goal.returns
returns c =
    good_decided c.args.self.now.value c.args.payload.now c.args.signature.now c.as_slice.result.now c.eq.result
    c.args.self.now.some c.args.self.now.below (c.as_slice.ensures ∙ c.product.ensures) (slice_eq-Decides Decides-eqb _ _ _ c.eq.ensures)
