use Rattle.std.proofs.Common.{◌≤◌, length, arith, rules, sym, ap, ◌∙◌}
use Rattle.std.proofs.iter.Serving.{serving}
use Rattle.std.proofs.lemmas.List.{length-map}
use Rattle.std.proofs.lemmas.Iterator.{YieldsList-from_slice, YieldsList-from_zip}
use Rattle.std.proofs.lemmas.Iterator.Consumers.{YieldsList-at, YieldsList-from_filter, YieldsList-from_enumerate}
use Rattle.std.proofs.lemmas.Iterator.Search.{all_from_yields_List}
use Rattle.buffers.specs.Items.{items}
use Rattle.rolls.specs.Bitmap.{has}
use Rattle.rolls.specs.Roll.{keys_of}
use Rattle.list_scheme.specs.Certificate.{parts}
use Rattle.list_scheme.proofs.Signing.{Fine, good_all, fits_parts}
use Rattle.list_scheme.proofs.scheme.ListScheme.all_good.Goals as goal

pub all-requires-clause-can : goal.all-requires-clause-can
all-requires-clause-can g c =
    let few : length c.keys.result.now ≤ 64 = omega (arith, sym (length-map c.keys.result.now g.K.KeyCheck.key) ∙ ap length c.keys.ensures, c.args.self.now.roll.enrolled.few) in
    grind serving

pub returns : goal.returns
returns g c =
    let bits = c.args.certificate.now.signers.bits in
    let e = all_from_yields_List (Fine g.K.KeyCheck.meaning g.K.KeyCheck.key c.args.payload.now bits) c.all.new.self _ _ c.all.ensures.ran
    (YieldsList-from_zip {s = c.zip.result}
    (YieldsList-at c.zip.ensures.first (YieldsList-from_filter _ (λ x. has bits x.0) (YieldsList-at c.filter.ensures.source (YieldsList-from_enumerate (YieldsList-from_slice c.keys.result.now cc) c.enumerate.ensures.count)) c.filter.ensures.closure (λ x b q k. search rules)))
    (YieldsList-from_slice (items c.args.certificate.now.signatures) cc))
    (λ x b q k. search rules) in
    let x = c.args.certificate.now in
    let f = fits_parts (keys_of g.K.KeyCheck.key c.args.self.now.roll) c.args.self.now.faults (parts x) c.requires in
    e ∙ good_all g.K.KeyCheck.meaning g.K.KeyCheck.key c.args.payload.now bits (keys_of g.K.KeyCheck.key c.args.self.now.roll) x.signers.len c.keys.result.now (items x.signatures) c.keys.ensures f.0 f.1
