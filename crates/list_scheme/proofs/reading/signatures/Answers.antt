use Rattle.std.proofs.Common.{◌≡◌, ◌≤◌, [], ◌∷◌, ◌++◌, map, take, length, ap, ◌∙◌, arith}
use Rattle.std.proofs.lemmas.Grind.{common_steps}
use Rattle.std.proofs.lemmas.List.{map_push}
use Rattle.buffers.specs.Items.{items}
use Rattle.keys.specs.Signed.{signed}
use Rattle.list_scheme.proofs.Listing.{ongoing_more, ongoing_short, ongoing_all}
use Rattle.list_scheme.proofs.reading.signatures.Goals as goal

pub returns-in_err-bytes-clause-read : goal.returns-in_err-bytes-clause-read
returns-in_err-bytes-clause-read c = grind (arith, common_steps, ongoing_short)

pub loop-preserved : goal.loop-preserved
loop-preserved c =
    let w : c.args.width ≤ length c.loop.rest.bytes.now = grind (arith, common_steps) in
    let s : signed c.new-in-loop.result ≡ take c.args.width c.loop.rest.bytes.now = grind (arith, common_steps) in
    let p : items c.push.new.self ≡ items c.loop.list ++ c.new-in-loop.result ∷ [] = grind (arith, common_steps) in
    ongoing_more _ _ _ _ c.loop.counter c.loop.rest.place c.loop.rest.bytes.now (map signed (items c.loop.list)) c.loop.invariant _ _ _ c.loop-test.true w
    (grind (arith, common_steps)) (grind (arith, common_steps))
    (ap (map signed) p ∙ map_push signed (items c.loop.list) c.new-in-loop.result ∙ ap (λ z. map signed (items c.loop.list) ++ z ∷ []) s)

pub returns-clause-read : goal.returns-clause-read
returns-clause-read c = grind (arith, common_steps, ongoing_all)
