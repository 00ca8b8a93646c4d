use Rattle.std.proofs.Common.{arith}
use Rattle.std.proofs.lemmas.Grind.{common_steps}
use Rattle.bundle.proofs.Fields.{field_short, field_large, cut_behind, whole_behind}
use Rattle.bundle.proofs.reader.field.Goals as goal

pub returns-in_err-long-clause-field : goal.returns-in_err-long-clause-field
returns-in_err-long-clause-field c = grind (arith, common_steps, field_short, field_large)

pub returns-clause-field : goal.returns-clause-field
returns-clause-field c =
    let p = c.in_ok-long.ensures in
    let cut = cut_behind c.args.limit c.args.rest.now.place _ _ _ p.left p.limited.0 p.limited.1 in
    let whole = whole_behind c.args.limit c.args.rest.now.place _ _ _ p.left p.limited.0 p.limited.1 in
    grind (arith, common_steps, cut, whole)
