use Rattle.std.proofs.Common.{◌+◌, Err, sym, ap, ◌∙◌, arith}
use Rattle.std.proofs.lemmas.Grind.{common_steps}
use Rattle.std.proofs.lemmas.List.{map_push}
use Rattle.std.proofs.lemmas.Option.{MatchOption-at_some}
use Rattle.std.proofs.lemmas.Result.{err_from_is_err_and}
use Rattle.refusals.specs.declared.fault.FaultKind.TheVariants.{ExtraData}
use Rattle.bundle.specs.Layout.{fault}
use Rattle.bundle.specs.Raws.{raw_of}
use Rattle.bundle.proofs.Reading.{bundle_short, bundle_large, reading_none, reading_more, reading_fault, reading_extra, reading_all}
use Rattle.bundle.proofs.Written.{reads_back}
use Rattle.bundle.proofs.layout.Bundle.read.Goals as goal

pub returns-in_err-count-clause-entries : goal.returns-in_err-count-clause-entries
returns-in_err-count-clause-entries c = grind (arith, common_steps, bundle_short, bundle_large)

pub loop-init : goal.loop-init
loop-init c =
    let p = c.in_ok-count.ensures in
    rw c.new-entries.ensures (reading_none _ _ _ _ (sym c.new-rest.ensures.bytes ∙ p.left) p.limited.0 (p.place ∙ ap (λ n. n + 2) c.new-rest.ensures.place))

pub loop-preserved : goal.loop-preserved
loop-preserved c =
    let e = c.in_ok-entry.ensures in
    let p = MatchOption-at_some _ _ _ c.unwrap.ensures c.push.ensures in
    rw (p, map_push) (reading_more _ _ _ _ _ _ _ _ (raw_of c.in_ok-entry.field-0) c.loop.invariant c.loop-test.true e.entry e.left e.place e.short)

pub returns-in_err-entry : goal.returns-in_err-entry
returns-in_err-entry c =
    let p = err_from_is_err_and c.from_residual-in_err-entry.result c.from_residual-in_err-entry.ensures.1 in
    let e = reading_fault _ _ _ _ _ _ _ c.loop.invariant c.loop-test.true c.in_err-entry.ensures.entry in
    rw (p.1, p.2) (record { entries = e; written = tt; reads_back = reads_back _ _ e })

pub returns-then-not-is_empty : goal.returns-then-not-is_empty
returns-then-not-is_empty c =
    let e = ap Err (c.fault.ensures ∙ ap (fault ExtraData) c.place.ensures) ∙ reading_extra _ _ _ _ _ _ c.loop.invariant c.loop-test.false (cc) in
    record { entries = e; written = tt; reads_back = reads_back _ _ e }

pub returns-clause-entries : goal.returns-clause-entries
returns-clause-entries c = reading_all _ _ _ _ _ _ c.loop.invariant c.loop-test.false (cc)

pub returns-clause-reads_back : goal.returns-clause-reads_back
returns-clause-reads_back c = reads_back _ _ (returns-clause-entries c)
