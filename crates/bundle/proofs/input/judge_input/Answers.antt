use Rattle.std.proofs.Common.{sym, ap, ◌∙◌}
use Rattle.bundle.specs.Layout.{bundle}
use Rattle.bundle.specs.Places.{held_by}
use Rattle.bundle.proofs.Concluding.{concluded}
use Rattle.bundle.proofs.input.judge_input.Goals as goal

pub returns : goal.returns
returns g c =
    let a = c.in_ok-admit.ensures in
    let b = c.in_ok-bundle.bundle in
    concluded _ _ (held_by b) _ _ _ a.0 (ap bundle (sym a.1) ∙ sym c.in_ok-bundle.ensures.entries) (rw (c.new.ensures.0, c.new.ensures.1) at c.judge.ensures)
