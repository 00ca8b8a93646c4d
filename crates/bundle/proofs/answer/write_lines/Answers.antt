use Rattle.std.proofs.Common.{sym, refl}
use Rattle.std.proofs.Output.{has_written_append, has_written_of_eq}
use Rattle.bundle.specs.declared.verdict.Verdict.TheVariants.{Accepted}
use Rattle.bundle.proofs.Printing.{lines_more}
use Rattle.bundle.proofs.answer.write_lines.Goals as goal

pub loop-number-preserved : goal.loop-number-preserved
loop-number-preserved g c plain =
    let before = c.loop-number.invariant plain in
    has_written_of_eq g.W.Write.write_str_gives _ _ _ _ (sym (lines_more c.args.verdicts.now c.loop-number.number Accepted c.loop-number-test.true))
    (has_written_append g.W.Write.write_str_gives _ _ _ _ _ before (c.in_ok-writeln.ensures.writes before.plain refl))
