use Rattle.std.proofs.Common.{◌≡◌, map, take}
use Rattle.bundle.specs.Verdicts.{verdict}
use Rattle.bundle.proofs.judging.judge.Given as goal

abbrev pub invariant-loop-place : goal.invariant-loop-place
invariant-loop-place g l = take l.place l.slot-items ≡ map (verdict (g.V.Verifier.judging l.verifier)) (take l.place (g.E.Entries.entries l.entries))
