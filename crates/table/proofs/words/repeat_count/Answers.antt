use Rattle.std.proofs.Common.{rules}
use Rattle.table.proofs.Counts.{counted_is}
use Rattle.table.proofs.words.repeat_count.Goals as goal

pub returns-clause-value : goal.returns-clause-value
returns-clause-value c = counted_is c.args.text.now c.filter.result (search rules)
