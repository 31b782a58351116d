use Rattle.std.proofs.Common.{rules}
use Rattle.verdict.proofs.Lines.{line_branches}
use Rattle.verdict.proofs.line.line_for.Goals as goal

pub returns-in-Ended : goal.returns-in-Ended
returns-in-Ended c = search (line_branches, rules)
