use Rattle.std.proofs.Common.{rules}
use Rattle.verdict.proofs.Lines.{told_failed, told_line, line_told}
use Rattle.verdict.proofs.line.answer.Goals as goal

-- a read failed
pub returns-in_err-filled-clause-told : goal.returns-in_err-filled-clause-told
returns-in_err-filled-clause-told g c = told_failed _ _ _ _ c.fill.ensures c.in_err-filled.was (search rules)

-- what came is judged
pub returns-clause-told : goal.returns-clause-told
returns-clause-told g c = told_line _ _ _ _ c.fill.ensures c.in_ok-filled.was c.line_for.ensures

pub returns-clause-line : goal.returns-clause-line
returns-clause-line g c = (line_told _ _ _ _ c.fill.ensures c.in_ok-filled.was c.line_for.ensures.0, c.line_for.ensures.1)
