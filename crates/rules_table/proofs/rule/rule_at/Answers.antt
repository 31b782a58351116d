use Rattle.rules_table.proofs.TableRows.{row_listed}
use Rattle.rules_table.proofs.rule.rule_at.Goals as goal

pub returns-then-number-lt-COUNT : goal.returns-then-number-lt-COUNT
returns-then-number-lt-COUNT c = rw c.from.ensures (row_listed _ _ c.if-number-lt-COUNT.true)
