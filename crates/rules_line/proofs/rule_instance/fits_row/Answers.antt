use Rattle.rules_line.proofs.InstanceBranches.{row_rest}
use Rattle.rules_line.proofs.rule_instance.fits_row.Goals as goal

pub returns : goal.returns
returns c =
    row_rest _ _ _ _ _ _ _ _ _ c.bytes-bytes.ensures c.rule_at-rule.ensures c.conclusion_by-c.ensures c.match_line.ensures _ c.in-Some.is _
    c.match_premises.ensures _ _ c.in-Some-match_premises.is c.fits_rest.ensures
