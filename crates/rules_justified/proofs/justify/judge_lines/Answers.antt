use Rattle.std.proofs.Common.{arith}
use Rattle.rules_justified.proofs.JustifyBranches.{marks_none, marks_more, marks_all}
use Rattle.rules_justified.proofs.justify.judge_lines.Goals as goal

pub loop-n-init : goal.loop-n-init
loop-n-init c = (omega arith, marks_none _ _)

pub loop-n-preserved : goal.loop-n-preserved
loop-n-preserved c = (
  omega arith,
  marks_more _ _ _ _ _ _ _ _ c.all_templates-templates.ensures (omega arith) (omega arith) c.loop-n.invariant.1
      c.is_justified-justified.ensures c.set_mark.ensures,
)

pub returns : goal.returns
returns c = marks_all _ _ _ _ _ c.loop-n.invariant.1 (omega arith)

pub returns-2 : goal.returns-2
returns-2 c =
    marks_more _ _ _ _ _ _ _ _ c.all_templates-templates.ensures (omega arith) (omega arith) c.loop-n.invariant.1
    c.is_justified-justified.ensures c.set_mark.ensures
