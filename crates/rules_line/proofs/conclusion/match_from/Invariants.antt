use Rattle.std.proofs.Common.{◌+◌, ◌≤◌}
use Rattle.rules_line.proofs.ConclusionBranches.{Rest}
use Rattle.rules_line.specs.Conclusion.{match_from}
use Rattle.rules_line.proofs.conclusion.match_from.Given as goal

-- what is left is the match of the premises from premise k on
abbrev pub invariant-loop-k : goal.invariant-loop-k
invariant-loop-k l =
    Rest l.image l.templates l.thread l.point l.premises (l.fn.j + l.fn.left)
    (match_from l.image l.templates l.thread l.point l.premises l.fn.left l.fn.i l.fn.forms l.fn.j l.fn.bind)
    l.m.tpl l.rest l.k l.m.bind
