use Rattle.tables_columns.proofs.GatherBranches.{put_zero, put_over, put_there}
use Rattle.tables_columns.proofs.gather.add_leaf.Goals.{then-left-eq0-via-then-left-eq0, then-left-eq0-via-else-left-eq0+then-n-gt-COUNT, then-left-eq0-via-else-left-eq0+else-n-gt-COUNT+then-slot_within-n}
use Rattle.tables_columns.proofs.gather.add_leaf.Goals as goal

pub returns-then-left-eq0-clause-slots_after : goal.returns-then-left-eq0-clause-slots_after
returns-then-left-eq0-clause-slots_after c =
    elim c.then-left-eq0.branch [
      | then-left-eq0-via-then-left-eq0 w ↦ put_zero _ _ _ _ _ w.if-left-eq0.true
      | then-left-eq0-via-else-left-eq0+then-n-gt-COUNT w ↦ put_over _ _ _ _ _ w.if-left-eq0.false w.if-n-gt-COUNT.true
      | then-left-eq0-via-else-left-eq0+else-n-gt-COUNT+then-slot_within-n w ↦
          put_there _ _ _ _ _ _ w.if-left-eq0.false w.if-n-gt-COUNT.false w.slot_within.ensures w.if-slot_within-n.true
    ]
