use Rattle.std.proofs.Common.{arith, refl, ◌+◌}
use Rattle.tables_digits.proofs.RunBranches.{runs_next, runs_more, runs_end}
use Rattle.tables_digits.proofs.slot_column.set_runs.Goals as goal

pub returns-2 : goal.returns-2
returns-2 c =
    let i = c.loop-value.invariant in
    let e = c.min-count.ensures in
    runs_end _ _ _ _ _ _ (c.loop-value.value + 1) _ (runs_next c.args.lasts.now c.args.j _ _ c.loop-value.out _ _ _ i.0 e)
    (omega arith) (omega arith) refl c.requires.j_bound.1
    (runs_more _ _ _ _ _ _ _ _ i.0 e _ _ c.requires.j_bound.0 c.requires.j_bound.1 c.loop-value-test.true refl i.1 c.set_run.ensures)
