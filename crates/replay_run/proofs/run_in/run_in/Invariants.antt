-- `run_in`: the turns that are left give what the run from the start gives.
use Rattle.replay_run.specs.Course.{told}
use Rattle.replay_run.proofs.RunTurns.{OnTheWay}
use Rattle.replay_run.proofs.run_in.run_in.Given as goal

abbrev pub invariant-loop-course : goal.invariant-loop-course
invariant-loop-course l = OnTheWay l.fn.image l.fn.trace (l.fn.table, told l.fn.start) (l.table, told l.course)

abbrev pub decreases-loop-course : goal.decreases-loop-course
decreases-loop-course l = l.course.left
