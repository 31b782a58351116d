-- `run_in`: each turn is one of the run, and leaves less.
use Rattle.std.proofs.Common.{◌≡◌, ◌∙◌, ℕ, ap, arith, get_or}
use Rattle.replay_memory.specs.Write.{start_write}
use Rattle.replay_run.specs.NextTurn.{entry_of}
use Rattle.replay_run.specs.Course.{Course, told}
use Rattle.replay_run.proofs.RunTurns.{turn_made, turn_less, turn_later, way_done}
use Rattle.replay_run.proofs.run_in.run_in.Goals as goal

pub loop-course-smaller : goal.loop-course-smaller
loop-course-smaller c =
    let some : (told c.loop-course.course).left ≡ 0 → ⊥ = λ d. omega (arith, d) in
    omega (
      arith,
      ap (λ (a : Course). a.left) c.take_turn-after.ensures,
      turn_less (told c.loop-course.course) c.next_turn-turn.result c.read-picked.result some,
    )

pub loop-course-preserved : goal.loop-course-preserved
loop-course-preserved c =
    let picked : c.read-picked.result ≡ get_or c.loop-course.table (entry_of c.next_turn-turn.result) (start_write 0)
    = c.read-picked.ensures ∙ ap (λ (i : ℕ). get_or c.loop-course.table i c.start_write-none.result) c.entry.ensures ∙ ap (get_or c.loop-course.table (entry_of c.next_turn-turn.result)) c.start_write-none.ensures in
    turn_later c.args.image.now c.args.trace.now (c.args.table.now, told c.args.start) (c.loop-course.table, told c.loop-course.course)
    (c.insert.new.table, (told c.take_turn-after.result)) c.loop-course.invariant c.loop-course-test.true
    (turn_made c.args.image.now c.args.trace.now c.loop-course.table c.insert.new.table (told c.loop-course.course) (told c.take_turn-after.result)
    c.next_turn-turn.result c.read-picked.result c.next_turn-turn.ensures picked c.take_turn-after.ensures c.insert.ensures)

pub returns : goal.returns
returns c =
    way_done c.args.image.now c.args.trace.now (c.args.table.now, told c.args.start) (c.loop-course.table, told c.loop-course.course)
    c.loop-course.invariant (omega arith)
