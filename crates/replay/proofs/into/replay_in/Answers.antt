-- `replay_in`: the run from the start that was opened is the replay.
use Rattle.std.proofs.Common.{◌≡◌, ◌∙◌, ◌≤◌, List, ℕ, ap, length}
use Rattle.limits.proofs.BranchTests.{tests}
use Rattle.replay_run.specs.Course.{told}
use Rattle.replay_run.specs.RunIn.{run_to}
use Rattle.replay_run.proofs.IntoAgrees.{run_into}
use Rattle.replay.proofs.into.replay_in.Goals as goal

pub returns : goal.returns
returns c =
    let short : length c.args.trace.now ≤ 18446744073709551615 = search tests in
    let run : (c.run_in-end.new.table, told c.run_in-end.result)
    ≡ run_to c.args.image.now c.args.trace.now (told c.open_replay-start.result).left (c.args.table.now, told c.open_replay-start.result)
    = c.run_in-end.ensures
    ∙ ap
    (λ (s : List ℕ). run_to s c.args.trace.now (told c.open_replay-start.result).left (c.args.table.now, told c.open_replay-start.result))
    c.new-image.ensures in
    run_into c.args.image.now c.args.trace.now c.args.given.now c.args.table.now short (told c.open_replay-start.result)
    (told c.run_in-end.result) c.answer_by.result c.run_in-end.new.table c.open_replay-start.ensures.0 run c.answer_by.ensures
