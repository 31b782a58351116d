use Rattle.std.proofs.Common.{rules, arith, length-drop}
use Rattle.std.proofs.lemmas.List.{length-take}
use Rattle.tables_digits.proofs.RunBranches.{run_filled}
use Rattle.tables_digits.proofs.run.set_run.Goals as goal

pub returns : goal.returns
returns c =
    run_filled c.args.value _ _ _ _ _ _ c.requires (c.fill.ensures.after (search rules)) (simp (length-take, length-drop) (omega arith))
