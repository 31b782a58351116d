-- Obligations in order, each against the line that it names. s: the image; z: its sizes; m: the marks of justified lines.
use Rattle.std.specs.Prelude.{Result, Ok, Err, List, [], ◌∷◌, ℕ, ◌+◌}
use Rattle.logic.specs.Obligations as Logic
use Rattle.logic_outline.specs.Verdict as Verdict
use Rattle.logic_outline.specs.Verdict.{Judgement.met, Judgement.failed}
use Rattle.image_frames.specs.Records.{bodies}
use Rattle.image_header.specs.declared.sizes.Sizes.{Sizes}
use Rattle.image_meaning.specs.Image.{named_line}
use Rattle.rules_justified.specs.declared.marks.Marks.{Marks}
use Rattle.verdict_record.specs.declared.obligation.Obligation.{Obligation}
use Rattle.verdict_record.specs.ObligationPlace.{obligation}
use Rattle.obligations.specs.declared.concludes.Unmet.{Unmet}
use Rattle.obligations.specs.declared.judgement.Failure.{Failure}
use Rattle.obligations.specs.Unmet.{unmet_by}
use Rattle.obligations.specs.Concludes.{code_at}

-- how many obligations are met, or the first that is not
abbrev pub Judgement : Type 0
Judgement = Result ℕ Failure

-- the judgement on an obligation with number c, by what is wrong with the line that it names
abbrev pub judged_by : Obligation → ℕ → ℕ → Result (Unit {0}) Unmet → Judgement
judged_by o n c (Ok x) = Ok (c + 1)
judged_by o n c (Err e) = Err (record { what = o; unmet = e; line = n; count = c })

module _ (s : List ℕ) (z : Sizes) (m : Marks) where
  -- the judgement on obligation o, with number c
  unfoldable pub judge_one : Obligation → ℕ → Judgement
  judge_one o c = judged_by o (named_line z (bodies s) c) c (code_at s z m o (named_line z (bodies s) c))

  -- the judgement so far and one obligation more; the first that is not met stays
  unfoldable pub next : Obligation → Judgement → Judgement
  next o (Ok c) = judge_one o c
  next o (Err f) = Err f

  -- the judgement after all of the obligations
  unfoldable pub judged : List Logic.Obligation → Judgement → Judgement
  judged [] r = r
  judged (o ∷ os) r = judged os (next (obligation o) r)

  -- the judgement on obligations of which the first has number c
  abbrev pub judge_at : List Logic.Obligation → ℕ → Judgement
  judge_at os c = judged os (Ok c)

-- the logic's judgement as the code's
abbrev pub to_judgement : Verdict.Judgement → Judgement
to_judgement (met n) = Ok n
to_judgement (failed e o n c) = Err (record { what = obligation o; unmet = unmet_by e; line = n; count = c })
