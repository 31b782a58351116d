-- Whether a line concludes the goal of an obligation, and what is wrong with it. s: the image; z: its sizes.
use Rattle.std.specs.Prelude.{Bool, false, cond, Result, Ok, Err, is_some, List, ℕ, eqb}
use Rattle.image_frames.specs.Records.{bodies}
use Rattle.image_header.specs.declared.sizes.Sizes.{Sizes}
use Rattle.image_meaning.specs.Image.{claim_body}
use Rattle.image_access.specs.AccessPlaces.{claimed_in}
use Rattle.rules_line.specs.Conclusion.{match_conclusion}
use Rattle.rules_line.specs.LineConclusion.{conclusion_of}
use Rattle.rules_justified.specs.Marks.{is_marked}
use Rattle.rules_justified.specs.declared.marks.Marks.{Marks}
use Rattle.verdict_record.specs.declared.obligation.Obligation.{Obligation}
use Rattle.obligations.specs.declared.concludes.Unmet.{Unmet}
use Rattle.obligations.specs.declared.concludes.Unmet.TheVariants.{NoLine, SaysElse, Unjustified}
use Rattle.obligations.specs.declared.goal.Goal.{Goal}
use Rattle.obligations.specs.Goal.{goal_bytes, goal_claim, goal_at}

module _ (s : List ℕ) (z : Sizes) where
  -- line n concludes the goal
  unfoldable pub meets : Goal → ℕ → Bool
  meets w n = is_some (match_conclusion s goal_bytes w.template w.form w.thread w.point (conclusion_of s z n) w.bind)

  -- line n concludes the goal of the obligation
  unfoldable pub concludes_at : Obligation → ℕ → Bool
  concludes_at o n = meets (goal_at s z o) n

  -- the line of claim i proves it: it is there, concludes the goal and has a mark
  unfoldable pub sustained_at : Marks → ℕ → Bool
  sustained_at m i =
      cond (eqb (claimed_in (claim_body z (bodies s) i)).line 0) false
      (cond (meets (goal_claim s z (claimed_in (claim_body z (bodies s) i))) (claimed_in (claim_body z (bodies s) i)).line)
      (is_marked m (claimed_in (claim_body z (bodies s) i)).line) false)

  -- no line, or the line concludes something else, or it is not justified; Ok if line n meets the obligation
  unfoldable pub code_at : Marks → Obligation → ℕ → Result (Unit {0}) Unmet
  code_at m o n = cond (eqb n 0) (Err NoLine) (cond (concludes_at o n) (cond (is_marked m n) (Ok tt) (Err Unjustified)) (Err SaysElse))
