-- The verdict on a well-formed image as the code finds it: the marks of all lines, then the obligations and the claims.
use Rattle.std.specs.Prelude.{List, ℕ, Option, Some, None, Ok, Err}
use Rattle.logic.specs.Obligations.{obligations}
use Rattle.image_frames.specs.Records.{bodies}
use Rattle.image_header.specs.declared.sizes.Sizes.{Sizes}
use Rattle.image_meaning.specs.Image.{claim_body, claim_place}
use Rattle.image_access.specs.AccessPlaces.{claimed_in}
use Rattle.image_meaning.specs.Program.{program_of}
use Rattle.image_access.specs.declared.claim.Claimed.{Claimed}
use Rattle.rules_justified.specs.declared.marks.Marks.{Marks}
use Rattle.rules_justified.specs.Justify.{marks_to}
use Rattle.obligations.specs.Claims.{first_denied}
use Rattle.obligations.specs.Judgement.{Judgement, judge_at}
use Rattle.obligations.specs.Unmet.{code_number}
use Rattle.verdict_record.specs.declared.obligation.Place.{Place}
use Rattle.verdict_record.specs.declared.verdict.Verdict.{Verdict}

-- the place of a claim in a verdict: claims have class 0
unfoldable pub points_of : Claimed → Place
points_of c = record { class = 0; thread = c.thread; point = c.point; other_thread = c.other; other_point = c.other_point }

module _ (s : List ℕ) (z : Sizes) where
  -- the verdict that claim i fails, after n met obligations
  unfoldable pub denied_at : ℕ → ℕ → Verdict
  denied_at i n = Verdict.Denied (claim_place z i) (points_of (claimed_in (claim_body z (bodies s) i)))
      (claimed_in (claim_body z (bodies s) i)).line n

  -- the verdict by the first claim that is denied, if there is one, after n met obligations
  abbrev pub by_first : Option ℕ → ℕ → Verdict
  by_first None n = Verdict.Accepted n
  by_first (Some i) n = denied_at i n

  -- the verdict by the claims, after n met obligations
  unfoldable pub claims_verdict : Marks → ℕ → Verdict
  claims_verdict m n = by_first (first_denied s z m z.claims 0) n

  -- the verdict by the judgement on the obligations
  abbrev pub verdict_of : Marks → Judgement → Verdict
  verdict_of m (Ok n) = claims_verdict m n
  verdict_of m (Err f) = Verdict.Failed f.what (code_number f.unmet) f.line f.count

  -- the verdict on a well-formed image with sizes z
  unfoldable pub sound_verdict : Verdict
  sound_verdict = verdict_of (marks_to s z z.lines) (judge_at s z (marks_to s z z.lines) (obligations (program_of z (bodies s))) 0)
