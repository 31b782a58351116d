-- The verdict on an image, from its bytes.
use Rattle.std.specs.Prelude.{List, cond, ℕ, ltb, length}
use Rattle.image_frames.specs.declared.fault.Fault.TheVariants.{Size}
use Rattle.logic.specs.Claims.{Claim}
use Rattle.logic_outline.specs.Verdict.{Image, Finding, accepted, unmet, denied, finding}
use Rattle.image_meaning.specs.Image.{Result, refused, read, decode}
use Rattle.verdict_record.specs.ObligationPlace.{obligation}
use Rattle.verdict_record.specs.declared.obligation.Place.{Place}
use Rattle.verdict_record.specs.declared.verdict.Verdict.{Verdict}
use Rattle.verdict_record.specs.declared.verdict.Verdict.TheVariants.{Accepted, Refused, Failed, Denied}

-- the place of a claim in a verdict: "its threads, points and line; class 0"
abbrev pub claimed : Claim → Place
claimed c = record { class = 0; thread = c.thread; point = c.point; other_thread = c.other; other_point = c.other_point }

-- the verdict on a well-formed image, by its finding
abbrev pub judged : Image → Finding → Verdict
judged D (accepted n) = Accepted n
judged D (unmet c o l n) = Failed (obligation o) c l n
judged D (denied i n) = Denied (D.claims.place i) (claimed (D.claims.claim i)) (D.claims.line i) n

-- the verdict, by what decoding gave
abbrev pub answered : Result → Verdict
answered (refused f i) = Refused f i
answered (read D) = judged D (finding D)

-- the verdict on the image s
unfoldable pub verdict : List ℕ → Verdict
verdict s = answered (decode s)

-- the verdict for a caller that takes images of at most `most` bytes; a longer one is code 2
unfoldable pub verdict_within : ℕ → List ℕ → Verdict
verdict_within most s = cond (ltb most (length s)) (Refused Size 0) (verdict s)
