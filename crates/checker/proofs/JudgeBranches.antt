-- The ways through the checker, one law for each.
use mathlib.Core.Path.{◌≡◌, refl, ap, sym, ◌∙◌}
use mathlib.Core.List.{List}
use Prim.Native.Nat.{ℕ}
use Rattle.std.specs.Prelude.{Option, Some, None, Ok, Err}
use Rattle.logic.specs.Obligations.{obligations}
use Rattle.image_frames.specs.Records.{bodies}
use Rattle.image_frames.specs.declared.fault.Refusal.{Refusal}
use Rattle.image_header.specs.declared.sizes.Sizes.{Sizes}
use Rattle.image.specs.Decode.{Decoded, decoded}
use Rattle.logic_outline.specs.Verdict as Outline
use Rattle.logic_outline.specs.Verdict.{judgement, judge_claims, behind_obligations}
use Rattle.image_meaning.specs.Program.{program_of}
use Rattle.image_meaning.specs.Image.{claim_body, claim_place, image_of, result_of, decode}
use Rattle.image_access.specs.AccessPlaces.{claimed_in}
use Rattle.image_access.specs.declared.claim.Claimed.{Claimed}
use Rattle.image_meaning.proofs.RecordsChecked.{sound_checks}
use Rattle.rules_justified.specs.declared.marks.Marks.{Marks}
use Rattle.rules_justified.specs.Justify.{marks_to}
use Rattle.rules_justified.proofs.JustifiedAgree.{marks_are}
use Rattle.obligations.specs.Claims.{first_denied}
use Rattle.obligations.specs.Unmet.{code_number}
use Rattle.obligations.specs.Judgement.{Judgement, judge_at, to_judgement}
use Rattle.obligations.specs.declared.judgement.Failure.{Failure}
use Rattle.obligations.proofs.JudgementAgrees.{found, judged_is, claims_are, failed_code}
use Rattle.verdict_record.specs.declared.obligation.Place.{Place}
use Rattle.verdict_record.specs.declared.verdict.Verdict.{Verdict}
use Rattle.checker_spec.proofs.ShorterLimit.{within_long, within_short}
use Rattle.checker_spec.specs.ImageVerdict.{judged, answered, verdict}
use Rattle.checker.specs.VerdictFound.{points_of, denied_at, by_first, claims_verdict, verdict_of, sound_verdict}

pub denied_placed : (s : List ℕ) (z : Sizes) (i n : ℕ) (c : Claimed) (k : ℕ) (p : Place) → c ≡ claimed_in (claim_body z (bodies s) i)
    → k ≡ claim_place z i → p ≡ points_of c
    → Verdict.Denied k p c.line n ≡ denied_at s z i n
unfolding denied_at
denied_placed s z i n c k p ec ek ep = rw (ep, ek, ec)

module _ (s : List ℕ) (z : Sizes) (m : Marks) (n : ℕ) (k : Option ℕ) (e : k ≡ first_denied s z m z.claims 0) where
  pub claims_borne : k ≡ None → Verdict.Accepted n ≡ claims_verdict s z m n
  unfolding claims_verdict
  claims_borne h = rw (← e, h)

  pub claims_denied : (i : ℕ) (r : Verdict) → k ≡ Some i → r ≡ denied_at s z i n → r ≡ claims_verdict s z m n
  unfolding claims_verdict
  claims_denied i r h d = rw (← e, h) d

module _ (s : List ℕ) (z : Sizes) (m : Marks) (r : Judgement) (e : m ≡ marks_to s z z.lines)
    (d : r ≡ judge_at s z m (obligations (program_of z (bodies s))) 0) where
  sound_is : verdict_of s z m r ≡ sound_verdict s z
  unfolding sound_verdict
  sound_is = rw (← e, ← d)

  pub sound_met : (n : ℕ) (v : Verdict) → r ≡ Ok n → v ≡ claims_verdict s z m n → v ≡ sound_verdict s z
  sound_met n v h g = g ∙ ap (verdict_of s z m) (sym h) ∙ sound_is

  pub sound_failed : (f : Failure) (c : ℕ) → r ≡ Err f → c ≡ code_number f.unmet → Verdict.Failed f.what c f.line f.count ≡ sound_verdict s z
  sound_failed f c h g = ap (λ (x : ℕ). Verdict.Failed f.what x f.line f.count) g ∙ ap (verdict_of s z m) (sym h) ∙ sound_is

module _ (s : List ℕ) (d : Decoded) (e : d ≡ decoded s) where
  pub judge_refused : (r : Refusal) → d ≡ Err r → Verdict.Refused r.fault r.«record» ≡ verdict s
  unfolding verdict decode
  judge_refused r h = ap (λ (x : Decoded). answered (result_of (bodies s) x)) (sym h ∙ e)

  module _ (z : Sizes) (m : Marks) where
    abbrev D : Outline.Image
    D = image_of z (bodies s)

    agree : ((n : ℕ) → judge_claims D z.claims 0 n ≡ found (first_denied s z m z.claims 0) n)
        → (x : Outline.Judgement) → judgement D ≡ x → verdict_of s z m (to_judgement x) ≡ judged D (behind_obligations D x)
    unfolding claims_verdict denied_at claimed_in points_of
    agree h (Outline.met n) w = rw (h n) (go (first_denied s z m z.claims 0))
      where
        go : (k : Option ℕ) → by_first s z k n ≡ judged D (found k n)
        go None = refl
        go (Some k) = refl
    agree h (Outline.failed c o l n) w = rw (failed_code D c o l n w)

  pub judge_found : (z : Sizes) (r : Verdict) → d ≡ Ok z → r ≡ sound_verdict s z → r ≡ verdict s
  unfolding verdict decode sound_verdict
  judge_found z r h g =
      let q : decoded s ≡ Ok z = sym e ∙ h in
      let c = sound_checks s z q in
      let m = marks_to s z z.lines in
      g ∙ ap (verdict_of s z m) (judged_is s z c m (λ k w. marks_are s z c k))
      ∙ agree z m (claims_are s z c m (λ k w. marks_are s z c k)) (judgement (image_of z (bodies s))) refl
      ∙ ap (λ (x : Decoded). answered (result_of (bodies s) x)) (sym q)

pub ruleset judging = (
  denied_placed,
  claims_borne,
  claims_denied,
  sound_met,
  sound_failed,
  judge_refused,
  judge_found,
  within_long,
  within_short,
)
