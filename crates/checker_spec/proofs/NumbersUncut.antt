-- No number of a verdict is cut: each is within the limits, and these are below what 16 bits hold.
use mathlib.Core.Path.{◌≡◌, refl, ap, subst}
use mathlib.Core.Bool.{Bool, true, false}
use mathlib.Core.List.{List, [], ◌∷◌}
use Prim.Native.Nat.{ℕ, zero, suc, ◌+◌, ◌-◌, ◌≤◌, ◌<◌}
use native.Mathlib.Omega.{arith}
use lib.Dec.{eqb}
use lib.ListN.{length, get_or}
use borrow.Author.Tests.{le-leb}
use Rattle.semantics.specs.Base.{All, Within}
use Rattle.logic_schemas.specs.Fits.{same_statement}
use Rattle.semantics.specs.Machine.{Program}
use Rattle.logic.specs.Obligations as Logic
use Rattle.logic.specs.Obligations.{Obligation.start, Obligation.step, Obligation.taken, Obligation.interference, obligations}
use Rattle.limits.specs.Limits as Limits
use Rattle.limits.specs.Numbers.{numbers, within}
use Rattle.image_frames.specs.Fault.{code_of}
use Rattle.image_frames.specs.Records.{bodies}
use Rattle.image_frames.specs.declared.fault.Fault.{Fault}
use Rattle.image_frames.specs.declared.fault.Fault.TheVariants.{Size, Length, Kind, Body, Number, Formula, Sort, Owner, Operand}
use Rattle.image_header.specs.declared.sizes.Sizes.{Sizes}
use Rattle.image_bodies.specs.NumberList.{exactly}
use Rattle.image_bodies.specs.PointCounts.{obligation_count}
use Rattle.image_bodies.specs.ListBody as Lists
use Rattle.image.specs.Decode.{sizes_of, decoded, Decoded}
use Rattle.logic_outline.specs.Lines.{marked}
use Rattle.logic_outline.specs.Verdict as Outline
use Rattle.logic_outline.specs.Verdict.{Image, Judgement, met, failed, judgement, Finding, denied, judge_claims, behind_obligations}
use Rattle.logic_outline.proofs.Accept.{accepted_met, failed_first}
use Rattle.image_meaning.specs.Program.{program_of}
use Rattle.image_meaning.specs.Image.{claim_place, named_line, obligations_body, image_of, result_of, decode}
use Rattle.limits.proofs.PassedTests.{within_true, every_or}
use Rattle.image_meaning.proofs.PassedChecks.{unless_passed}
use Rattle.image_meaning.proofs.RecordsChecked.{Checks, sound_checks, header_passed, obligations_passed}
use Rattle.image_meaning.proofs.LinesAdmitted.{claim_fine}
use Rattle.image_meaning.proofs.WellFormedProgram.{points_few}
use Rattle.logic_outline.proofs.Ranged.{InRange}
use Rattle.logic_outline.proofs.Ranged.{obligations_ranged}
use Rattle.verdict_record.specs.ObligationPlace.{place_of, obligation}
use Rattle.verdict_record.specs.Fields.{gathered, fields_of}
use Rattle.verdict_record.specs.declared.verdict.Verdict.TheVariants.{Accepted, Refused, Failed}
use Rattle.checker_spec.specs.ImageVerdict.{judged, answered, verdict}
use Rattle.verdict_record.specs.Uncut.{beyond, Uncut}
use Rattle.checker_spec.proofs.RefusedRecord.{header_threads, last_named, refused_within}
use Rattle.checker_spec.proofs.ObligationsCounted.{most_obligations, obligations_few}
use Rattle.std.specs.Prelude.{Ok, Err}

-- codes

fault_small : (f : Fault) → code_of f ≤ 23
unfolding code_of
fault_small Size = omega arith
fault_small Length = omega arith
fault_small Kind = omega arith
fault_small Body = omega arith
fault_small Number = omega arith
fault_small Formula = omega arith
fault_small Sort = omega arith
fault_small Owner = omega arith
fault_small Operand = omega arith

code_small : (D : Image) (o : Logic.Obligation) (n : ℕ) → Outline.code D o n ≤ 22
unfolding Outline.line_code
code_small D o n =
    go (eqb n 0) (same_statement (Outline.asks D o) (D.certificate.line n).says)
    (marked D.program D.certificate D.certificate.count n)
  where
    go : (a b c : Bool) → Outline.code_of a b c ≤ 22
    go true b c = omega arith
    go false false c = omega arith
    go false true false = omega arith
    go false true true = omega arith

-- the verdicts

refused_uncut : (f : Fault) (i : ℕ) → i ≤ last_named → Uncut (fields_of (Refused f i))
unfolding fields_of gathered
refused_uncut f i h = record {
  code = let c = fault_small f in omega arith;
  «record» = omega arith;
  class = omega arith;
  thread = omega arith;
  point = omega arith;
  other_thread = omega arith;
  other_point = omega arith;
  line = omega arith;
  count = omega arith;
}

accepted_uncut : (n : ℕ) → n ≤ most_obligations → Uncut (fields_of (Accepted n))
unfolding fields_of gathered
accepted_uncut n h = record {
  code = omega arith;
  «record» = omega arith;
  class = omega arith;
  thread = omega arith;
  point = omega arith;
  other_thread = omega arith;
  other_point = omega arith;
  line = omega arith;
  count = omega arith;
}

-- an obligation's threads and points
pub record Named (o : Logic.Obligation) : Type 0 where
  pub class : (place_of (obligation o)).class ≤ 4
  pub thread : (place_of (obligation o)).thread ≤ Limits.threads
  pub point : (place_of (obligation o)).point ≤ Limits.points
  pub other_thread : (place_of (obligation o)).other_thread ≤ Limits.threads
  pub other_point : (place_of (obligation o)).other_point ≤ Limits.points

failed_uncut : (o : Logic.Obligation) (c l n : ℕ) → Named o → c ≤ 22 → l < beyond → n < beyond
    → Uncut (fields_of (Failed (obligation o) c l n))
unfolding fields_of gathered
failed_uncut o c l n p hc hl hn = record {
  code = omega arith;
  «record» = omega arith;
  class = omega (arith, p.class);
  thread = omega (arith, p.thread);
  point = omega (arith, p.point);
  other_thread = omega (arith, p.other_thread);
  other_point = omega (arith, p.other_point);
  line = omega arith;
  count = omega arith;
}

all-at : {A : Type 0} (Q : A → Type 0) (l : List A) (i : ℕ) (d : A) → All Q l → i < length l → Q (get_or l i d)
all-at Q [] i d h b = absurd (omega arith)
all-at Q (x ∷ l) zero d h b = h.0
all-at Q (x ∷ l) (suc i) d h b = all-at Q l i d h.1 (omega arith)

module _ (s : List ℕ) (z : Sizes) (c : Checks z (bodies s)) where
  abbrev D : Image
  D = image_of z (bodies s)

  abbrev P : Program
  P = program_of z (bodies s)

  pub few_threads : z.threads ≤ Limits.threads
  unfolding sizes_of
  few_threads =
      let e = ap (λ (y : Sizes). y.threads) c.sizes in
      let h = header_threads c.counted (get_or (bodies s) 0 []) (header_passed z (bodies s) c) in
      omega arith

  few_points : (t : ℕ) → Within P.threads t → P.points t ≤ Limits.points
  few_points t w = points_few z (bodies s) c t w.0 w.1

  pub few : length (obligations P) ≤ most_obligations
  few = obligations_few P few_threads few_points

  named_few : (k : ℕ) → named_line z (bodies s) k ≤ Limits.lines
  unfolding named_line Lists.obligations exactly within
  named_few k =
      let e = (unless_passed _ _ _ (unless_passed _ _ _ (obligations_passed z (bodies s) c)).1).0 in
      let none : within 0 z.lines 0 ≡ true = rw (le-leb 0 z.lines (omega arith)) in
      let h = every_or (within 0 z.lines) (numbers (obligation_count z (bodies s)) (obligations_body z (bodies s))) k 0 e none in
      let b = within_true 0 z.lines (named_line z (bodies s) k) h in
      omega (arith, b.1, c.few.lines)

  ranged_named : (o : Logic.Obligation) → InRange P o → Named o
  unfolding place_of
  ranged_named (start t) r = record {
    class = omega arith;
    thread = let b = few_threads in omega (arith, r.1);
    point = omega arith;
    other_thread = omega arith;
    other_point = omega arith;
  }
  ranged_named (step t k) r = record {
    class = omega arith;
    thread = let b = few_threads in omega (arith, r.0.1);
    point = let b = few_points t r.0 in omega (arith, r.1);
    other_thread = omega arith;
    other_point = omega arith;
  }
  ranged_named (taken t k) r = record {
    class = omega arith;
    thread = let b = few_threads in omega (arith, r.0.1);
    point = let b = few_points t r.0 in omega (arith, r.1.0);
    other_thread = omega arith;
    other_point = omega arith;
  }
  ranged_named (interference u j t k) r = record {
    class = omega arith;
    thread = let b = few_threads in omega (arith, r.0.0.1);
    point = let b = few_points u r.0.0 in omega (arith, r.0.1);
    other_thread = let b = few_threads in omega (arith, r.1.0.1);
    other_point = let b = few_points t r.1.0 in omega (arith, r.1.1);
  }

  -- a claim's record is one of the image's, its threads, points and line are there
  denied_uncut : (i n : ℕ) → i < z.claims → n ≤ most_obligations → Uncut (fields_of (judged D (denied i n)))
  unfolding fields_of gathered claim_place
  denied_uncut i n b h =
      let f = claim_fine z (bodies s) c i b in
      record {
        code = omega arith;
        «record» = let t = few_threads in omega (arith, c.few.formulas, c.few.lines, c.few.claims);
        class = omega arith;
        thread = let t = few_threads in omega (arith, f.thread.1);
        point = let p = few_points _ f.thread in omega (arith, f.point);
        other_thread = let t = few_threads in omega (arith, f.other.1);
        other_point = let p = few_points _ f.other in omega (arith, f.beyond);
        line = omega (arith, f.line, c.few.lines);
        count = omega arith;
      }

  claims_uncut : (k i n : ℕ) → i + k ≡ z.claims → n ≤ most_obligations → Uncut (fields_of (judged D (judge_claims D k i n)))
  unfolding judge_claims
  claims_uncut zero i n e h = accepted_uncut n h
  claims_uncut (suc k) i n e h = go (Outline.sustained D i) (claims_uncut k (suc i) n (omega arith) h)
    where
      go : (x : Bool) → Uncut (fields_of (judged D (judge_claims D k (suc i) n)))
          → Uncut (fields_of (judged D (elim x as (λ y. Finding) [ true ↦ judge_claims D k (suc i) n | false ↦ denied i n ])))
      go true q = q
      go false q = denied_uncut i n (omega arith) h

  judgement_uncut : (o : Judgement) → judgement D ≡ o → Uncut (fields_of (judged D (behind_obligations D o)))
  judgement_uncut (met n) e = let h = (accepted_met D n e).1 in let f = few in claims_uncut z.claims 0 n (omega arith) (omega arith)
  judgement_uncut (failed x o l n) e =
      let h = failed_first D x o l n e in
      let f = few in
      let r = all-at (InRange P) (obligations P) (n - 0) (start 0) (obligations_ranged P) h.inside in
      let q = named_few n in
      failed_uncut o x _ _ (subst Named h.its (ranged_named _ r)) (let b = code_small D o l in omega (arith, h.fails))
      (omega (arith, h.line, h.inside))
      (omega (arith, h.line, h.inside))

-- of the verdict on any image
pub verdict_uncut : (s : List ℕ) → Uncut (fields_of (verdict s))
unfolding verdict decode
verdict_uncut s = go (decoded s) refl
  where
    go : (d : Decoded) → decoded s ≡ d → Uncut (fields_of (answered (result_of (bodies s) d)))
    go (Err r) e = refused_uncut r.fault r.«record» (refused_within s r.fault r.«record» e)
    go (Ok z) e = judgement_uncut s z (sound_checks s z e) (judgement (image_of z (bodies s))) refl
