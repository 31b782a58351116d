-- Code 0 is given to accepted images alone, and these are true in every run.
use mathlib.Core.Path.{◌≡◌, refl, ap, sym, ◌∙◌, subst}
use mathlib.Core.Bool.{Bool, true, false, cond}
use mathlib.Core.List.{List}
use mathlib.Core.Logic.{◌≢◌, ◌⊎◌, inl, inr}
use Prim.Native.Nat.{ℕ, ◌<◌}
use native.Mathlib.Omega.{arith}
use lib.Dec.{ltb}
use borrow.Author.Tests.{le-ltb}
use lib.ListN.{length}
use Rattle.image_frames.specs.Fault.{code_of}
use Rattle.image_frames.specs.declared.fault.Fault.{Fault}
use Rattle.image_frames.specs.declared.fault.Fault.TheVariants.{Size, Length, Kind, Body, Number, Formula, Sort, Owner, Operand}
use Rattle.logic_outline.specs.Verdict.{Image, Finding, accepted, unmet, denied, finding, Admitted}
use Rattle.logic_outline.specs.Judged as Outline
use Rattle.logic_outline.specs.Judged.{total, EachMet, EachSustained, no_line, other_statement, not_justified, each_met, first_unmet, first-denied}
use Rattle.logic_outline.proofs.Judged.{finding_judged, each_accepted}
use Rattle.image_meaning.specs.Image.{Result, refused, read, decode}
use Rattle.image_meaning.proofs.Admitted.{decode_admitted, accepted_every_run, accepted_claims}
use Rattle.verdict_record.specs.Fields.{gathered, fields_of}
use Rattle.verdict_record.specs.Output.{code_for, bytes_for}
use Rattle.verdict_record.specs.Record.{size}
use Rattle.verdict_record.specs.declared.verdict.Verdict.{Verdict}
use Rattle.verdict_record.specs.declared.verdict.Verdict.TheVariants.{Accepted, Refused}
use Rattle.verdict_record.proofs.VerdictBranches.{short_code, short_bytes}
use Rattle.trim_spec.specs.Canonical.{Bytes}
use Rattle.source.specs.TrueFor.{TrueFor}
use Rattle.source_agrees.proofs.Theorem.{true_for, source_for}
use Rattle.checker_spec.specs.ImageVerdict.{judged, answered, verdict}
use Rattle.checker_spec.specs.Promise.{TrueInEveryRun, Judged, SourceJudged, Promise}
use Rattle.checker_spec.proofs.NumbersUncut.{verdict_uncut}

fault_code : (f : Fault) → code_of f ≢ 0
unfolding code_of
fault_code Size e = omega arith
fault_code Length e = omega arith
fault_code Kind e = omega arith
fault_code Body e = omega arith
fault_code Number e = omega arith
fault_code Formula e = omega arith
fault_code Sort e = omega arith
fault_code Owner e = omega arith
fault_code Operand e = omega arith

module _ (s : List ℕ) where
  abbrev code : Result → ℕ
  code d = (fields_of (answered d)).code

  -- a right finding whose code is 0 has every obligation met and every claim borne out
  right_met : (D : Image) (o : Finding) → Outline.Judged D o → (fields_of (judged D o)).code ≡ 0 → EachMet D × EachSustained D
  unfolding fields_of gathered
  right_met D (accepted n) (each_met h g) e = (h, g)
  right_met D (unmet c o l n) (first_unmet k b f (no_line q)) e = absurd (omega arith)
  right_met D (unmet c o l n) (first_unmet k b f (other_statement q r)) e = absurd (omega arith)
  right_met D (unmet c o l n) (first_unmet k b f (not_justified q r u)) e = absurd (omega arith)
  right_met D (denied i n) (first-denied k h b f g) e = absurd (omega arith)

  read_true : (d : Result) → decode s ≡ d → code d ≡ 0 → TrueInEveryRun s
  unfolding fields_of gathered
  read_true (refused f i) e h = absurd (fault_code f h)
  read_true (read D) e h =
      let A = decode_admitted s D e in
      let r = right_met D (finding D) (finding_judged D A) h in
      let q = each_accepted D A r.0 r.1 in
      record { content = D; says = e; holds = accepted_every_run s D (total D) e q; never = accepted_claims s D (total D) e q }

  accepted_true : (b : List ℕ) → code_for (verdict s) b ≡ 0 → TrueInEveryRun s
  unfolding code_for verdict
  accepted_true b h = go (ltb (length b) size) h
    where
      go : (x : Bool) → cond x 1 (code (decode s)) ≡ 0 → TrueInEveryRun s
      go true h = absurd (omega arith)
      go false h = read_true (decode s) refl h

  -- an accepted image, whatever buffer is given
  verdict_code : (n : ℕ) → verdict s ≡ Accepted n → (fields_of (verdict s)).code ≡ 0
  unfolding fields_of gathered
  verdict_code n e = ap (λ (v : Verdict). (fields_of v).code) e

  -- the same of its source; an image is bytes
  pub run_true : Bytes s → TrueInEveryRun s → TrueFor s
  run_true k h = true_for s k h.content h.says (h.holds, h.never)

  pub accepted_runs : (n : ℕ) → verdict s ≡ Accepted n → TrueInEveryRun s
  unfolding verdict
  accepted_runs n e = read_true (decode s) refl (verdict_code n e)

  verdict_by : (d : Result) → decode s ≡ d → verdict s ≡ answered d
  unfolding verdict
  verdict_by d e = ap answered e

  -- a fault in form, or what its source means is judged
  abbrev BySource : List ℕ → ℕ → Type 0
  BySource b c = ((f : Fault) × (i : ℕ) × (verdict s ≡ Refused f i)) ⊎ SourceJudged s (verdict s) b c

  met_code : (D : Image) (n : ℕ) → (fields_of (judged D (accepted n))).code ≡ 0
  unfolding fields_of gathered
  met_code D n = refl

  judged_right : (b : List ℕ) (D : Image) → decode s ≡ read D → Judged D (verdict s) b (code_for (verdict s) b)
  unfolding code_for verdict
  judged_right b D e = record {
    only_if = λ h. right_met D (finding D) right (coded (ltb (length b) size) h);
    if_met = λ r h g. rw (le-ltb _ _ r) (ap (λ (v : Verdict). (fields_of v).code) (answer ∙ ap (judged D) (each_accepted D A h g))
        ∙ met_code D (total D));
    finding = finding D;
    right = right;
    answer = answer;
  }
    where
      A : Admitted D
      A = decode_admitted s D e

      right : Outline.Judged D (finding D)
      right = finding_judged D A

      answer : answered (decode s) ≡ judged D (finding D)
      answer = ap answered e

      coded : (x : Bool) → cond x 1 (code (decode s)) ≡ 0 → (fields_of (judged D (finding D))).code ≡ 0
      coded true h = absurd (omega arith)
      coded false h = subst (λ (v : Verdict). (fields_of v).code ≡ 0) answer h

  -- demand 2 by the source
  source_judged : Bytes s → (b : List ℕ) → BySource b (code_for (verdict s) b)
  source_judged k b = go (decode s) refl
    where
      go : (d : Result) → decode s ≡ d → BySource b (code_for (verdict s) b)
      go (refused f i) e = inl (f, i, verdict_by (refused f i) e)
      go (read D) e =
          let q = source_for s k D e in
          inr (record { source = q.source; bytes = q.bytes; content = D; means = q.means; right = judged_right b D e })

  -- DEMANDS 1, 2 AND 3, of what the code answers and leaves in the buffer
  pub promised : Bytes s → (b : List ℕ) (v : Verdict) (c : ℕ) (after : List ℕ) → v ≡ verdict s → c ≡ code_for v b → after ≡ bytes_for v b
      → Promise s b c after
  promised k b v c after e f g =
      let q : c ≡ code_for (verdict s) b = f ∙ ap (λ (w : Verdict). code_for w b) e in
      record {
        returned = q;
        written = g ∙ ap (λ (w : Verdict). bytes_for w b) e;
        judged = λ D d. subst (Judged D (verdict s) b) (sym q) (judged_right b D d);
        accepted = λ h. accepted_true b (sym q ∙ h);
        by_source = subst (λ (x : ℕ). BySource b x) (sym q) (source_judged k b);
        true_for = λ h. run_true k (accepted_true b (sym q ∙ h));
        uncut = verdict_uncut s;
      }

  -- a buffer that is too short: the answer is 1 whatever the image holds
  pub promised_short : Bytes s → (b : List ℕ) → length b < size → Promise s b 1 b
  promised_short k b h = promised k b (verdict s) 1 b refl (short_code (verdict s) b h) (short_bytes (verdict s) b h)
