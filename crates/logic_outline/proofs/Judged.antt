-- Demand 2: the judgement of an image whose bytes are sound is the one that the mission describes, and no other.
use mathlib.Core.Path.{◌≡◌, refl, ap, sym, ◌∙◌, subst}
use mathlib.Core.Bool.{Bool, true, false, true≢false}
use mathlib.Core.List.{List, [], ◌∷◌}
use mathlib.Core.Logic.{◌≢◌}
use Prim.Native.Nat.{ℕ, zero, suc, ◌+◌, ◌-◌, ◌<◌}
use native.Mathlib.Omega.{arith}
use lib.Dec.{T, eqb}
use borrow.Author.Tests.{eqb-true, eqb-false}
use lib.ListN.{length, get_or, take}
use lib.Seq.{take-length}
use Rattle.logic.specs.Statement.{Statement}
use Rattle.logic_schemas.specs.Fits.{same_statement}
use Rattle.logic.specs.Obligations.{Obligation, Obligation.start, obligations}
use Rattle.semantics.proofs.Base.{is_true, holds_true}
use Rattle.logic_schemas.proofs.Fit.{statement_eq, statement_refl}
use Rattle.logic_outline.specs.Lines.{marked}
use Rattle.logic_outline.proofs.Marks.{justified_marked}
use Rattle.logic_outline.specs.Verdict.{Image, Judgement, met, failed, code_of, asks, line_code, code, judgement, Met, AllMet, Finding, accepted, unmet, denied, sustained, judge_claims, behind_obligations, finding, Admitted}
use Rattle.logic_outline.specs.Judged.{total, numbered, Meets, EachMet, Lacks, no_line, other_statement, not_justified, EachSustained, Judged, each_met, first_unmet, first-denied}
use Rattle.logic_outline.proofs.Accept.{First, accepted_met, met_accepted, failed_first, accepted_all, all_accepted, denied_first}

module _ (D : Image) where
  -- obligations met from number m on: each of the first j
  met_before : (j : ℕ) (os : List Obligation) (m : ℕ) → AllMet D (take j os) m → (i : ℕ) → i < j → i < length os
      → Met D (get_or os i (start 0)) (D.named (m + i))
  met_before zero os m h i b c = absurd (omega arith)
  met_before (suc j) [] m h i b c = absurd (omega arith)
  met_before (suc j) (o ∷ os) m h zero b c = subst (λ (z : ℕ). Met D o (D.named z)) (let e : m ≡ m + 0 = omega arith in e) h.0
  met_before (suc j) (o ∷ os) m h (suc i) b c =
      subst (λ (z : ℕ). Met D (get_or os i (start 0)) (D.named z)) (let e : suc m + i ≡ m + suc i = omega arith in e)
      (met_before j os (suc m) h.1 i (omega arith) (omega arith))

  all_each : (os : List Obligation) → AllMet D os 0 → (i : ℕ) → i < length os → Met D (get_or os i (start 0)) (D.named i)
  all_each os h i b =
      subst (λ (z : ℕ). Met D (get_or os i (start 0)) (D.named z)) (let e : 0 + i ≡ i = omega arith in e)
      (met_before (length os) os 0 (subst (λ (l : List Obligation). AllMet D l 0) (sym (take-length os)) h) i b b)

  each_all : (os : List Obligation) (m : ℕ) → ((i : ℕ) → i < length os → Met D (get_or os i (start 0)) (D.named (m + i))) → AllMet D os m
  each_all [] m h = tt
  each_all (o ∷ os) m h = (
    subst (λ (z : ℕ). Met D o (D.named z)) (let e : m + 0 ≡ m = omega arith in e) (h 0 (omega arith)),
    each_all os (suc m) (λ i b. subst (λ (z : ℕ). Met D (get_or os i (start 0)) (D.named z))
        (let e : m + suc i ≡ suc m + i = omega arith in e) (h (suc i) (omega arith))),
  )

  -- a code that is not 0 says what is lacking
  code_lacks : Admitted D → (o : Obligation) (n : ℕ) → code D o n ≢ 0 → Lacks D o n (code D o n)
  unfolding line_code
  code_lacks A o n =
      go (eqb n 0) refl (same_statement (asks D o) (D.certificate.line n).says) refl
      (marked D.program D.certificate D.certificate.count n) refl
    where
      go : (a : Bool) → eqb n 0 ≡ a → (b : Bool) → same_statement (asks D o) (D.certificate.line n).says ≡ b
          → (c : Bool) → marked D.program D.certificate D.certificate.count n ≡ c → code_of a b c ≢ 0 → Lacks D o n (code_of a b c)
      go true p b q c r h = no_line (eqb-true n 0 p)
      go false p false q c r h =
          other_statement (eqb-false n 0 p)
          (λ e. true≢false
          (sym (holds_true (same_statement (asks D o) (D.certificate.line n).says)
          (subst (λ (z : Statement). T (same_statement (asks D o) z)) e (statement_refl (asks D o)))) ∙ q))
      go false p true q false r h =
          not_justified (eqb-false n 0 p) (statement_eq (asks D o) (D.certificate.line n).says (is_true q))
          (λ j. true≢false
          (sym (holds_true (marked D.program D.certificate D.certificate.count n)
          (justified_marked D.program D.certificate (record { lower = A.lower }) n j)) ∙ r))
      go false p true q true r h = absurd (h refl)

  -- claims name no obligation
  never_unmet : (n i m c : ℕ) (o : Obligation) (l k : ℕ) → judge_claims D n i m ≡ unmet c o l k → ⊥
  unfolding judge_claims
  never_unmet zero i m c o l k e = let z : ◌≡◌ {A = ℕ} 0 1 = cc in omega arith
  never_unmet (suc n) i m c o l k e = go (sustained D i) e (never_unmet n (suc i) m c o l k)
    where
      go : (b : Bool) → elim b as (λ x. Finding) [ true ↦ judge_claims D n (suc i) m | false ↦ denied i m ] ≡ unmet c o l k
          → (judge_claims D n (suc i) m ≡ unmet c o l k → ⊥) → ⊥
      go true e ih = ih e
      go false e ih = let z : ◌≡◌ {A = ℕ} 0 1 = cc in omega arith

  named_first : Admitted D → (c : ℕ) (o : Obligation) (n k : ℕ) → First D (obligations D.program) 0 c o n k → Judged D (unmet c o n k)
  named_first A c o n k f =
      let z : k - 0 ≡ k = omega arith in
      let eo : numbered D k ≡ o = subst (λ (j : ℕ). get_or (obligations D.program) j (start 0) ≡ o) z f.its in
      let lacking : Lacks D o n c = subst (Lacks D o n) f.fails (code_lacks A o n (λ y. f.bad (sym f.fails ∙ y))) in
      let its : Lacks D (numbered D k) (D.named k) c =
      subst (λ (w : Obligation). Lacks D w (D.named k) c) (sym eo) (subst (λ (w : ℕ). Lacks D o w c) f.line lacking) in
      subst (λ (w : ℕ). Judged D (unmet c o w k)) (sym f.line)
      (subst (λ (w : Obligation). Judged D (unmet c w (D.named k) k)) eo (first_unmet k (omega (arith, f.inside)) (before f) its))
    where
      before : First D (obligations D.program) 0 c o n k → (i : ℕ) → i < k → Meets D i
      before f i b =
          subst (λ (z : ℕ). Met D (numbered D i) (D.named z)) (let e : 0 + i ≡ i = omega arith in e)
          (met_before (k - 0) (obligations D.program) 0 f.before i (omega arith) (omega (arith, f.inside)))

  -- DEMAND 2
  pub finding_judged : Admitted D → Judged D (finding D)
  finding_judged A = go (judgement D) refl (finding D) refl
    where
      met_each : (d : ℕ) → judgement D ≡ met d → (d ≡ total D) × EachMet D
      met_each d e = let r = accepted_met D d e in (r.1, all_each (obligations D.program) r.0)

      go : (o : Judgement) → judgement D ≡ o → (f : Finding) → finding D ≡ f → Judged D f
      go (met d) e (accepted n) q =
          let r = accepted_all D n q in
          let h = met_each n r.0 in
          subst (λ (z : ℕ). Judged D (accepted z)) (sym h.0) (each_met h.1 r.1)
      go (met d) e (denied k m) q =
          let r = denied_first D A d k m e q in
          let h = met_each d e in
          subst (λ (z : ℕ). Judged D (denied k z)) (sym (r.all ∙ h.0))
          (first-denied k h.1 (omega (arith, r.inside)) (λ j b. r.before j (omega arith) b) r.fails)
      go (met d) e (unmet c o n k) q = absurd (met_unmet d (sym (ap (behind_obligations D) e) ∙ q))
        where
          met_unmet : (d : ℕ) → judge_claims D D.claims.count 0 d ≡ unmet c o n k → ⊥
          met_unmet d = never_unmet D.claims.count 0 d c o n k
      go (failed c o n k) e f q = subst (Judged D) (sym (ap (behind_obligations D) e) ∙ q) (named_first A c o n k (failed_first D c o n k e))

  pub each_accepted : Admitted D → EachMet D → EachSustained D → finding D ≡ accepted (total D)
  each_accepted A h g =
      all_accepted D A (total D)
      (met_accepted D A (each_all (obligations D.program) 0
      (λ i b. subst (λ (z : ℕ). Met D (numbered D i) (D.named z)) (let e : i ≡ 0 + i = omega arith in e) (h i b)))) g
