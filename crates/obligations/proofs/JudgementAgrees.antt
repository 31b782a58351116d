-- The judgement of the code's walk is the judgement of the image.
use mathlib.Core.Path.{◌≡◌, refl, ap₂, ◌∙◌, subst}
use mathlib.Core.Bool.{Bool, true, false, cond, true≢false}
use mathlib.Core.List.{List, [], ◌∷◌}
use Prim.Native.Nat.{ℕ, zero, suc, ◌+◌, ◌<◌}
use native.Mathlib.Numerals.{add-one}
use native.Mathlib.Omega.{arith}
use lib.Dec.{eqb}
use borrow.Author.Tests.{eqb-false}
use Rattle.std.specs.Prelude.{Result, Ok, Err, Option, None, Some}
use Rattle.semantics.specs.Base.{All, Within}
use Rattle.logic_schemas.specs.Fits.{same_statement}
use Rattle.logic.specs.Obligations as Logic
use Rattle.logic.specs.Obligations.{obligations}
use Rattle.image_frames.specs.Records.{bodies}
use Rattle.image_header.specs.declared.sizes.Sizes.{Sizes}
use Rattle.logic_outline.specs.Lines.{marked}
use Rattle.logic_outline.specs.Verdict.{Image, code_of, line_code, asks, code, judge, judgement, Finding, accepted, denied, forbids, sustained, judge_claims}
use Rattle.logic_outline.specs.Verdict as Verdict
use Rattle.image_meaning.specs.Image.{claim_body, image_of}
use Rattle.image_access.specs.AccessPlaces.{claimed_in}
use Rattle.image_meaning.proofs.RecordsChecked.{Checks}
use Rattle.image_meaning.proofs.LinesAdmitted.{named_there, claim_fine}
use Rattle.rules_justified.specs.Marks.{is_marked}
use Rattle.rules_justified.specs.declared.marks.Marks.{Marks}
use Rattle.obligations.specs.declared.concludes.Unmet.{Unmet}
use Rattle.obligations.specs.declared.concludes.Unmet.TheVariants.{NoLine, SaysElse, Unjustified}
use Rattle.obligations.specs.declared.judgement.Failure.{Failure}
use Rattle.obligations.specs.Unmet.{code_number, unmet_by}
use Rattle.verdict_record.specs.ObligationPlace.{obligation}
use Rattle.obligations.specs.Goal.{goal_claim}
use Rattle.obligations.specs.Concludes.{meets, concludes_at, sustained_at, code_at}
use Rattle.obligations.specs.Claims.{first_denied}
use Rattle.obligations.specs.Judgement.{judged_by, judge_one, next, judged, judge_at, to_judgement}
use Rattle.obligations.proofs.ConcludesAgrees.{concludes_asked, claim_asked}
use Rattle.logic_outline.proofs.Ranged.{InRange, obligations_ranged}

borne_same : (a b c : Bool) → cond a false (cond b c false) ≡ eqb (code_of a b c) 0
borne_same true b c = refl
borne_same false true true = refl
borne_same false true false = refl
borne_same false false c = refl

-- what a code tells
abbrev told : ℕ → Result (Unit {0}) Unmet
told e = cond (eqb e 0) (Ok tt) (Err (unmet_by e))

codes_same : (a b c : Bool) → cond a (Err NoLine) (cond b (cond c (Ok tt) (Err Unjustified)) (Err SaysElse)) ≡ told (code_of a b c)
codes_same true b c = refl
codes_same false true true = refl
codes_same false true false = refl
codes_same false false c = refl

-- a code that is not 0 is that of what it stands for
code_told : (a b c : Bool) → eqb (code_of a b c) 0 ≡ false → code_number (unmet_by (code_of a b c)) ≡ code_of a b c
code_told true b c e = refl
code_told false true true e = absurd (true≢false e)
code_told false true false e = refl
code_told false false c e = refl

failed_from : (D : Image) (os : List Logic.Obligation) (m e : ℕ) (o : Logic.Obligation) (n c : ℕ) → judge D os m ≡ Verdict.failed e o n c
    → code_number (unmet_by e) ≡ e
unfolding judge line_code
failed_from D [] m e o n c h = let q : ◌≡◌ {A = ℕ} 0 1 = cc in absurd (omega arith)
failed_from D (p ∷ os) m e o n c h = go (eqb (code D p (D.named m)) 0) refl h (failed_from D os (suc m) e o n c)
  where
    go : (b : Bool) → eqb (code D p (D.named m)) 0 ≡ b
        → elim b [ true ↦ judge D os (suc m) | false ↦ Verdict.failed (code D p (D.named m)) p (D.named m) m ] ≡ Verdict.failed e o n c
        → (judge D os (suc m) ≡ Verdict.failed e o n c → code_number (unmet_by e) ≡ e) → code_number (unmet_by e) ≡ e
    go true q h ih = ih h
    go false q h ih =
        let x : code D p (D.named m) ≡ e = cc in
        subst (λ (k : ℕ). code_number (unmet_by k) ≡ k) x
        (code_told (eqb (D.named m) 0) (same_statement (asks D p) (D.certificate.line (D.named m)).says)
        (marked D.program D.certificate D.certificate.count (D.named m)) q)

-- the code of an obligation that is not met is that of what is wrong with its line
pub failed_code : (D : Image) (e : ℕ) (o : Logic.Obligation) (n c : ℕ) → judgement D ≡ Verdict.failed e o n c → code_number (unmet_by e) ≡ e
failed_code D = failed_from D (obligations D.program) 0

-- the first that is not met stays
failed_stays : (s : List ℕ) (z : Sizes) (m : Marks) (os : List Logic.Obligation) (f : Failure) → judged s z m os (Err f) ≡ Err f
unfolding judged next
failed_stays s z m [] f = refl
failed_stays s z m (o ∷ os) f = failed_stays s z m os f

-- what a search for the first claim that fails finds
abbrev pub found : Option ℕ → ℕ → Finding
found None d = accepted d
found (Some k) d = denied k d

module _ (s : List ℕ) (z : Sizes) (c : Checks z (bodies s)) where
  abbrev D : Image
  D = image_of z (bodies s)

  -- the marks are those of the lines
  module _ (m : Marks) (marking : (k : ℕ) → Within z.lines k
      → is_marked m k ≡ marked D.program D.certificate D.certificate.count k) where
    code_same : (o : Logic.Obligation) → InRange D.program o → (i : ℕ) → code_at s z m (obligation o) (D.named i) ≡ told (code D o (D.named i))
    unfolding code_at line_code
    code_same o r i = go (eqb (D.named i) 0) refl
      where
        go : (b : Bool) → eqb (D.named i) 0 ≡ b
            → cond (eqb (D.named i) 0) (Err NoLine)
            (cond (concludes_at s z (obligation o) (D.named i)) (cond (is_marked m (D.named i)) (Ok tt) (Err Unjustified)) (Err SaysElse))
            ≡ told (code_of (eqb (D.named i) 0) (same_statement (asks D o) (D.certificate.line (D.named i)).says)
            (marked D.program D.certificate D.certificate.count (D.named i)))
        go true e = rw e
        go false e =
            let q = eqb-false (D.named i) 0 e in
            let w : Within z.lines (D.named i) = (omega arith, named_there z (bodies s) c i) in
            codes_same (eqb (D.named i) 0) (concludes_at s z (obligation o) (D.named i)) (is_marked m (D.named i))
            ∙ ap₂ (λ (x y : Bool). told (code_of (eqb (D.named i) 0) x y)) (concludes_asked s z c (D.named i) w o r) (marking (D.named i) w)

    abbrev Step : Logic.Obligation → List Logic.Obligation → ℕ → Bool → Verdict.Judgement
    Step o os i b = elim b [ true ↦ judge D os (suc i) | false ↦ Verdict.failed (code D o (D.named i)) o (D.named i) i ]

    judge_same : (os : List Logic.Obligation) → All (InRange D.program) os → (i : ℕ) → judge_at s z m os i ≡ to_judgement (judge D os i)
    unfolding judged next judge_one judge
    judge_same [] r i = refl
    judge_same (o ∷ os) r i = rw (code_same o r.0 i) (go (eqb (code D o (D.named i)) 0) (λ k. judge_same os r.1 k))
      where
        go : (b : Bool) → ((k : ℕ) → judge_at s z m os k ≡ to_judgement (judge D os k))
            → judged s z m os (judged_by (obligation o) (D.named i) i (cond b (Ok tt) (Err (unmet_by (code D o (D.named i))))))
            ≡ to_judgement (Step o os i b)
        go true ih = rw (add-one i) (ih (suc i))
        go false ih = failed_stays s z m os
            (record { what = obligation o; unmet = unmet_by (code D o (D.named i)); line = D.named i; count = i })

    pub judged_is : judge_at s z m (obligations D.program) 0 ≡ to_judgement (judgement D)
    judged_is = judge_same (obligations D.program) (obligations_ranged D.program) 0

    -- claims, likewise
    abbrev body : ℕ → List ℕ
    body i = claim_body z (bodies s) i

    sustained_same : (i : ℕ) → i < z.claims → sustained_at s z m i ≡ sustained D i
    unfolding sustained_at line_code claimed_in
    sustained_same i h = go (eqb (D.claims.line i) 0) refl
      where
        go : (b : Bool) → eqb (D.claims.line i) 0 ≡ b
            → cond (eqb (D.claims.line i) 0) false (cond (meets s z (goal_claim s z (claimed_in (body i))) (D.claims.line i))
            (is_marked m (D.claims.line i)) false)
            ≡ eqb (code_of (eqb (D.claims.line i) 0) (same_statement (forbids D i) (D.certificate.line (D.claims.line i)).says)
            (marked D.program D.certificate D.certificate.count (D.claims.line i))) 0
        go true e = rw e
        go false e =
            let q = eqb-false (D.claims.line i) 0 e in
            let f = claim_fine z (bodies s) c i h in
            let w : Within z.lines (D.claims.line i) = (omega arith, f.line) in
            borne_same (eqb (D.claims.line i) 0) (meets s z (goal_claim s z (claimed_in (body i))) (D.claims.line i))
            (is_marked m (D.claims.line i))
            ∙ ap₂ (λ (x y : Bool). eqb (code_of (eqb (D.claims.line i) 0) x y) 0) (claim_asked s z c (D.claims.line i) w i h)
            (marking (D.claims.line i) w)

    -- the first claim that fails, of n from i on
    claims_from : (n i d : ℕ) → i + n ≡ z.claims → judge_claims D n i d ≡ found (first_denied s z m n i) d
    unfolding first_denied judge_claims
    claims_from zero i d e = refl
    claims_from (suc n) i d e =
        let b : i < z.claims = omega arith in
        rw (sustained_same i b) (go (sustained D i) (claims_from n (suc i) d (omega arith)))
      where
        go : (x : Bool) → judge_claims D n (suc i) d ≡ found (first_denied s z m n (suc i)) d
            → elim x [ true ↦ judge_claims D n (suc i) d | false ↦ denied i d ] ≡ found (cond x (first_denied s z m n (suc i)) (Some i)) d
        go true h = h
        go false h = refl

    pub claims_are : (d : ℕ) → judge_claims D z.claims 0 d ≡ found (first_denied s z m z.claims 0) d
    claims_are d = claims_from z.claims 0 d (omega arith)
