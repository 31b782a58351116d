-- An image is accepted exactly if each obligation is met by its line and each claim sustained by its own; then its outline is true in every
-- run and its claims never broken. Else the first that is not is named.
use mathlib.Core.Path.{◌≡◌, refl, ap, sym, ◌∙◌, subst}
use mathlib.Core.Bool.{Bool, true, false}
use mathlib.Core.List.{List, [], ◌∷◌}
use mathlib.Core.Logic.{◌≢◌}
use Prim.Native.Nat.{ℕ, zero, suc, ◌+◌, ◌-◌, ◌≤◌, ◌<◌}
use native.Mathlib.Omega.{arith}
use lib.Dec.{T, eqb}
use borrow.Author.Tests.{eqb-true, eqb-false, eq-eqb, ne_eqb}
use lib.ListN.{length, get_or, take}
use Rattle.semantics.specs.Base.{All}
use Rattle.logic.specs.Statement.{Statement}
use Rattle.logic_schemas.specs.Fits.{same_statement}
use Rattle.logic.specs.Obligations.{Obligation, Obligation.start, obligations}
use Rattle.semantics.specs.EveryRun.{EveryRun}
use Rattle.logic.specs.Derivation.{Derived}
use Rattle.semantics.proofs.Base.{is_true, holds_true}
use Rattle.logic_schemas.proofs.Fit.{statement_eq, statement_refl}
use Rattle.logic.specs.Claims.{NeverBoth}
use Rattle.logic.proofs.Runs.{every_run, never_both}
use Rattle.logic_outline.specs.Lines.{marked}
use Rattle.logic_outline.proofs.Marks.{marked_justified, justified_marked, justified_derived}
use Rattle.logic_outline.specs.Verdict.{Image, Judgement, met, failed, code_of, asks, line_code, code, judge, judgement, Bears, Met, AllMet, Finding, accepted, denied, forbids, sustained, judge_claims, behind_obligations, finding, Admitted}
use Rattle.logic_outline.specs.Judged.{Sustains, EachSustained}

module _ (D : Image) where
  -- the line n bears the statement w out exactly if its code is 0
  pub code_bears : (w : Statement) (n : ℕ) → line_code D w n ≡ 0 → Bears D w n
  unfolding line_code
  code_bears w n e =
      go (eqb n 0) refl (same_statement w (D.certificate.line n).says) refl
      (marked D.program D.certificate D.certificate.count n) refl e
    where
      go : (a : Bool) → eqb n 0 ≡ a → (b : Bool) → same_statement w (D.certificate.line n).says ≡ b
          → (c : Bool) → marked D.program D.certificate D.certificate.count n ≡ c → code_of a b c ≡ 0 → Bears D w n
      go true p b q c r e = absurd (omega arith)
      go false p false q c r e = absurd (omega arith)
      go false p true q false r e = absurd (omega arith)
      go false p true q true r e = record {
        there = eqb-false n 0 p;
        says = statement_eq w (D.certificate.line n).says (is_true q);
        just = marked_justified D.program D.certificate n (is_true r);
      }

  pub bears_code : Admitted D → (w : Statement) (n : ℕ) → Bears D w n → line_code D w n ≡ 0
  unfolding line_code
  bears_code A w n m =
      rw (
        ne_eqb n 0 m.there,
        holds_true (same_statement w (D.certificate.line n).says)
            (subst (λ (z : Statement). T (same_statement w z)) m.says (statement_refl w)),
        holds_true (marked D.program D.certificate D.certificate.count n)
            (justified_marked D.program D.certificate (record { lower = A.lower }) n m.just),
      )

  abbrev Step : ℕ → Obligation → List Obligation → ℕ → Bool → Judgement
  Step c o os m b = elim b [ true ↦ judge D os (suc m) | false ↦ failed c o (D.named m) m ]

  pub judge_met : (os : List Obligation) (m d : ℕ) → judge D os m ≡ met d → AllMet D os m × (d ≡ m + length os)
  unfolding judge
  judge_met [] m d e = (tt, (let q : m ≡ d = cc in omega arith))
  judge_met (o ∷ os) m d e = go (eqb (code D o (D.named m)) 0) refl e (judge_met os (suc m) d)
    where
      go : (b : Bool) → eqb (code D o (D.named m)) 0 ≡ b → Step (code D o (D.named m)) o os m b ≡ met d
          → (judge D os (suc m) ≡ met d → AllMet D os (suc m) × (d ≡ suc m + length os))
          → (Met D o (D.named m) × AllMet D os (suc m)) × (d ≡ m + suc (length os))
      go true q e ih = let r = ih e in (
        (code_bears (asks D o) (D.named m) (eqb-true (code D o (D.named m)) 0 q), r.0),
        omega (arith, r.1),
      )
      go false q e ih = let z : ◌≡◌ {A = ℕ} 0 1 = cc in absurd (omega arith)

  pub met_judge : Admitted D → (os : List Obligation) (m : ℕ) → AllMet D os m → judge D os m ≡ met (m + length os)
  unfolding judge
  met_judge A [] m h = ap met (let q : m ≡ m + 0 = omega arith in q)
  met_judge A (o ∷ os) m h =
      subst (λ (b : Bool). Step (code D o (D.named m)) o os m b ≡ met (m + suc (length os)))
      (sym (eq-eqb (code D o (D.named m)) 0 (bears_code A (asks D o) (D.named m) h.0)))
      (met_judge A os (suc m) h.1 ∙ ap met (let q : suc m + length os ≡ m + suc (length os) = omega arith in q))

  -- the one that is named: those before it are met, it has its own line and code, and it is not met
  pub record First (os : List Obligation) (m c : ℕ) (o : Obligation) (n k : ℕ) : Type 0 where
    pub late : m ≤ k
    pub inside : k - m < length os
    pub its : get_or os (k - m) (start 0) ≡ o
    pub before : AllMet D (take (k - m) os) m
    pub line : n ≡ D.named k
    pub fails : code D o n ≡ c
    pub bad : c ≢ 0

  pub judge_failed : (os : List Obligation) (m c : ℕ) (o : Obligation) (n k : ℕ) → judge D os m ≡ failed c o n k → First os m c o n k
  unfolding judge
  judge_failed [] m c o n k e = let z : ◌≡◌ {A = ℕ} 0 1 = cc in absurd (omega arith)
  judge_failed (p ∷ os) m c o n k e = go (eqb (code D p (D.named m)) 0) refl e (judge_failed os (suc m) c o n k)
    where
      later : (j : ℕ) → suc m ≤ k → k - suc m ≡ j → k - m ≡ suc j
      later j a b = omega arith

      shift : Met D p (D.named m) → First os (suc m) c o n k → First (p ∷ os) m c o n k
      shift h f =
          let q : k - m ≡ suc (k - suc m) = later (k - suc m) f.late refl in
          record {
            late = omega (arith, f.late);
            inside = omega (arith, f.inside, f.late);
            its = rw q f.its;
            before = subst (λ (z : ℕ). AllMet D (take z (p ∷ os)) m) (sym q) (h, f.before);
            line = f.line;
            fails = f.fails;
            bad = f.bad;
          }

      go : (b : Bool) → eqb (code D p (D.named m)) 0 ≡ b → Step (code D p (D.named m)) p os m b ≡ failed c o n k
          → (judge D os (suc m) ≡ failed c o n k → First os (suc m) c o n k) → First (p ∷ os) m c o n k
      go true q e ih = shift (code_bears (asks D p) (D.named m) (eqb-true (code D p (D.named m)) 0 q)) (ih e)
      go false q e ih =
          let ek : m ≡ k = cc in
          let ec : code D p (D.named m) ≡ c = cc in
          let eo : p ≡ o = cc in
          let en : D.named m ≡ n = cc in
          let z : k - m ≡ 0 = omega arith in
          record {
            late = omega arith;
            inside = omega arith;
            its = rw z eo;
            before = subst (λ (j : ℕ). AllMet D (take j (p ∷ os)) m) (sym z) tt;
            line = sym en ∙ ap D.named ek;
            fails = subst (λ (w : ℕ). code D o w ≡ c) en (subst (λ (w : Obligation). code D w (D.named m) ≡ c) eo ec);
            bad = λ y. eqb-false (code D p (D.named m)) 0 q (ec ∙ y);
          }

  -- what a line bears out is derived
  bears_derived : Admitted D → (w : Statement) (n : ℕ) → Bears D w n → Derived D.program w
  bears_derived A w n h = subst (Derived D.program) (sym h.says)
      (justified_derived D.program D.certificate A.lines n h.just)

  all_derived : Admitted D → (os : List Obligation) (m : ℕ) → AllMet D os m → All (λ o. Derived D.program (asks D o)) os
  all_derived A [] m h = tt
  all_derived A (o ∷ os) m h =
      (bears_derived A (asks D o) (D.named m) h.0, all_derived A os (suc m) h.1)

-- DEMAND 3: if every obligation is met, the outline is true in every run
pub accepted_sound : (D : Image) → Admitted D → (d : ℕ) → judgement D ≡ met d → EveryRun D.program D.outline
accepted_sound D A d e = every_run D.program D.outline A.program
    (all_derived D A (obligations D.program) 0 (judge_met D (obligations D.program) 0 d e).0)

-- DEMAND 2: accepted exactly if each obligation is met by its line, and then all are counted
pub accepted_met : (D : Image) (d : ℕ) → judgement D ≡ met d → AllMet D (obligations D.program) 0 × (d ≡ length (obligations D.program))
accepted_met D d e = let r = judge_met D (obligations D.program) 0 d e in (r.0, omega (arith, r.1))

pub met_accepted : (D : Image) → Admitted D → AllMet D (obligations D.program) 0 → judgement D ≡ met (length (obligations D.program))
met_accepted D A h = met_judge D A (obligations D.program) 0 h
    ∙ ap met (let q : 0 + length (obligations D.program) ≡ length (obligations D.program) = omega arith in q)

-- else the first that is not met
pub failed_first : (D : Image) (c : ℕ) (o : Obligation) (n k : ℕ) → judgement D ≡ failed c o n k
    → First D (obligations D.program) 0 c o n k
failed_first D = judge_failed D (obligations D.program) 0

-- CLAIMS

module _ (D : Image) where
  abbrev Next : ℕ → ℕ → ℕ → Bool → Finding
  Next n i m b = elim b [ true ↦ judge_claims D n (suc i) m | false ↦ denied i m ]

  -- accepted exactly if each of n claims from number i on is sustained
  claims_accepted : (n i m d : ℕ) → judge_claims D n i m ≡ accepted d → (m ≡ d) × ((j : ℕ) → i ≤ j → j < i + n → Sustains D j)
  unfolding judge_claims
  claims_accepted zero i m d e = ((let q : m ≡ d = cc in q), λ j a b. absurd (omega arith))
  claims_accepted (suc n) i m d e = go (sustained D i) refl e (claims_accepted n (suc i) m d)
    where
      go : (b : Bool) → sustained D i ≡ b → Next n i m b ≡ accepted d
          → (judge_claims D n (suc i) m ≡ accepted d → (m ≡ d) × ((j : ℕ) → suc i ≤ j → j < suc i + n → Sustains D j))
          → (m ≡ d) × ((j : ℕ) → i ≤ j → j < i + suc n → Sustains D j)
      go true q e ih = let r = ih e in (r.0, λ j a b. pick (eqb i j) j refl a b r.1)
        where
          pick : (x : Bool) (j : ℕ) → eqb i j ≡ x → i ≤ j → j < i + suc n → ((j : ℕ) → suc i ≤ j → j < suc i + n → Sustains D j)
              → Sustains D j
          pick true j y a b f = subst (Sustains D) (eqb-true i j y) (code_bears D (forbids D i) (D.claims.line i) (eqb-true _ 0 q))
          pick false j y a b f = let z = eqb-false i j y in f j (omega arith) (omega arith)
      go false q e ih = let z : ◌≡◌ {A = ℕ} 0 1 = cc in absurd (omega arith)

  sustained_accepted : Admitted D → (n i m : ℕ) → ((j : ℕ) → i ≤ j → j < i + n → Sustains D j) → judge_claims D n i m ≡ accepted m
  unfolding judge_claims
  sustained_accepted A zero i m h = refl
  sustained_accepted A (suc n) i m h =
      subst (λ (b : Bool). Next n i m b ≡ accepted m)
      (sym (eq-eqb _ 0 (bears_code D A (forbids D i) (D.claims.line i) (h i (omega arith) (omega arith)))))
      (sustained_accepted A n (suc i) m (λ j a b. h j (omega arith) (omega arith)))

  -- else the first that is not
  pub record FirstDenied (n i m k d : ℕ) : Type 0 where
    pub all : d ≡ m
    pub late : i ≤ k
    pub inside : k < i + n
    pub before : (j : ℕ) → i ≤ j → j < k → Sustains D j
    pub fails : Sustains D k → ⊥

  claims_denied : Admitted D → (n i m k d : ℕ) → judge_claims D n i m ≡ denied k d → FirstDenied n i m k d
  unfolding judge_claims
  claims_denied A zero i m k d e = let z : ◌≡◌ {A = ℕ} 0 1 = cc in absurd (omega arith)
  claims_denied A (suc n) i m k d e = go (sustained D i) refl e (claims_denied A n (suc i) m k d)
    where
      go : (b : Bool) → sustained D i ≡ b → Next n i m b ≡ denied k d
          → (judge_claims D n (suc i) m ≡ denied k d → FirstDenied n (suc i) m k d) → FirstDenied (suc n) i m k d
      go true q e ih =
          let f = ih e in
          record {
            all = f.all;
            late = omega (arith, f.late);
            inside = omega (arith, f.inside);
            before = λ j a b. pick (eqb i j) j refl a b f.before;
            fails = f.fails;
          }
        where
          pick : (x : Bool) (j : ℕ) → eqb i j ≡ x → i ≤ j → j < k → ((j : ℕ) → suc i ≤ j → j < k → Sustains D j) → Sustains D j
          pick true j y a b f = subst (Sustains D) (eqb-true i j y) (code_bears D (forbids D i) (D.claims.line i) (eqb-true _ 0 q))
          pick false j y a b f = let z = eqb-false i j y in f j (omega arith) b
      go false q e ih =
          let ek : i ≡ k = cc in
          let ed : m ≡ d = cc in
          record {
            all = sym ed;
            late = omega arith;
            inside = omega arith;
            before = λ j a b. absurd (omega arith);
            fails = subst (λ (j : ℕ). Sustains D j → ⊥) ek (λ h. eqb-false _ 0 q (bears_code D A (forbids D i) (D.claims.line i) h));
          }

  -- what an accepted image has: every obligation met and counted, every claim sustained
  pub accepted_all : (d : ℕ) → finding D ≡ accepted d → (judgement D ≡ met d) × EachSustained D
  accepted_all d e = go (judgement D) refl e
    where
      go : (o : Judgement) → judgement D ≡ o → behind_obligations D o ≡ accepted d → (judgement D ≡ met d) × EachSustained D
      go (met m) p e =
          let r = claims_accepted D.claims.count 0 m d e in
          (p ∙ ap met r.0, λ i b. r.1 i (omega arith) (omega arith))
      go (failed c o l m) p e = let z : ◌≡◌ {A = ℕ} 0 1 = cc in absurd (omega arith)

  pub all_accepted : Admitted D → (d : ℕ) → judgement D ≡ met d → EachSustained D → finding D ≡ accepted d
  all_accepted A d e h = ap (behind_obligations D) e ∙ sustained_accepted A D.claims.count 0 d (λ j a b. h j (omega arith))

  pub denied_first : Admitted D → (m k d : ℕ) → judgement D ≡ met m → finding D ≡ denied k d → FirstDenied D.claims.count 0 m k d
  denied_first A m k d p e = claims_denied A D.claims.count 0 m k d (sym (ap (behind_obligations D) p) ∙ e)

  -- THE CLAIMS of an accepted image: in no run are both threads at their points
  pub accepted_never : Admitted D → (d : ℕ) → finding D ≡ accepted d → (i : ℕ) → i < D.claims.count
      → NeverBoth D.program (D.claims.claim i)
  accepted_never A d e i b =
      let r = accepted_all d e in
      never_both D.program D.outline A.program
      (all_derived D A (obligations D.program) 0 (judge_met D (obligations D.program) 0 d r.0).0)
      (D.claims.claim i) (A.claims i b) (bears_derived D A (forbids D i) (D.claims.line i) (r.1 i b))
