-- The verdict on a well-formed image: its obligations in order, each met by the line that it names, or the first that is not; then claims.
use Rattle.std.specs.Prelude.{◌≡◌, Bool, true, false, List, [], ◌∷◌, ◌≢◌, ℕ, zero, suc, ◌<◌, T, eqb, length, get_or}
use Rattle.semantics.specs.Base.{Within}
use Rattle.semantics.specs.Machine.{Program}
use Rattle.logic.specs.Statement.{Statement, admitted}
use Rattle.logic_schemas.specs.Fits.{same_statement}
use Rattle.semantics.specs.EveryRun.{Outline}
use Rattle.logic.specs.Obligations.{Obligation, obligations, wants}
use Rattle.logic.specs.Claims.{Claim, threads_in, claims as excludes}
use Rattle.logic.specs.WellFormed.{WellFormed}
use Rattle.logic_outline.specs.Lines.{Certificate, marked, Justified}

-- the claims of an image, numbered from 0 to `count` - 1: what each states, the line that it names (0 for none), the number of its record
pub record Claims : Type 0 where
  pub count : ℕ
  pub claim : ℕ → Claim
  pub line : ℕ → ℕ
  pub place : ℕ → ℕ

-- what a well-formed image says: the program, the proof outline, the certificate, what the obligations name, the claims
pub record Image : Type 0 where
  pub program : Program
  pub outline : Outline
  pub certificate : Certificate
  -- the line that each obligation names, counted from 0; 0 for none
  pub named : ℕ → ℕ
  pub claims : Claims

-- met n: all n obligations are met; failed c o l n: obligation o is the first that is not met, with code c and line l, after n met ones
pub data Judgement : Type 0 where
  met : ℕ → Judgement
  failed : ℕ → Obligation → ℕ → ℕ → Judgement

-- "20 no line; 21 line concludes something else; 22 line unjustified"; 0 if there is a line, it states what is wanted and is justified
abbrev pub code_of : Bool → Bool → Bool → ℕ
code_of true says just = 20
code_of false false just = 21
code_of false true false = 22
code_of false true true = 0

module _ (D : Image) where
  -- the statement that meets the obligation
  abbrev pub asks : Obligation → Statement
  asks o = wants D.program D.outline o

  -- the code of the line n where the statement w is wanted
  unfoldable pub line_code : Statement → ℕ → ℕ
  line_code w n = code_of (eqb n 0) (same_statement w (D.certificate.line n).says)
      (marked D.program D.certificate D.certificate.count n)

  -- the code of the line n as the line of obligation o
  abbrev pub code : Obligation → ℕ → ℕ
  code o n = line_code (asks o) n

  -- the judgement on the obligations, the first of which has number m, after m met ones
  unfoldable pub judge : List Obligation → ℕ → Judgement
  judge [] m = met m
  judge (o ∷ os) m = elim (eqb (code o (D.named m)) 0) [ true ↦ judge os (suc m) | false ↦ failed (code o (D.named m)) o (D.named m) m ]

  -- the judgement on all obligations
  abbrev pub judgement : Judgement
  judgement = judge (obligations D.program) 0

  -- the line n proves the statement w: it is there, states it and is justified
  pub record Bears (w : Statement) (n : ℕ) : Type 0 where
    pub there : n ≢ 0
    pub says : w ≡ (D.certificate.line n).says
    pub just : Justified D.program D.certificate n

  -- the line n meets the obligation
  abbrev pub Met : Obligation → ℕ → Type 0
  Met o n = Bears (asks o) n

  -- each of the obligations, the first of which has number m, is met by the line that it names
  abbrev pub AllMet : List Obligation → ℕ → Type 0
  AllMet [] m = Unit {0}
  AllMet (o ∷ os) m = Met o (D.named m) × AllMet os (suc m)

-- what obligations and claims give. accepted m: all m obligations are met and all claims sustained; unmet: as `failed`; denied i m: claim
-- i, from 0, is the first that fails, after all m obligations
pub data Finding : Type 0 where
  accepted : ℕ → Finding
  unmet : ℕ → Obligation → ℕ → ℕ → Finding
  denied : ℕ → ℕ → Finding

module _ (D : Image) where
  -- what claim i must prove: "false (28 8) from both assertions joined by 25, lower thread first"
  abbrev pub forbids : ℕ → Statement
  forbids i = excludes D.outline (D.claims.claim i)

  -- the line of claim i proves it
  abbrev pub sustained : ℕ → Bool
  sustained i = eqb (line_code D (forbids i) (D.claims.line i)) 0

  -- the finding on n claims from claim i on, after m met obligations
  unfoldable pub judge_claims : ℕ → ℕ → ℕ → Finding
  judge_claims zero i m = accepted m
  judge_claims (suc n) i m = elim (sustained i) [ true ↦ judge_claims n (suc i) m | false ↦ denied i m ]

  -- the finding after the obligations: claims are judged only if all obligations are met
  abbrev pub behind_obligations : Judgement → Finding
  behind_obligations (met m) = judge_claims D.claims.count 0 m
  behind_obligations (failed c o l m) = unmet c o l m

  -- the finding on the image
  abbrev pub finding : Finding
  finding = behind_obligations (judgement D)

-- what codes 5 to 9 and 23 leave of images
pub record Admitted (D : Image) : Type 0 where
  pub program : WellFormed D.program D.outline
  pub lines : (n : ℕ) → Within D.certificate.count n → T (admitted D.program (D.certificate.line n).says)
  pub lower : (n : ℕ) → Within D.certificate.count n → (i : ℕ) → i < length (D.certificate.line n).premises
      → get_or (D.certificate.line n).premises i 0 < n
  pub claims : (i : ℕ) → i < D.claims.count → threads_in D.program (D.claims.claim i)
