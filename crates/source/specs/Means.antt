-- A CONTENT THAT A SOURCE MEANS: program, outline, certificate, named lines and claims, wherever the source has a thread, a point, a line,
-- an obligation or a claim. What a content has elsewhere no obligation, rule or step asks for.
use Rattle.std.specs.Prelude.{◌≡◌, ℕ, suc, ◌+◌, ◌<◌, length, get_or}
use Rattle.semantics.specs.Base.{Within}
use Rattle.semantics.specs.Machine.{Program}
use Rattle.logic.specs.Obligations.{obligations}
use Rattle.logic_outline.specs.Verdict.{Image}
use Rattle.source.specs.Source.{Claimed, Source}
use Rattle.source.specs.Meaning.{program_of, outline_of}
use Rattle.source.specs.Certificate.{line_at}

-- the programs have the same threads, words, values, start values and marks, and in each thread the same points and instructions
pub record Alike (P Q : Program) : Type 0 where
  pub threads : P.threads ≡ Q.threads
  pub words : P.words ≡ Q.words
  pub range : P.range ≡ Q.range
  pub init : (x : ℕ) → P.init x ≡ Q.init x
  pub cleared : (r : ℕ) → P.cleared r ≡ Q.cleared r
  pub points : (t : ℕ) → Within P.threads t → P.points t ≡ Q.points t
  pub code : (t k : ℕ) → Within P.threads t → suc k < P.points t → P.code t k ≡ Q.code t k

-- a claim that the source does not have
abbrev pub no_claim : Claimed
no_claim = record { claim = record { thread = 0; point = 0; other = 0; other_point = 0 }; line = 0 }

-- the content D is what the source means; records count from 1, and the claims are the last ones
pub record Means (s : Source) (D : Image) : Type 0 where
  pub program : Alike D.program (program_of s)
  pub outline : (t k : ℕ) → Within D.program.threads t → k < D.program.points t → D.outline t k ≡ outline_of s t k
  pub count : D.certificate.count ≡ length s.lines
  pub lines : (n : ℕ) → Within (length s.lines) n → D.certificate.line n ≡ line_at s n
  pub each_named : length s.named ≡ length (obligations D.program)
  pub named : (k : ℕ) → D.named k ≡ get_or s.named k 0
  pub claim_count : D.claims.count ≡ length s.claims
  pub claims : (i : ℕ) → i < length s.claims → D.claims.claim i ≡ (get_or s.claims i no_claim).claim
  pub claim-lines : (i : ℕ) → i < length s.claims → D.claims.line i ≡ (get_or s.claims i no_claim).line
  pub places : (i : ℕ) → D.claims.place i ≡ length s.formulas + length s.threads + length s.lines + 4 + i
