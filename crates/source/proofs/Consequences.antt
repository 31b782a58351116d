-- What a reader concludes from `TrueFor` and `Means` alone, of a source that he knows.
use mathlib.Core.Path.{◌≡◌, refl}
use mathlib.Core.Bool.{true}
use mathlib.Core.List.{List, map}
use Prim.Native.Nat.{ℕ, suc, ◌+◌, ◌<◌}
use Rattle.std.specs.Prelude.{length, get_or}
use Rattle.semantics.specs.Base.{All, Within}
use Rattle.semantics.specs.Machine.{State, Start, Step, run}
use Rattle.semantics.specs.Truth.{True}
use Rattle.semantics.specs.EveryRun.{EveryRun}
use Rattle.logic.specs.Claims.{NeverBoth}
use Rattle.logic.specs.Obligations.{obligations}
use Rattle.logic_outline.specs.Verdict.{Image}
use Rattle.limits.specs.Numbers.{nth}
use Rattle.source.specs.Source.{Register, Source}
use Rattle.source.specs.Written.{assertions, written}
use Rattle.source.specs.Meaning.{no_point, assertion, instr, thread_at, program_of, outline_of, claims_of}
use Rattle.source.specs.Certificate.{line_at}
use Rattle.source.specs.Means.{no_claim, Means}
use Rattle.source.specs.InRange.{InRange}
use Rattle.source.specs.TrueFor.{TrueFor}
use Rattle.source.proofs.Worked.{small}

-- an accepted image has a source
pub has_source : (image : List ℕ) → TrueFor image → (s : Source) × (written s ≡ image)
has_source image h = (h.source, h.bytes)

-- the page's small image: if it is accepted, its outline is true in every run of its program
pub small_true : (image : List ℕ) → written small ≡ image → TrueFor image → EveryRun (program_of small) (outline_of small)
small_true image e h = (h.kept small e).holds

module _ (s : Source) (h : TrueFor (written s)) where
  -- its numbers are in range
  pub ranged : InRange s
  ranged = (h.kept s refl).in_range

  -- after every list of steps from every start each thread's assertion at its point is true
  pub true_after : (x : State) → Start (program_of s) x → (l : List Step) (t : ℕ) → Within (program_of s).threads t
      → True (program_of s) (run (program_of s) x l) (outline_of s t ((run (program_of s) x l).point t))
  true_after x b l t w = (h.kept s refl).holds.holds x b l t w

  -- and each claim holds
  pub claims_hold : All (NeverBoth (program_of s)) (claims_of s)
  claims_hold = (h.kept s refl).never

-- THE CONTENT that is judged is the source's: D is a content that s means
module _ (s : Source) (D : Image) (m : Means s D) where
  -- the header: threads, words, range, "a start value per word", the start marks of registers
  pub as_many_threads : D.program.threads ≡ length s.threads
  unfolding program_of
  as_many_threads = m.program.threads

  pub as_many_words : D.program.words ≡ length s.start_values
  unfolding program_of
  as_many_words = m.program.words

  pub same_range : D.program.range ≡ s.range
  unfolding program_of
  same_range = m.program.range

  pub same_start_value : (x : ℕ) → D.program.init x ≡ nth s.start_values x 0
  unfolding program_of
  same_start_value = m.program.init

  pub same_start_mark : (r : ℕ) → D.program.cleared r ≡ nth (map (λ (q : Register). q.cleared) s.registers) r true
  unfolding program_of
  same_start_mark = m.program.cleared

  -- a thread: "points n", "then n − 1 instructions"; the outline: "a formula per point, threads in order"
  module _ (t : ℕ) (thread : Within D.program.threads t) where
    pub as_many_points : D.program.points t ≡ length (thread_at s t).points + 1
    unfolding program_of
    as_many_points = m.program.points t thread

    pub same_instruction : (k : ℕ) → suc k < D.program.points t
        → D.program.code t k ≡ instr s (get_or (thread_at s t).points k no_point).instruction
    unfolding program_of
    same_instruction k = m.program.code t k thread

    pub same_assertion : (k : ℕ) → k < D.program.points t → D.outline t k ≡ assertion s (get_or (assertions (thread_at s t)) k 0)
    unfolding outline_of
    same_assertion k = m.outline t k thread

  -- the lines
  pub as_many_lines : D.certificate.count ≡ length s.lines
  as_many_lines = m.count

  pub same_line : (n : ℕ) → Within (length s.lines) n → D.certificate.line n ≡ line_at s n
  same_line = m.lines

  -- "a line number per obligation"
  pub one_per_obligation : length s.named ≡ length (obligations D.program)
  one_per_obligation = m.each_named

  pub same_named : (k : ℕ) → D.named k ≡ get_or s.named k 0
  same_named = m.named

  -- the claims: what each says, the line that it names, and the number of its record: they are the last records
  pub as_many_claims : D.claims.count ≡ length s.claims
  as_many_claims = m.claim_count

  module _ (i : ℕ) (there : i < length s.claims) where
    pub same_claim : D.claims.claim i ≡ (get_or s.claims i no_claim).claim
    same_claim = m.claims i there

    pub same_claim_line : D.claims.line i ≡ (get_or s.claims i no_claim).line
    same_claim_line = m.claim-lines i there

  pub claim_record : (i : ℕ) → D.claims.place i ≡ length s.formulas + length s.threads + length s.lines + 4 + i
  claim_record = m.places
