-- WHAT A CALLER OF `check_image` MAY CONCLUDE, from its promise alone, in the order and the words of the scope page.
use mathlib.Core.Path.{◌≡◌, ap, sym, ◌∙◌, subst}
use mathlib.Core.List.{List, [], ◌++◌}
use mathlib.Core.Logic.{◌⊎◌, inl, inr}
use Prim.Native.Nat.{ℕ, ◌≤◌, ◌<◌}
use native.Mathlib.Omega.{arith}
use lib.ListN.{length, take, drop, length-append, length-drop}
use borrow.Author.Tests.{lt-ltb, le-ltb}
use Rattle.semantics.specs.Base.{All, Within}
use Rattle.semantics.specs.Machine.{State, Start, Step, run}
use Rattle.semantics.specs.Truth.{True}
use Rattle.semantics.specs.EveryRun.{EveryRun}
use Rattle.logic.specs.Claims.{NeverBoth}
use Rattle.limits.specs.Numbers.{le16}
use Rattle.image_frames.specs.Fault.{code_of}
use Rattle.image_frames.specs.declared.fault.Fault.{Fault}
use Rattle.logic_outline.specs.Verdict.{Image, Finding, accepted, unmet, denied}
use Rattle.logic_outline.specs.Judged as Outline
use Rattle.logic_outline.specs.Judged.{total, numbered, Meets, EachMet, Lacks, Sustains, EachSustained, each_met, first_unmet, first-denied}
use Rattle.image_meaning.specs.Image.{Result, refused, read, decode}
use Rattle.verdict_record.specs.ObligationPlace.{obligation, place_of}
use Rattle.verdict_record.specs.Fields.{nowhere, gathered, fields_of}
use Rattle.verdict_record.specs.Output.{code_for, bytes_for}
use Rattle.verdict_record.specs.Record.{size, record_bytes}
use Rattle.verdict_record.specs.declared.verdict.Fields.{Fields}
use Rattle.verdict_record.proofs.ReadBack.{fields_in, record_size, record_length, record_kind, record_read}
use Rattle.checker_spec.specs.ImageVerdict.{claimed, judged, answered, verdict}
use Rattle.verdict_record.specs.declared.verdict.Verdict.TheVariants.{Refused}
use Rattle.source.specs.Source.{Source}
use Rattle.source.specs.Written as Written
use Rattle.source.specs.Meaning.{program_of, outline_of, claims_of}
use Rattle.source.specs.InRange.{InRange}
use Rattle.source.specs.Means.{Means}
use Rattle.checker_spec.specs.Promise.{Promise, SourceJudged}

-- the first obligation that is not met, in the nine numbers of a verdict: its code, class, threads and points, its line, and as count how
-- many are met before it
pub record FirstUnmet (D : Image) (f : Fields) : Type 0 where
  pub index : ℕ
  pub inside : index < total D
  pub before : (i : ℕ) → i < index → Meets D i
  pub lacks : Lacks D (numbered D index) (D.named index) f.code
  pub named : f ≡ gathered f.code 0 (place_of (obligation (numbered D index))) (D.named index) index

-- the first claim that fails, where every obligation is met: 26, its record, its threads and points, its line; "class 0"; "Count stays with
-- obligations"
pub record FirstDenied (D : Image) (f : Fields) : Type 0 where
  pub index : ℕ
  pub inside : index < D.claims.count
  pub met : EachMet D
  pub before : (j : ℕ) → j < index → Sustains D j
  pub fails : Sustains D index → ⊥
  pub named : f ≡ gathered 26 (D.claims.place index) (claimed (D.claims.claim index)) (D.claims.line index) (total D)

-- every obligation and every claim is met: all numbers are 0 but the count, which has every obligation
pub record AllMet (D : Image) (f : Fields) : Type 0 where
  pub met : EachMet D
  pub sustained : EachSustained D
  pub named : f ≡ gathered 0 0 nowhere 0 (total D)

-- the numbers of a right finding
found : (D : Image) (o : Finding) → Outline.Judged D o → (f : Fields) → f ≡ fields_of (judged D o) → AllMet D f ⊎ (FirstUnmet D f ⊎ FirstDenied D f)
unfolding fields_of gathered
found D (accepted n) (each_met h g) f e = inl (record { met = h; sustained = g; named = e })
found D (unmet c o l n) (first_unmet k b g q) f e =
    inr (inl (record {
      index = k;
      inside = b;
      before = g;
      lacks = subst (Lacks D o l) (sym (ap (λ (x : Fields). x.code) e)) q;
      named = subst (λ (x : ℕ). f ≡ gathered x 0 (place_of (obligation o)) l n) (sym (ap (λ (x : Fields). x.code) e)) e;
    }))
found D (denied i n) (first-denied k h b g q) f e =
    inr (inr (record { index = k; inside = b; met = h; before = g; fails = q; named = e }))

read_same : (D E : Image) → read D ≡ read E → D ≡ E
read_same D E e = cc

module _ (image buffer : List ℕ) (code : ℕ) (after : List ℕ) (p : Promise image buffer code after) where
  -- OUTPUT

  -- "1 shorter than 22 bytes; only the code is returned, nothing written"
  pub short_code : length buffer < 22 → code ≡ 1
  unfolding code_for
  short_code h = p.returned ∙ rw (lt-ltb (length buffer) size h)

  pub short_kept : length buffer < 22 → after ≡ buffer
  unfolding bytes_for
  short_kept h = p.written ∙ rw (lt-ltb (length buffer) size h)

  -- the buffer has 22 bytes or more
  module _ (room : 22 ≤ length buffer) where
    -- the nine numbers of the verdict
    abbrev numbers : Fields
    numbers = fields_of (verdict image)

    whole : after ≡ record_bytes numbers ++ drop 22 buffer
    unfolding bytes_for
    whole = p.written ∙ rw (le-ltb (length buffer) size room)

    -- "Every code but 1 writes the verdict": a record "of 22 bytes, kind 7"
    pub record_written : take 22 after ≡ record_bytes numbers
    unfolding record_bytes
    record_written = ap (λ (l : List ℕ). take 22 l) whole

    pub length_written : le16 after ≡ 20
    length_written = ap le16 whole ∙ record_length numbers (drop 22 buffer)

    pub kind_written : le16 (drop 2 after) ≡ 7
    kind_written = ap (λ (l : List ℕ). le16 (drop 2 l)) whole ∙ record_kind numbers (drop 22 buffer)

    -- "bytes behind it stay"
    pub behind_kept : drop 22 after ≡ drop 22 buffer
    unfolding record_bytes
    behind_kept = ap (λ (l : List ℕ). drop 22 l) whole

    pub size_kept : length after ≡ length buffer
    size_kept =
        ap length whole ∙ length-append (record_bytes numbers) (drop 22 buffer)
        ∙ let e = record_size numbers [] in let d = length-drop 22 buffer in omega arith

    -- the nine numbers in its bytes, each of 16 bits, are those of the verdict
    pub numbers_read : fields_in after ≡ numbers
    numbers_read = ap fields_in whole ∙ record_read numbers (drop 22 buffer) p.uncut

    own_code : code ≡ numbers.code
    unfolding code_for
    own_code = p.returned ∙ rw (le-ltb (length buffer) size room)

    -- the code returned is the first of them
    pub code_read : code ≡ (fields_in after).code
    code_read = own_code ∙ sym (ap (λ (f : Fields). f.code) numbers_read)

    -- WHOLE IMAGE, RECORD FRAME, BODY

    -- an image with a fault: its code and its record; "Fields that don't apply are 0"
    pub fault_read : (f : Fault) (i : ℕ) → decode image ≡ refused f i → fields_in after ≡ gathered (code_of f) i nowhere 0 0
    unfolding verdict fields_of
    fault_read f i e = numbers_read ∙ ap (λ (r : Result). fields_of (answered r)) e

    -- OBLIGATIONS AND CLAIMS of an image that says D
    module _ (D : Image) (says : decode image ≡ read D) where
      -- all are met, or the first obligation that is not is named, or the first claim
      pub first_named : AllMet D (fields_in after) ⊎ (FirstUnmet D (fields_in after) ⊎ FirstDenied D (fields_in after))
      first_named = let j = p.judged D says in found D j.finding j.right (fields_in after) (numbers_read ∙ ap fields_of j.answer)

      -- "accepted: code 0", exactly if every obligation and every claim names a line that states what is wanted and that is justified
      pub accepted_if : EachMet D → EachSustained D → code ≡ 0
      accepted_if h g = (p.judged D says).if_met room h g

      pub accepted_only_if : code ≡ 0 → EachMet D × EachSustained D
      accepted_only_if = (p.judged D says).only_if

    -- BY THE SOURCE: the image is refused for its form, with code and record, or there is a source that is written as it
    abbrev FaultyOrWritten : Type 0
    FaultyOrWritten =
        ((f : Fault) × (i : ℕ) × (fields_in after ≡ gathered (code_of f) i nowhere 0 0)) ⊎ ((s : Source) × (Written.written s ≡ image))

    pub faulty_or_written : FaultyOrWritten
    unfolding fields_of
    faulty_or_written = go p.by_source where
      go : ((f : Fault) × (i : ℕ) × (verdict image ≡ Refused f i)) ⊎ SourceJudged image (verdict image) buffer code → FaultyOrWritten
      go (inl (f, i, e)) = inl (f, i, numbers_read ∙ ap fields_of e)
      go (inr j) = inr (j.source, j.bytes)

    -- THE SAME BY THE SOURCE s that is written as the image: it is refused for its form, or what is judged is what s means
    module _ (s : Source) (writes : Written.written s ≡ image) where
      -- a fault of the form with its code and record; or a content that s means, of which all are met, or the first that is not is named
      abbrev ByMeaning : Type 0
      ByMeaning =
          ((f : Fault) × (i : ℕ) × (fields_in after ≡ gathered (code_of f) i nowhere 0 0))
          ⊎ ((D : Image) × Means s D × (AllMet D (fields_in after) ⊎ (FirstUnmet D (fields_in after) ⊎ FirstDenied D (fields_in after))))

      pub first_named_by_source : ByMeaning
      unfolding fields_of
      first_named_by_source = go p.by_source where
        go : ((f : Fault) × (i : ℕ) × (verdict image ≡ Refused f i)) ⊎ SourceJudged image (verdict image) buffer code → ByMeaning
        go (inl (f, i, e)) = inl (f, i, numbers_read ∙ ap fields_of e)
        go (inr j) =
            inr (
              j.content,
              j.means s writes,
              found j.content j.right.finding j.right.right (fields_in after)
                  (numbers_read ∙ ap fields_of j.right.answer),
            )

  -- DEMAND 3: code 0

  module _ (accepted : code ≡ 0) where
    -- the image is well formed
    pub accepted_reads : (D : Image) × (decode image ≡ read D)
    accepted_reads = let t = p.accepted accepted in (t.content, t.says)

    module _ (D : Image) (says : decode image ≡ read D) where
      content_is : (p.accepted accepted).content ≡ D
      content_is = read_same (p.accepted accepted).content D (sym (p.accepted accepted).says ∙ says)

      -- in every run, from every permitted start state, after every list of steps, refused ones among them: each thread's assertion at its
      -- point is true
      pub every_run : (s : State) → Start D.program s → (l : List Step) → (t : ℕ) → Within D.program.threads t
          → True D.program (run D.program s l) (D.outline t ((run D.program s l).point t))
      every_run = (subst (λ (E : Image). EveryRun E.program E.outline) content_is (p.accepted accepted).holds).holds

      -- "no reachable state has both threads at their points"
      pub never_both : (i : ℕ) → i < D.claims.count → (s : State) → Start D.program s → (l : List Step)
          → (run D.program s l).point (D.claims.claim i).thread ≡ (D.claims.claim i).point
          → (run D.program s l).point (D.claims.claim i).other ≡ (D.claims.claim i).other_point → ⊥
      never_both i h = (subst (λ (E : Image). (j : ℕ) → j < E.claims.count → NeverBoth E.program (E.claims.claim j)) content_is
          (p.accepted accepted).never i h).never

    -- an accepted image has a source
    pub has_source : (s : Source) × (Written.written s ≡ image)
    has_source = let t = p.true_for accepted in (t.source, t.bytes)

    -- and of whichever source is written as the image
    module _ (s : Source) (writes : Written.written s ≡ image) where
      -- every number is in range
      pub source_ranged : InRange s
      source_ranged = ((p.true_for accepted).kept s writes).in_range

      -- each thread's assertion at its point is true in every run
      pub source_every_run : (x : State) → Start (program_of s) x → (l : List Step) → (t : ℕ) → Within (program_of s).threads t
          → True (program_of s) (run (program_of s) x l) (outline_of s t ((run (program_of s) x l).point t))
      source_every_run = ((p.true_for accepted).kept s writes).holds.holds

      -- no claim's threads are at its points together
      pub source_never_both : All (NeverBoth (program_of s)) (claims_of s)
      source_never_both = ((p.true_for accepted).kept s writes).never
