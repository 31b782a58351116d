-- The trimmed image says what the whole one says: the same program and outline, and each line that stays under its new number.
use mathlib.Core.Path.{◌≡◌, refl, ap, sym, ◌∙◌, subst}
use mathlib.Core.Bool.{Bool, true, false, cond}
use mathlib.Core.List.{List, [], map}
use Prim.Native.Nat.{ℕ, ◌+◌, ◌-◌, ◌≤◌, ◌<◌}
use native.Mathlib.Omega.{arith}
use lib.Dec.{eqb, ltb}
use borrow.Author.Tests.{eqb-false, ltb-false, ltb-true}
use lib.ListN.{length, get_or, drop, get_or-eq_default}
use Rattle.semantics.specs.Base.{Within}
use Rattle.semantics.specs.Formula.{Sort}
use Rattle.limits.specs.Numbers.{nth, le16, numbers, within}
use Rattle.limits.proofs.PassedTests.{within_true, every_at}
use Rattle.image_meaning.proofs.LinesAdmitted.{in_range}
use Rattle.image_header.specs.Header.{start_values, cleared, value_range, thread_count}
use Rattle.image_header.specs.Thread.{nothing, instructions}
use Rattle.image_header.specs.declared.sizes.Sizes.{Sizes}
use Rattle.image_header.specs.declared.instruction.Instruction.{Instruction}
use Rattle.image_bodies.specs.RecordPlaces.{thread_body, instruction_of}
use Rattle.image_bodies.specs.PointCounts.{point_counts_to, point_counts, obligation_count}
use Rattle.image_bodies.specs.Line.{form_of, premises}
use Rattle.image_bodies.specs.declared.line.Form.{Form}
use Rattle.image_bodies.specs.declared.line.Form.TheVariants.{Triple, Implication, Inclusion, Pair, Unlisted}
use Rattle.image.specs.Decode.{sizes_of}
use Rattle.logic_outline.specs.Lines.{Certificate}
use Rattle.image_meaning.specs.Formulas.{formula}
use Rattle.image_meaning.specs.Program.{instr, point_count, program_of, outline_body, outline_number, outline_of}
use Rattle.image_meaning.specs.Certificate.{saying, line_body, certificate_of}
use Rattle.image_meaning.specs.Image.{named_line, claim_in, claim_body}
use Rattle.trim_spec.specs.Document.{Document, LineRecord, ClaimRecord}
use Rattle.trim_spec.specs.Canonical.{Canonical, no_line, no_claim, LineFits, ClaimFits}
use Rattle.trim_spec.specs.Encode.{line_bytes, claim_bytes, bodies_of}
use Rattle.trim_spec.specs.Parse.{sizes}
use Rattle.trim_spec.proofs.LineBytes.{line_rule, line_thread, line_point, line_left, line_right, line_premises}
use Rattle.trim_spec.proofs.ClaimBytes.{claim_thread, claim_point, claim_other, claim_other_point, claim_line}
use Rattle.trim_spec.proofs.BodyPlaces as Places
use Rattle.trim_spec.specs.Live.{renumbered, kept, used}
use Rattle.trim_spec.specs.Trim.{half_by, instruction_by, line_by, claim_by, trimmed_by}
use Rattle.trim_spec.specs.Rests.{Rests, premise, Uses, instruction, second, outline, left, right}
use Rattle.trim_spec.proofs.MarkCounts.{renumbered_0, renumbered_low}
use Rattle.trim_spec.proofs.Renumbered as Moved
use Rattle.trim_spec.proofs.LiveLines.{Named, kept_rests, rests_kept}
use Rattle.trim_spec.proofs.LiveFormulas.{Written, uses_used}
use Rattle.trim_spec.proofs.CanonicalKept.{canonical_kept, line-fits, claim_fits}
use Rattle.trim_spec.proofs.TrimPremises.{Trimming, threads_kept}
use Rattle.trim_spec.proofs.FormulaKept as Formulas
use Rattle.trim_spec.proofs.FormulaKept.{header_kept, formula_kept}
use Rattle.trim_spec.proofs.ThreadKept.{each_nth, old_body, old_instructions, last_kept}
use Rattle.trim_spec.proofs.DocumentSays.{outline_said, named_said, premises_said, claim_said}
use Rattle.trim_spec.proofs.ListKept.{points_length, obligations_many}
use Rattle.trim_spec.proofs.TallyKept.{instruction_kept, tally_to_kept}
use Rattle.trim_spec.proofs.AbsentPoints.{with_points}
use Rattle.trim_spec.proofs.JustifiedTransfer.{Carried}

module _ (D : Document) (N : Named D) (F : Written D) (T : Trimming (used D) (kept D) D) where
  abbrev E : Document
  E = trimmed_by (used D) (kept D) D

  abbrev f : ℕ → ℕ
  f = renumbered (used D)

  abbrev g : ℕ → ℕ
  g = renumbered (kept D)

  abbrev z : Sizes
  z = sizes D

  abbrev l : List (List ℕ)
  l = bodies_of D

  abbrev z' : Sizes
  z' = sizes E

  abbrev l' : List (List ℕ)
  l' = bodies_of E

  abbrev by : Instruction → Instruction
  by = instruction_by f g

  used_named : (n : ℕ) → Uses D n → Formulas.Named T n
  used_named n w = (λ q. uses_used D N F n w, F.there n w)

  none_named : Formulas.Named T 0
  none_named = (λ q. absurd (q refl), omega arith)

  read_kept : (s : Sort) (n : ℕ) → Formulas.Named T n → formula l' s (f n) ≡ formula l s n
  unfolding formula
  read_kept s n h = rw (formula_kept T n h)

  -- instructions

  instr_kept : (i : Instruction) → Formulas.Named T i.formula → Formulas.Named T i.second.formula → instr l' (by i) ≡ instr l i
  unfolding instr instruction_by half_by
  instr_kept i h w = rw (
    read_kept Sort.value i.formula h,
    read_kept Sort.test i.formula h,
    read_kept Sort.value i.second.formula w,
  )

  both_named : (t p : ℕ) → Formulas.Named T (instruction_of z l t p).formula × Formulas.Named T (instruction_of z l t p).second.formula
  unfolding instruction_of sizes sizes_of
  both_named t p = go (eqb t 0) (ltb z.threads t) refl refl
    where
      Fine : Instruction → Type 0
      Fine i = Formulas.Named T i.formula × Formulas.Named T i.second.formula

      here : (j : ℕ) → j < length D.threads → (b : Bool) → ltb p (length (get_or D.threads j [])) ≡ b
          → Fine (get_or (get_or D.threads j []) p nothing)
      here j a true e = let c = ltb-true p (length (get_or D.threads j [])) e in
          (used_named _ (instruction j p a c), used_named _ (second j p a c))
      here j a false e =
          let c = ltb-false p (length (get_or D.threads j [])) e in
          subst Fine (sym (get_or-eq_default (get_or D.threads j []) nothing c)) (none_named, none_named)

      go : (a b : Bool) → eqb t 0 ≡ a → ltb z.threads t ≡ b
          → Fine (cond a nothing (cond b nothing (get_or (instructions (thread_body z l t)) p nothing)))
      go true b e d = (none_named, none_named)
      go false true e d = (none_named, none_named)
      go false false e d =
          let q = eqb-false t 0 e in
          let h = ltb-false z.threads t d in
          let s = T.threads in
          let high : t ≤ length D.threads = omega arith in
          subst (λ (is : List Instruction). Fine (get_or is p nothing))
          (sym (ap instructions (old_body T t (omega arith) high) ∙ old_instructions T t (omega arith) high))
          (each_nth (λ is. Fine (get_or is p nothing)) [] D.threads t (omega arith) high
          (λ j a. here j a (ltb p (length (get_or D.threads j []))) refl))

  code_kept : (t p : ℕ) → instr l' (instruction_of z' l' t p) ≡ instr l (instruction_of z l t p)
  code_kept t p = let h = both_named t p in ap (instr l') (instruction_kept T t p) ∙ instr_kept (instruction_of z l t p) h.0 h.1

  -- the program; points are those of the threads that are there

  pub program_kept : program_of z' l' ≡ with_points (program_of z l) (point_count z' l')
  unfolding sizes sizes_of
  program_kept = λ i. record {
    threads = z.threads;
    words = z.words;
    range = value_range (header_kept T i);
    init = λ x. nth (start_values (header_kept T i)) x 0;
    cleared = cleared (header_kept T i);
    points = point_count z' l';
    code = λ t k. code_kept t k i;
  }

  pub points_kept : (t : ℕ) → Within z.threads t → point_count z' l' t ≡ point_count z l t
  unfolding point_count sizes sizes_of
  points_kept t w = rw (last_kept T t w.0 (let s = T.threads in let h = w.1 in omega arith))

  -- the outline

  module _ (O : length D.outline ≡ (point_counts z l).points) (B : length D.obligations ≡ obligation_count z l) where
    same_threads : thread_count E.header ≡ length E.threads
    same_threads = threads_kept T

    canonical : Canonical E
    canonical = canonical_kept (used D) (kept D) D T.canonical

    outline_old : numbers (point_counts z l).points (outline_body z l) ≡ D.outline
    outline_old = outline_said D T.canonical T.threads O

    outline_new : numbers (point_counts z' l').points (outline_body z' l') ≡ E.outline
    outline_new = outline_said E canonical same_threads (points_length T)

    number_kept : (t k : ℕ) → outline_number z' l' t k ≡ f (outline_number z l t k)
    unfolding outline_number sizes sizes_of
    number_kept t k = rw (outline_new, outline_old) (go (eqb t 0) (ltb z.threads t) refl)
      where
        go : (a b : Bool) → ltb z.threads t ≡ b
            → cond a 0 (cond b 0 (get_or E.outline ((point_counts_to z' l' (t - 1)).points + k) 0)) ≡ f
            (cond a 0 (cond b 0 (get_or D.outline ((point_counts_to z l (t - 1)).points + k) 0)))
        go true b e = sym (renumbered_0 (used D))
        go false true e = sym (renumbered_0 (used D))
        go false false e =
            let h = ltb-false z.threads t e in
            let s = T.threads in
            rw (tally_to_kept T (t - 1) (omega arith)) (Moved.outline-at (used D) (kept D) D ((point_counts_to z l (t - 1)).points + k))

    outline_named : (i : ℕ) → Formulas.Named T (get_or D.outline i 0)
    outline_named i = go (ltb i (length D.outline)) refl
      where
        go : (b : Bool) → ltb i (length D.outline) ≡ b → Formulas.Named T (get_or D.outline i 0)
        go true e = used_named _ (outline i (ltb-true i (length D.outline) e))
        go false e = subst (Formulas.Named T) (sym (get_or-eq_default D.outline 0 (ltb-false i (length D.outline) e))) none_named

    number_named : (t k : ℕ) → Formulas.Named T (outline_number z l t k)
    unfolding outline_number
    number_named t k = rw outline_old (go (eqb t 0) (ltb z.threads t))
      where
        go : (a b : Bool) → Formulas.Named T (cond a 0 (cond b 0 (get_or D.outline ((point_counts_to z l (t - 1)).points + k) 0)))
        go true b = none_named
        go false true = none_named
        go false false = outline_named ((point_counts_to z l (t - 1)).points + k)

    pub outline_kept : (t k : ℕ) → outline_of z' l' t k ≡ outline_of z l t k
    outline_kept t k = ap (formula l' Sort.assertion) (number_kept t k)
        ∙ read_kept Sort.assertion (outline_number z l t k) (number_named t k)

    -- the lines that stay
    pub record Line-stays (n : ℕ) : Type 0 where
      pub low : 1 ≤ n
      pub high : n ≤ length D.lines
      pub mark : get_or (kept D) n false ≡ true

    module _ (n : ℕ) (S : Line-stays n) where
      abbrev v : LineRecord
      v = nth D.lines n no_line

      old_line : line_body z l n ≡ line_bytes v
      old_line = Places.line_at D T.threads n S.low S.high

      new_line : line_body z' l' (g n) ≡ line_bytes (line_by f g v)
      new_line =
          Places.line_at E same_threads (g n) (renumbered_low (kept D) n S.low S.mark)
          (Moved.line_there (used D) (kept D) D n S.high)
          ∙ ap line_bytes (Moved.line_at (used D) (kept D) D n S.low S.high S.mark)

      old_fits : LineFits v
      old_fits = each_nth LineFits no_line D.lines n S.low S.high T.canonical.lines

      new_fits : LineFits (line_by f g v)
      new_fits = line-fits (used D) (kept D) v old_fits

      rests : Rests D n
      rests = kept_rests D N n S.mark

      left_kept : (s : Sort) → formula l' s (f v.left) ≡ formula l s v.left
      left_kept s = read_kept s v.left (used_named _ (left n S.low S.high rests))

      right_kept : (s : Sort) → formula l' s (f v.right) ≡ formula l s v.right
      right_kept s = read_kept s v.right (used_named _ (right n S.low S.high rests))

      abbrev b : List ℕ
      b = line_bytes v

      abbrev b'' : List ℕ
      b'' = line_bytes (line_by f g v)

      -- what the bytes have, old and new
      thread_same : get_or b'' 1 0 ≡ get_or b 1 0
      unfolding line_by
      thread_same = line_thread (line_by f g v) ∙ sym (line_thread v)

      point_same : get_or b'' 2 0 ≡ get_or b 2 0
      unfolding line_by
      point_same = line_point (line_by f g v) ∙ sym (line_point v)

      left_same : (s : Sort) → formula l' s (le16 (drop 3 b'')) ≡ formula l s (le16 (drop 3 b))
      unfolding line_by
      left_same s = ap (formula l' s) (line_left (line_by f g v) new_fits) ∙ left_kept s ∙ ap (formula l s) (sym (line_left v old_fits))

      right_same : (s : Sort) → formula l' s (le16 (drop 5 b'')) ≡ formula l s (le16 (drop 5 b))
      unfolding line_by
      right_same s = ap (formula l' s) (line_right (line_by f g v) new_fits) ∙ right_kept s ∙ ap (formula l s) (sym (line_right v old_fits))

      says_kept : (o : Form) → saying z' l' o b'' ≡ saying z l o b
      unfolding saying
      says_kept Triple = rw (left_same Sort.assertion, right_same Sort.assertion, thread_same, point_same)
      says_kept Implication = rw (left_same Sort.assertion, right_same Sort.assertion)
      says_kept Inclusion = rw (left_same Sort.interval, right_same Sort.interval)
      says_kept Pair = rw (
        left_same Sort.assertion,
        right_same Sort.assertion,
        thread_same,
        point_same,
        code_kept (get_or b 1 0) (get_or b 2 0),
      )
      says_kept Unlisted = rw (left_same Sort.interval, right_same Sort.interval)

      rule_same : get_or b'' 0 0 ≡ get_or b 0 0
      unfolding line_by
      rule_same = line_rule (line_by f g v) ∙ sym (line_rule v)

      premises_same : premises b'' ≡ map g (premises b)
      unfolding line_by
      premises_same = line_premises (line_by f g v) new_fits ∙ ap (map g) (sym (line_premises v old_fits))

      pub old_premises : premises (line_body z l n) ≡ v.premises
      old_premises = premises_said D T.canonical T.threads n S.low S.high

    abbrev C : Certificate
    C = certificate_of z l

    abbrev C' : Certificate
    C' = certificate_of z' l'

    -- a premise is a line, and it stays
    premise_stays : (n i : ℕ) → Line-stays n → i < length (premises (line_body z l n)) → Line-stays (get_or (premises (line_body z l n)) i 0)
    unfolding sizes sizes_of
    premise_stays n i S h =
        let ps : List ℕ = premises (line_body z l n) in
        let w = within_true 1 (n - 1) (get_or ps i 0) (every_at (within 1 (n - 1)) ps i 0 (in_range z l T.checks n S.low S.high).2
        h) in
        let e : ps ≡ (nth D.lines n no_line).premises = old_premises n S in
        let r : Rests D (get_or ps i 0) = subst (λ (q : List ℕ). i < length q → Rests D (get_or q i 0)) (sym e)
        (λ b. premise n i S.low S.high (kept_rests D N n S.mark) b) h in
        let k = rests_kept D N (get_or ps i 0) r in
        record { low = w.0; high = k.0; mark = k.1 }

    pub lines_kept : Carried C C' Line-stays g
    unfolding sizes sizes_of
    lines_kept = record {
      there = λ n S. (renumbered_low (kept D) n S.low S.mark, Moved.line_there (used D) (kept D) D n S.high);
      rule = λ n S. rw (new_line n S, old_line n S, rule_same n S);
      says = λ n S. rw (new_line n S, old_line n S, rule_same n S) (says_kept n S (form_of (get_or (b n S) 0 0)));
      premises = λ n S. rw (new_line n S, old_line n S) (premises_same n S);
      rests = premise_stays;
    }

    -- the lines that obligations name

    pub named_old : (i : ℕ) → named_line z l i ≡ get_or D.obligations i 0
    named_old = named_said D T.canonical T.threads B

    pub named_kept : (i : ℕ) → named_line z' l' i ≡ g (named_line z l i)
    named_kept i =
        named_said E canonical same_threads (obligations_many T) i
        ∙ (Moved.obligation_at (used D) (kept D) D i ∙ ap g (sym (named_old i)))

    -- the claims

    module _ (i : ℕ) (h : i < length D.claims) where
      abbrev c : ClaimRecord
      c = get_or D.claims i no_claim

      old_claim : claim_body z l i ≡ claim_bytes c
      old_claim = Places.claim-at D T.threads i h

      new_claim : claim_body z' l' i ≡ claim_bytes (claim_by f g c)
      new_claim =
          Places.claim-at E same_threads i (let q = Moved.claims_length (used D) (kept D) D in omega arith)
          ∙ ap claim_bytes (Moved.claim-at (used D) (kept D) D i)

      pub claim_kept : claim_in (claim_body z' l' i) ≡ claim_in (claim_body z l i)
      unfolding claim_by
      claim_kept =
          rw (
            new_claim,
            old_claim,
            claim_thread (claim_by f g c),
            claim_point (claim_by f g c),
            claim_other (claim_by f g c),
            claim_other_point (claim_by f g c),
            claim_thread c,
            claim_point c,
            claim_other c,
            claim_other_point c,
          )

      claim_fit : ClaimFits c
      claim_fit = T.canonical.claims i h

      pub claimed_old : le16 (drop 4 (claim_body z l i)) ≡ c.line
      claimed_old = claim_said D T.canonical T.threads i h

      pub claimed_kept : le16 (drop 4 (claim_body z' l' i)) ≡ g (le16 (drop 4 (claim_body z l i)))
      unfolding claim_by
      claimed_kept = rw new_claim (claim_line (claim_by f g c) (claim_fits (used D) (kept D) c claim_fit)) ∙ ap g (sym claimed_old)
