-- The program and the outline of a sound image are those of its source, wherever a step can be.
use mathlib.Core.Path.{◌≡◌, refl, ap, sym, ◌∙◌, subst}
use mathlib.Core.Bool.{true}
use mathlib.Core.List.{List, [], ◌∷◌, map}
use Prim.Native.Nat.{ℕ, zero, suc, ◌+◌, ◌-◌, ◌≤◌, ◌<◌}
use native.Mathlib.Omega.{arith}
use lib.ListN.{length, get_or, take, drop, length-take, length-drop}
use lib.Seq.{get_or-drop, get_or-take, take-take}
use borrow.Author.Tests.{eqb-true, ne_eqb, le-ltb}
use Rattle.semantics.specs.Base.{Within}
use Rattle.semantics.specs.Machine.{State, Start, Step, run}
use Rattle.semantics.specs.EveryRun.{EveryRun}
use Rattle.logic.specs.Claims.{Claim, NeverBoth}
use Rattle.limits.specs.Numbers.{nth}
use Rattle.limits.proofs.PassedTests.{every_at}
use Rattle.image_frames.specs.Records.{bodies}
use Rattle.image_header.specs.Header.{owners, marks, cleared, header_size, header}
use Rattle.image_header.specs.Instruction.{ranged}
use Rattle.image_header.specs.declared.sizes.Sizes.{Sizes}
use Rattle.image_header.specs.declared.instruction.Instruction.{Instruction as Coded}
use Rattle.image_header.specs.Thread.{nothing, instructions}
use Rattle.image_header.proofs.ThreadBranches.{instructions_length}
use Rattle.image_bodies.specs.RecordPlaces.{thread_body}
use Rattle.image_bodies.specs.PointCounts.{point_counts_to}
use Rattle.image_bodies.specs.ThreadBody as Threads
use Rattle.image_bodies.specs.ThreadBody.{sorted}
use Rattle.image.specs.Decode.{sizes_of, decoded}
use Rattle.image_meaning.specs.Program as Content
use Rattle.image_meaning.proofs.PassedChecks.{unless_passed, also_passed}
use Rattle.image_meaning.proofs.RecordsChecked.{Checks, header_passed, thread_passed}
use Rattle.image_meaning.proofs.Instructions.{instruction_there}
use Rattle.image_meaning.proofs.WellFormedProgram.{outline_range, outline_fine}
use Rattle.trim_spec.specs.Document.{Document}
use Rattle.trim_spec.specs.Canonical.{Bytes}
use Rattle.trim_spec.specs.Parse.{document_of, part}
use Rattle.source.specs.Source.{Source}
use Rattle.source.specs.Written as W
use Rattle.source.specs.Meaning.{no_formula, no_point, listed, assertion, instr, thread_at, program_of, outline_of}
use Rattle.source.specs.Means.{Alike}
use Rattle.source.proofs.SameRuns.{every_alike, never_alike}
use Rattle.source_agrees.specs.SourceOf.{listed_of, typed_of, source_of}
use Rattle.source_agrees.proofs.DocumentWritten.{total}
use Rattle.source_agrees.proofs.FormulasMean.{assertion_same, instr_same}
use Rattle.source_agrees.proofs.SourceLookUps.{before, thread_from, thread_found, point_found, assertion_found, points_count, cleared_found}
use Rattle.source_agrees.proofs.HeaderWritten.{marks_even}
use Rattle.source_agrees.proofs.ImageWritten.{threads_length, doc, c, many, tallied, header_written, all_ranged, points_total}
use Rattle.std.specs.Prelude.{Ok}

pub get_d_map : {A B : Type 0} (f : A → B) (m : List A) (k : ℕ) (d : B) (e : A) → k < length m → get_or (map f m) k d ≡ f (get_or m k e)
get_d_map f [] k d e h = absurd (omega arith)
get_d_map f (x ∷ m) zero d e h = refl
get_d_map f (x ∷ m) (suc k) d e h = get_d_map f m k d e (omega arith)

before_within : (r : List (List Coded)) (u : ℕ) → u < length r → before r u + length (get_or r u []) + 1 ≤ total r
unfolding before total
before_within [] u h = absurd (omega arith)
before_within (is ∷ r) zero h = omega arith
before_within (is ∷ r) (suc u) h = omega (arith, before_within r u (omega arith))

module _ (s : List ℕ) (z : Sizes) (bs : Bytes s) (ok : decoded s ≡ Ok z) where
  abbrev pub l : List (List ℕ)
  l = bodies s

  abbrev pub D : Document
  D = document_of z l

  abbrev pub t : Source
  t = source_of D

  pub k : Checks z l
  k = c s z bs ok

  pub counted : z.threads ≡ length D.threads
  unfolding sizes_of document_of
  counted = ap (λ (y : Sizes). y.threads) k.sizes ∙ (doc s z bs ok).describes.threads

  pub threads_are : z.threads ≡ length t.threads
  unfolding source_of
  threads_are = counted ∙ sym (threads_length D.threads D.outline)

  pub words_are : z.words ≡ length t.start_values
  unfolding sizes_of document_of W.header
  words_are = ap (λ (y : Sizes). y.words) k.sizes ∙ sym (ap (λ (b : List ℕ). get_or b 1 0) (header_written s z bs ok))

  -- the instructions of a thread
  pub thread_is : (u : ℕ) → u < z.threads → get_or D.threads u [] ≡ instructions (thread_body z l (suc u))
  unfolding document_of thread_body
  thread_is u h =
      let q : z.formulas + 1 + u ≡ z.formulas + suc u = omega arith in
      let m = many s z bs ok in
      get_d_map instructions (part (z.formulas + 1) z.threads l) u [] []
      (omega (arith, m, length-take z.threads (drop (z.formulas + 1) l)))
      ∙ ap instructions (get_or-take z.threads (drop (z.formulas + 1) l) u [] h ∙ get_or-drop (z.formulas + 1) l u []
      ∙ ap (λ (n : ℕ). get_or l n []) q)

  pub thread_found_is : (u : ℕ) → u < z.threads
      → thread_at t (suc u) ≡ thread_from (get_or D.threads u []) (drop (before D.threads u) D.outline)
  unfolding thread_at source_of
  thread_found_is u h = thread_found D.threads D.outline u (omega (arith, counted))

  pub points_are : (u : ℕ) → u < z.threads → Content.point_count z l (suc u) ≡ length (thread_at t (suc u)).points + 1
  unfolding Content.point_count thread_from
  points_are u h =
      let p = ap (λ x. length x.points) (thread_found_is u h) in
      let q = points_count (get_or D.threads u []) (drop (before D.threads u) D.outline) in
      let r = ap length (thread_is u h) in
      omega (arith, p, q, r, instructions_length (thread_body z l (suc u)))

  -- formulas
  pub listed_is : (n : ℕ) → 1 ≤ n → n ≤ z.formulas → listed t n ≡ listed_of (get_or l n [])
  unfolding listed source_of document_of nth
  listed_is zero a b = absurd (omega arith)
  listed_is (suc n) a b =
      let q : 1 + n ≡ suc n = omega arith in
      get_d_map listed_of (part 1 z.formulas l) n no_formula []
      (omega (
        arith,
        many s z bs ok,
        (doc s z bs ok).numbered.thread,
        length-drop (z.formulas + 1) l,
        length-drop 1 l,
        length-take z.formulas (drop 1 l),
      ))
      ∙ ap listed_of (get_or-take z.formulas (drop 1 l) n [] (omega arith) ∙ get_or-drop 1 l n [] ∙ ap (λ (i : ℕ). get_or l i []) q)

  pub sorted_at : (u j : ℕ) → u < z.threads → j < length (instructions (thread_body z l (suc u)))
      → sorted l (get_or (instructions (thread_body z l (suc u))) j nothing) ≡ true
  unfolding Threads.thread
  sorted_at u j h b =
      let p = (also_passed _ _ (thread_passed z l k (suc u) (omega arith) (omega arith))).1 in
      every_at (sorted l) (instructions (thread_body z l (suc u))) j nothing (unless_passed _ _ _ p).0 b

  code_is : (u j : ℕ) → u < z.threads → j < length (instructions (thread_body z l (suc u)))
      → (Content.program_of z l).code (suc u) j ≡ (program_of t).code (suc u) j
  unfolding program_of thread_from
  code_is u j h b =
      let is : List Coded = get_or D.threads u [] in
      let os : List ℕ = drop (before D.threads u) D.outline in
      let e : is ≡ instructions (thread_body z l (suc u)) = thread_is u h in
      let n : j < length is = subst (λ (m : List Coded). j < length m) (sym e) b in
      let r = every_at (ranged (length is) z) is j nothing (all_ranged s z bs ok u (omega (arith, counted))) n in
      let g = subst (λ (m : List Coded). ranged (length is) z (get_or m j nothing) ≡ true) e r in
      let p = ap (λ x. (get_or x.points j no_point).instruction) (thread_found_is u h) ∙ point_found is os j n
      ∙ ap (λ (m : List Coded). typed_of (get_or m j nothing)) e in
      ap (Content.instr l) (instruction_there z l (suc u) j (omega arith) (omega arith))
      ∙ instr_same z l k t listed_is (length is) (get_or (instructions (thread_body z l (suc u))) j nothing) g (sorted_at u j h b)
      ∙ ap (instr t) (sym p)

  pub marks_many : length (owners D.header) ≡ length (marks D.header)
  unfolding header document_of
  marks_many =
      let h : List ℕ = get_or l 0 [] in
      let p = unless_passed _ _ _ (header_passed z l k) in
      let q = unless_passed _ _ _ p.1 in
      marks_even h p.0 (eqb-true (length h) (header_size h) q.0)

  -- of a thread by its number, from 1
  pub by_number : (F : ℕ → Type 0) → ((u : ℕ) → u < z.threads → F (suc u)) → (u : ℕ) → Within z.threads u → F u
  by_number F f zero w = absurd (omega (arith, w.0))
  by_number F f (suc u) w = f u (omega (arith, w.1))

  pub alike : Alike (Content.program_of z l) (program_of t)
  unfolding program_of cleared source_of document_of Content.point_count
  alike = record {
    threads = threads_are;
    words = words_are;
    range = refl;
    init = λ x. refl;
    cleared = λ r. sym (cleared_found (owners D.header) (marks D.header) r marks_many);
    points = by_number (λ u. (Content.program_of z l).points u ≡ (program_of t).points u) points_are;
    code = λ u j w b. by_number (λ u. suc j < (Content.program_of z l).points u → (Content.program_of z l).code u j ≡ (program_of t).code u j)
        (λ u h c. code_is u j h (omega (arith, instructions_length (thread_body z l (suc u))))) u w b;
  }

  -- the points before a thread
  before_is : (r : List (List ℕ)) (u : ℕ) → before (map instructions r) u ≡ total (map instructions (take u r))
  unfolding before total
  before_is r zero = refl
  before_is [] (suc u) = refl
  before_is (b ∷ r) (suc u) = ap (λ (n : ℕ). length (instructions b) + 1 + n) (before_is r u)

  before_tally : (u : ℕ) → u ≤ z.threads → before D.threads u ≡ (point_counts_to z l u).points
  unfolding document_of
  before_tally u h =
      before_is (part (z.formulas + 1) z.threads l) u
      ∙ ap (λ (m : List (List ℕ)). total (map instructions m)) (take-take u z.threads (drop (z.formulas + 1) l) h)
      ∙ sym (tallied s z bs ok u h)

  pub number_is : (u j : ℕ) → u < z.threads → j < Content.point_count z l (suc u)
      → Content.outline_number z l (suc u) j ≡ get_or (W.assertions (thread_at t (suc u))) j 0
  unfolding Content.outline_number Content.point_count document_of
  number_is u j h b =
      let is : List Coded = get_or D.threads u [] in
      let n : ℕ = before D.threads u in
      let a : suc u ≡ 0 → ⊥ = omega arith in
      let m : suc u - 1 ≡ u = omega arith in
      let w = before_within D.threads u (omega (arith, counted)) in
      let x = ap length (thread_is u h) ∙ instructions_length (thread_body z l (suc u)) in
      let g : length is < length (drop n D.outline) = omega (arith, w, length-drop n D.outline, points_total s z bs ok) in
      let i : j ≤ length is = omega (arith, x) in
      let e = ap (λ y. get_or (W.assertions y) j 0) (thread_found_is u h) ∙ assertion_found is (drop n D.outline) j g i
      ∙ get_or-drop n D.outline j 0 ∙ ap (λ (k : ℕ). get_or D.outline (k + j) 0) (before_tally u (omega arith)) in
      rw (ne_eqb (suc u) 0 a, le-ltb z.threads (suc u) h, m) (sym e)

  pub outlines_alike : (u j : ℕ) → Within z.threads u → j < (Content.program_of z l).points u
      → Content.outline_of z l u j ≡ outline_of t u j
  unfolding outline_of
  outlines_alike u j w b =
      let r = outline_range z l k u j w b in
      let f = outline_fine z l k u j w b in
      sym (assertion_same z l k t listed_is (Content.outline_number z l u j) r.0 r.1 f.0)
      ∙ ap (assertion t) (by_number (λ v. j < Content.point_count z l v
      → Content.outline_number z l v j ≡ get_or (W.assertions (thread_at t v)) j 0) (λ v h c. number_is v j h c) u w b)

  -- what is true of the image's program in every run is true of its source's
  pub every_run : ((x : State) → Start (Content.program_of z l) x → (m : List Step) (u : ℕ) → Within z.threads u
      → (run (Content.program_of z l) x m).point u < (Content.program_of z l).points u)
      → EveryRun (Content.program_of z l) (Content.outline_of z l) → EveryRun (program_of t) (outline_of t)
  every_run there h = every_alike (Content.program_of z l) (program_of t) alike (Content.outline_of z l) (outline_of t) outlines_alike there h

  pub never_both : (q : Claim) → NeverBoth (Content.program_of z l) q → NeverBoth (program_of t) q
  never_both q h = never_alike (Content.program_of z l) (program_of t) alike q h
