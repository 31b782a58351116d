-- The source of a sound image is in range.
use mathlib.Core.Path.{◌≡◌, refl, ap, sym, ◌∙◌, subst}
use mathlib.Core.Bool.{Bool, true, ◌&&◌}
use mathlib.Core.List.{List, [], ◌∷◌, map}
use mathlib.Core.Logic.{◌≢◌}
use Prim.Native.Nat.{ℕ, suc, ◌+◌, ◌-◌, ◌≤◌, ◌<◌}
use native.Mathlib.Omega.{arith}
use lib.Dec.{eqb}
use lib.ListN.{length, get_or, drop, length-map, length-take, length-drop, length-append}
use borrow.Author.Tests.{eqb-false, not-true}
use Rattle.semantics.specs.Base.{All, Within}
use Rattle.semantics.specs.Formula.{Sort}
use Rattle.logic.specs.Claims.{Claim}
use Rattle.limits.specs.Numbers.{within, every, le16}
use Rattle.limits.proofs.PassedTests.{and_true, within_true, every_at}
use Rattle.formula.specs.Codes as Codes
use Rattle.formula.specs.Reader.{sort_of}
use Rattle.image_header.specs.Header.{thread_count, value_range, start_values, owners, marks, headed, header}
use Rattle.image_header.specs.Header as Header
use Rattle.image_header.specs.Instruction.{ranged}
use Rattle.image_header.specs.Thread.{nothing, instructions, last_point}
use Rattle.image_header.specs.declared.sizes.Sizes.{Sizes}
use Rattle.image_header.specs.declared.instruction.Instruction.{Instruction as Coded}
use Rattle.image_header.proofs.HeaderBranches.{counted_in}
use Rattle.image_header.proofs.ThreadBranches.{instructions_length}
use Rattle.image_bodies.specs.Claim as Claims
use Rattle.image_bodies.specs.Claim.{point_there, different}
use Rattle.image_bodies.specs.RecordPlaces.{thread_body}
use Rattle.image_bodies.specs.ThreadBody.{owned, result_absent, thread_registers}
use Rattle.image_bodies.specs.ThreadBody as Threads
use Rattle.image.specs.Decode.{sizes_of, decoded}
use Rattle.image_meaning.specs.Formulas.{formula}
use Rattle.image_meaning.specs.Image.{claim_in, claim_body}
use Rattle.image_meaning.specs.Program as Content
use Rattle.image_meaning.proofs.PassedChecks.{unless_passed, also_passed}
use Rattle.image_meaning.proofs.RecordsChecked.{header_passed, thread_passed, claim_passed}
use Rattle.image_meaning.proofs.FormulaSorts.{formula_bounded, assertion_plain, assertion_startless}
use Rattle.image_meaning.proofs.WellFormedProgram.{outline_range, outline_fine, thread_ranged}
use Rattle.trim_spec.specs.Canonical.{Bytes, Each}
use Rattle.trim_spec.specs.Parse.{document_of, part}
use Rattle.trim_spec.proofs.EachMember.{part_each}
use Rattle.source.specs.Source.{Listed, Register, Instruction, Point}
use Rattle.source.specs.Written.{assertions}
use Rattle.source.specs.Meaning.{no_point, assertion, thread_at, claims_of}
use Rattle.source.specs.InRange.{At, Is, Numbers, Outlined, Proper, InRange}
use Rattle.source_agrees.specs.SourceOf.{listed_of, registers_of, typed_of, source_of}
use Rattle.source_agrees.proofs.FormulaNumbers.{Constant, bounded_numbers, outlined}
use Rattle.source_agrees.proofs.FormulasMean.{assertion_same}
use Rattle.source_agrees.proofs.HeaderWritten.{owner, owners_same}
use Rattle.source_agrees.proofs.SourceLookUps.{before, thread_from, point_found}
use Rattle.source_agrees.proofs.ImageWritten.{many, doc}
use Rattle.source_agrees.proofs.MeaningAgrees.{l, D, t, k, threads_are, words_are, thread_is, thread_found_is, points_are, listed_is, number_is, sorted_at, by_number}
use Rattle.source_agrees.proofs.InstructionInRange.{Passes, is_sorted, proper_in}
use Rattle.source_agrees.proofs.PromiseOfSource.{all_of}
use Rattle.std.specs.Prelude.{Ok}

-- each member of a list that passes
all_within : (lo hi : ℕ) (m : List ℕ) → every (within lo hi) m ≡ true → All (λ x. (lo ≤ x) × (x ≤ hi)) m
unfolding every
all_within lo hi [] e = tt
all_within lo hi (x ∷ m) e =
    let p = and_true (within lo hi x) (every (within lo hi) m) e in
    (within_true lo hi x p.0, all_within lo hi m p.1)

all_then : {A : Type 0} (P Q : A → Type 0) → ((x : A) → P x → Q x) → (m : List A) → All P m → All Q m
all_then P Q f [] h = tt
all_then P Q f (x ∷ m) h = (f x h.0, all_then P Q f m h.1)

-- of what is made from each member
all_made : {A B : Type 0} (F : B → Type 0) (f : A → B) (d : A) (m : List A) → Each (λ x. F (f x)) d m → All F (map f m)
all_made F f d [] h = tt
all_made F f d (x ∷ m) h = (h 0 (omega arith), all_made F f d m (λ i b. h (suc i) (omega arith)))

owners_within : (n : ℕ) (os ms : List ℕ) → All (λ x. (1 ≤ x) × (x ≤ n)) os → All (λ (r : Register). Within n r.owner) (registers_of os ms)
unfolding registers_of
owners_within n [] ms h = tt
owners_within n (o ∷ os) ms h = (h.0, owners_within n os (drop 1 ms) h.1)

assertions_count : (ps : List Point) (a : ℕ) → length (assertions (record { points = ps; last = a })) ≡ length ps + 1
unfolding assertions
assertions_count ps a =
    length-append (map (λ (p : Point). p.assertion) ps) (a ∷ [])
    ∙ ap (λ (n : ℕ). n + 1) (length-map ps (λ (p : Point). p.assertion))

module _ (s : List ℕ) (z : Sizes) (bs : Bytes s) (ok : decoded s ≡ Ok z) where
  abbrev b : List (List ℕ)
  b = l s z bs ok

  abbrev h : List ℕ
  h = get_or b 0 []

  -- the header

  header_fits : headed (k s z bs ok).counted h ≡ true
  unfolding header
  header_fits = (unless_passed _ _ _ (unless_passed _ _ _ (unless_passed _ _ _ (header_passed z b (k s z bs ok))).1).1).0

  abbrev started : Bool
  started = every (within 0 (value_range h - 1)) (start_values h)

  abbrev owning : Bool
  owning = every (within 1 (thread_count h)) (owners h)

  abbrev marked : Bool
  marked = every (within 0 1) (marks h)

  header_counted : Header.counted (k s z bs ok).counted h ≡ true
  unfolding headed
  header_counted = (and_true (Header.counted (k s z bs ok).counted h) (started && (owning && marked)) header_fits).0

  header_rest : (started ≡ true) × (owning && marked ≡ true)
  unfolding headed
  header_rest = and_true started (owning && marked)
      (and_true (Header.counted (k s z bs ok).counted h) (started && (owning && marked)) header_fits).1

  threads_header : thread_count h ≡ z.threads
  unfolding sizes_of
  threads_header = sym (ap (λ (y : Sizes). y.threads) (k s z bs ok).sizes)

  formulas_are : z.formulas ≡ length (t s z bs ok).formulas
  unfolding source_of document_of
  formulas_are =
      sym (length-map (part 1 z.formulas b) listed_of ∙ length-take z.formulas (drop 1 b)
      ∙ omega (arith, many s z bs ok, (doc s z bs ok).numbered.thread, length-drop (z.formulas + 1) b, length-drop 1 b))

  owners_are : map owner (t s z bs ok).registers ≡ owners h
  unfolding source_of document_of
  owners_are = owners_same (owners h) (marks h)

  -- formulas

  constants_in : All (λ (f : Listed). Numbers (λ c n. c ≡ 0 → n < value_range h) f.formula) (t s z bs ok).formulas
  unfolding source_of document_of listed_of formula
  constants_in =
      all_made (λ (f : Listed). Numbers (Constant (value_range h)) f.formula) listed_of [] (part 1 z.formulas b)
      (part_each (λ (x : List ℕ). Numbers (Constant (value_range h)) (listed_of x).formula) [] 1 z.formulas b (λ j c.
      bounded_numbers (value_range h) (formula b _ (1 + j))
      (formula_bounded z b (k s z bs ok) (1 + j) (omega arith) (omega arith) (sort_of (get_or b (1 + j) [])) refl)))

  -- instructions

  module _ (u : ℕ) (w : u < z.threads) where
    abbrev is : List Coded
    is = instructions (thread_body z b (suc u))

    registers_passed : (every (owned b (suc u)) is ≡ true) × (every (result_absent b) is ≡ true)
    unfolding Threads.thread thread_registers
    registers_passed =
        let p = (also_passed _ _ (thread_passed z b (k s z bs ok) (suc u) (omega arith) (omega arith))).1 in
        let q = unless_passed _ _ _ (unless_passed _ _ _ p).1 in
        (q.0, (unless_passed _ _ _ q.1).0)

    passes : (j : ℕ) → j < length is → Passes z b (suc u) (length is) (get_or is j nothing)
    passes j c = record {
      ranges =
          rw (instructions_length (thread_body z b (suc u)))
          (every_at (ranged (last_point (thread_body z b (suc u))) z) is j nothing
          (thread_ranged z b (k s z bs ok) (suc u) (omega arith) (omega arith)) c);
      sorts = sorted_at s z bs ok u j w c;
      owners = every_at (owned b (suc u)) is j nothing registers_passed.0 c;
      result = every_at (result_absent b) is j nothing registers_passed.1 c;
    }

    counts : Content.point_count z b (suc u) ≡ length is + 1
    unfolding Content.point_count
    counts = ap (λ (n : ℕ). n + 1) (sym (instructions_length (thread_body z b (suc u))))

    points_length : length (thread_at (t s z bs ok) (suc u)).points ≡ length is
    points_length = omega (arith, points_are s z bs ok u w, counts)

    assertions_length : length (assertions (thread_at (t s z bs ok) (suc u))) ≡ length is + 1
    assertions_length =
        assertions_count (thread_at (t s z bs ok) (suc u)).points (thread_at (t s z bs ok) (suc u)).last
        ∙ ap (λ (n : ℕ). n + 1) points_length

    instruction_in : (j : ℕ) → j < length (thread_at (t s z bs ok) (suc u)).points
        → Proper (t s z bs ok) (suc u) (length (assertions (thread_at (t s z bs ok) (suc u))))
        (get_or (thread_at (t s z bs ok) (suc u)).points j no_point).instruction
    unfolding thread_from
    instruction_in j c =
        let n : j < length is = omega (arith, points_length) in
        let os : List ℕ = drop (before (D s z bs ok).threads u) (D s z bs ok).outline in
        let e = thread_is s z bs ok u w in
        let m : j < length (get_or (D s z bs ok).threads u []) = subst (λ (x : List Coded). j < length x) (sym e) n in
        let p : (get_or (thread_at (t s z bs ok) (suc u)).points j no_point).instruction ≡ typed_of (get_or is j nothing) =
        ap (λ x. (get_or x.points j no_point).instruction) (thread_found_is s z bs ok u w)
        ∙ point_found (get_or (D s z bs ok).threads u []) os j m ∙ ap (λ (x : List Coded). typed_of (get_or x j nothing)) e in
        subst (λ (x : Instruction). Proper (t s z bs ok) (suc u) (length (assertions (thread_at (t s z bs ok) (suc u)))) x) (sym p)
        (subst (λ (n : ℕ). Proper (t s z bs ok) (suc u) n (typed_of (get_or is j nothing))) (sym assertions_length)
        (proper_in z b (k s z bs ok) (t s z bs ok) (listed_is s z bs ok) (words_are s z bs ok) formulas_are owners_are (suc u) (omega arith)
        (length is) (get_or is j nothing) (passes j n)))

    -- the outline

    outline_in : (j : ℕ) → j < length (assertions (thread_at (t s z bs ok) (suc u)))
        → Is (t s z bs ok) Sort.assertion (get_or (assertions (thread_at (t s z bs ok) (suc u))) j 0)
        × Outlined (assertion (t s z bs ok) (get_or (assertions (thread_at (t s z bs ok) (suc u))) j 0))
    outline_in j c =
        let K = k s z bs ok in
        let v : Within z.threads (suc u) = (omega arith, omega arith) in
        let d : j < Content.point_count z b (suc u) = omega (arith, counts, assertions_length) in
        let n : ℕ = Content.outline_number z b (suc u) j in
        let r = outline_range z b K (suc u) j v d in
        let f = outline_fine z b K (suc u) j v d in
        subst (λ (x : ℕ). Is (t s z bs ok) Sort.assertion x × Outlined (assertion (t s z bs ok) x)) (number_is s z bs ok u j w d) (
          is_sorted z b K (t s z bs ok) (listed_is s z bs ok) (words_are s z bs ok) formulas_are owners_are (suc u) (omega arith)
              Codes.assertion n r f.0,
          subst Outlined (sym (assertion_same z b K (t s z bs ok) (listed_is s z bs ok) n r.0 r.1 f.0))
              (outlined (formula b Sort.assertion n) (assertion_plain z b K n r.0 r.1 f.0)
              (assertion_startless z b K n r.0 r.1 f.0 f.1)),
        )

    point_at : (j : ℕ) → j ≤ last_point (thread_body z b (suc u)) → At (t s z bs ok) (suc u) j
    point_at j c = (
      (omega arith, omega (arith, threads_are s z bs ok)),
      omega (arith, assertions_length, instructions_length (thread_body z b (suc u))),
    )

  -- claims

  claim-at : (x : List ℕ) (i : ℕ) → point_there z b x i ≡ true → At (t s z bs ok) (get_or x i 0) (get_or x (i + 1) 0)
  unfolding point_there
  claim-at x i e =
      let p = and_true (within 1 z.threads (get_or x i 0)) (within 0 (last_point (thread_body z b (get_or x i 0))) (get_or x (i + 1) 0)) e in
      let v = within_true 1 z.threads (get_or x i 0) p.0 in
      let q = within_true 0 (last_point (thread_body z b (get_or x i 0))) (get_or x (i + 1) 0) p.1 in
      by_number s z bs ok (λ u. get_or x (i + 1) 0 ≤ last_point (thread_body z b u) → At (t s z bs ok) u (get_or x (i + 1) 0))
      (λ u w c. point_at u w (get_or x (i + 1) 0) c) (get_or x i 0) v q.1

  claim-in : (i : ℕ) → i < z.claims
      → At (t s z bs ok) (claim_in (claim_body z b i)).thread (claim_in (claim_body z b i)).point
      × At (t s z bs ok) (claim_in (claim_body z b i)).other (claim_in (claim_body z b i)).other_point
      × ((claim_in (claim_body z b i)).thread ≢ (claim_in (claim_body z b i)).other)
  unfolding Claims.claim Claims.claimed different
  claim-in i c =
      let x : List ℕ = claim_body z b i in
      let e = (unless_passed _ _ _ (unless_passed _ _ _ (claim_passed z b (k s z bs ok) i c)).1).0 in
      let m : Bool = within 0 z.lines (le16 (drop 4 x)) in
      let p = and_true (point_there z b x 0) (point_there z b x 2 && (different x && m)) e in
      let q = and_true (point_there z b x 2) (different x && m) p.1 in
      let r = and_true (different x) m q.1 in
      (claim-at x 0 p.0, claim-at x 2 q.0, eqb-false (get_or x 0 0) (get_or x 2 0) (not-true (eqb (get_or x 0 0) (get_or x 2 0)) r.0))

  claims_in : All (λ (q : Claim). At (t s z bs ok) q.thread q.point × At (t s z bs ok) q.other q.other_point
      × (q.thread ≢ q.other)) (claims_of (t s z bs ok))
  unfolding claims_of source_of document_of claim_body
  claims_in =
      let F : Claim → Type 0 = λ (q : Claim). At (t s z bs ok) q.thread q.point × At (t s z bs ok) q.other q.other_point
      × (q.thread ≢ q.other) in
      all_of F (part (z.formulas + z.threads + 1 + z.lines + 2) z.claims b)
      (part_each (λ (x : List ℕ). F (claim_in x)) [] (z.formulas + z.threads + 1 + z.lines + 2) z.claims b claim-in)

  pub in_range : InRange (t s z bs ok)
  unfolding source_of document_of
  in_range =
      let g = counted_in (k s z bs ok).counted h header_counted in
      record {
        fewest = g.range.0;
        most = g.range.1;
        start-values =
            all_then (λ x. (0 ≤ x) × (x ≤ value_range h - 1)) (λ v. v < value_range h) (λ x q. omega (arith, q.1, g.range.0))
            (start_values h)
            (all_within 0 (value_range h - 1) (start_values h) header_rest.0);
        constants = constants_in;
        owners =
            owners_within (length (t s z bs ok).threads) (owners h) (marks h)
            (subst (λ (n : ℕ). All (λ x. (1 ≤ x) × (x ≤ n)) (owners h)) (threads_header ∙ threads_are s z bs ok)
            (all_within 1 (thread_count h) (owners h) (and_true owning marked header_rest.1).0));
        instructions = λ u j w c. by_number s z bs ok (λ u. j < length (thread_at (t s z bs ok) u).points
            → Proper (t s z bs ok) u (length (assertions (thread_at (t s z bs ok) u)))
            (get_or (thread_at (t s z bs ok) u).points j no_point).instruction)
            (λ u w c. instruction_in u w j c) u (w.0, omega (arith, w.1, threads_are s z bs ok)) c;
        outline = λ u j w. by_number s z bs ok (λ u. j < length (assertions (thread_at (t s z bs ok) u))
            → Is (t s z bs ok) Sort.assertion (get_or (assertions (thread_at (t s z bs ok) u)) j 0)
            × Outlined (assertion (t s z bs ok) (get_or (assertions (thread_at (t s z bs ok) u)) j 0)))
            (λ u w c. outline_in u w j c) u (w.0.0, omega (arith, w.0.1, threads_are s z bs ok)) w.1;
        claims = claims_in;
      }
