-- The lines of a sound image say what an image may say, and rest on lines before them.
use mathlib.Core.Path.{◌≡◌, refl, sym, ◌∙◌}
use mathlib.Core.Bool.{Bool, true, false, not, ◌&&◌, true≢false}
use mathlib.Core.List.{List, []}
use Prim.Native.Nat.{ℕ, suc, ◌+◌, ◌-◌, ◌≤◌, ◌<◌}
use native.Mathlib.Omega.{arith}
use lib.Dec.{T, eqb, ltb, lt→ltb}
use lib.ListN.{length, get_or, drop, get_or-eq_default}
use borrow.Author.Tests.{eqb-true, eqb-false, ltb-true, ltb-false, ne_eqb, le-leb, not-true}
use Rattle.semantics.specs.Base as Base
use Rattle.semantics.specs.Base.{Within}
use Rattle.semantics.specs.Formula.{Sort, Assertion}
use Rattle.logic.specs.Opcode as Opcode
use Rattle.semantics.specs.Names as Names
use Rattle.semantics.specs.Eval.{bounded}
use Rattle.semantics.specs.Machine.{Program}
use Rattle.logic.specs.Statement.{triple, pair, is_branch, is_pair, admitted_at, admitted}
use Rattle.semantics.proofs.Base.{and_both}
use Rattle.limits.specs.Limits as Limits
use Rattle.limits.specs.Numbers.{le16, numbers, within, every}
use Rattle.limits.proofs.Numbers.{numbers_length}
use Rattle.formula.specs.Codes as Codes
use Rattle.formula.specs.Reader.{sort_of}
use Rattle.image_header.specs.declared.sizes.Sizes.{Sizes}
use Rattle.image_header.specs.Thread.{last_point, instructions, nothing}
use Rattle.image_header.proofs.ThreadBranches.{instructions_length}
use Rattle.image_bodies.specs.RecordPlaces.{thread_body, instruction_of}
use Rattle.image_bodies.specs.declared.line.Form.{Form}
use Rattle.image_bodies.specs.declared.line.Form.TheVariants.{Triple, Implication, Inclusion, Pair, Unlisted}
use Rattle.image_bodies.specs.Line.{form_of, premises, triple_at, placed, numbered, line_numbers}
use Rattle.image_bodies.specs.NumberList.{exactly}
use Rattle.image_bodies.specs.Claim.{point_there, different, claimed, claim}
use Rattle.image_bodies.specs.PointCounts.{obligation_count}
use Rattle.image_bodies.specs.ListBody.{outlined_at, obligations}
use Rattle.image_bodies.specs.LineBody.{sort_at, sorted_by, line_sorted, line}
use Rattle.formula_trees.specs.Place as Place
use Rattle.logic_outline.proofs.Bounded.{bounded_sides}
use Rattle.image_meaning.specs.Formulas.{formula}
use Rattle.image_meaning.specs.Program.{point_count, program_of}
use Rattle.image_meaning.specs.Certificate.{left, right, saying, line_body}
use Rattle.image_meaning.specs.Image.{obligations_body, named_line, claim_body}
use Rattle.limits.proofs.PassedTests.{and_true, within_true, every_at, every_or}
use Rattle.image_meaning.proofs.PassedChecks.{unless_passed, also_passed}
use Rattle.image_meaning.proofs.Instructions.{branch_is, instruction_there}
use Rattle.image_meaning.proofs.RecordsChecked.{Checks, line_passed, obligations_passed, claim_passed}
use Rattle.image_meaning.proofs.FormulaSorts.{formula_bounded, assertion_plain, assertion_startless}
use Rattle.image_meaning.proofs.WellFormedProgram.{within_there, outlined_fine}

-- an instruction that is no branch is there
module _ (z : Sizes) (l : List (List ℕ)) (t k : ℕ) (e : eqb (instruction_of z l t k).operation Opcode.branch ≡ false) where
  nothing_not : instruction_of z l t k ≡ nothing → ⊥
  nothing_not h = true≢false (rw h at e)

  thread_low : 1 ≤ t
  unfolding instruction_of
  thread_low = go (eqb t 0) refl
    where
      go : (b : Bool) → eqb t 0 ≡ b → 1 ≤ t
      go true h = absurd (nothing_not (rw h))
      go false h = let q = eqb-false t 0 h in omega arith

  thread_high : t ≤ z.threads
  unfolding instruction_of
  thread_high = go (ltb z.threads t) refl
    where
      go : (b : Bool) → ltb z.threads t ≡ b → t ≤ z.threads
      go true h = let q : t ≡ 0 → ⊥ = let m = thread_low in omega arith in absurd (nothing_not (rw (ne_eqb t 0 q, h)))
      go false h = ltb-false z.threads t h

  point_low : suc k < point_count z l t
  unfolding point_count
  point_low = go (ltb k (last_point (thread_body z l t))) refl
    where
      go : (b : Bool) → ltb k (last_point (thread_body z l t)) ≡ b → suc k < point_count z l t
      go true h = let q = ltb-true k (last_point (thread_body z l t)) h in omega arith
      go false h =
          let q = ltb-false k (last_point (thread_body z l t)) h in
          let m : length (instructions (thread_body z l t)) ≤ k = let n = instructions_length (thread_body z l t) in omega arith in
          absurd
          (nothing_not (instruction_there z l t k thread_low thread_high
          ∙ get_or-eq_default (instructions (thread_body z l t)) nothing m))

-- an obligation names a line that is there, or none
pub named_there : (z : Sizes) (l : List (List ℕ)) → Checks z l → (i : ℕ) → named_line z l i ≤ z.lines
unfolding obligations exactly named_line within
named_there z l c i =
    let numbered = (unless_passed _ _ _ (unless_passed _ _ _ (obligations_passed z l c)).1).0 in
    (within_true 0 z.lines (named_line z l i) (every_or (within 0 z.lines) (numbers (obligation_count z l) (obligations_body z l)) i 0
    numbered (le-leb 0 z.lines (omega arith)))).1

-- a claim: two threads that are there, with points of theirs, and a line that is there, or none
pub record Claimed (z : Sizes) (l : List (List ℕ)) (b : List ℕ) : Type 0 where
  pub thread : Within z.threads (get_or b 0 0)
  pub point : get_or b 1 0 < point_count z l (get_or b 0 0)
  pub other : Within z.threads (get_or b 2 0)
  pub beyond : get_or b 3 0 < point_count z l (get_or b 2 0)
  pub line : le16 (drop 4 b) ≤ z.lines

point_in : (z : Sizes) (l : List (List ℕ)) (b : List ℕ) (i : ℕ) → point_there z l b i ≡ true
    → Within z.threads (get_or b i 0) × (get_or b (i + 1) 0 < point_count z l (get_or b i 0))
unfolding point_there point_count
point_in z l b i e =
    let h = and_true (within 1 z.threads (get_or b i 0)) (within 0 (last_point (thread_body z l (get_or b i 0))) (get_or b (i + 1) 0)) e in
    let p = within_true 0 (last_point (thread_body z l (get_or b i 0))) (get_or b (i + 1) 0) h.1 in
    (within_true 1 z.threads (get_or b i 0) h.0, omega (arith, p.1))

pub claim_fine : (z : Sizes) (l : List (List ℕ)) → Checks z l → (i : ℕ) → i < z.claims → Claimed z l (claim_body z l i)
unfolding claim claimed
claim_fine z l c i m =
    let b : List ℕ = claim_body z l i in
    let rest : Bool = different b && within 0 z.lines (le16 (drop 4 b)) in
    let e = (unless_passed _ _ _ (unless_passed _ _ _ (claim_passed z l c i m)).1).0 in
    let h = and_true (point_there z l b 0) (point_there z l b 2 && rest) e in
    let g = and_true (point_there z l b 2) rest h.1 in
    let f = and_true (different b) (within 0 z.lines (le16 (drop 4 b))) g.1 in
    let p = point_in z l b 0 h.0 in
    let q = point_in z l b 2 g.0 in
    record { thread = p.0; point = p.1; other = q.0; beyond = q.1; line = (within_true 0 z.lines (le16 (drop 4 b)) f.1).1 }

module _ (z : Sizes) (l : List (List ℕ)) (c : Checks z l) (n : ℕ) (low : 1 ≤ n) (high : n ≤ z.lines) where
  abbrev P : Program
  P = program_of z l

  abbrev pub body : List ℕ
  body = line_body z l n

  abbrev pub form : Form
  form = form_of (get_or body 0 0)

  pub numbers_passed : (placed z l form body ≡ true) × (numbered z (n - 1) body ≡ true)
  unfolding line line_numbers
  numbers_passed =
      let h = unless_passed _ _ _ (unless_passed _ _ _ (unless_passed _ _ _ (also_passed _ _ (line_passed z l c n low high)).0).1).1 in
      (h.0, (unless_passed _ _ _ h.1).0)

  pub sorted_passed : (sorted_by l form (left body) ≡ true) × (sorted_by l form (right body) ≡ true)
  unfolding line line_sorted
  sorted_passed = and_true (sorted_by l form (left body)) (sorted_by l form (right body))
      (unless_passed _ _ _ (also_passed _ _ (line_passed z l c n low high)).1).0

  -- its formulas are there; its premises are few and have lower numbers
  abbrev few : Bool
  few = within 0 Limits.premises (get_or body 7 0)

  abbrev lower : Bool
  lower = every (within 1 (n - 1)) (premises body)

  ranges : (within 1 z.formulas (left body) ≡ true) × (within 1 z.formulas (right body) ≡ true) × (few ≡ true) × (lower ≡ true)
  unfolding numbered
  ranges =
      let h = and_true (within 1 z.formulas (left body)) (within 1 z.formulas (right body) && (few && lower)) numbers_passed.1 in
      let g = and_true (within 1 z.formulas (right body)) (few && lower) h.1 in
      let f = and_true few lower g.1 in
      (h.0, g.0, f.0, f.1)

  pub in_range : ((1 ≤ left body) × (left body ≤ z.formulas)) × ((1 ≤ right body) × (right body ≤ z.formulas)) × (lower ≡ true)
  in_range = (within_true 1 z.formulas (left body) ranges.0, within_true 1 z.formulas (right body) ranges.1, ranges.3)

  pub premises_few : get_or body 7 0 ≤ Limits.premises
  premises_few = (within_true 0 Limits.premises (get_or body 7 0) ranges.2).1

  pub line_lower : (i : ℕ) → i < length (premises body) → get_or (premises body) i 0 < n
  line_lower i b = let h = within_true 1 (n - 1) (get_or (premises body) i 0)
      (every_at (within 1 (n - 1)) (premises body) i 0 in_range.2 b) in omega (arith, h.0, h.1)

  -- as many premises as it says
  pub premise-count : length (premises body) ≡ get_or body 7 0
  unfolding premises
  premise-count = numbers_length (get_or body 7 0) (drop 8 body)

  -- its sides as assertions

  abbrev before : Assertion
  before = formula l Sort.assertion (left body)

  abbrev after : Assertion
  after = formula l Sort.assertion (right body)

  abbrev is_assertion : ℕ → Type 0
  is_assertion k = sort_of (get_or l k []) ≡ Codes.assertion

  sides_plain : is_assertion (left body) → is_assertion (right body) → T (Names.plain before && Names.plain after)
  sides_plain e d =
      and_both (Names.plain before) (Names.plain after) (assertion_plain z l c (left body) in_range.0.0 in_range.0.1 e)
      (assertion_plain z l c (right body) in_range.1.0 in_range.1.1 d)

  sides_startless : outlined_at l (left body) ≡ true → outlined_at l (right body) ≡ true → T (Names.startless before && Names.startless after)
  sides_startless e d =
      let a = outlined_fine z l c (left body) e in
      let b = outlined_fine z l c (right body) d in
      and_both (Names.startless before) (Names.startless after)
      (assertion_startless z l c (left body) in_range.0.0 in_range.0.1 a.0 a.1)
      (assertion_startless z l c (right body) in_range.1.0 in_range.1.1 b.0 b.1)

  -- its thread and point, if it is a triple

  abbrev t : ℕ
  t = get_or body 1 0

  abbrev k : ℕ
  k = get_or body 2 0

  abbrev instructed : Bool
  instructed = Base.within z.threads t && ltb (suc k) (P.points t)

  abbrev acts : Bool
  acts = not (is_branch (P.code t k))

  module _ (e : placed z l Triple body ≡ true) where
    no_branch : eqb (instruction_of z l t k).operation Opcode.branch ≡ false
    unfolding placed triple_at
    no_branch = not-true (eqb (instruction_of z l t k).operation Opcode.branch) e

    pub triple_there : Within z.threads t × (suc k < P.points t)
    triple_there = ((thread_low z l t k no_branch, thread_high z l t k no_branch), point_low z l t k no_branch)

    action_there : T (instructed && acts)
    action_there =
        and_both instructed acts
        (and_both (Base.within z.threads t) (ltb (suc k) (P.points t))
        (within_there z.threads t triple_there.0.0 triple_there.0.1) (lt→ltb (suc k) (P.points t) triple_there.1))
        (rw (branch_is l (instruction_of z l t k), no_branch) tt)

  triple_fine : placed z l Triple body ≡ true → outlined_at l (left body) ≡ true → outlined_at l (right body) ≡ true
      → T (admitted_at P t k before after)
  triple_fine e p q =
      and_both (instructed && acts) ((Names.plain before && Names.plain after) && (Names.startless before && Names.startless after))
      (action_there e)
      (and_both (Names.plain before && Names.plain after) (Names.startless before && Names.startless after)
      (sides_plain (outlined_fine z l c (left body) p).0 (outlined_fine z l c (right body) q).0) (sides_startless p q))

  line_fine : (f : Form) → placed z l f body ≡ true → sorted_by l f (left body) ≡ true → sorted_by l f (right body) ≡ true
      → T (admitted P (saying z l f body))
  unfolding saying placed sorted_by sort_at
  line_fine Triple e p q = triple_fine e p q
  line_fine Pair e p q = taking_fine (is_pair (P.code t k))
    where
      taking_fine : (b : Bool) → T (admitted P (elim b [ true ↦ pair t k before after | false ↦ triple t k before after ]))
      taking_fine true = triple_fine e p q
      taking_fine false = triple_fine e p q
  line_fine Implication e p q = sides_plain (eqb-true (sort_of (get_or l (left body) [])) Codes.assertion p)
      (eqb-true (sort_of (get_or l (right body) [])) Codes.assertion q)
  line_fine Inclusion e p q = tt
  line_fine Unlisted e p q = tt

  sides_bounded : (p : ℕ) → sort_of (get_or l (left body) []) ≡ p → sort_of (get_or l (right body) []) ≡ p
      → T (bounded P.range (formula l (Place.sort_at p) (left body)) && bounded P.range (formula l (Place.sort_at p) (right body)))
  sides_bounded p e d =
      and_both (bounded P.range (formula l (Place.sort_at p) (left body))) (bounded P.range (formula l (Place.sort_at p) (right body)))
      (formula_bounded z l c (left body) in_range.0.0 in_range.0.1 p e)
      (formula_bounded z l c (right body) in_range.1.0 in_range.1.1 p d)

  line_constants : (f : Form) → placed z l f body ≡ true → sorted_by l f (left body) ≡ true → sorted_by l f (right body) ≡ true
      → T (bounded_sides P.range (saying z l f body))
  unfolding saying placed sorted_by sort_at
  line_constants Triple h p q = sides_bounded Codes.assertion (outlined_fine z l c (left body) p).0 (outlined_fine z l c (right body) q).0
  line_constants Pair h p q = taking_bounded (is_pair (P.code t k))
    where
      taking_bounded : (b : Bool) → T (bounded_sides P.range (elim b [ true ↦ pair t k before after | false ↦ triple t k before after ]))
      taking_bounded true = sides_bounded Codes.assertion (outlined_fine z l c (left body) p).0 (outlined_fine z l c (right body) q).0
      taking_bounded false = sides_bounded Codes.assertion (outlined_fine z l c (left body) p).0 (outlined_fine z l c (right body) q).0
  line_constants Implication h p q = sides_bounded Codes.assertion (eqb-true (sort_of (get_or l (left body) [])) Codes.assertion p)
      (eqb-true (sort_of (get_or l (right body) [])) Codes.assertion q)
  line_constants Inclusion h p q = sides_bounded Codes.interval (eqb-true (sort_of (get_or l (left body) [])) Codes.interval p)
      (eqb-true (sort_of (get_or l (right body) [])) Codes.interval q)
  line_constants Unlisted h p q = absurd (true≢false (sym h))

  -- its constants are values
  pub line_bounded : T (bounded_sides P.range (saying z l form body))
  line_bounded = line_constants form numbers_passed.0 sorted_passed.0 sorted_passed.1

  pub line_admitted : T (admitted P (saying z l form body))
  line_admitted = line_fine form numbers_passed.0 sorted_passed.0 sorted_passed.1
