-- The program and the outline of a sound image are well-formed.
use mathlib.Core.Path.{◌≡◌, refl, ap, sym, ◌∙◌}
use mathlib.Core.Bool.{Bool, true, false, ◌&&◌}
use mathlib.Core.List.{List, []}
use Prim.Native.Nat.{ℕ, zero, suc, ◌+◌, ◌-◌, ◌≤◌, ◌<◌}
use native.Mathlib.Omega.{arith}
use lib.Dec.{T, eqb, leb, ltb, le→leb, lt→ltb}
use lib.ListN.{length, get_or}
use borrow.Author.Tests.{eqb-true, ne_eqb, le-leb, lt-leb, le-ltb, not-true}
use Rattle.semantics.specs.Base as Base
use Rattle.semantics.specs.Base.{Within}
use Rattle.semantics.specs.Formula.{Sort}
use Rattle.semantics.specs.Names as Names
use Rattle.semantics.specs.Names.{only, is_reg, not_reg}
use Rattle.semantics.specs.Eval.{bounded}
use Rattle.logic.specs.Opcode as Opcode
use Rattle.semantics.specs.Machine.{Program}
use Rattle.logic.specs.WellFormed.{proper, WellFormed}
use Rattle.semantics.proofs.Base.{and_both}
use Rattle.limits.specs.Limits as Limits
use Rattle.limits.specs.Numbers.{nth, numbers, within, every}
use Rattle.limits.proofs.Numbers.{numbers_length}
use Rattle.formula.specs.Codes as Codes
use Rattle.formula.specs.Reader.{sort_of}
use Rattle.image_header.specs.declared.sizes.Sizes.{Sizes}
use Rattle.image_header.specs.declared.instruction.Half.{Half}
use Rattle.image_header.specs.declared.instruction.Instruction.{Instruction}
use Rattle.image_header.specs.declared.instruction.Fields.{Fields}
use Rattle.image_header.specs.Header.{start_values, owners, marks, counted, headed, header}
use Rattle.image_header.specs.Instruction.{inside, twofold, fields_of, fields_fit, differ, half_fits, second_fits, ranged}
use Rattle.image_header.specs.Thread.{last_point, instructions, nothing, numbered, thread_numbers}
use Rattle.image_header.proofs.HeaderBranches.{counted_in}
use Rattle.image_header.proofs.ThreadBranches.{instructions_length}
use Rattle.image_bodies.specs.RecordPlaces.{thread_body}
use Rattle.image_bodies.specs.NumberList.{exactly}
use Rattle.image_bodies.specs.PointCounts.{point_counts_to, point_counts}
use Rattle.formula_compare.specs.Occurs.{occurs, register}
use Rattle.image_bodies.specs.FormulaUse.{tree_of, startless, plain, outlined, plain_of}
use Rattle.image_bodies.specs.ThreadBody.{wanted, formula_sorted, sorted, result_absent, thread_registers, thread}
use Rattle.image_bodies.specs.ListBody.{outlined_at, outline}
use Rattle.image_meaning.specs.Formulas.{formula}
use Rattle.image_meaning.specs.Program.{instr, point_count, program_of, outline_body, outline_number, outline_of}
use Rattle.limits.proofs.PassedTests.{and_true, within_true, every_at, every_or}
use Rattle.image_meaning.proofs.PassedChecks.{unless_passed, also_passed}
use Rattle.image_meaning.proofs.RecordsChecked.{Checks, header_passed, thread_passed, outline_passed}
use Rattle.image_meaning.proofs.FormulaSorts.{formula_bounded, value_regs, value_lacks, test_regs, assertion_startless}
use Rattle.image_meaning.proofs.Sums.{sum_part}
use Rattle.image_meaning.proofs.Instructions.{instruction_there}
use Rattle.image_meaning.proofs.ObligationCount.{tally_points, points_of}

pub within_there : (n k : ℕ) → 1 ≤ k → k ≤ n → T (Base.within n k)
within_there n k a b = and_both (leb 1 k) (leb k n) (le→leb 1 k a) (le→leb k n b)

abbrev pub made : ℕ → ℕ → ℕ → ℕ → Half → Instruction
made op a b f h = record { operation = op; a = a; b = b; formula = f; second = h }

-- the fields of an instruction are in their ranges
pub fields_in : (i : Instruction) (f : Fields) → fields_fit i f ≡ true
    → ((f.a.low ≤ i.a) × (i.a ≤ f.a.high)) × ((f.b.low ≤ i.b) × (i.b ≤ f.b.high))
    × ((f.formula.low ≤ i.formula) × (i.formula ≤ f.formula.high))
unfolding fields_fit
fields_in i f e =
    let h = and_true (inside f.a i.a) (inside f.b i.b && inside f.formula i.formula) e in
    let g = and_true (inside f.b i.b) (inside f.formula i.formula) h.1 in (
      within_true f.a.low f.a.high i.a h.0,
      within_true f.b.low f.b.high i.b g.0,
      within_true f.formula.low f.formula.high i.formula g.1,
    )

-- both halves of an instruction are
pub ranged_both : (last : ℕ) (z : Sizes) (i : Instruction) → ranged last z i ≡ true
    → (fields_fit i (fields_of i.operation last z) ≡ true) × (second_fits z i ≡ true)
unfolding ranged
ranged_both last z i e = and_true (fields_fit i (fields_of i.operation last z)) (second_fits z i) e

-- a second half that there is: its formula is there
pub second-in : (z : Sizes) (i : Instruction) → twofold i.operation ≡ true → second_fits z i ≡ true
    → (1 ≤ i.second.formula) × (i.second.formula ≤ z.formulas)
unfolding second_fits half_fits
second-in z i t e =
    let h : Half = i.second in
    let x : Bool = within 1 z.formulas h.formula in
    let y : Bool = within 0 0 h.b && x in
    let w : Bool = within 1 z.registers h.a && y in
    let g = and_true (within Opcode.assign Opcode.assign h.operation && w) (differ i) (rw t at e) in
    let k = and_true (within Opcode.assign Opcode.assign h.operation) w g.0 in
    within_true 1 z.formulas h.formula (and_true (within 0 0 h.b) x (and_true (within 1 z.registers h.a) y k.1).1).1

module _ (z : Sizes) (l : List (List ℕ)) (c : Checks z l) where
  abbrev P : Program
  P = program_of z l

  -- the header

  header_fits : headed c.counted (get_or l 0 []) ≡ true
  unfolding header
  header_fits = (unless_passed _ _ _ (unless_passed _ _ _ (unless_passed _ _ _ (header_passed z l c)).1).1).0

  abbrev started : Bool
  started = every (within 0 (P.range - 1)) (start_values (get_or l 0 []))

  abbrev owning : Bool
  owning = every (within 1 (get_or (get_or l 0 []) 0 0)) (owners (get_or l 0 [])) && every (within 0 1) (marks (get_or l 0 []))

  header_counted : counted c.counted (get_or l 0 []) ≡ true
  unfolding headed
  header_counted = (and_true (counted c.counted (get_or l 0 [])) (started && owning) header_fits).0

  -- there are two values at least
  pub range_two : 2 ≤ P.range
  range_two = (counted_in c.counted (get_or l 0 []) header_counted).range.0

  header_starts : started ≡ true
  unfolding headed
  header_starts = (and_true started owning (and_true (counted c.counted (get_or l 0 [])) (started && owning) header_fits).1).0

  start-value : (x : ℕ) → P.init x < P.range
  unfolding nth within
  start-value zero = omega (arith, range_two)
  start-value (suc x) =
      let h = every_or (within 0 (P.range - 1)) (start_values (get_or l 0 [])) x 0 header_starts (le-leb 0 (P.range - 1) (omega arith)) in
      let g = within_true 0 (P.range - 1) (get_or (start_values (get_or l 0 [])) x 0) h in
      omega (arith, range_two, g.1)

  -- instructions

  -- a formula of an instruction: of the sort that is wanted, without 2, 14, 15
  pub formula-sorted : (sort k : ℕ) → 1 ≤ k → formula_sorted l sort k ≡ true → (sort_of (get_or l k []) ≡ sort) × (plain (get_or l k []) ≡ true)
  unfolding formula_sorted plain_of
  formula-sorted sort k a e =
      let q : k ≡ 0 → ⊥ = omega arith in
      let h = and_true (eqb (sort_of (get_or l k [])) sort) (plain (get_or l k [])) (rw (ne_eqb k 0 q) at e) in
      (eqb-true (sort_of (get_or l k [])) sort h.0, h.1)

  -- of both halves
  pub sorted_both : (i : Instruction) → sorted l i ≡ true
      → (formula_sorted l (wanted i.operation) i.formula ≡ true) × (formula_sorted l Codes.value i.second.formula ≡ true)
  unfolding sorted
  sorted_both i e = and_true (formula_sorted l (wanted i.operation) i.formula) (formula_sorted l Codes.value i.second.formula) e

  value_fine : (k : ℕ) → 1 ≤ k → k ≤ z.formulas → (sort_of (get_or l k []) ≡ Codes.value) × (plain (get_or l k []) ≡ true)
      → T (only is_reg (formula l Sort.value k) && bounded P.range (formula l Sort.value k))
  value_fine k a b h = and_both (only is_reg (formula l Sort.value k)) (bounded P.range (formula l Sort.value k))
      (value_regs z l c k a b h.0 h.1) (formula_bounded z l c k a b Codes.value h.0)

  module _ (last : ℕ) where
    abbrev Proper : Instruction → Type 0
    Proper i = ranged last z i ≡ true → sorted l i ≡ true → result_absent l i ≡ true → T (proper P (last + 1) (instr l i))

    abbrev valued : ℕ → Bool
    valued f = only is_reg (formula l Sort.value f) && bounded P.range (formula l Sort.value f)

    -- one thing is asked
    alone : (b : Bool) → T b → T (b && true)
    alone b h = and_both b true h tt

    first_fields : (i : Instruction) → ranged last z i ≡ true → fields_fit i (fields_of i.operation last z) ≡ true
    first_fields i e = (ranged_both last z i e).0

    -- the formula of the first half, where it is there
    first_fine : (i : Instruction) → wanted i.operation ≡ Codes.value → (1 ≤ i.formula) × (i.formula ≤ z.formulas)
        → sorted l i ≡ true → T (valued i.formula)
    first_fine i w r d = let s = formula-sorted (wanted i.operation) i.formula r.0 (sorted_both i d).0 in
        value_fine i.formula r.0 r.1 (s.0 ∙ w, s.1)

    -- the note of the second half
    note_fine : (i : Instruction) → twofold i.operation ≡ true → ranged last z i ≡ true → sorted l i ≡ true
        → T (valued i.second.formula && true)
    note_fine i t e d =
        let r = second-in z i t (ranged_both last z i e).1 in
        alone (valued i.second.formula) (value_fine i.second.formula r.0 r.1
        (formula-sorted Codes.value i.second.formula r.0 (sorted_both i d).1))

    -- a write of the word a: b is what else is asked of its formula
    writing : (a f : ℕ) (b : Bool) → (1 ≤ a) × (a ≤ z.words) → T (valued f) → T b → T (Base.within z.words a && (valued f && b))
    writing a f b w v h =
        and_both (Base.within z.words a) (valued f && b) (within_there z.words a w.0 w.1) (and_both (valued f) b v h)

    write_fine : (i : Instruction) → wanted i.operation ≡ Codes.value → fields_of i.operation last z ≡ fields_of Opcode.store last z
        → ranged last z i ≡ true
        → sorted l i ≡ true → T (Base.within z.words i.a && (valued i.formula && true))
    unfolding fields_of
    write_fine i w q e d =
        let h = fields_in i (fields_of Opcode.store last z) (ap (λ (y : Fields). fields_fit i y) (sym q) ∙ first_fields i e) in
        writing i.a i.formula true h.0 (first_fine i w h.2 d) tt

    -- with a note
    pair_fine : (i : Instruction) → wanted i.operation ≡ Codes.value → fields_of i.operation last z ≡ fields_of Opcode.store last z
        → twofold i.operation ≡ true
        → ranged last z i ≡ true → sorted l i ≡ true
        → T ((Base.within z.words i.a && (valued i.formula && true)) && (valued i.second.formula && true))
    pair_fine i w q t e d =
        and_both (Base.within z.words i.a && (valued i.formula && true)) (valued i.second.formula && true)
        (write_fine i w q e d) (note_fine i t e d)

    result_fine : (i : Instruction) → wanted i.operation ≡ Codes.value → fields_of i.operation last z ≡ fields_of Opcode.exchange last z
        → leb i.operation Opcode.branch ≡ false → ltb Opcode.fetch_add i.operation ≡ false
        → ranged last z i ≡ true → sorted l i ≡ true → result_absent l i ≡ true
        → T ((Base.within z.words i.a && (valued i.formula && only (not_reg i.b) (formula l Sort.value i.formula))) && true)
    unfolding fields_of result_absent
    result_fine i w q o o' e d g =
        let h = fields_in i (fields_of Opcode.exchange last z) (ap (λ (y : Fields). fields_fit i y) (sym q) ∙ first_fields i e) in
        let s = formula-sorted (wanted i.operation) i.formula h.2.0 (sorted_both i d).0 in
        alone (Base.within z.words i.a && (valued i.formula && only (not_reg i.b) (formula l Sort.value i.formula)))
        (writing i.a i.formula (only (not_reg i.b) (formula l Sort.value i.formula)) h.0 (first_fine i w h.2 d)
        (value_lacks z l c i.formula h.2.0 h.2.1 i.b (s.0 ∙ w)
        (not-true (occurs (register i.b) [] (tree_of (get_or l i.formula []))) (rw (o, o') at g))))

    -- no operation is above 12: its first field has no range
    pub none_above : (i : Instruction) → 12 < i.operation → ranged last z i ≡ true → ⊥
    unfolding fields_of
    none_above i m e =
        let op : ℕ = i.operation in
        let p : op ≡ 0 → ⊥ = omega arith in
        let q : op ≡ 6 → ⊥ = omega arith in
        let r : op ≡ 12 → ⊥ = omega arith in
        let h =
        fields_in _ _
        (rw (
          ne_eqb op 0 p,
          lt-leb op 2 (omega arith),
          lt-leb op 5 (omega arith),
          ne_eqb op 6 q,
          lt-leb op 8 (omega arith),
          lt-leb op 11 (omega arith),
          ne_eqb op 12 r,
        ) at (first_fields i e)) in
        omega arith

    instr_proper : (op a b f : ℕ) (n : Half) → Proper (made op a b f n)
    unfolding fields_of instr wanted twofold
    instr_proper zero a b f n e d g = let h = fields_in _ _ (first_fields _ e) in
        alone (valued f) (first_fine (made 0 a b f n) refl h.2 d)
    instr_proper (suc zero) a b f n e d g = let h = fields_in _ _ (first_fields _ e) in
        alone (Base.within z.words b) (within_there z.words b h.1.0 h.1.1)
    instr_proper (suc (suc zero)) a b f n e d g = let h = fields_in _ _ (first_fields _ e) in
        alone (Base.within z.words b) (within_there z.words b h.1.0 h.1.1)
    instr_proper (suc (suc (suc zero))) a b f n e d g =
        alone (Base.within z.words a && (valued f && true)) (write_fine (made 3 a b f n) refl refl e d)
    instr_proper (suc (suc (suc (suc zero)))) a b f n e d g =
        alone (Base.within z.words a && (valued f && true)) (write_fine (made 4 a b f n) refl refl e d)
    instr_proper (suc (suc (suc (suc (suc zero))))) a b f n e d g =
        alone (Base.within z.words a && (valued f && true)) (write_fine (made 5 a b f n) refl refl e d)
    instr_proper (suc (suc (suc (suc (suc (suc zero)))))) a b f n e d g =
        let h = fields_in _ _ (first_fields _ e) in
        let s = formula-sorted Codes.test f h.2.0 (sorted_both (made 6 a b f n) d).0 in
        and_both (only is_reg (formula l Sort.test f)) (ltb a (last + 1)) (test_regs z l c f h.2.0 h.2.1 s.0 s.1)
        (lt→ltb a (last + 1) (omega (arith, h.0.1)))
    instr_proper (suc (suc (suc (suc (suc (suc (suc zero))))))) a b f n e d g = result_fine (made 7 a b f n) refl refl refl refl e d g
    instr_proper (suc (suc (suc (suc (suc (suc (suc (suc zero)))))))) a b f n e d g = result_fine (made 8 a b f n) refl refl refl refl e d g
    instr_proper (suc (suc (suc (suc (suc (suc (suc (suc (suc zero))))))))) a b f n e d g = pair_fine (made 9 a b f n) refl refl refl e d
    instr_proper (suc (suc (suc (suc (suc (suc (suc (suc (suc (suc zero)))))))))) a b f n e d g =
        pair_fine (made 10 a b f n) refl refl refl e d
    instr_proper (suc (suc (suc (suc (suc (suc (suc (suc (suc (suc (suc zero))))))))))) a b f n e d g =
        pair_fine (made 11 a b f n) refl refl refl e d
    instr_proper (suc (suc (suc (suc (suc (suc (suc (suc (suc (suc (suc (suc zero)))))))))))) a b f n e d g =
        let h = fields_in _ _ (first_fields _ e) in
        and_both (valued f) (valued n.formula && true) (first_fine (made 12 a b f n) refl h.2 d)
        (note_fine (made 12 a b f n) refl e d)
    instr_proper (suc (suc (suc (suc (suc (suc (suc (suc (suc (suc (suc (suc (suc m))))))))))))) a b f n e d g =
        absurd (none_above (made (suc (suc (suc (suc (suc (suc (suc (suc (suc (suc (suc (suc (suc m))))))))))))) a b f n) (omega arith) e)

  module _ (t : ℕ) (low : 1 ≤ t) (high : t ≤ z.threads) where
    abbrev pub body : List ℕ
    body = thread_body z l t

    thread_numbered : (within 1 Limits.points (get_or body 0 0) ≡ true) × (every (ranged (last_point body) z) (instructions body) ≡ true)
    unfolding thread thread_numbers numbered
    thread_numbered =
        and_true (within 1 Limits.points (get_or body 0 0)) (every (ranged (last_point body) z) (instructions body))
        (unless_passed _ _ _ (unless_passed _ _ _ (unless_passed _ _ _ (also_passed _ _ (thread_passed z l c t low high)).0).1).1).0

    pub points_few : point_count z l t ≤ Limits.points
    unfolding point_count last_point
    points_few = let h = within_true 1 Limits.points (get_or body 0 0) thread_numbered.0 in omega (arith, h.0, h.1)

    pub thread_ranged : every (ranged (last_point body) z) (instructions body) ≡ true
    thread_ranged = thread_numbered.1

    pub thread_sorted : every (sorted l) (instructions body) ≡ true
    unfolding thread
    thread_sorted = (unless_passed _ _ _ (also_passed _ _ (thread_passed z l c t low high)).1).0

    thread_absent : every (result_absent l) (instructions body) ≡ true
    unfolding thread thread_registers
    thread_absent = (unless_passed _ _ _ (unless_passed _ _ _
        (unless_passed _ _ _ (also_passed _ _ (thread_passed z l c t low high)).1).1).1).0

    instruction_proper : (k : ℕ) → suc k < P.points t → T (proper P (P.points t) (P.code t k))
    unfolding point_count
    instruction_proper k b =
        let m : k < length (instructions body) = let q = instructions_length body in omega arith in
        let i : Instruction = get_or (instructions body) k nothing in
        rw (instruction_there z l t k low high)
        (instr_proper (last_point body) i.operation i.a i.b i.formula i.second
        (every_at (ranged (last_point body) z) (instructions body) k nothing thread_ranged m)
        (every_at (sorted l) (instructions body) k nothing thread_sorted m)
        (every_at (result_absent l) (instructions body) k nothing thread_absent m))

  -- the outline

  abbrev outline_numbers : List ℕ
  outline_numbers = numbers (point_counts z l).points (outline_body z l)

  outline_numbered : every (within 1 z.formulas) outline_numbers ≡ true
  unfolding outline exactly
  outline_numbered = (unless_passed _ _ _ (unless_passed _ _ _ (also_passed _ _ (outline_passed z l c)).0).1).0

  outline_sorted : every (outlined_at l) outline_numbers ≡ true
  unfolding outline
  outline_sorted = (unless_passed _ _ _ (also_passed _ _ (outline_passed z l c)).1).0

  -- each point has a number of its own thread's
  outline_there : (t k : ℕ) → Within z.threads t → k < P.points t → (point_counts_to z l (t - 1)).points + k < length outline_numbers
  unfolding point_counts
  outline_there zero k w b = absurd (omega (arith, w.0))
  outline_there (suc u) k w b =
      let q : suc u - 1 ≡ u = omega arith in
      let h = sum_part (points_of z l) z.threads u (omega (arith, w.1)) in
      let n = numbers_length (point_counts z l).points (outline_body z l) in
      let e = tally_points z l u in
      let d = tally_points z l z.threads in
      rw q (omega arith)

  -- an assertion in which start does not occur
  pub outlined_fine : (k : ℕ) → outlined_at l k ≡ true → (sort_of (get_or l k []) ≡ Codes.assertion) × (startless (get_or l k []) ≡ true)
  unfolding outlined_at outlined
  outlined_fine k e = let h = and_true (eqb (sort_of (get_or l k [])) Codes.assertion) (startless (get_or l k [])) e in
      (eqb-true (sort_of (get_or l k [])) Codes.assertion h.0, h.1)

  -- the formula of a point: it is there, and is an assertion without start
  module _ (t k : ℕ) (w : Within z.threads t) (b : k < P.points t) where
    number_is : outline_number z l t k ≡ get_or outline_numbers ((point_counts_to z l (t - 1)).points + k) 0
    unfolding outline_number
    number_is = let q : t ≡ 0 → ⊥ = omega (arith, w.0) in rw (ne_eqb t 0 q, le-ltb z.threads t w.1)

    pub outline_range : (1 ≤ outline_number z l t k) × (outline_number z l t k ≤ z.formulas)
    outline_range =
        within_true 1 z.formulas (outline_number z l t k)
        (rw number_is (every_at (within 1 z.formulas) outline_numbers ((point_counts_to z l (t - 1)).points + k) 0 outline_numbered
        (outline_there t k w b)))

    pub outline_fine : (sort_of (get_or l (outline_number z l t k) []) ≡ Codes.assertion)
        × (startless (get_or l (outline_number z l t k) []) ≡ true)
    outline_fine = outlined_fine (outline_number z l t k)
        (rw number_is (every_at (outlined_at l) outline_numbers ((point_counts_to z l (t - 1)).points + k) 0 outline_sorted (outline_there t k w b)))

    outline_startless : T (Names.startless (outline_of z l t k))
    outline_startless = assertion_startless z l c (outline_number z l t k) outline_range.0 outline_range.1 outline_fine.0
        outline_fine.1

  pub well-formed : WellFormed P (outline_of z l)
  unfolding point_count
  well-formed = record {
    some_value = omega (arith, range_two);
    start-values = start-value;
    some_point = λ t w. omega arith;
    instructions = λ t k w b. instruction_proper t w.0 w.1 k b;
    no_start = outline_startless;
  }
