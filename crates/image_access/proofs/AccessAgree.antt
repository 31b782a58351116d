-- What the look-ups find is what a sound image says, as trees.
use mathlib.Core.Path.{◌≡◌, refl, ap, ap₂, sym, ◌∙◌, subst, subst₂}
use mathlib.Core.Bool.{Bool, true, false, cond, true≢false}
use mathlib.Core.List.{List, [], ◌∷◌}
use Prim.Native.Nat.{ℕ, zero, suc, ◌≤◌, ◌<◌}
use native.Mathlib.Omega.{arith}
use lib.Dec.{eqb, leb}
use lib.ListN.{length, get_or}
use borrow.Author.Tests.{eqb-true, leb-true, ne_eqb}
use Rattle.semantics.specs.Base.{Within}
use Rattle.semantics.specs.Formula.{Sort, Formula.const}
use Rattle.logic.specs.Opcode as Opcode
use Rattle.semantics.specs.Machine.{Program}
use Rattle.logic.specs.Statement.{Statement, triple, pair, is_pair}
use Rattle.limits.specs.Numbers.{within}
use Rattle.image_frames.specs.Records.{bodies}
use Rattle.formula.specs.Codes as Codes
use Rattle.formula.specs.Reader.{sort_of}
use Rattle.formula.specs.Tree.{Tree}
use Rattle.image_header.specs.declared.sizes.Sizes.{Sizes}
use Rattle.image_header.specs.declared.instruction.Half.{Half}
use Rattle.image_header.specs.declared.instruction.Instruction.{Instruction}
use Rattle.formula_compare.specs.Replace.{NoteT}
use Rattle.image_header.specs.Instruction.{twofold, pair_operation, first_operation, fields_of, ranged}
use Rattle.image_header.specs.Thread.{last_point, instructions, nothing}
use Rattle.image_header.proofs.ThreadBranches.{instructions_length}
use Rattle.image_bodies.specs.RecordPlaces.{instruction_of}
use Rattle.image_bodies.specs.declared.line.Form.{Form}
use Rattle.image_bodies.specs.declared.line.Form.TheVariants.{Triple, Implication, Inclusion, Pair, Unlisted}
use Rattle.image_bodies.specs.Line.{form_of, nowhere, placed}
use Rattle.image_bodies.specs.ThreadBody.{wanted, sorted}
use Rattle.image_bodies.specs.LineBody.{sort_at, sorted_by}
use Rattle.formula_trees.specs.ToTree.{to_tree}
use Rattle.formula_trees.specs.Place as Place
use Rattle.formula_trees.specs.StatementTree as Said
use Rattle.formula_trees.specs.StatementTree.{TreeConclusion, concluded, acting}
use Rattle.image_meaning.specs.Formulas.{formula}
use Rattle.image_meaning.specs.Program.{instr, point_count, program_of, outline_number, outline_of}
use Rattle.image_meaning.specs.Certificate.{left, right, saying, line_body, certificate_of}
use Rattle.image_access.specs.AccessPlaces.{formula_at, line_in, register_first, acting_of}
use Rattle.image_access.specs.AccessTrees.{tree_at, spoken, concluded_at, gives_t, notes_by, acting_at}
use Rattle.limits.proofs.PassedTests.{and_true, within_true, every_at}
use Rattle.image_meaning.proofs.Instructions.{instruction_there, pair_is}
use Rattle.image_meaning.proofs.RecordsChecked.{Checks}
use Rattle.image_meaning.proofs.FormulaSorts.{formula_tree}
use Rattle.image_meaning.proofs.WellFormedProgram.{fields_in, ranged_both, second-in, formula-sorted, sorted_both, made, none_above, body, thread_ranged, thread_sorted, outlined_fine, outline_range, outline_fine}
use Rattle.image_meaning.proofs.LinesAdmitted.{numbers_passed, sorted_passed, in_range, triple_there}
use Rattle.image_access.proofs.PositionTrees.{position_tree, none_tree}

-- what acts has the instruction's operation
pub acting_whole : (s : List ℕ) (i : Instruction) → (acting_of s i).whole ≡ i.operation
unfolding acting_of
acting_whole s i = go (eqb i.operation Opcode.branch) (register_first i.operation) refl refl
  where
    go : (b d : Bool) → eqb i.operation Opcode.branch ≡ b → register_first i.operation ≡ d → (acting_of s i).whole ≡ i.operation
    go true d p q = rw p
    go false true p q = rw (p, q)
    go false false p q = rw (p, q)

-- the operation is the first half's
pub acting_first : (s : List ℕ) (i : Instruction) → (acting_of s i).operation ≡ first_operation (acting_of s i).whole
unfolding acting_of register_first first_operation
acting_first s i = go (eqb i.operation Opcode.branch) (leb i.operation Opcode.acquire) (eqb i.operation Opcode.assign_two) refl
    refl refl
  where
    go : (b d e : Bool) → eqb i.operation Opcode.branch ≡ b → leb i.operation Opcode.acquire ≡ d
        → eqb i.operation Opcode.assign_two ≡ e → (acting_of s i).operation ≡ first_operation (acting_of s i).whole
    go true d e p q r = let o : i.operation ≡ 6 = eqb-true i.operation Opcode.branch p in rw (p, o)
    go false true e p q r =
        let o : i.operation ≤ 2 = leb-true i.operation Opcode.acquire q in
        rw (
          p,
          q,
          ne_eqb i.operation 9 (λ z. omega arith),
          ne_eqb i.operation 10 (λ z. omega arith),
          ne_eqb i.operation 11 (λ z. omega arith),
        )
    go false false true p q r = let o : i.operation ≡ 12 = eqb-true i.operation Opcode.assign_two r in rw (p, q, r, o)
    go false false false p q r = rw (p, q, r)

module _ (s : List ℕ) (z : Sizes) (c : Checks z (bodies s)) where
  abbrev l : List (List ℕ)
  l = bodies s

  abbrev P : Program
  P = program_of z l

  -- a formula of the sort by which it is read
  tree_is : (p k : ℕ) → 1 ≤ k → k ≤ z.formulas → sort_of (get_or l k []) ≡ p
      → to_tree (formula l (Place.sort_at p) k) ≡ tree_at s (formula_at s k)
  tree_is p k a b e = formula_tree z l c k a b p e ∙ sym (position_tree s z c k a b)

  pub outline_is : (t k : ℕ) → Within z.threads t → k < P.points t
      → to_tree (outline_of z l t k) ≡ tree_at s (formula_at s (outline_number z l t k))
  outline_is t k w b = let r = outline_range z l c t k w b in
      tree_is Codes.assertion (outline_number z l t k) r.0 r.1 (outline_fine z l c t k w b).0

  -- lines

  module _ (n : ℕ) (w : Within z.lines n) where
    abbrev b : List ℕ
    b = line_body z l n

    -- the two sides, read as formulas of a sort
    sides_are : (p : ℕ) → sort_of (get_or l (left b) []) ≡ p → sort_of (get_or l (right b) []) ≡ p
        → (to_tree (formula l (Place.sort_at p) (left b)) ≡ tree_at s (formula_at s (left b)))
        × (to_tree (formula l (Place.sort_at p) (right b)) ≡ tree_at s (formula_at s (right b)))
    sides_are p e d = let r = in_range z l c n w.0 w.1 in
        (tree_is p (left b) r.0.0 r.0.1 e, tree_is p (right b) r.1.0 r.1.1 d)

    -- thread and point are 0
    pub nowhere_is : nowhere b ≡ true → (get_or b 1 0 ≡ 0) × (get_or b 2 0 ≡ 0)
    unfolding nowhere
    nowhere_is e =
        let h = and_true (within 0 0 (get_or b 1 0)) (within 0 0 (get_or b 2 0)) e in
        let x = within_true 0 0 (get_or b 1 0) h.0 in
        let y = within_true 0 0 (get_or b 2 0) h.1 in
        (omega (arith, x.1), omega (arith, y.1))

    abbrev says : ℕ → ℕ → ℕ → Tree → Tree → TreeConclusion
    says f t k u v = record { form = f; thread = t; point = k; left = u; right = v }

    -- of rule 50: of the whole pair, where there is one
    abbrev says_taking : Bool → Statement
    says_taking o = elim o [
      | true ↦ pair (get_or b 1 0) (get_or b 2 0) (formula l Sort.assertion (left b)) (formula l Sort.assertion (right b))
      | false ↦ triple (get_or b 1 0) (get_or b 2 0) (formula l Sort.assertion (left b)) (formula l Sort.assertion (right b))
    ]

    taking_is : {u v : Tree} → to_tree (formula l Sort.assertion (left b)) ≡ u → to_tree (formula l Sort.assertion (right b)) ≡ v → (o : Bool)
        → concluded (says_taking o) ≡ says (cond o Said.paired Said.hoare) (get_or b 1 0) (get_or b 2 0) u v
    taking_is e d true = ap₂ (λ (u v : Tree). says Said.paired (get_or b 1 0) (get_or b 2 0) u v) e d
    taking_is e d false = ap₂ (λ (u v : Tree). says Said.hoare (get_or b 1 0) (get_or b 2 0) u v) e d

    by_form : (f : Form) → placed z l f b ≡ true → sorted_by l f (left b) ≡ true → sorted_by l f (right b) ≡ true
        → concluded (saying z l f b) ≡ says (spoken f (instruction_of z l (get_or b 1 0) (get_or b 2 0)).operation) (get_or b 1 0) (get_or b 2 0)
        (tree_at s (formula_at s (left b))) (tree_at s (formula_at s (right b)))
    unfolding saying placed sorted_by sort_at
    by_form Triple e p q =
        let h = sides_are Codes.assertion (outlined_fine z l c (left b) p).0 (outlined_fine z l c (right b) q).0 in
        ap₂ (λ (u v : Tree). says Said.hoare (get_or b 1 0) (get_or b 2 0) u v) h.0 h.1
    by_form Implication e p q =
        let h = sides_are Codes.assertion (eqb-true (sort_of (get_or l (left b) [])) Codes.assertion p)
        (eqb-true (sort_of (get_or l (right b) [])) Codes.assertion q) in
        let g = nowhere_is e in
        ap₂ (λ (u v : Tree). says Said.implication 0 0 u v) h.0 h.1
        ∙ ap₂ (λ (t k : ℕ). says Said.implication t k (tree_at s (formula_at s (left b))) (tree_at s (formula_at s (right b))))
        (sym g.0) (sym g.1)
    by_form Inclusion e p q =
        let h = sides_are Codes.interval (eqb-true (sort_of (get_or l (left b) [])) Codes.interval p)
        (eqb-true (sort_of (get_or l (right b) [])) Codes.interval q) in
        let g = nowhere_is e in
        ap₂ (λ (u v : Tree). says Said.inclusion 0 0 u v) h.0 h.1
        ∙ ap₂ (λ (t k : ℕ). says Said.inclusion t k (tree_at s (formula_at s (left b))) (tree_at s (formula_at s (right b)))) (sym g.0)
        (sym g.1)
    by_form Pair e p q =
        let h = sides_are Codes.assertion (outlined_fine z l c (left b) p).0 (outlined_fine z l c (right b) q).0 in
        rw (← pair_is l (instruction_of z l (get_or b 1 0) (get_or b 2 0)))
        (taking_is h.0 h.1 (is_pair (P.code (get_or b 1 0) (get_or b 2 0))))
    by_form Unlisted e p q = absurd (true≢false (sym e))

    pub line_is : concluded ((certificate_of z l).line n).says ≡ concluded_at s z (line_in s b)
    unfolding line_in
    line_is = by_form (form_of (get_or b 0 0)) (numbers_passed z l c n w.0 w.1).0 (sorted_passed z l c n w.0 w.1).0
        (sorted_passed z l c n w.0 w.1).1

  -- instructions

  abbrev acts : ℕ → ℕ → ℕ → ℕ → Tree → List NoteT → Said.Acting
  acts op whole x r f ns = record { operation = op; whole = whole; word = x; register = r; formula = f; notes = ns }

  -- a load and a branch have no formula: it is taken for the constant 0
  no-formula : (f : ℕ) → f ≡ 0 → to_tree (const 0) ≡ tree_at s (formula_at s f)
  unfolding formula_at
  no-formula f e = rw e (sym (none_tree s))

  -- the formulas of both halves
  pub value_is : (i : Instruction) → wanted i.operation ≡ Codes.value → (1 ≤ i.formula) × (i.formula ≤ z.formulas)
      → sorted l i ≡ true → to_tree (formula l Sort.value i.formula) ≡ tree_at s (formula_at s i.formula)
  value_is i w r d = tree_is Codes.value i.formula r.0 r.1
      ((formula-sorted z l c (wanted i.operation) i.formula r.0 (sorted_both z l c i d).0).0 ∙ w)

  pub note_is : (last : ℕ) (i : Instruction) → twofold i.operation ≡ true → ranged last z i ≡ true → sorted l i ≡ true
      → to_tree (formula l Sort.value i.second.formula) ≡ tree_at s (formula_at s i.second.formula)
  note_is last i t e d =
      let r = second-in z i t (ranged_both last z i e).1 in
      tree_is Codes.value i.second.formula r.0 r.1
      (formula-sorted z l c Codes.value i.second.formula r.0 (sorted_both z l c i d).1).0

  noted : Half → NoteT
  noted n = gives_t n.a (tree_at s (formula_at s n.formula))

  pair_acts : (op whole x r r' : ℕ) (u u' : Tree) (q : ℕ) (v v' : Tree) → r ≡ r' → u ≡ u' → v ≡ v'
      → acts op whole x r u (gives_t q v ∷ []) ≡ acts op whole x r' u' (gives_t q v' ∷ [])
  pair_acts op whole x r r' u u' q v v' e d g = rw (e, d, g)

  two_acts : (r x x' : ℕ) (u u' : Tree) (q : ℕ) (v v' : Tree) → x ≡ x' → u ≡ u' → v ≡ v'
      → acts 12 12 x r u (gives_t r u ∷ gives_t q v ∷ []) ≡ acts 12 12 x' r u' (gives_t r u' ∷ gives_t q v' ∷ [])
  two_acts r x x' u u' q v v' e d g = rw (e, d, g)

  instr_is : (last op a b f : ℕ) (n : Half) → ranged last z (made op a b f n) ≡ true → sorted l (made op a b f n) ≡ true
      → acting (instr l (made op a b f n)) ≡ acting_at s (acting_of s (made op a b f n))
  unfolding fields_of instr acting_of register_first first_operation notes_by pair_operation twofold wanted
  instr_is last zero a b f n e d =
      let h = fields_in _ _ (ranged_both last z _ e).0 in
      let q : 0 ≡ b = omega (arith, h.1.1) in
      ap₂ (λ (x : ℕ) (u : Tree). acts 0 0 x a u (notes_by 0 (gives_t a u) (noted n))) q (value_is (made 0 a b f n) refl h.2 d)
  instr_is last (suc zero) a b f n e d = let h = fields_in _ _ (ranged_both last z _ e).0 in
      ap (λ (u : Tree). acts 1 1 b a u []) (no-formula f (omega (arith, h.2.1)))
  instr_is last (suc (suc zero)) a b f n e d = let h = fields_in _ _ (ranged_both last z _ e).0 in
      ap (λ (u : Tree). acts 2 2 b a u []) (no-formula f (omega (arith, h.2.1)))
  instr_is last (suc (suc (suc zero))) a b f n e d =
      let h = fields_in _ _ (ranged_both last z _ e).0 in
      let q : 0 ≡ b = omega (arith, h.1.1) in
      ap₂ (λ (r : ℕ) (u : Tree). acts 3 3 a r u []) q (value_is (made 3 a b f n) refl h.2 d)
  instr_is last (suc (suc (suc (suc zero)))) a b f n e d =
      let h = fields_in _ _ (ranged_both last z _ e).0 in
      let q : 0 ≡ b = omega (arith, h.1.1) in
      ap₂ (λ (r : ℕ) (u : Tree). acts 4 4 a r u []) q (value_is (made 4 a b f n) refl h.2 d)
  instr_is last (suc (suc (suc (suc (suc zero))))) a b f n e d =
      let h = fields_in _ _ (ranged_both last z _ e).0 in
      let q : 0 ≡ b = omega (arith, h.1.1) in
      ap₂ (λ (r : ℕ) (u : Tree). acts 5 5 a r u []) q (value_is (made 5 a b f n) refl h.2 d)
  instr_is last (suc (suc (suc (suc (suc (suc zero)))))) a b f n e d = ap (λ (u : Tree). acts 6 6 0 0 u []) (sym (none_tree s))
  instr_is last (suc (suc (suc (suc (suc (suc (suc zero))))))) a b f n e d = let h = fields_in _ _ (ranged_both last z _ e).0 in
      ap (λ (u : Tree). acts 7 7 a b u []) (value_is (made 7 a b f n) refl h.2 d)
  instr_is last (suc (suc (suc (suc (suc (suc (suc (suc zero)))))))) a b f n e d = let h = fields_in _ _ (ranged_both last z _ e).0 in
      ap (λ (u : Tree). acts 8 8 a b u []) (value_is (made 8 a b f n) refl h.2 d)
  instr_is last (suc (suc (suc (suc (suc (suc (suc (suc (suc zero))))))))) a b f n e d =
      let h = fields_in _ _ (ranged_both last z _ e).0 in
      let q : 0 ≡ b = omega (arith, h.1.1) in
      pair_acts 3 9 a 0 b _ _ n.a _ _ q (value_is (made 9 a b f n) refl h.2 d) (note_is last (made 9 a b f n) refl e d)
  instr_is last (suc (suc (suc (suc (suc (suc (suc (suc (suc (suc zero)))))))))) a b f n e d =
      let h = fields_in _ _ (ranged_both last z _ e).0 in
      let q : 0 ≡ b = omega (arith, h.1.1) in
      pair_acts 4 10 a 0 b _ _ n.a _ _ q (value_is (made 10 a b f n) refl h.2 d) (note_is last (made 10 a b f n) refl e d)
  instr_is last (suc (suc (suc (suc (suc (suc (suc (suc (suc (suc (suc zero))))))))))) a b f n e d =
      let h = fields_in _ _ (ranged_both last z _ e).0 in
      let q : 0 ≡ b = omega (arith, h.1.1) in
      pair_acts 5 11 a 0 b _ _ n.a _ _ q (value_is (made 11 a b f n) refl h.2 d) (note_is last (made 11 a b f n) refl e d)
  instr_is last (suc (suc (suc (suc (suc (suc (suc (suc (suc (suc (suc (suc zero)))))))))))) a b f n e d =
      let h = fields_in _ _ (ranged_both last z _ e).0 in
      let q : 0 ≡ b = omega (arith, h.1.1) in
      two_acts a 0 b _ _ n.a _ _ q (value_is (made 12 a b f n) refl h.2 d) (note_is last (made 12 a b f n) refl e d)
  instr_is last (suc (suc (suc (suc (suc (suc (suc (suc (suc (suc (suc (suc (suc m))))))))))))) a b f n e d =
      absurd (none_above z l c last (made (suc (suc (suc (suc (suc (suc (suc (suc (suc (suc (suc (suc (suc m))))))))))))) a b f n)
      (omega arith) e)

  -- an instruction of a thread: its fields are in their ranges, its formula is of the sort that it wants
  pub fields_there : (t k : ℕ) (w : Within z.threads t) → suc k < P.points t
      → (ranged (last_point (body z l c t w.0 w.1)) z (instruction_of z l t k) ≡ true) × (sorted l (instruction_of z l t k) ≡ true)
  unfolding point_count
  fields_there t k w h =
      let x : List ℕ = body z l c t w.0 w.1 in
      let m : k < length (instructions x) = let q = instructions_length x in omega arith in
      rw (instruction_there z l t k w.0 w.1) (
        every_at (ranged (last_point x) z) (instructions x) k nothing (thread_ranged z l c t w.0 w.1) m,
        every_at (sorted l) (instructions x) k nothing (thread_sorted z l c t w.0 w.1) m,
      )

  pub acting_is : (t k : ℕ) → Within z.threads t → suc k < P.points t
      → acting (P.code t k) ≡ acting_at s (acting_of s (instruction_of z l t k))
  acting_is t k w h =
      let i : Instruction = instruction_of z l t k in
      let f = fields_there t k w h in
      instr_is (last_point (body z l c t w.0 w.1)) i.operation i.a i.b i.formula i.second f.0 f.1

  -- the test of a branch
  test_read : (last a b f : ℕ) (n : Half) → ranged last z (made Opcode.branch a b f n) ≡ true
      → sorted l (made Opcode.branch a b f n) ≡ true → to_tree (formula l Sort.test f) ≡ tree_at s (formula_at s f)
  unfolding fields_of wanted
  test_read last a b f n e d =
      let h = fields_in _ _ (ranged_both last z _ e).0 in
      tree_is Codes.test f h.2.0 h.2.1 (formula-sorted z l c Codes.test f h.2.0
      (sorted_both z l c (made Opcode.branch a b f n) d).0).0

  pub test_is : (t k : ℕ) → Within z.threads t → suc k < P.points t → (instruction_of z l t k).operation ≡ Opcode.branch
      → to_tree (formula l Sort.test (instruction_of z l t k).formula) ≡ tree_at s (formula_at s (instruction_of z l t k).formula)
  test_is t k w h e =
      let i : Instruction = instruction_of z l t k in
      let f = fields_there t k w h in
      test_read (last_point (body z l c t w.0 w.1)) i.a i.b i.formula i.second
      (subst (λ (op : ℕ). ranged (last_point (body z l c t w.0 w.1)) z (made op i.a i.b i.formula i.second) ≡ true) e
      f.0)
      (subst (λ (op : ℕ). sorted l (made op i.a i.b i.formula i.second) ≡ true) e f.1)

  -- the instruction of a line: of a triple its own; other lines have none
  none_acting : acting (P.code 0 0) ≡ acting_at s (acting_of s (instruction_of z l 0 0))
  unfolding instr acting_of instruction_of notes_by pair_operation
  none_acting = ap (λ (u : Tree). acts 6 6 0 0 u []) (sym (none_tree s))

  module _ (n : ℕ) (w : Within z.lines n) where
    pub line_acting : acting (P.code (get_or (line_body z l n) 1 0) (get_or (line_body z l n) 2 0)) ≡ acting_at s
        (acting_of s (instruction_of z l (get_or (line_body z l n) 1 0) (get_or (line_body z l n) 2 0)))
    unfolding placed
    line_acting = go (form_of (get_or (line_body z l n) 0 0)) (numbers_passed z l c n w.0 w.1).0
      where
        nowhere_acting : nowhere (line_body z l n) ≡ true
            → acting (P.code (get_or (line_body z l n) 1 0) (get_or (line_body z l n) 2 0)) ≡ acting_at s
            (acting_of s (instruction_of z l (get_or (line_body z l n) 1 0) (get_or (line_body z l n) 2 0)))
        nowhere_acting e = let g = nowhere_is n w e in
            subst₂ (λ (t k : ℕ). acting (P.code t k) ≡ acting_at s (acting_of s (instruction_of z l t k))) (sym g.0) (sym g.1)
            none_acting

        go : (f : Form) → placed z l f (line_body z l n) ≡ true
            → acting (P.code (get_or (line_body z l n) 1 0) (get_or (line_body z l n) 2 0)) ≡ acting_at s
            (acting_of s (instruction_of z l (get_or (line_body z l n) 1 0) (get_or (line_body z l n) 2 0)))
        go Triple e = let r = triple_there z l c n w.0 w.1 e in
            acting_is (get_or (line_body z l n) 1 0) (get_or (line_body z l n) 2 0) r.0 r.1
        go Implication e = nowhere_acting e
        go Inclusion e = nowhere_acting e
        go Pair e = let r = triple_there z l c n w.0 w.1 e in
            acting_is (get_or (line_body z l n) 1 0) (get_or (line_body z l n) 2 0) r.0 r.1
        go Unlisted e = absurd (true≢false (sym e))
