-- An instruction that passes the checks of its thread's record is in range, as the source has it.
use mathlib.Core.Path.{◌≡◌, refl, ap, sym, ◌∙◌, subst}
use mathlib.Core.Bool.{Bool, true, false, not, ◌&&◌}
use mathlib.Core.List.{List, [], map}
use mathlib.Core.Logic.{◌≢◌}
use Prim.Native.Nat.{ℕ, zero, suc, ◌+◌, ◌≤◌}
use native.Mathlib.Omega.{arith}
use lib.Dec.{eqb}
use lib.ListN.{length, get_or}
use borrow.Author.Tests.{eqb-true, eqb-false, ne_eqb, not-true}
use Rattle.semantics.specs.Formula.{Sort, Value, Test}
use Rattle.semantics.specs.Names.{not_reg}
use Rattle.semantics.proofs.Base.{not_eqb}
use Rattle.limits.specs.Numbers.{nth, within}
use Rattle.limits.proofs.PassedTests.{and_true, within_true}
use Rattle.formula.specs.Codes as Codes
use Rattle.formula.specs.Reader.{sort_of}
use Rattle.formula.specs.Tree.{Tree}
use Rattle.formula_compare.specs.Occurs.{occurs, register, foreign}
use Rattle.formula_trees.specs.ToTree.{to_tree}
use Rattle.formula_trees.specs.Place.{sort_at}
use Rattle.logic.specs.Opcode as Opcode
use Rattle.image_header.specs.Header.{owners}
use Rattle.image_header.specs.Instruction.{twofold, fields_of, fields_fit, half_fits, second_fits, differ, ranged}
use Rattle.image_header.specs.declared.sizes.Sizes.{Sizes}
use Rattle.image_header.specs.declared.instruction.Half.{Half}
use Rattle.image_header.specs.declared.instruction.Fields.{Fields}
use Rattle.image_header.specs.declared.instruction.Instruction.{Instruction as Coded}
use Rattle.image_bodies.specs.FormulaUse.{tree_of}
use Rattle.image_bodies.specs.ThreadBody.{wanted, formula_sorted, sorted, target, register_owned, formula_owned, owned, result_absent}
use Rattle.image_meaning.specs.Formulas.{formula}
use Rattle.image_meaning.proofs.RecordsChecked.{Checks}
use Rattle.image_meaning.proofs.FormulaSorts.{formula_tree, value_regs, value_lacks, test_regs}
use Rattle.image_meaning.proofs.WellFormedProgram.{made, fields_in, ranged_both, formula-sorted, sorted_both, none_above}
use Rattle.source.specs.Source.{Listed, Source}
use Rattle.source.specs.Meaning.{listed, value, test}
use Rattle.source.specs.InRange.{Word, Own, Is, Local, Val, Assigns, Returns, Proper, Numbers}
use Rattle.source_agrees.specs.SourceOf.{listed_of, assigned, second_of, typed, typed_of}
use Rattle.source_agrees.proofs.FormulaNumbers.{value_numbers}
use Rattle.source_agrees.proofs.FormulasMean.{value_same, test_same}
use Rattle.source_agrees.proofs.HeaderWritten.{owner}
use Rattle.source_agrees.proofs.OwnRegisters.{own_register, value_local, test_local}

-- what the checks leave of an instruction of thread u, whose last point is given
pub record Passes (z : Sizes) (l : List (List ℕ)) (u last : ℕ) (i : Coded) : Type 0 where
  pub ranges : ranged last z i ≡ true
  pub sorts : sorted l i ≡ true
  pub owners : owned l u i ≡ true
  pub result : result_absent l i ≡ true

-- the four parts of ownership
pub record Owning (l : List (List ℕ)) (u : ℕ) (i : Coded) : Type 0 where
  pub target : register_owned l u (target i) ≡ true
  pub formula : formula_owned l u i.formula ≡ true
  pub to : register_owned l u i.second.a ≡ true
  pub by : formula_owned l u i.second.formula ≡ true

owning : (l : List (List ℕ)) (u : ℕ) (i : Coded) → owned l u i ≡ true → Owning l u i
unfolding owned
owning l u i e =
    let d : Bool = formula_owned l u i.second.formula in
    let r : Bool = register_owned l u i.second.a in
    let f : Bool = formula_owned l u i.formula in
    let p = and_true (register_owned l u (target i)) (f && (r && d)) e in
    let q = and_true f (r && d) p.1 in
    let s = and_true r d q.1 in
    record { target = p.0; formula = q.0; to = s.0; by = s.1 }

-- a second half that there is, and for operation 12 its register
pub record Second (z : Sizes) (i : Coded) : Type 0 where
  pub register : 1 ≤ i.second.a
  pub formula : (1 ≤ i.second.formula) × (i.second.formula ≤ z.formulas)
  pub differs : differ i ≡ true

second : (z : Sizes) (i : Coded) → twofold i.operation ≡ true → second_fits z i ≡ true → Second z i
unfolding second_fits half_fits
second z i t e =
    let h : Half = i.second in
    let x : Bool = within 1 z.formulas h.formula in
    let y : Bool = within 0 0 h.b && x in
    let w : Bool = within 1 z.registers h.a && y in
    let g = and_true (within Opcode.assign Opcode.assign h.operation && w) (differ i) (rw t at e) in
    let k = and_true (within Opcode.assign Opcode.assign h.operation) w g.0 in
    let r = and_true (within 1 z.registers h.a) y k.1 in
    record {
      register = (within_true 1 z.registers h.a r.0).0;
      formula = within_true 1 z.formulas h.formula (and_true (within 0 0 h.b) x r.1).1;
      differs = g.1;
    }

module _ (z : Sizes) (l : List (List ℕ)) (c : Checks z l) (t : Source)
    (same : (k : ℕ) → 1 ≤ k → k ≤ z.formulas → listed t k ≡ listed_of (get_or l k [])) (words : z.words ≡ length t.start_values)
    (formulas : z.formulas ≡ length t.formulas) (owns : map owner t.registers ≡ owners (get_or l 0 [])) (u : ℕ) (thread : 1 ≤ u) where
  abbrev pub There : ℕ → Type 0
  There k = (1 ≤ k) × (k ≤ z.formulas)

  pub is_sorted : (p k : ℕ) → There k → sort_of (get_or l k []) ≡ p → Is t (sort_at p) k
  unfolding listed_of
  is_sorted p k w e = (
    (w.0, omega (arith, w.1, formulas)),
    ap (λ (f : Listed). f.sort) (same k w.0 w.1) ∙ ap sort_at e,
  )

  register_in : (r : ℕ) → 1 ≤ r → register_owned l u r ≡ true → Own t u r
  unfolding register_owned
  register_in r a e =
      let q : r ≡ 0 → ⊥ = omega arith in
      own_register t (owners (get_or l 0 [])) owns u thread r (eqb-true (nth (owners (get_or l 0 [])) r 0) u (rw (ne_eqb r 0 q) at e))

  -- no foreign register stands in the formula's bytes
  not_foreign : (p k : ℕ) → There k → sort_of (get_or l k []) ≡ p → formula_owned l u k ≡ true
      → occurs (foreign u) (owners (get_or l 0 [])) (to_tree (formula l (sort_at p) k)) ≡ false
  unfolding formula_owned
  not_foreign p k w e o =
      let q : k ≡ 0 → ⊥ = omega (arith, w.0) in
      ap (λ (x : Tree). occurs (foreign u) (owners (get_or l 0 [])) x) (formula_tree z l c k w.0 w.1 p e)
      ∙ not-true (occurs (foreign u) (owners (get_or l 0 [])) (tree_of (get_or l k []))) (rw (ne_eqb k 0 q) at o)

  value_in : (k : ℕ) → There k → formula_sorted l Codes.value k ≡ true → formula_owned l u k ≡ true → Val t u k
  value_in k w s o =
      let p = formula-sorted z l c Codes.value k w.0 s in (
        is_sorted Codes.value k w p.0,
        subst (λ (f : Value). Numbers (Local t u) f) (sym (value_same z l c t same k w.0 w.1 p.0))
            (value_local t (owners (get_or l 0 [])) owns u thread (formula l Sort.value k) (value_regs z l c k w.0 w.1 p.0 p.1)
            (not_foreign Codes.value k w p.0 o)),
      )

  test_in : (k : ℕ) → There k → formula_sorted l Codes.test k ≡ true → formula_owned l u k ≡ true
      → Is t Sort.test k × Numbers (Local t u) (test t k)
  test_in k w s o =
      let p = formula-sorted z l c Codes.test k w.0 s in (
        is_sorted Codes.test k w p.0,
        subst (λ (f : Test). Numbers (Local t u) f) (sym (test_same z l c t same k w.0 w.1 p.0))
            (test_local t (owners (get_or l 0 [])) owns u thread (formula l Sort.test k) (test_regs z l c k w.0 w.1 p.0 p.1)
            (not_foreign Codes.test k w p.0 o)),
      )

  -- the result register is not in the operand
  lacks_in : (k r : ℕ) → There k → formula_sorted l Codes.value k ≡ true → occurs (register r) [] (tree_of (get_or l k [])) ≡ false
      → Numbers (λ d n. d ≡ 1 → n ≢ r) (value t k)
  lacks_in k r w s o =
      let p = formula-sorted z l c Codes.value k w.0 s in
      subst (λ (f : Value). Numbers (λ d n. d ≡ 1 → n ≢ r) f) (sym (value_same z l c t same k w.0 w.1 p.0))
      (value_numbers (not_reg r) (λ d n. d ≡ 1 → n ≢ r) (λ n e. absurd (omega arith)) (λ q h e. not_eqb q r h)
      (λ x h e. absurd (omega arith))
      (formula l Sort.value k) (value_lacks z l c k w.0 w.1 r p.0 o))

  module _ (last : ℕ) where
    -- the fields of an instruction, by the ranges of an operation that has the same ones
    module _ (i : Coded) (h : Passes z l u last i) where
      own : Owning l u i
      own = owning l u i h.owners

      fields : (f : Fields) → fields_of i.operation last z ≡ f → fields_fit i f ≡ true
      fields f q = ap (λ (y : Fields). fields_fit i y) (sym q) ∙ (ranged_both last z i h.ranges).0

      first_value : wanted i.operation ≡ Codes.value → There i.formula → Val t u i.formula
      first_value q w = value_in i.formula w (ap (λ (s : ℕ). formula_sorted l s i.formula) (sym q) ∙ (sorted_both z l c i h.sorts).0)
          own.formula

      assigns_second : twofold i.operation ≡ true → Assigns t u (second_of i.second)
      assigns_second q =
          let e = second z i q (ranged_both last z i h.ranges).1 in (
            register_in i.second.a e.register own.to,
            value_in i.second.formula e.formula (sorted_both z l c i h.sorts).1 own.by,
          )

      -- an assignment in the first half
      assigns_first : fields_of i.operation last z ≡ fields_of Opcode.assign last z → wanted i.operation ≡ Codes.value
          → target i ≡ i.a → Assigns t u (assigned i.a i.formula)
      unfolding fields_of
      assigns_first q w e =
          let g = fields_in i (fields_of Opcode.assign last z) (fields (fields_of Opcode.assign last z) q) in
          (register_in i.a g.0.0 (ap (register_owned l u) (sym e) ∙ own.target), first_value w g.2)

      loads : fields_of i.operation last z ≡ fields_of Opcode.load last z → target i ≡ i.a → Own t u i.a × Word t i.b
      unfolding fields_of
      loads q e =
          let g = fields_in i (fields_of Opcode.load last z) (fields (fields_of Opcode.load last z) q) in
          (register_in i.a g.0.0 (ap (register_owned l u) (sym e) ∙ own.target), (g.1.0, omega (arith, g.1.1, words)))

      writes : fields_of i.operation last z ≡ fields_of Opcode.store last z → wanted i.operation ≡ Codes.value
          → Word t i.a × Val t u i.formula
      unfolding fields_of
      writes q w =
          let g = fields_in i (fields_of Opcode.store last z) (fields (fields_of Opcode.store last z) q) in
          ((g.0.0, omega (arith, g.0.1, words)), first_value w g.2)

      returns : fields_of i.operation last z ≡ fields_of Opcode.exchange last z → wanted i.operation ≡ Codes.value → target i ≡ i.b
          → not (occurs (register i.b) [] (tree_of (get_or l i.formula []))) ≡ true → Returns t u i.a i.b i.formula
      unfolding fields_of
      returns q w e a =
          let g = fields_in i (fields_of Opcode.exchange last z) (fields (fields_of Opcode.exchange last z) q) in
          let s = ap (λ (s : ℕ). formula_sorted l s i.formula) (sym w) ∙ (sorted_both z l c i h.sorts).0 in (
            (g.0.0, omega (arith, g.0.1, words)),
            register_in i.b g.1.0 (ap (register_owned l u) (sym e) ∙ own.target),
            first_value w g.2,
            lacks_in i.formula i.b g.2 s (not-true (occurs (register i.b) [] (tree_of (get_or l i.formula []))) a),
          )

    proper_at : (o a b f : ℕ) (h : Half) → Passes z l u last (made o a b f h) → Proper t u (last + 1) (typed o a b f h)
    unfolding Proper typed fields_of wanted target twofold result_absent
    proper_at zero a b f h p = assigns_first (made 0 a b f h) p refl refl refl
    proper_at (suc zero) a b f h p = loads (made 1 a b f h) p refl refl
    proper_at (suc (suc zero)) a b f h p = loads (made 2 a b f h) p refl refl
    proper_at (suc (suc (suc zero))) a b f h p = writes (made 3 a b f h) p refl refl
    proper_at (suc (suc (suc (suc zero)))) a b f h p = writes (made 4 a b f h) p refl refl
    proper_at (suc (suc (suc (suc (suc zero))))) a b f h p = writes (made 5 a b f h) p refl refl
    proper_at (suc (suc (suc (suc (suc (suc zero)))))) a b f h p =
        let i : Coded = made 6 a b f h in
        let g = fields_in i (fields_of 6 last z) (fields i p (fields_of 6 last z) refl) in
        let e = test_in f g.2 (sorted_both z l c i p.sorts).0 (own i p).formula in
        (omega (arith, g.0.1), e.0, e.1)
    proper_at (suc (suc (suc (suc (suc (suc (suc zero))))))) a b f h p = returns (made 7 a b f h) p refl refl refl p.result
    proper_at (suc (suc (suc (suc (suc (suc (suc (suc zero)))))))) a b f h p = returns (made 8 a b f h) p refl refl refl p.result
    proper_at (suc (suc (suc (suc (suc (suc (suc (suc (suc zero))))))))) a b f h p =
        let w = writes (made 9 a b f h) p refl refl in
        (w.0, w.1, assigns_second (made 9 a b f h) p refl)
    proper_at (suc (suc (suc (suc (suc (suc (suc (suc (suc (suc zero)))))))))) a b f h p =
        let w = writes (made 10 a b f h) p refl refl in
        (w.0, w.1, assigns_second (made 10 a b f h) p refl)
    proper_at (suc (suc (suc (suc (suc (suc (suc (suc (suc (suc (suc zero))))))))))) a b f h p =
        let w = writes (made 11 a b f h) p refl refl in
        (w.0, w.1, assigns_second (made 11 a b f h) p refl)
    proper_at (suc (suc (suc (suc (suc (suc (suc (suc (suc (suc (suc (suc zero)))))))))))) a b f h p =
        let i : Coded = made 12 a b f h in
        let e = second z i refl (ranged_both last z i p.ranges).1 in (
          assigns_first i p refl refl refl,
          assigns_second i p refl,
          eqb-false a h.a (not-true (eqb a h.a) e.differs),
        )
    proper_at (suc (suc (suc (suc (suc (suc (suc (suc (suc (suc (suc (suc (suc o))))))))))))) a b f h p =
        absurd (none_above z l c last (made (suc (suc (suc (suc (suc (suc (suc (suc (suc (suc (suc (suc (suc o))))))))))))) a b f h)
        (omega arith) p.ranges)

    pub proper_in : (i : Coded) → Passes z l u last i → Proper t u (last + 1) (typed_of i)
    proper_in i p = proper_at i.operation i.a i.b i.formula i.second p
