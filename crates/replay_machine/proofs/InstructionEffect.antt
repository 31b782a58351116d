-- The instruction at a thread's point, its formulas worked out from their positions in the image, does what the program's does.
use Prim.Native.Nat.{ℕ, suc, ◌≤◌, ◌<◌}
use mathlib.Core.Path.{◌≡◌, ap, sym, ◌∙◌, subst, fun_ext}
use mathlib.Core.Bool.{true}
use mathlib.Core.List.{List, []}
use native.Mathlib.Omega.{arith}
use lib.Dec.{T, eqb}
use lib.ListN.{get_or}
use Rattle.semantics.specs.Base.{Within}
use Rattle.semantics.specs.Formula.{Sort, Value, Test}
use Rattle.semantics.specs.Eval.{value, test, bounded, on_regs}
use Rattle.logic.specs.Opcode as Opcode
use Rattle.semantics.specs.Machine.{State, Program, worked}
use Rattle.semantics.proofs.Invariant.{Wf}
use Rattle.limits.specs.Numbers.{nth}
use Rattle.limits.proofs.PassedTests.{and_true}
use Rattle.image_frames.specs.Records.{bodies}
use Rattle.formula.specs.Codes as Codes
use Rattle.formula_trees.specs.ToTree.{to_tree}
use Rattle.image_header.specs.declared.sizes.Sizes.{Sizes}
use Rattle.image_header.specs.declared.instruction.Instruction.{Instruction}
use Rattle.image_header.specs.Header.{headed, header}
use Rattle.image_header.specs.Instruction.{twofold, fields_of, ranged}
use Rattle.image_header.specs.Thread.{last_point}
use Rattle.image_header.proofs.HeaderBranches.{Counted, counted_in}
use Rattle.image.specs.Decode.{sizes_of}
use Rattle.image_bodies.specs.RecordPlaces.{instruction_of}
use Rattle.image_bodies.specs.ThreadBody.{wanted, sorted}
use Rattle.image_meaning.specs.Formulas.{formula}
use Rattle.image_access.specs.AccessPlaces.{formula_at}
use Rattle.image_access.specs.AccessTrees.{tree_at}
use Rattle.image_meaning.specs.Program.{program_of}
use Rattle.image_meaning.proofs.PassedChecks.{unless_passed}
use Rattle.image_meaning.proofs.RecordsChecked.{Checks, header_passed}
use Rattle.image_meaning.proofs.FormulaSorts.{formula_bounded}
use Rattle.image_meaning.proofs.WellFormedProgram.{fields_in, ranged_both, second-in, formula-sorted, sorted_both, body}
use Rattle.image_access.proofs.AccessAgree.{value_is, note_is, fields_there, test_is}
use Rattle.replay_machine.specs.Evaluate.{worked_t}
use Rattle.replay_machine.proofs.EvaluateAgrees.{registers, worked_below, worked_value, worked_test}
use Rattle.replay_memory.specs.MemoryStands.{Stands}
use Rattle.replay_memory.specs.declared.memory.Memory.{Memory}
use Rattle.replay_machine.specs.Effect.{effect_of}
use Rattle.replay_machine.specs.RegistersStand.{SameRegs}
use Rattle.replay_machine.specs.declared.locals.Registers.{Registers}
use Rattle.replay_machine.proofs.EffectAgrees.{Made, does}

-- the header's counts are within the limits
pub sizes_few : (z : Sizes) (l : List (List ℕ)) → Checks z l → (z.threads ≤ 4) × (z.words ≤ 8) × (z.registers ≤ 16)
unfolding header headed sizes_of
sizes_few z l c =
    let b : List ℕ = get_or l 0 [] in
    let h = (unless_passed _ _ _ (unless_passed _ _ _ (unless_passed _ _ _ (header_passed z l c)).1).1).0 in
    let k : Counted c.counted b = counted_in c.counted b (and_true _ _ h).0 in (
      omega (arith, ap (λ (y : Sizes). y.threads) c.sizes, k.threads.1),
      omega (arith, ap (λ (y : Sizes). y.words) c.sizes, k.words.1),
      omega (arith, ap (λ (y : Sizes). y.registers) c.sizes, k.registers),
    )

module _ (b : List ℕ) (z : Sizes) (c : Checks z (bodies b)) where
  abbrev l : List (List ℕ)
  l = bodies b

  abbrev P : Program
  P = program_of z l

  -- the value of the formula with a number, at the registers h
  abbrev pub value_of : Registers → ℕ → ℕ
  value_of h k = worked_t P.range h.at (tree_at b (formula_at b k))

  module _ (s : State) (wf : Wf P s) (h : Registers) (same : SameRegs h s.reg) where
    small : (r : ℕ) → nth h.at r 0 < P.range
    small r = omega (arith, same.same r, wf.reg_small r)

    regs_are : registers h.at ≡ s.reg
    regs_are = fun_ext same.same

    value_worked : (f : Value) (k : ℕ) → to_tree f ≡ tree_at b (formula_at b k) → T (bounded P.range f)
        → (value_of h k ≡ worked P s f) × (value_of h k < P.range)
    value_worked f k e i =
        let q : value_of h k ≡ value P.range (on_regs (registers h.at)) f
        = ap (worked_t P.range h.at) (sym e) ∙ worked_value P.range h.at small f i in
        (q ∙ ap (λ (g : ℕ → ℕ). value P.range (on_regs g) f) regs_are, omega (arith, q, worked_below P.range h.at small f i))

    test_worked : (f : Test) (k : ℕ) → to_tree f ≡ tree_at b (formula_at b k) → T (bounded P.range f)
        → eqb (value_of h k) 1 ≡ test P.range (on_regs s.reg) f
    test_worked f k e i =
        ap (λ (n : ℕ). eqb n 1) (ap (worked_t P.range h.at) (sym e)) ∙ worked_test P.range h.at small f i
        ∙ ap (λ (g : ℕ → ℕ). test P.range (on_regs g) f) regs_are

    module _ (m : Memory) (st : Stands m s) (t p : ℕ) (ht : t < 4) (w : Within z.threads (suc t))
        (more : suc (s.point (suc t)) < P.points (suc t)) where
      abbrev i : Instruction
      i = instruction_of z l (suc t) (s.point (suc t))

      abbrev last : ℕ
      last = last_point (body z l c (suc t) w.0 w.1)

      facts : (ranged last z i ≡ true) × (sorted l i ≡ true)
      facts = fields_there b z c (suc t) (s.point (suc t)) w more

      first_formula : wanted i.operation ≡ Codes.value → (1 ≤ i.formula) × (i.formula ≤ z.formulas)
          → (value_of h i.formula ≡ worked P s (formula l Sort.value i.formula)) × (value_of h i.formula < P.range)
      first_formula d r =
          value_worked (formula l Sort.value i.formula) i.formula (value_is b z c i d r facts.1)
          (formula_bounded z l c i.formula r.0 r.1 Codes.value
          ((formula-sorted z l c (wanted i.operation) i.formula r.0 (sorted_both z l c i facts.1).0).0 ∙ d))

      second_formula : twofold i.operation ≡ true
          → value_of h i.second.formula ≡ worked P s (formula l Sort.value i.second.formula)
      second_formula d =
          let r = second-in z i d (ranged_both last z i facts.0).1 in
          (value_worked (formula l Sort.value i.second.formula) i.second.formula (note_is b z c last i d facts.0 facts.1)
          (formula_bounded z l c i.second.formula r.0 r.1 Codes.value
          (formula-sorted z l c Codes.value i.second.formula r.0 (sorted_both z l c i facts.1).1).0)).0

      branch_formula : i.operation ≡ Opcode.branch
          → eqb (value_of h i.formula) 1 ≡ test P.range (on_regs s.reg) (formula l Sort.test i.formula)
      unfolding fields_of wanted
      branch_formula d =
          let g = fields_in i (fields_of i.operation last z) (ranged_both last z i facts.0).0 in
          let r : (1 ≤ i.formula) × (i.formula ≤ z.formulas)
          = subst (λ (op : ℕ). ((fields_of op last z).formula.low ≤ i.formula) × (i.formula ≤ (fields_of op last z).formula.high)) d
          g.2 in
          test_worked (formula l Sort.test i.formula) i.formula (test_is b z c (suc t) (s.point (suc t)) w more d)
          (formula_bounded z l c i.formula r.0 r.1 Codes.test
          ((formula-sorted z l c (wanted i.operation) i.formula r.0 (sorted_both z l c i facts.1).0).0 ∙ ap wanted d))

      pub does_there : Made z l c (sizes_few z l c).1 (sizes_few z l c).2 s wf m st h same t p ht
          (effect_of i (value_of h i.formula) (value_of h i.second.formula)) (P.code (suc t) (s.point (suc t)))
      does_there =
          does z l c (sizes_few z l c).1 (sizes_few z l c).2 s wf m st h same t p ht last i.formula i.second
          (value_of h i.formula) (value_of h i.second.formula) i.operation i.a i.b
          facts.0 first_formula second_formula branch_formula
