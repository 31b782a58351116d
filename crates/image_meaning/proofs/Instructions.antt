-- Instructions as the logic has them.
use mathlib.Core.Path.{◌≡◌, refl, ap, sym, ◌∙◌}
use mathlib.Core.Bool.{Bool, true, false, cond}
use mathlib.Core.List.{List}
use Prim.Native.Nat.{ℕ, zero, suc, ◌≤◌, ◌<◌}
use native.Mathlib.Omega.{arith}
use lib.Dec.{eqb}
use lib.ListN.{get_or}
use borrow.Author.Tests.{eqb-true, ne_eqb, le-ltb, lt-leb}
use Rattle.semantics.specs.Formula.{Sort}
use Rattle.logic.specs.Opcode as Opcode
use Rattle.semantics.specs.Replace.{Note}
use Rattle.semantics.specs.Machine.{Access, Instr, Instr.act, Instr.branch}
use Rattle.logic.specs.Statement.{is_branch, is_pair}
use Rattle.image_header.specs.declared.sizes.Sizes.{Sizes}
use Rattle.image_header.specs.declared.instruction.Half.{Half}
use Rattle.image_header.specs.declared.instruction.Instruction.{Instruction}
use Rattle.image_header.specs.Instruction.{pair_operation}
use Rattle.image_header.specs.Thread.{instructions, nothing}
use Rattle.image_bodies.specs.RecordPlaces.{thread_body, instruction_of}
use Rattle.image_meaning.specs.Formulas.{formula}
use Rattle.image_meaning.specs.Program.{instr}

act_first : (b : Bool) (A : Access) (ns : List Note) (i : Instr) → is_branch i ≡ false → is_branch (cond b (act A ns) i) ≡ false
act_first true A ns i h = refl
act_first false A ns i h = h

module _ (l : List (List ℕ)) (i : Instruction) where
  branch_not : eqb i.operation Opcode.branch ≡ false → is_branch (instr l i) ≡ false
  unfolding instr
  branch_not e = rw e (search act_first depth 13)

  -- its test and its target
  pub branch_read : i.operation ≡ Opcode.branch → instr l i ≡ branch (formula l Sort.test i.formula) i.a
  unfolding instr
  branch_read e = rw e

  branch_so : eqb i.operation Opcode.branch ≡ true → is_branch (instr l i) ≡ true
  branch_so e = ap is_branch (branch_read (eqb-true i.operation Opcode.branch e))

  -- operation 6 alone is a branch
  pub branch_is : is_branch (instr l i) ≡ eqb i.operation Opcode.branch
  branch_is = go (eqb i.operation Opcode.branch) refl
    where
      go : (b : Bool) → eqb i.operation Opcode.branch ≡ b → is_branch (instr l i) ≡ eqb i.operation Opcode.branch
      go true e = branch_so e ∙ sym e
      go false e = branch_not e ∙ sym e

-- operations 9 to 11 are pairs
module _ (l : List (List ℕ)) (a b f : ℕ) (n : Half) where
  abbrev made : ℕ → Instruction
  made op = record { operation = op; a = a; b = b; formula = f; second = n }

  no_pair_above : (op : ℕ) → 12 < op → is_pair (instr l (made op)) ≡ pair_operation op
  unfolding instr pair_operation
  no_pair_above op h =
      let n0 : op ≡ 0 → ⊥ = omega arith in
      let n1 : op ≡ 1 → ⊥ = omega arith in
      let n2 : op ≡ 2 → ⊥ = omega arith in
      let n3 : op ≡ 3 → ⊥ = omega arith in
      let n4 : op ≡ 4 → ⊥ = omega arith in
      let n5 : op ≡ 5 → ⊥ = omega arith in
      let n6 : op ≡ 6 → ⊥ = omega arith in
      let n7 : op ≡ 7 → ⊥ = omega arith in
      let n8 : op ≡ 8 → ⊥ = omega arith in
      let n9 : op ≡ 9 → ⊥ = omega arith in
      let n10 : op ≡ 10 → ⊥ = omega arith in
      let n11 : op ≡ 11 → ⊥ = omega arith in
      let n12 : op ≡ 12 → ⊥ = omega arith in
      rw (
        ne_eqb op 0 n0,
        ne_eqb op 1 n1,
        ne_eqb op 2 n2,
        ne_eqb op 3 n3,
        ne_eqb op 4 n4,
        ne_eqb op 5 n5,
        ne_eqb op 6 n6,
        ne_eqb op 7 n7,
        ne_eqb op 8 n8,
        ne_eqb op 9 n9,
        ne_eqb op 10 n10,
        ne_eqb op 11 n11,
        ne_eqb op 12 n12,
        le-ltb op 9 (omega arith),
        lt-leb op 11 (omega arith),
      )

  pair_at : (op : ℕ) → is_pair (instr l (made op)) ≡ pair_operation op
  unfolding instr pair_operation
  pair_at zero = refl
  pair_at (suc zero) = refl
  pair_at (suc (suc zero)) = refl
  pair_at (suc (suc (suc zero))) = refl
  pair_at (suc (suc (suc (suc zero)))) = refl
  pair_at (suc (suc (suc (suc (suc zero))))) = refl
  pair_at (suc (suc (suc (suc (suc (suc zero)))))) = refl
  pair_at (suc (suc (suc (suc (suc (suc (suc zero))))))) = refl
  pair_at (suc (suc (suc (suc (suc (suc (suc (suc zero)))))))) = refl
  pair_at (suc (suc (suc (suc (suc (suc (suc (suc (suc zero))))))))) = refl
  pair_at (suc (suc (suc (suc (suc (suc (suc (suc (suc (suc zero)))))))))) = refl
  pair_at (suc (suc (suc (suc (suc (suc (suc (suc (suc (suc (suc zero))))))))))) = refl
  pair_at (suc (suc (suc (suc (suc (suc (suc (suc (suc (suc (suc (suc zero)))))))))))) = refl
  pair_at (suc (suc (suc (suc (suc (suc (suc (suc (suc (suc (suc (suc (suc m))))))))))))) =
      no_pair_above (suc (suc (suc (suc (suc (suc (suc (suc (suc (suc (suc (suc (suc m))))))))))))) (omega arith)

pub pair_is : (l : List (List ℕ)) (i : Instruction) → is_pair (instr l i) ≡ pair_operation i.operation
pair_is l i = pair_at l i.a i.b i.formula i.second i.operation

-- in a thread that is there, the instruction at a point is the thread's
pub instruction_there : (z : Sizes) (l : List (List ℕ)) (t p : ℕ) → 1 ≤ t → t ≤ z.threads
    → instruction_of z l t p ≡ get_or (instructions (thread_body z l t)) p nothing
unfolding instruction_of
instruction_there z l t p a b = let q : t ≡ 0 → ⊥ = omega arith in rw (ne_eqb t 0 q, le-ltb z.threads t b)
