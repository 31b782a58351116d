-- An instruction whose formulas stay passes the tests that it passed.
use mathlib.Core.Path.{◌≡◌, refl}
use mathlib.Core.Bool.{Bool, true, false, ◌&&◌, cond}
use mathlib.Core.List.{List}
use Prim.Native.Nat.{ℕ, ◌≤◌}
use native.Mathlib.Omega.{arith}
use lib.Dec.{eqb, leb}
use lib.ListN.{length}
use Rattle.logic.specs.Opcode as Opcode
use Rattle.limits.specs.Numbers.{within}
use Rattle.limits.proofs.PassedTests.{and_true, within_true}
use Rattle.formula.specs.Codes as Codes
use Rattle.image_header.specs.declared.sizes.Sizes.{Sizes}
use Rattle.image_header.specs.declared.instruction.Half.{Half}
use Rattle.image_header.specs.declared.instruction.Instruction.{Instruction}
use Rattle.image_header.specs.declared.instruction.Range.{Range}
use Rattle.image_header.specs.declared.instruction.Fields.{Fields}
use Rattle.image_header.specs.Instruction.{twofold, no_half, range, unused, fields, fields_of, inside}
use Rattle.image_header.specs.Instruction.{fields_fit, half_fits, differ, second_fits, ranged}
use Rattle.image.specs.Decode.{sizes_of}
use Rattle.image_bodies.specs.ThreadBody.{wanted, sorted, target, owned, result_absent}
use Rattle.image_meaning.proofs.WellFormedProgram.{ranged_both, second-in}
use Rattle.trim_spec.specs.Document.{Document}
use Rattle.trim_spec.specs.Encode.{bodies_of}
use Rattle.trim_spec.specs.Parse.{sizes}
use Rattle.trim_spec.specs.Live.{renumbered}
use Rattle.trim_spec.specs.Trim.{half_by, instruction_by, trimmed_by}
use Rattle.trim_spec.proofs.Closed.{Stays}
use Rattle.trim_spec.proofs.MarkCounts.{renumbered_0}
use Rattle.trim_spec.proofs.ChecksPassed.{and_in, and_then}
use Rattle.trim_spec.proofs.TrimPremises.{Trimming}
use Rattle.trim_spec.proofs.FormulaKept.{Named, formula_kept, formula_within}
use Rattle.trim_spec.proofs.FormulaKept.{formula_sorted_kept, formula_owned_kept, register_owned_kept}

-- an instruction of the document, with both its formulas
pub record Stated (u : List Bool) (last : ℕ) (z : Sizes) (i : Instruction) : Type 0 where
  pub first : Stays u i.formula
  pub second : Stays u i.second.formula
  pub single : twofold i.operation ≡ false → i.second ≡ no_half
  pub ranges : ranged last z i ≡ true

module _ {u k : List Bool} {D : Document} (T : Trimming u k D) (last : ℕ) (i : Instruction) (S : Stated u last (sizes D) i) where
  abbrev E : Document
  E = trimmed_by u k D

  abbrev f : ℕ → ℕ
  f = renumbered u

  abbrev i' : Instruction
  i' = instruction_by f (renumbered k) i

  -- fields that fit, by the old ranges and by the new ones; and the formula is there
  abbrev Passes : Fields → Fields → Type 0
  Passes x y = fields_fit i x ≡ true → (fields_fit i' y ≡ true) × (i.formula ≤ (sizes D).formulas)

  by_choice : (b : Bool) (x y v w : Fields) → Passes x y → Passes v w → Passes (cond b x v) (cond b y w)
  by_choice true x y v w g h = g
  by_choice false x y v w g h = h

  -- the ranges differ in that of the formula alone

  module _ (a b : Range) where
    with-formula : Passes (fields a b (range 1 (sizes D).formulas)) (fields a b (range 1 (sizes E).formulas))
    unfolding fields_fit instruction_by sizes sizes_of
    with-formula e =
        let h = and_true (inside a i.a) (inside b i.b && within 1 (sizes D).formulas i.formula) e in
        let g = and_true (inside b i.b) (within 1 (sizes D).formulas i.formula) h.1 in
        let w = within_true 1 (sizes D).formulas i.formula g.1 in
        (and_in _ _ h.0 (and_in _ _ g.0 (formula_within T i.formula S.first w.0 w.1)), w.1)

    without : Passes (fields a b unused) (fields a b unused)
    unfolding fields_fit instruction_by
    without e =
        let h = and_true (inside a i.a) (inside b i.b && within 0 0 i.formula) e in
        let g = and_true (inside b i.b) (within 0 0 i.formula) h.1 in
        let w = within_true 0 0 i.formula g.1 in
        let q : i.formula ≡ 0 = omega (arith, w.1) in
        (rw (q, renumbered_0 u) (rw q at e), omega arith)

  fields_kept : Passes (fields_of i.operation last (sizes D)) (fields_of i.operation last (sizes E))
  unfolding fields_of sizes sizes_of
  fields_kept =
      by_choice (eqb i.operation Opcode.assign) _ _ _ _ (with-formula _ _)
      (by_choice (leb i.operation Opcode.acquire) _ _ _ _ (without _ _)
      (by_choice (leb i.operation Opcode.swap) _ _ _ _ (with-formula _ _)
      (by_choice (eqb i.operation Opcode.branch) _ _ _ _ (with-formula _ _)
      (by_choice (leb i.operation Opcode.fetch_add) _ _ _ _ (with-formula _ _)
      (by_choice (leb i.operation Opcode.pair_swap) _ _ _ _ (with-formula _ _)
      (by_choice (eqb i.operation Opcode.assign_two) _ _ _ _ (with-formula _ _) (with-formula _ _)))))))

  pub first_named : Named T i.formula
  unfolding sizes sizes_of
  first_named = (S.first, (fields_kept (ranged_both last (sizes D) i S.ranges).0).1)

  pub second_named : Named T i.second.formula
  unfolding sizes sizes_of
  second_named = (S.second, go (twofold i.operation) refl)
    where
      go : (b : Bool) → twofold i.operation ≡ b → i.second.formula ≤ length D.formulas
      go true e = (second-in (sizes D) i e (ranged_both last (sizes D) i S.ranges).1).1
      go false e = rw (S.single e) (omega arith)

  half_kept : half_fits (sizes D) i.second ≡ true → half_fits (sizes E) i'.second ≡ true
  unfolding half_fits instruction_by half_by sizes sizes_of
  half_kept =
      let h : Half = i.second in
      and_then (within Opcode.assign Opcode.assign h.operation) _ _
      (and_then (within 1 (sizes D).registers h.a) _ _
      (and_then (within 0 0 h.b) _ _
      (λ e. let w = within_true 1 (sizes D).formulas h.formula e in formula_within T h.formula S.second w.0 w.1)))

  second_kept : second_fits (sizes D) i ≡ true → second_fits (sizes E) i' ≡ true
  unfolding second_fits instruction_by half_by
  second_kept = go (twofold i.operation)
    where
      go : (b : Bool) → cond b (half_fits (sizes D) i.second && differ i) true ≡ true
          → cond b (half_fits (sizes E) i'.second && differ i) true ≡ true
      go true e =
          let h = and_true (half_fits (sizes D) i.second) (differ i) e in
          and_in (half_fits (sizes E) i'.second) (differ i) (half_kept h.0) h.1
      go false e = refl

  pub ranged_kept : ranged last (sizes E) i' ≡ true
  unfolding ranged instruction_by
  ranged_kept =
      let h = ranged_both last (sizes D) i S.ranges in
      and_in (fields_fit i' (fields_of i.operation last (sizes E))) (second_fits (sizes E) i') (fields_kept h.0).0 (second_kept h.1)

  pub sorted_kept : sorted (bodies_of E) i' ≡ sorted (bodies_of D) i
  unfolding sorted instruction_by half_by
  sorted_kept =
      let e = formula_sorted_kept T i.formula first_named (wanted i.operation) in
      let d = formula_sorted_kept T i.second.formula second_named Codes.value in
      rw (e, d)

  pub owned_kept : (t : ℕ) → owned (bodies_of E) t i' ≡ owned (bodies_of D) t i
  unfolding owned target instruction_by half_by
  owned_kept t =
      let e = formula_owned_kept T i.formula first_named t in
      let d = formula_owned_kept T i.second.formula second_named t in
      rw (register_owned_kept T t (target i), e, register_owned_kept T t i.second.a, d)

  pub absent_kept : result_absent (bodies_of E) i' ≡ result_absent (bodies_of D) i
  unfolding result_absent instruction_by
  absent_kept = rw (formula_kept T i.formula first_named)
