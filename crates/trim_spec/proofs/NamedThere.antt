-- What the checks of an image leave of its numbers: the lines and formulas that are named are there.
use mathlib.Core.Path.{◌≡◌, refl, subst}
use mathlib.Core.Bool.{Bool, true, false, cond}
use mathlib.Core.List.{List, []}
use Prim.Native.Nat.{ℕ, suc, ◌≤◌, ◌<◌}
use native.Mathlib.Omega.{arith}
use lib.Dec.{eqb, leb}
use lib.ListN.{length, get_or}
use Rattle.logic.specs.Opcode as Opcode
use Rattle.limits.specs.Numbers.{nth, within, every}
use Rattle.limits.proofs.PassedTests.{within_true, every_at}
use Rattle.image_header.specs.Header.{thread_count}
use Rattle.image_header.specs.Instruction.{twofold, no_half, fields_of, ranged}
use Rattle.image_header.specs.Thread.{nothing}
use Rattle.image_header.specs.declared.sizes.Sizes.{Sizes}
use Rattle.image_header.specs.declared.instruction.Fields.{Fields}
use Rattle.image_header.specs.declared.instruction.Instruction.{Instruction}
use Rattle.image_bodies.specs.NumberList.{exactly}
use Rattle.image_bodies.specs.PointCounts.{point_counts, obligation_count}
use Rattle.image_bodies.specs.ListBody as Lists
use Rattle.image.specs.Decode.{sizes_of}
use Rattle.image_meaning.proofs.RecordsChecked.{Checks, outline_passed}
use Rattle.image_meaning.proofs.PassedChecks.{unless_passed, also_passed}
use Rattle.image_meaning.proofs.LinesAdmitted.{named_there, claim_fine, in_range, line_lower}
use Rattle.image_meaning.proofs.WellFormedProgram.{thread_ranged, fields_in, ranged_both, second-in}
use Rattle.image_bodies.specs.RecordPlaces.{thread_body}
use Rattle.trim_spec.specs.Document.{Document}
use Rattle.trim_spec.specs.Canonical.{Canonical}
use Rattle.trim_spec.specs.Encode.{thread_bytes, bodies_of}
use Rattle.trim_spec.specs.Parse.{sizes}
use Rattle.trim_spec.proofs.ThreadBytes.{thread_last, thread_instructions}
use Rattle.trim_spec.proofs.BodyPlaces.{thread-at}
use Rattle.trim_spec.specs.Rests.{Uses, instruction, second, outline, left as left-of, right as right_of}
use Rattle.trim_spec.proofs.LiveLines.{Named}
use Rattle.trim_spec.proofs.LiveFormulas.{Written}
use Rattle.trim_spec.proofs.DocumentSays.{outline_said, named_said, left_said, right_said, premises_said, claim_said}

-- the formulas of an instruction whose fields are in their ranges

module _ (last : ℕ) (z : Sizes) where
  abbrev Low : Fields → Type 0
  Low x = x.formula.high ≤ z.formulas

  by_choice : (b : Bool) (x y : Fields) → Low x → Low y → Low (cond b x y)
  by_choice true x y g h = g
  by_choice false x y g h = h

  range_low : (op : ℕ) → Low (fields_of op last z)
  unfolding fields_of
  range_low op =
      by_choice (eqb op Opcode.assign) _ _ (omega arith)
      (by_choice (leb op Opcode.acquire) _ _ (omega arith)
      (by_choice (leb op Opcode.swap) _ _ (omega arith)
      (by_choice (eqb op Opcode.branch) _ _ (omega arith)
      (by_choice (leb op Opcode.fetch_add) _ _ (omega arith)
      (by_choice (leb op Opcode.pair_swap) _ _ (omega arith) (by_choice (eqb op Opcode.assign_two) _ _ (omega arith) (omega arith)))))))

  module _ (i : Instruction) (e : ranged last z i ≡ true) where
    first_there : i.formula ≤ z.formulas
    first_there = let h = fields_in i (fields_of i.operation last z) (ranged_both last z i e).0 in let r = range_low i.operation in
        omega (arith, h.2.1)

    second_there : (twofold i.operation ≡ false → i.second ≡ no_half) → i.second.formula ≤ z.formulas
    second_there single = go (twofold i.operation) refl
      where
        go : (b : Bool) → twofold i.operation ≡ b → i.second.formula ≤ z.formulas
        go true h = (second-in z i h (ranged_both last z i e).1).1
        go false h = rw (single h) (omega arith)

module _ (D : Document) (C : Canonical D) (same : thread_count D.header ≡ length D.threads) (K : Checks (sizes D) (bodies_of D)) where
  abbrev z : Sizes
  z = sizes D

  abbrev l : List (List ℕ)
  l = bodies_of D

  module _ (O : length D.outline ≡ (point_counts z l).points) (B : length D.obligations ≡ obligation_count z l) where
    pub named-lines : Named D
    unfolding sizes sizes_of
    named-lines = record {
      few = K.few.lines;
      lower = λ n i a b h.
          subst (λ (p : List ℕ). i < length p → get_or p i 0 < n) (premises_said D C same n a b) (λ w. line_lower z l K n a b i w) h;
      obligations = λ i b. subst (λ (x : ℕ). x ≤ length D.lines) (named_said D C same B i) (named_there z l K i);
      claims = λ i b. subst (λ (x : ℕ). x ≤ length D.lines) (claim_said D C same i b) (claim_fine z l K i b).line;
    }

    -- an instruction, by its thread, counted from 0, and its point
    instruction_ranged : (t p : ℕ) → t < length D.threads → p < length (get_or D.threads t [])
        → ranged (length (get_or D.threads t [])) z (get_or (get_or D.threads t []) p nothing) ≡ true
    unfolding nth sizes sizes_of
    instruction_ranged t p a b =
        let is : List Instruction = get_or D.threads t [] in
        let low : 1 ≤ suc t = omega arith in
        let e : thread_body z l (suc t) ≡ thread_bytes is = thread-at D same (suc t) low (omega arith) in
        let h = thread_ranged z l K (suc t) low (omega arith) in
        let r : every (ranged (length is) z) is ≡ true = rw (e, thread_last is, thread_instructions is (C.threads t a)) at h in
        every_at (ranged (length is) z) is p nothing r b

    pub outline_ranged : (i : ℕ) → i < length D.outline → (1 ≤ get_or D.outline i 0) × (get_or D.outline i 0 ≤ z.formulas)
    unfolding Lists.outline exactly
    outline_ranged i b =
        let r : every (within 1 z.formulas) D.outline ≡ true =
        rw (outline_said D C same O) at (unless_passed _ _ _ (unless_passed _ _ _ (also_passed _ _ (outline_passed z l K)).0).1).0
        in
        within_true 1 z.formulas (get_or D.outline i 0) (every_at (within 1 z.formulas) D.outline i 0 r b)

    pub written_formulas : Written D
    unfolding sizes sizes_of
    written_formulas = record { few = K.few.formulas; there = there }
      where
        there : (n : ℕ) → Uses D n → n ≤ length D.formulas
        there n (instruction t p a b) = first_there (length (get_or D.threads t [])) z (get_or (get_or D.threads t []) p nothing)
            (instruction_ranged t p a b)
        there n (second t p a b) =
            second_there (length (get_or D.threads t [])) z (get_or (get_or D.threads t []) p nothing) (instruction_ranged t p a b)
            ((C.threads t a).each p b).single
        there n (outline i b) = (outline_ranged i b).1
        there n (left-of j a b r) = subst (λ (x : ℕ). x ≤ length D.formulas) (left_said D C same j a b) (in_range z l K j a b).0.1
        there n (right_of j a b r) = subst (λ (x : ℕ). x ≤ length D.formulas) (right_said D C same j a b) (in_range z l K j a b).1.1
