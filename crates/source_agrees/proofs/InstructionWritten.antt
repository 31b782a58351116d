-- An instruction whose numbers are in their ranges is written as its bytes.
use mathlib.Core.Path.{◌≡◌, refl, ap, sym, ◌∙◌}
use mathlib.Core.Bool.{Bool, true, ◌&&◌}
use mathlib.Core.List.{[], ◌∷◌}
use Prim.Native.Nat.{ℕ, zero, suc, ◌/◌, ◌%◌, ◌<◌}
use native.Mathlib.Omega.{arith}
use borrow.Author.Tests.{ne_eqb, lt-leb}
use Rattle.limits.specs.Numbers.{within}
use Rattle.limits.proofs.PassedTests.{and_true, within_true}
use Rattle.logic.specs.Opcode as Opcode
use Rattle.image_header.specs.Instruction.{twofold, fields_of, fields_fit, half_fits, second_fits, ranged, differ}
use Rattle.image_header.specs.declared.sizes.Sizes.{Sizes}
use Rattle.image_header.specs.declared.instruction.Half.{Half}
use Rattle.image_header.specs.declared.instruction.Instruction.{Instruction as Coded}
use Rattle.image_header.specs.declared.instruction.Fields.{Fields}
use Rattle.image_meaning.proofs.WellFormedProgram.{made, fields_in, ranged_both}
use Rattle.verdict_record.specs.Record as Record
use Rattle.trim_spec.specs.Canonical.{Short, InstructionFits}
use Rattle.trim_spec.specs.Encode.{instruction_bytes, half_bytes}
use Rattle.source.specs.Written.{two, five, assignment, instruction}
use Rattle.source_agrees.specs.SourceOf.{typed, typed_of}

pub two_same : (n : ℕ) → Short n → two n ≡ Record.two n
unfolding two
two_same n h = let q : n / 256 ≡ (n / 256) % 256 = omega arith in ap (λ (x : ℕ). n % 256 ∷ x ∷ []) q

zero_short : Short 0
zero_short = omega arith

-- a second half is an assignment
second_zero : (z : Sizes) (i : Coded) → twofold i.operation ≡ true → second_fits z i ≡ true
    → (i.second.operation ≡ 0) × (i.second.b ≡ 0)
unfolding second_fits half_fits
second_zero z i t e =
    let h : Half = i.second in
    let x : Bool = within 1 z.formulas h.formula in
    let y : Bool = within 0 0 h.b && x in
    let w : Bool = within 1 z.registers h.a && y in
    let g = and_true (within Opcode.assign Opcode.assign h.operation && w) (differ i) (rw t at e) in
    let k = and_true (within Opcode.assign Opcode.assign h.operation) w g.0 in
    let o = within_true 0 0 h.operation k.0 in
    let b = within_true 0 0 h.b (and_true (within 0 0 h.b) x (and_true (within 1 z.registers h.a) y k.1).1).0 in
    (omega (arith, o), omega (arith, b))

-- an unknown operation is like 13
pub unknown : (z : Sizes) (last n : ℕ) → 12 < n → fields_of n last z ≡ fields_of 13 last z
unfolding fields_of
unknown z last n h =
    let a : n ≡ 0 → ⊥ = omega arith in
    let b : n ≡ 6 → ⊥ = omega arith in
    let c : n ≡ 12 → ⊥ = omega arith in
    rw (
      ne_eqb n 0 a,
      lt-leb n 2 (omega arith),
      lt-leb n 5 (omega arith),
      ne_eqb n 6 b,
      lt-leb n 8 (omega arith),
      lt-leb n 11 (omega arith),
      ne_eqb n 12 c,
    )

module _ (z : Sizes) (last : ℕ) where
  bytes_at : (o a b f : ℕ) (h : Half) → ranged last z (made o a b f h) ≡ true → Short f → Short h.formula
      → instruction (typed o a b f h) ≡ instruction_bytes (made o a b f h)
  unfolding five assignment instruction typed instruction_bytes half_bytes twofold fields_of
  bytes_at zero a b f h r s t =
      let g = fields_in (made 0 a b f h) (fields_of 0 last z) (ranged_both last z (made 0 a b f h) r).0 in
      let q : b ≡ 0 = omega (arith, g.1) in
      rw (q, two_same f s) refl
  bytes_at (suc zero) a b f h r s t =
      let g = fields_in (made 1 a b f h) (fields_of 1 last z) (ranged_both last z (made 1 a b f h) r).0 in
      let q : f ≡ 0 = omega (arith, g.2) in
      rw (q, two_same 0 zero_short) refl
  bytes_at (suc (suc zero)) a b f h r s t =
      let g = fields_in (made 2 a b f h) (fields_of 2 last z) (ranged_both last z (made 2 a b f h) r).0 in
      let q : f ≡ 0 = omega (arith, g.2) in
      rw (q, two_same 0 zero_short) refl
  bytes_at (suc (suc (suc zero))) a b f h r s t =
      let g = fields_in (made 3 a b f h) (fields_of 3 last z) (ranged_both last z (made 3 a b f h) r).0 in
      let q : b ≡ 0 = omega (arith, g.1) in
      rw (q, two_same f s) refl
  bytes_at (suc (suc (suc (suc zero)))) a b f h r s t =
      let g = fields_in (made 4 a b f h) (fields_of 4 last z) (ranged_both last z (made 4 a b f h) r).0 in
      let q : b ≡ 0 = omega (arith, g.1) in
      rw (q, two_same f s) refl
  bytes_at (suc (suc (suc (suc (suc zero))))) a b f h r s t =
      let g = fields_in (made 5 a b f h) (fields_of 5 last z) (ranged_both last z (made 5 a b f h) r).0 in
      let q : b ≡ 0 = omega (arith, g.1) in
      rw (q, two_same f s) refl
  bytes_at (suc (suc (suc (suc (suc (suc zero)))))) a b f h r s t =
      let g = fields_in (made 6 a b f h) (fields_of 6 last z) (ranged_both last z (made 6 a b f h) r).0 in
      let q : b ≡ 0 = omega (arith, g.1) in
      rw (q, two_same f s) refl
  bytes_at (suc (suc (suc (suc (suc (suc (suc zero))))))) a b f h r s t =
      rw (two_same f s) refl
  bytes_at (suc (suc (suc (suc (suc (suc (suc (suc zero)))))))) a b f h r s t =
      rw (two_same f s) refl
  bytes_at (suc (suc (suc (suc (suc (suc (suc (suc (suc zero))))))))) a b f h r s t =
      let g = fields_in (made 9 a b f h) (fields_of 9 last z) (ranged_both last z (made 9 a b f h) r).0 in
      let q : b ≡ 0 = omega (arith, g.1) in
      let d = second_zero z (made 9 a b f h) refl (ranged_both last z (made 9 a b f h) r).1 in
      rw (q, d.0, d.1, two_same f s, two_same h.formula t) refl
  bytes_at (suc (suc (suc (suc (suc (suc (suc (suc (suc (suc zero)))))))))) a b f h r s t =
      let g = fields_in (made 10 a b f h) (fields_of 10 last z) (ranged_both last z (made 10 a b f h) r).0 in
      let q : b ≡ 0 = omega (arith, g.1) in
      let d = second_zero z (made 10 a b f h) refl (ranged_both last z (made 10 a b f h) r).1 in
      rw (q, d.0, d.1, two_same f s, two_same h.formula t) refl
  bytes_at (suc (suc (suc (suc (suc (suc (suc (suc (suc (suc (suc zero))))))))))) a b f h r s t =
      let g = fields_in (made 11 a b f h) (fields_of 11 last z) (ranged_both last z (made 11 a b f h) r).0 in
      let q : b ≡ 0 = omega (arith, g.1) in
      let d = second_zero z (made 11 a b f h) refl (ranged_both last z (made 11 a b f h) r).1 in
      rw (q, d.0, d.1, two_same f s, two_same h.formula t) refl
  bytes_at (suc (suc (suc (suc (suc (suc (suc (suc (suc (suc (suc (suc zero)))))))))))) a b f h r s t =
      let g = fields_in (made 12 a b f h) (fields_of 12 last z) (ranged_both last z (made 12 a b f h) r).0 in
      let q : b ≡ 0 = omega (arith, g.1) in
      let d = second_zero z (made 12 a b f h) refl (ranged_both last z (made 12 a b f h) r).1 in
      rw (q, d.0, d.1, two_same f s, two_same h.formula t) refl
  bytes_at (suc (suc (suc (suc (suc (suc (suc (suc (suc (suc (suc (suc (suc o))))))))))))) a b f h r s t =
      let n : ℕ = (suc (suc (suc (suc (suc (suc (suc (suc (suc (suc (suc (suc (suc o))))))))))))) in
      let g = fields_in (made n a b f h) (fields_of 13 last z)
      (ap (λ (y : Fields). fields_fit (made n a b f h) y) (sym (unknown z last n (omega arith))) ∙ (ranged_both last z (made n a b f h) r).0) in
      absurd (omega (arith, g.0))

  pub typed_bytes : (i : Coded) → ranged last z i ≡ true → InstructionFits i → instruction (typed_of i) ≡ instruction_bytes i
  typed_bytes i r c = bytes_at i.operation i.a i.b i.formula i.second r c.formula c.second.formula
