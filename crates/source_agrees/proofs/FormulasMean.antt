-- What the source of a sound image means, formula by formula and instruction by instruction, is what the image says.
use mathlib.Core.Path.{◌≡◌, refl, ap, sym, ◌∙◌, subst}
use mathlib.Core.Bool.{true}
use mathlib.Core.List.{List, [], ◌∷◌, map}
use Prim.Native.Nat.{ℕ, zero, suc, ◌≤◌}
use native.Mathlib.Omega.{arith}
use lib.ListN.{length, get_or}
use Rattle.semantics.specs.Formula.{Sort}
use Rattle.limits.specs.Numbers.{nth}
use Rattle.formula.specs.Codes as Codes
use Rattle.formula.specs.Reader.{sort_of}
use Rattle.formula.specs.Tree.{Tree}
use Rattle.formula_trees.specs.ToTree.{of_tree}
use Rattle.formula_trees.specs.Place.{sort_at}
use Rattle.image_header.specs.Instruction.{fields_of, fields_fit, ranged, twofold}
use Rattle.image_header.specs.declared.sizes.Sizes.{Sizes}
use Rattle.image_header.specs.declared.instruction.Half.{Half}
use Rattle.image_header.specs.declared.instruction.Fields.{Fields}
use Rattle.image_header.specs.declared.instruction.Instruction.{Instruction as Coded}
use Rattle.image_bodies.specs.ThreadBody.{wanted, sorted}
use Rattle.image_bodies.specs.FormulaUse.{tree_of}
use Rattle.image_meaning.specs.Formulas.{formula}
use Rattle.image_meaning.specs.Program as Content
use Rattle.image_meaning.proofs.RecordsChecked.{Checks}
use Rattle.image_meaning.proofs.WellFormedProgram.{made, fields_in, ranged_both, second-in, formula-sorted, sorted_both}
use Rattle.source.specs.Source.{Listed, Source}
use Rattle.source.specs.Meaning.{as_value, as_test, as_assertion, listed, value, test, assertion, note, instr}
use Rattle.source_agrees.specs.SourceOf.{listed_of, typed, typed_of}
use Rattle.source_agrees.proofs.InstructionWritten.{unknown}

as-value : (p : ℕ) (t : Tree) → p ≡ 0 → as_value (sort_at p) (of_tree (sort_at p) t) ≡ of_tree Sort.value t
unfolding as_value
as-value p t e = subst (λ (q : ℕ). as_value (sort_at q) (of_tree (sort_at q) t) ≡ of_tree Sort.value t) (sym e) refl

as-test : (p : ℕ) (t : Tree) → p ≡ 1 → as_test (sort_at p) (of_tree (sort_at p) t) ≡ of_tree Sort.test t
unfolding as_test
as-test p t e = subst (λ (q : ℕ). as_test (sort_at q) (of_tree (sort_at q) t) ≡ of_tree Sort.test t) (sym e) refl

as-assertion : (p : ℕ) (t : Tree) → p ≡ 3 → as_assertion (sort_at p) (of_tree (sort_at p) t) ≡ of_tree Sort.assertion t
unfolding as_assertion
as-assertion p t e = subst (λ (q : ℕ). as_assertion (sort_at q) (of_tree (sort_at q) t) ≡ of_tree Sort.assertion t) (sym e) refl

pub nth_map : {A B : Type 0} (f : A → B) (l : List A) (k : ℕ) (d : B) (e : A) → 1 ≤ k → k ≤ length l → nth (map f l) k d ≡ f (nth l k e)
unfolding nth
nth_map f l zero d e a b = absurd (omega arith)
nth_map f [] (suc k) d e a b = absurd (omega arith)
nth_map f (x ∷ l) (suc zero) d e a b = refl
nth_map f (x ∷ l) (suc (suc k)) d e a b = nth_map f l (suc k) d e (omega arith) (omega arith)

two_9 : twofold 9 ≡ true
unfolding twofold
two_9 = refl

two_10 : twofold 10 ≡ true
unfolding twofold
two_10 = refl

two_11 : twofold 11 ≡ true
unfolding twofold
two_11 = refl

two_12 : twofold 12 ≡ true
unfolding twofold
two_12 = refl

-- a source whose formulas are those of the bodies l, behind the header
module _ (z : Sizes) (l : List (List ℕ)) (c : Checks z l) (t : Source)
    (same : (k : ℕ) → 1 ≤ k → k ≤ z.formulas → listed t k ≡ listed_of (get_or l k [])) where
  pub value_same : (k : ℕ) → 1 ≤ k → k ≤ z.formulas → sort_of (get_or l k []) ≡ Codes.value → value t k ≡ formula l Sort.value k
  unfolding value formula listed_of
  value_same k a b e =
      ap (λ (f : Listed). as_value f.sort f.formula) (same k a b) ∙ as-value (sort_of (get_or l k [])) (tree_of (get_or l k [])) e

  pub test_same : (k : ℕ) → 1 ≤ k → k ≤ z.formulas → sort_of (get_or l k []) ≡ Codes.test → test t k ≡ formula l Sort.test k
  unfolding test formula listed_of
  test_same k a b e = ap (λ (f : Listed). as_test f.sort f.formula) (same k a b) ∙ as-test (sort_of (get_or l k [])) (tree_of (get_or l k [])) e

  pub assertion_same : (k : ℕ) → 1 ≤ k → k ≤ z.formulas → sort_of (get_or l k []) ≡ Codes.assertion
      → assertion t k ≡ formula l Sort.assertion k
  unfolding assertion formula listed_of
  assertion_same k a b e =
      ap (λ (f : Listed). as_assertion f.sort f.formula) (same k a b) ∙ as-assertion (sort_of (get_or l k [])) (tree_of (get_or l k [])) e

  module _ (last : ℕ) where
    instr-at : (o a b f : ℕ) (h : Half) → ranged last z (made o a b f h) ≡ true → sorted l (made o a b f h) ≡ true
        → Content.instr l (made o a b f h) ≡ instr t (typed o a b f h)
    unfolding Content.instr instr note typed fields_of wanted
    instr-at zero a b f h r s =
        let g = (fields_in (made 0 a b f h) (fields_of 0 last z) (ranged_both last z (made 0 a b f h) r).0).2 in
        let p = (formula-sorted z l c Codes.value f (omega (arith, g)) (sorted_both z l c (made 0 a b f h) s).0).0 in
        let v = value_same f (omega (arith, g)) (omega (arith, g)) p in
        rw v refl
    instr-at (suc zero) a b f h r s = refl
    instr-at (suc (suc zero)) a b f h r s = refl
    instr-at (suc (suc (suc zero))) a b f h r s =
        let g = (fields_in (made 3 a b f h) (fields_of 3 last z) (ranged_both last z (made 3 a b f h) r).0).2 in
        let p = (formula-sorted z l c Codes.value f (omega (arith, g)) (sorted_both z l c (made 3 a b f h) s).0).0 in
        let v = value_same f (omega (arith, g)) (omega (arith, g)) p in
        rw v refl
    instr-at (suc (suc (suc (suc zero)))) a b f h r s =
        let g = (fields_in (made 4 a b f h) (fields_of 4 last z) (ranged_both last z (made 4 a b f h) r).0).2 in
        let p = (formula-sorted z l c Codes.value f (omega (arith, g)) (sorted_both z l c (made 4 a b f h) s).0).0 in
        let v = value_same f (omega (arith, g)) (omega (arith, g)) p in
        rw v refl
    instr-at (suc (suc (suc (suc (suc zero))))) a b f h r s =
        let g = (fields_in (made 5 a b f h) (fields_of 5 last z) (ranged_both last z (made 5 a b f h) r).0).2 in
        let p = (formula-sorted z l c Codes.value f (omega (arith, g)) (sorted_both z l c (made 5 a b f h) s).0).0 in
        let v = value_same f (omega (arith, g)) (omega (arith, g)) p in
        rw v refl
    instr-at (suc (suc (suc (suc (suc (suc zero)))))) a b f h r s =
        let g = (fields_in (made 6 a b f h) (fields_of 6 last z) (ranged_both last z (made 6 a b f h) r).0).2 in
        let p = (formula-sorted z l c Codes.test f (omega (arith, g)) (sorted_both z l c (made 6 a b f h) s).0).0 in
        let v = test_same f (omega (arith, g)) (omega (arith, g)) p in
        rw v refl
    instr-at (suc (suc (suc (suc (suc (suc (suc zero))))))) a b f h r s =
        let g = (fields_in (made 7 a b f h) (fields_of 7 last z) (ranged_both last z (made 7 a b f h) r).0).2 in
        let p = (formula-sorted z l c Codes.value f (omega (arith, g)) (sorted_both z l c (made 7 a b f h) s).0).0 in
        let v = value_same f (omega (arith, g)) (omega (arith, g)) p in
        rw v refl
    instr-at (suc (suc (suc (suc (suc (suc (suc (suc zero)))))))) a b f h r s =
        let g = (fields_in (made 8 a b f h) (fields_of 8 last z) (ranged_both last z (made 8 a b f h) r).0).2 in
        let p = (formula-sorted z l c Codes.value f (omega (arith, g)) (sorted_both z l c (made 8 a b f h) s).0).0 in
        let v = value_same f (omega (arith, g)) (omega (arith, g)) p in
        rw v refl
    instr-at (suc (suc (suc (suc (suc (suc (suc (suc (suc zero))))))))) a b f h r s =
        let g = (fields_in (made 9 a b f h) (fields_of 9 last z) (ranged_both last z (made 9 a b f h) r).0).2 in
        let p = (formula-sorted z l c Codes.value f (omega (arith, g)) (sorted_both z l c (made 9 a b f h) s).0).0 in
        let v = value_same f (omega (arith, g)) (omega (arith, g)) p in
        let d = second-in z (made 9 a b f h) two_9 (ranged_both last z (made 9 a b f h) r).1 in
        let q = (formula-sorted z l c Codes.value h.formula d.0 (sorted_both z l c (made 9 a b f h) s).1).0 in
        let w = value_same h.formula d.0 d.1 q in
        rw (v, w) refl
    instr-at (suc (suc (suc (suc (suc (suc (suc (suc (suc (suc zero)))))))))) a b f h r s =
        let g = (fields_in (made 10 a b f h) (fields_of 10 last z) (ranged_both last z (made 10 a b f h) r).0).2 in
        let p = (formula-sorted z l c Codes.value f (omega (arith, g)) (sorted_both z l c (made 10 a b f h) s).0).0 in
        let v = value_same f (omega (arith, g)) (omega (arith, g)) p in
        let d = second-in z (made 10 a b f h) two_10 (ranged_both last z (made 10 a b f h) r).1 in
        let q = (formula-sorted z l c Codes.value h.formula d.0 (sorted_both z l c (made 10 a b f h) s).1).0 in
        let w = value_same h.formula d.0 d.1 q in
        rw (v, w) refl
    instr-at (suc (suc (suc (suc (suc (suc (suc (suc (suc (suc (suc zero))))))))))) a b f h r s =
        let g = (fields_in (made 11 a b f h) (fields_of 11 last z) (ranged_both last z (made 11 a b f h) r).0).2 in
        let p = (formula-sorted z l c Codes.value f (omega (arith, g)) (sorted_both z l c (made 11 a b f h) s).0).0 in
        let v = value_same f (omega (arith, g)) (omega (arith, g)) p in
        let d = second-in z (made 11 a b f h) two_11 (ranged_both last z (made 11 a b f h) r).1 in
        let q = (formula-sorted z l c Codes.value h.formula d.0 (sorted_both z l c (made 11 a b f h) s).1).0 in
        let w = value_same h.formula d.0 d.1 q in
        rw (v, w) refl
    instr-at (suc (suc (suc (suc (suc (suc (suc (suc (suc (suc (suc (suc zero)))))))))))) a b f h r s =
        let g = (fields_in (made 12 a b f h) (fields_of 12 last z) (ranged_both last z (made 12 a b f h) r).0).2 in
        let p = (formula-sorted z l c Codes.value f (omega (arith, g)) (sorted_both z l c (made 12 a b f h) s).0).0 in
        let v = value_same f (omega (arith, g)) (omega (arith, g)) p in
        let d = second-in z (made 12 a b f h) two_12 (ranged_both last z (made 12 a b f h) r).1 in
        let q = (formula-sorted z l c Codes.value h.formula d.0 (sorted_both z l c (made 12 a b f h) s).1).0 in
        let w = value_same h.formula d.0 d.1 q in
        rw (v, w) refl
    instr-at (suc (suc (suc (suc (suc (suc (suc (suc (suc (suc (suc (suc (suc o))))))))))))) a b f h r s =
        let n : ℕ = (suc (suc (suc (suc (suc (suc (suc (suc (suc (suc (suc (suc (suc o))))))))))))) in
        let g = fields_in (made n a b f h) (fields_of 13 last z)
        (ap (λ (y : Fields). fields_fit (made n a b f h) y) (sym (unknown z last n (omega arith))) ∙ (ranged_both last z (made n a b f h) r).0) in
        absurd (omega (arith, g.0))

    pub instr_same : (i : Coded) → ranged last z i ≡ true → sorted l i ≡ true → Content.instr l i ≡ instr t (typed_of i)
    instr_same i r s = instr-at i.operation i.a i.b i.formula i.second r s
