-- The formulas of a sound image, each of the sort by which it is read.
use mathlib.Core.Path.{◌≡◌, refl, ap, sym, ◌∙◌, subst}
use mathlib.Core.Bool.{Bool, true, false, cond}
use mathlib.Core.List.{List, []}
use Prim.Native.Nat.{ℕ, ◌≤◌}
use lib.Dec.{T, eqb}
use lib.ListN.{length, get_or}
use borrow.Author.Tests.{not-true, not-false}
use Rattle.semantics.specs.Formula.{Sort}
use Rattle.semantics.specs.Names as Names
use Rattle.semantics.specs.Names.{only, is_reg, not_reg}
use Rattle.semantics.specs.Eval.{bounded}
use Rattle.semantics.proofs.Base.{is_true}
use Rattle.formula.specs.Codes as Codes
use Rattle.limits.specs.Limits.{nesting}
use Rattle.formula.specs.Tree.{Tree, parse_tree}
use Rattle.std.specs.Prelude.{Ok, Err}
use Rattle.formula.specs.Reader.{fault_named, fault_at, sort_of, reading_of}
use Rattle.formula.specs.declared.reader.Counts.{Counts}
use Rattle.formula.specs.declared.reader.Fault.TheVariants.{Malformed}
use Rattle.formula_compare.specs.Occurs.{occurs, register, start, shared}
use Rattle.image_header.specs.declared.sizes.Sizes.{Sizes}
use Rattle.image_header.specs.Header.{value_range}
use Rattle.image.specs.Decode.{sizes_of}
use Rattle.image_bodies.specs.FormulaUse.{tree_of, startless, plain}
use Rattle.image_bodies.specs.FormulaBody as Formulas
use Rattle.image_bodies.specs.FormulaBody.{counts_of, fault_of, read}
use Rattle.formula_trees.specs.ToTree.{to_tree, of_tree, Sorted}
use Rattle.formula_trees.specs.Place.{sort_at}
use Rattle.formula_trees.proofs.OccursAgree.{no_register, no_shared, no_start}
use Rattle.formula_trees.proofs.ReadWithin.{reads_bounded, reads_plain}
use Rattle.formula_trees.proofs.ReadableBody.{reading_fault, reading_sorted}
use Rattle.image_meaning.specs.Formulas.{formula}
use Rattle.image_meaning.proofs.RecordsChecked.{Checks, formula_passed}
use Rattle.image_meaning.proofs.PassedChecks.{unless_passed, faulty_passed}
use Rattle.image_frames.specs.Fault.{passed}

-- what is read without a fault is a formula of its first code's sort
read_passed : (b : List ℕ) (n : Counts) → read (reading_of b n) ≡ passed → reading_of b n ≡ Ok (sort_of b)
unfolding read reading_of
read_passed b n e = go (eqb (fault_at b n nesting (sort_of b) 0) 0) (eqb (parse_tree b nesting 0).end (length b)) e
  where
    go : (c d : Bool) → read (cond c (cond d (Ok (sort_of b)) (Err Malformed))
        (Err (fault_named (fault_at b n nesting (sort_of b) 0)))) ≡ passed
        → cond c (cond d (Ok (sort_of b)) (Err Malformed))
        (Err (fault_named (fault_at b n nesting (sort_of b) 0))) ≡ Ok (sort_of b)
    go true true h = refl
    go true false h = absurd (faulty_passed (fault_of Malformed) h)
    go false d h = absurd (faulty_passed (fault_of (fault_named (fault_at b n nesting (sort_of b) 0))) h)

module _ (z : Sizes) (l : List (List ℕ)) (c : Checks z l) (k : ℕ) (low : 1 ≤ k) (high : k ≤ z.formulas) where
  abbrev body : List ℕ
  body = get_or l k []

  pub formula_read : (p : ℕ) → sort_of body ≡ p → reading_of body (counts_of z) ≡ Ok p
  unfolding Formulas.formula
  formula_read p e =
      read_passed body (counts_of z) (unless_passed _ _ _ (formula_passed z l c k low high)).1 ∙ ap Ok e

  sorted : (p : ℕ) → sort_of body ≡ p → Sorted (sort_at p) (tree_of body)
  sorted p e = reading_sorted body (counts_of z) p (formula_read p e)

  pub formula_tree : (p : ℕ) → sort_of body ≡ p → to_tree (formula l (sort_at p) k) ≡ tree_of body
  unfolding formula
  formula_tree p e = sorted p e

  -- the range by which formulas are read is the header's
  range_is : z.range ≡ value_range (get_or l 0 [])
  unfolding sizes_of
  range_is = ap (λ (y : Sizes). y.range) c.sizes

  -- its constants are values
  pub formula_bounded : (p : ℕ) → sort_of body ≡ p → T (bounded (value_range (get_or l 0 [])) (formula l (sort_at p) k))
  unfolding formula counts_of
  formula_bounded p e =
      subst (λ (R : ℕ). T (bounded R (formula l (sort_at p) k))) range_is
      (reads_bounded body (counts_of z) nesting 0 p (reading_fault body (counts_of z) p (formula_read p e)))

  -- an assertion: registers alone under holds
  pub assertion_plain : sort_of body ≡ Codes.assertion → T (Names.plain (formula l Sort.assertion k))
  unfolding formula
  assertion_plain e = reads_plain body (counts_of z) nesting 0
      (reading_fault body (counts_of z) Codes.assertion (formula_read Codes.assertion e))

  regs_only : (s : Sort) → Sorted s (tree_of body) → plain body ≡ true → T (only is_reg (formula l s k))
  unfolding formula plain
  regs_only s e h = is_true (not-false (only is_reg (of_tree s (tree_of body)))
      (sym (no_shared (of_tree s (tree_of body))) ∙ ap (λ (t : Tree). occurs shared [] t) e ∙ not-true (occurs shared [] (tree_of body)) h))

  pub value_regs : sort_of body ≡ Codes.value → plain body ≡ true → T (only is_reg (formula l Sort.value k))
  value_regs e h = regs_only Sort.value (sorted Codes.value e) h

  -- a register that is not in its bytes
  pub value_lacks : (r : ℕ) → sort_of body ≡ Codes.value → occurs (register r) [] (tree_of body) ≡ false
      → T (only (not_reg r) (formula l Sort.value k))
  unfolding formula
  value_lacks r e h =
      is_true (not-false (only (not_reg r) (of_tree Sort.value (tree_of body))) (sym (no_register r (of_tree Sort.value (tree_of body)))
      ∙ ap (λ (t : Tree). occurs (register r) [] t) (sorted Codes.value e) ∙ h))

  pub test_regs : sort_of body ≡ Codes.test → plain body ≡ true → T (only is_reg (formula l Sort.test k))
  test_regs e h = regs_only Sort.test (sorted Codes.test e) h

  pub assertion_startless : sort_of body ≡ Codes.assertion → startless body ≡ true → T (Names.startless (formula l Sort.assertion k))
  unfolding formula startless
  assertion_startless e h =
      is_true (not-false (Names.startless (of_tree Sort.assertion (tree_of body)))
      (sym (no_start (of_tree Sort.assertion (tree_of body))) ∙ ap (λ (t : Tree). occurs start [] t) (sorted Codes.assertion e)
      ∙ not-true (occurs start [] (tree_of body)) h))
