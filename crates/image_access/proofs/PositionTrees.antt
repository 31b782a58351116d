-- At the position of a formula of a sound image stands its tree.
use mathlib.Core.Path.{◌≡◌, refl, ap, ◌∙◌}
use mathlib.Core.Bool.{Bool, true, false}
use mathlib.Core.List.{List, []}
use Prim.Native.Nat.{ℕ, ◌+◌, ◌-◌, ◌≤◌, ◌<◌}
use native.Mathlib.Omega.{arith}
use lib.Dec.{ltb}
use lib.ListN.{length, get_or, drop, take, drop_of_length-le}
use lib.Seq.{drop-drop}
use borrow.Author.Tests.{ltb-true, ltb-false, ne_eqb, lt-ltb, le-ltb}
use Rattle.semantics.specs.Formula.{Formula.const}
use Rattle.limits.specs.Limits as Limits
use Rattle.limits.specs.Numbers.{le16}
use Rattle.image_frames.specs.Records.{body, bodies, start_of}
use Rattle.image_index.specs.IndexTable.{place_of}
use Rattle.image_index.proofs.LookUps.{body_is, body_past}
use Rattle.limits.specs.Limits.{nesting}
use Rattle.formula.specs.Reader.{sort_of}
use Rattle.formula.specs.Tree.{ParsedTree, node_at, parse_tree}
use Rattle.image_header.specs.declared.sizes.Sizes.{Sizes}
use Rattle.image_bodies.specs.FormulaBody as Formulas
use Rattle.image_bodies.specs.FormulaBody.{counts_of}
use Rattle.image_bodies.specs.FormulaUse.{tree_of}
use Rattle.formula_trees.specs.ToTree.{to_tree}
use Rattle.formula_trees.proofs.ReadInPart.{part_reading}
use Rattle.image_access.specs.AccessPlaces.{body_start, formula_at}
use Rattle.limits.proofs.PassedTests.{within_true}
use Rattle.image_meaning.proofs.PassedChecks.{unless_passed}
use Rattle.image_meaning.proofs.RecordsChecked.{Checks, formula_passed}
use Rattle.image_meaning.proofs.FormulaSorts.{formula_read}

empty_body : length (body []) ≡ 0
unfolding body le16
empty_body = refl

-- a record whose body is not empty is there: it starts before the end of the image, and its body stands behind its frame
module _ (s : List ℕ) (k : ℕ) (full : 1 ≤ length (get_or (bodies s) k [])) where
  number_there : k < Limits.records
  number_there = go (ltb k Limits.records) refl
    where
      go : (b : Bool) → ltb k Limits.records ≡ b → k < Limits.records
      go true e = ltb-true k Limits.records e
      go false e = let d = ap length (body_past s k (ltb-false k Limits.records e)) in absurd (omega arith)

  its_body : get_or (bodies s) k [] ≡ body (drop (start_of s k) s)
  its_body = body_is s k number_there

  start_there : start_of s k < length s
  start_there = go (ltb (start_of s k) (length s)) refl
    where
      go : (b : Bool) → ltb (start_of s k) (length s) ≡ b → start_of s k < length s
      go true e = ltb-true (start_of s k) (length s) e
      go false e = let d = ap length (its_body ∙ ap body (drop_of_length-le s (ltb-false (start_of s k) (length s) e))) in
          absurd (omega (arith, empty_body))

  position_is : (k ≡ 0 → ⊥) → formula_at s k ≡ start_of s k + 4
  unfolding formula_at body_start place_of
  position_is h = rw (ne_eqb k 0 h, lt-ltb k Limits.records number_there, lt-ltb (start_of s k) (length s) start_there)

  body_part : get_or (bodies s) k [] ≡ take (le16 (drop (start_of s k) s) - 2) (drop (start_of s k + 4) s)
  unfolding body
  body_part = its_body ∙ ap (take (le16 (drop (start_of s k) s) - 2)) (drop-drop 4 (start_of s k) s)

module _ (s : List ℕ) (z : Sizes) (c : Checks z (bodies s)) (k : ℕ) (low : 1 ≤ k) (high : k ≤ z.formulas) where
  abbrev its : List ℕ
  its = get_or (bodies s) k []

  pub position_parse : parse_tree s nesting (formula_at s k) ≡ record { tree = tree_of its; end = formula_at s k + length its }
  unfolding Formulas.formula
  position_parse =
      let full : 1 ≤ length its = (within_true 1 Limits.formula_bytes (length its)
      (unless_passed _ _ _ (formula_passed z (bodies s) c k low high)).0).0 in
      let q : k ≡ 0 → ⊥ = omega arith in
      let e = part_reading s its (counts_of z) (le16 (drop (start_of s k) s) - 2) (start_of s k + 4) (body_part s k full) (sort_of its)
      (formula_read z (bodies s) c k low high (sort_of its) refl) in
      rw (position_is s k full q) e

  pub position_tree : (parse_tree s nesting (formula_at s k)).tree ≡ tree_of its
  position_tree = ap (λ (u : ParsedTree). u.tree) position_parse

-- where there is no formula, the constant 0
pub none_tree : (s : List ℕ) → (parse_tree s nesting (length s)).tree ≡ to_tree (const 0)
unfolding parse_tree node_at
none_tree s = rw (le-ltb (length s) (length s) (omega arith))
