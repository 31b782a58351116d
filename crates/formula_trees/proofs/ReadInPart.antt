-- A formula that is read in a part of an image stands in the whole image.
use mathlib.Core.Path.{◌≡◌, ap, sym, ◌∙◌}
use mathlib.Core.List.{List, ◌++◌}
use Prim.Native.Nat.{ℕ, ◌+◌, ◌≤◌, ◌<◌}
use native.Mathlib.Omega.{arith}
use lib.ListN.{length, take, drop, take-append-drop}
use lib.Seq.{drop-drop, drop-append-le}
use Rattle.limits.specs.Limits.{nesting}
use Rattle.formula.specs.Tree.{parse_tree}
use Rattle.formula.specs.Reader.{fault_at, reading_of}
use Rattle.formula.specs.declared.reader.Counts.{Counts}
use Rattle.std.specs.Prelude.{Ok}
use Rattle.formula_trees.specs.ToTree.{to_tree}
use Rattle.formula_trees.proofs.NodeBytes.{head, head_fine}
use Rattle.formula_trees.proofs.ReadFormula.{Passed, passed}
use Rattle.formula_trees.proofs.EncodedTree.{size, encode_append, parse_encode}
use Rattle.formula_trees.proofs.ReadableBody.{reading_fault, reading_end}

-- what stands at a position of a part is followed in the whole by what follows the part
drop_part : (image b : List ℕ) (m p at : ℕ) → b ≡ take m (drop p image) → at ≤ length b
    → drop (p + at) image ≡ drop at b ++ drop m (drop p image)
drop_part image b m p at e h =
    sym (drop-drop at p image) ∙ ap (drop at) (sym (take-append-drop m (drop p image))
    ∙ ap (λ (l : List ℕ). l ++ drop m (drop p image)) (sym e))
    ∙ drop-append-le at b (drop m (drop p image)) h

module _ (image b : List ℕ) (n : Counts) (m p : ℕ) (e : b ≡ take m (drop p image)) where
  pub part_parse : (k place at : ℕ) → fault_at b n k place at ≡ 0
      → parse_tree image k (p + at) ≡ record { tree = (parse_tree b k at).tree; end = p + (parse_tree b k at).end }
  part_parse k place at h = go (passed b n k place at h) (head b n place at (head_fine b n k place at h)).0
    where
      go : Passed b n k place at → at < length b → parse_tree image k (p + at) ≡ record
          { tree = (parse_tree b k at).tree; end = p + (parse_tree b k at).end }
      go q i =
          let f = q.formula in
          let l : List ℕ = drop (parse_tree b k at).end b in
          let rest : List ℕ = drop m (drop p image) in
          let here : parse_tree b k at ≡ record { tree = to_tree f; end = at + size f } = parse_encode f b k at l q.bytes q.deep in
          let there = parse_encode f image k (p + at) (l ++ rest)
          (drop_part image b m p at e (omega arith) ∙ ap (λ (z : List ℕ). z ++ rest) q.bytes ∙ encode_append f l rest) q.deep in
          let ends : p + at + size f ≡ p + (at + size f) = omega arith in
          there ∙ rw (here, ends)

  -- a whole body
  pub part_reading : (place : ℕ) → reading_of b n ≡ Ok place
      → parse_tree image nesting p ≡ record { tree = (parse_tree b nesting 0).tree; end = p + length b }
  part_reading place r = let z : p + 0 ≡ p = omega arith in
      rw z at (rw (reading_end b n place r) at (part_parse nesting place 0 (reading_fault b n place r)))
