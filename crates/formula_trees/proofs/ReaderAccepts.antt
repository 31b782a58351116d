-- The bytes of a formula within the counts and the nesting pass the reader.
use mathlib.Core.Path.{◌≡◌, refl, ap, ◌∙◌}
use mathlib.Core.Bool.{Bool, true, false, ◌&&◌, cond}
use mathlib.Core.List.{List, ◌∷◌}
use Prim.Native.Nat.{ℕ, zero, suc, ◌+◌, ◌≤◌}
use native.Mathlib.Omega.{arith}
use lib.ListN.{length, drop}
use lib.Dec.{T}
use borrow.Author.Tests.{lt-ltb}
use Rattle.semantics.specs.Formula.{Sort, Formula, encode, nesting}
use Rattle.semantics.proofs.Base.{holds_true, and_left, and_right}
use Rattle.formula.specs.Codes.{fits_at, has_operand}
use Rattle.formula.specs.Reader.{in_range, operand_fault, head_fault, fault_at}
use Rattle.formula.specs.declared.reader.Counts.{Counts}
use Rattle.formula_trees.specs.Place.{place, alone, in_counts}
use Rattle.formula_trees.proofs.Constructors.{after, ranged, Leaf, One, Two, by_shape}
use Rattle.formula_trees.proofs.NodeBytes.{node_of, parts_fault, fault_parts}
use Rattle.formula_trees.proofs.EncodedTree.{own, size, cons_at, drop_encode, node_back, parse_encode}

module _ (s : List ℕ) (n : Counts) (p at c o : ℕ) (l : List ℕ) (e : drop at s ≡ after c o l) (f : fits_at c p ≡ true)
    (r : T (ranged n c o)) where
  head_back : head_fault s n p at ≡ 0
  unfolding head_fault operand_fault
  head_back = go (has_operand c) refl e r
    where
      go : (b : Bool) → has_operand c ≡ b → drop at s ≡ c ∷ cond b (o ∷ l) l → T (cond b (in_range n c o) true) → head_fault s n p at ≡ 0
      go true d q i =
          let h = cons_at s at c (o ∷ l) q in
          let g = cons_at s (at + 1) o l h.2 in
          rw (lt-ltb at (length s) h.0, h.1, f, d, lt-ltb (at + 1) (length s) g.0, g.1, holds_true (in_range n c o) i)
      go false d q i = let h = cons_at s at c l q in rw (lt-ltb at (length s) h.0, h.1, f, d)

  fault_back : (k : ℕ) → fault_at s n (suc k) p at ≡ parts_fault s n k p (node_of c o (at + own c))
  fault_back k = fault_parts s n k p at ∙ rw head_back (ap (parts_fault s n k p) (node_back s at c o l e).0)

module _ (n : Counts) where
  abbrev Passes : (s : Sort) → Formula s → Type 0
  Passes q f =
      (r : Bool) (s : List ℕ) (k at : ℕ) (l : List ℕ) → drop at s ≡ encode f l → nesting f ≤ k → T (in_counts n f) → T (alone r f)
      → fault_at s n k (place r q) at ≡ 0

  leaf_passes : (c : ℕ) (p : Sort) (t : Leaf c p) (o : ℕ) → Passes p (t.make o)
  leaf_passes c p t o r s zero at l e h i a = let d = t.deep o in absurd (omega arith)
  leaf_passes c p t o r s (suc k) at l e h i a = fault_back s n (place r p) at c o l (e ∙ t.bytes o l) (t.fits r o a)
      (rw (t.counted n o) at i) k ∙ rw t.parts

  one_passes : (c : ℕ) (p q : Sort) (t : One c p q) (o : ℕ) (f : Formula q) → Passes q f → Passes p (t.make o f)
  one_passes c p q t o f ih r s zero at l e h i a = let d = t.deep o f in absurd (omega arith)
  one_passes c p q t o f ih r s (suc k) at l e h i a =
      fault_back s n (place r p) at c o (encode f l) b (t.fits r) (and_left (ranged n c o) (in_counts n f) j) k
      ∙ rw (
        t.parts,
        t.inside r,
        ih (t.inner r) s k (at + own c) l (node_back s at c o (encode f l) b).1 (omega (arith, t.deep o f))
            (and_right (ranged n c o) (in_counts n f) j) (rw (t.lone r o f) at a),
      )
    where
      b : drop at s ≡ after c o (encode f l)
      b = e ∙ t.bytes o f l

      j : T (ranged n c o && in_counts n f)
      j = rw (t.counted n o f) at i

  two_passes : (c : ℕ) (p q : Sort) (t : Two c p q) (f g : Formula q) → Passes q f → Passes q g → Passes p (t.make f g)
  two_passes c p q t f g ih jh r s zero at l e h i a = let d = t.deep f g in absurd (omega arith)
  two_passes c p q t f g ih jh r s (suc k) at l e h i a =
      fault_back s n (place r p) at c 0 (encode f (encode g l)) b (t.fits r) (rw t.bare tt) k
      ∙ rw (t.parts, t.inside r, first_part, parse_encode f s k (at + own c) (encode g l) d (omega (arith, t.deep f g)))
      (jh r s k (at + own c + size f) l (drop_encode f s (at + own c) (encode g l) d) (omega (arith, t.deep f g))
      (and_right (in_counts n f) (in_counts n g) j) (and_right (alone r f) (alone r g) u))
    where
      b : drop at s ≡ after c 0 (encode f (encode g l))
      b = e ∙ t.bytes 0 f g l

      d : drop (at + own c) s ≡ encode f (encode g l)
      d = (node_back s at c 0 (encode f (encode g l)) b).1

      j : T (in_counts n f && in_counts n g)
      j = rw (t.counted n f g) at i

      u : T (alone r f && alone r g)
      u = rw (t.lone r f g) at a

      first_part : fault_at s n k (place r q) (at + own c) ≡ 0
      first_part = ih r s k (at + own c) (encode g l) d (omega (arith, t.deep f g)) (and_left (in_counts n f) (in_counts n g) j)
          (and_left (alone r f) (alone r g) u)

  pub passes : {q : Sort} (f : Formula q) (r : Bool) (s : List ℕ) (k at : ℕ) (l : List ℕ) → drop at s ≡ encode f l → nesting f ≤ k
      → T (in_counts n f) → T (alone r f)
      → fault_at s n k (place r q) at ≡ 0
  passes = by_shape Passes leaf_passes one_passes two_passes
