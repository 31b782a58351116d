-- Bytes: where a formula's bytes stand, its tree stands.
use mathlib.Core.Path.{◌≡◌, refl, ap, sym, ◌∙◌}
use mathlib.Core.Bool.{Bool, true, false, cond}
use mathlib.Core.List.{List, [], ◌∷◌, ◌++◌}
use Prim.Native.Nat.{ℕ, zero, suc, ◌+◌, ◌≤◌, ◌<◌}
use native.Mathlib.Omega.{arith}
use lib.ListN.{length, get_or, drop, length-append, length-drop}
use lib.Seq.{drop-drop, drop-append_seam}
use borrow.Author.Tests.{lt-ltb}
use Rattle.semantics.specs.Formula.{Sort, Formula, encode, nesting}
use Rattle.formula.specs.Codes.{has_operand, part_count}
use Rattle.formula.specs.Tree.{Tree, none, node, node_at, ParsedTree, grow, parse_tree}
use Rattle.formula_trees.specs.ToTree.{to_tree}
use Rattle.formula_trees.proofs.Constructors.{after, operand, Leaf, One, Two, by_shape}
use Rattle.formula_trees.proofs.NodeBytes.{drop_next, node_of}

-- a code with its operand, before other bytes
pub after_append : (c o : ℕ) (l m : List ℕ) → after c o l ++ m ≡ after c o (l ++ m)
after_append c o l m = go (has_operand c)
  where
    go : (b : Bool) → (c ∷ cond b (o ∷ l) l) ++ m ≡ c ∷ cond b (o ∷ l ++ m) (l ++ m)
    go true = refl
    go false = refl

-- how many bytes a code has with its operand; how many a formula has
abbrev pub own : ℕ → ℕ
own c = cond (has_operand c) 2 1

abbrev pub size : {s : Sort} → Formula s → ℕ
size f = length (encode f [])

length_after : (c o : ℕ) (l : List ℕ) → length (after c o l) ≡ own c + length l
length_after c o l = go (has_operand c)
  where
    go : (b : Bool) → length (c ∷ cond b (o ∷ l) l) ≡ cond b 2 1 + length l
    go true = omega arith
    go false = omega arith

pub encode_append : {s : Sort} (f : Formula s) (l m : List ℕ) → encode f l ++ m ≡ encode f (l ++ m)
encode_append = by_shape (λ s f. (l m : List ℕ) → encode f l ++ m ≡ encode f (l ++ m)) leaf one two
  where
    leaf : (c : ℕ) (p : Sort) (t : Leaf c p) (o : ℕ) (l m : List ℕ) → encode (t.make o) l ++ m ≡ encode (t.make o) (l ++ m)
    leaf c p t o l m = ap (λ (z : List ℕ). z ++ m) (t.bytes o l) ∙ after_append c o l m ∙ sym (t.bytes o (l ++ m))

    one : (c : ℕ) (p q : Sort) (t : One c p q) (o : ℕ) (f : Formula q) → ((l m : List ℕ) → encode f l ++ m ≡ encode f (l ++ m))
        → (l m : List ℕ) → encode (t.make o f) l ++ m ≡ encode (t.make o f) (l ++ m)
    one c p q t o f h l m =
        ap (λ (z : List ℕ). z ++ m) (t.bytes o f l) ∙ after_append c o (encode f l) m ∙ ap (after c o) (h l m)
        ∙ sym (t.bytes o f (l ++ m))

    two : (c : ℕ) (p q : Sort) (t : Two c p q) (f g : Formula q) → ((l m : List ℕ) → encode f l ++ m ≡ encode f (l ++ m))
        → ((l m : List ℕ) → encode g l ++ m ≡ encode g (l ++ m))
        → (l m : List ℕ) → encode (t.make f g) l ++ m ≡ encode (t.make f g) (l ++ m)
    two c p q t f g h k l m =
        ap (λ (z : List ℕ). z ++ m) (t.bytes 0 f g l) ∙ after_append c 0 (encode f (encode g l)) m
        ∙ ap (after c 0) (h (encode g l) m ∙ ap (encode f) (k l m)) ∙ sym (t.bytes 0 f g (l ++ m))

pub length_encode : {s : Sort} (f : Formula s) (l : List ℕ) → length (encode f l) ≡ size f + length l
length_encode f l = ap length (sym (encode_append f [] l)) ∙ length-append (encode f []) l

-- a list from a position on
pub cons_at : (s : List ℕ) (at c : ℕ) (l : List ℕ) → drop at s ≡ c ∷ l → (at < length s) × (get_or s at 0 ≡ c) × (drop (at + 1) s ≡ l)
cons_at s at c l e = go (omega (arith, length-drop at s, ap length e))
  where
    go : at < length s → (at < length s) × (get_or s at 0 ≡ c) × (drop (at + 1) s ≡ l)
    go h = let d : get_or s at 0 ∷ drop (at + 1) s ≡ c ∷ l = sym (drop_next s at h) ∙ e in (h, cc, cc)

pub drop_encode : {r : Sort} (f : Formula r) (s : List ℕ) (at : ℕ) (l : List ℕ) → drop at s ≡ encode f l → drop (at + size f) s ≡ l
drop_encode f s at l e = sym (drop-drop (size f) at s) ∙ ap (drop (size f)) (e ∙ sym (encode_append f [] l))
    ∙ drop-append_seam (encode f []) l

-- the node there
module _ (s : List ℕ) (at c o : ℕ) (l : List ℕ) (e : drop at s ≡ after c o l) where
  pub node_back : (node_at s at ≡ node_of c o (at + own c)) × (drop (at + own c) s ≡ l)
  unfolding node_at
  node_back = go (has_operand c) refl e
    where
      go : (b : Bool) → has_operand c ≡ b → drop at s ≡ c ∷ cond b (o ∷ l) l
          → (node_at s at ≡ record { code = c; operand = cond b o 0; parts = part_count c; next = at + cond b 2 1 })
          × (drop (at + cond b 2 1) s ≡ l)
      go true d q =
          let h = cons_at s at c (o ∷ l) q in
          let g = cons_at s (at + 1) o l h.2 in
          let z : at + 1 + 1 ≡ at + 2 = omega arith in
          (rw (lt-ltb at (length s) h.0, h.1, d, g.1), rw (← z) g.2)
      go false d q = let h = cons_at s at c l q in (rw (lt-ltb at (length s) h.0, h.1, d), h.2)

-- a formula's bytes are followed by its end, and its tree stands there
abbrev Stands : (s : Sort) → Formula s → Type 0
Stands r f =
    (s : List ℕ) (k at : ℕ) (l : List ℕ) → drop at s ≡ encode f l → nesting f ≤ k
    → parse_tree s k at ≡ record { tree = to_tree f; end = at + size f }

parse_back : (s : List ℕ) (k at c o : ℕ) (l : List ℕ) → drop at s ≡ after c o l
    → parse_tree s (suc k) at ≡ grow (λ i. parse_tree s k i) (node_of c o (at + own c))
unfolding parse_tree
parse_back s k at c o l e = ap (grow (λ i. parse_tree s k i)) (node_back s at c o l e).0

parse_of : (t u : Tree) (i j : ℕ) → t ≡ u → i ≡ j → ◌≡◌ {A = ParsedTree} (record { tree = t; end = i }) (record { tree = u; end = j })
parse_of t u i j e d = λ x. record { tree = e x; end = d x }

leaf_stands : (c : ℕ) (p : Sort) (t : Leaf c p) (o : ℕ) → Stands p (t.make o)
leaf_stands c p t o s zero at l e h = let d = t.deep o in absurd (omega arith)
leaf_stands c p t o s (suc k) at l e h =
    parse_back s k at c o l (e ∙ t.bytes o l) ∙ rw t.parts
    (parse_of (node c (operand c o) none none) (to_tree (t.make o)) (at + own c) (at + size (t.make o)) (sym (t.tree o)) ends)
  where
    ends : at + own c ≡ at + size (t.make o)
    ends = omega (arith, ap length (t.bytes o []), length_after c o [])

one_stands : (c : ℕ) (p q : Sort) (t : One c p q) (o : ℕ) (f : Formula q) → Stands q f → Stands p (t.make o f)
one_stands c p q t o f ih s zero at l e h = let d = t.deep o f in absurd (omega arith)
one_stands c p q t o f ih s (suc k) at l e h =
    parse_back s k at c o (encode f l) b
    ∙ rw (t.parts, ih s k (at + own c) l (node_back s at c o (encode f l) b).1 (omega (arith, t.deep o f)))
    (parse_of (node c (operand c o) (to_tree f) none) (to_tree (t.make o f)) (at + own c + size f) (at + size (t.make o f))
    (sym (t.tree o f)) ends)
  where
    b : drop at s ≡ after c o (encode f l)
    b = e ∙ t.bytes o f l

    ends : at + own c + size f ≡ at + size (t.make o f)
    ends = omega (arith, ap length (t.bytes o f []), length_after c o (encode f []))

two_stands : (c : ℕ) (p q : Sort) (t : Two c p q) (f g : Formula q) → Stands q f → Stands q g → Stands p (t.make f g)
two_stands c p q t f g ih jh s zero at l e h = let d = t.deep f g in absurd (omega arith)
two_stands c p q t f g ih jh s (suc k) at l e h =
    parse_back s k at c 0 (encode f (encode g l)) b
    ∙ rw (
      t.parts,
      ih s k (at + own c) (encode g l) d (omega (arith, t.deep f g)),
      jh s k (at + own c + size f) l (drop_encode f s (at + own c) (encode g l) d) (omega (arith, t.deep f g)),
    )
    (parse_of (node c (operand c 0) (to_tree f) (to_tree g)) (to_tree (t.make f g)) (at + own c + size f + size g) (at + size (t.make f g))
    (sym (t.tree 0 f g)) ends)
  where
    b : drop at s ≡ after c 0 (encode f (encode g l))
    b = e ∙ t.bytes 0 f g l

    d : drop (at + own c) s ≡ encode f (encode g l)
    d = (node_back s at c 0 (encode f (encode g l)) b).1

    ends : at + own c + size f + size g ≡ at + size (t.make f g)
    ends = omega (arith, ap length (t.bytes 0 f g []), length_after c 0 (encode f (encode g [])), length_encode f (encode g []))

pub parse_encode : {r : Sort} (f : Formula r) (s : List ℕ) (k at : ℕ) (l : List ℕ) → drop at s ≡ encode f l → nesting f ≤ k
    → parse_tree s k at ≡ record { tree = to_tree f; end = at + length (encode f []) }
parse_encode = by_shape Stands leaf_stands one_stands two_stands
