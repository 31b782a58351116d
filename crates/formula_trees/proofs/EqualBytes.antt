-- Formulas that the reader passes have equal trees exactly if they have equal bytes, whatever their sorts.
use mathlib.Core.Path.{◌≡◌, refl, ap, sym, ◌∙◌}
use mathlib.Core.Bool.{Bool, true, false, cond}
use mathlib.Core.List.{List, [], ◌∷◌}
use Prim.Native.Nat.{ℕ, ◌<◌, max}
use native.Mathlib.Omega.{arith}
use lib.ListN.{length, take, drop}
use lib.Seq.{length-take-le, take-append_seam, take-add, drop_at}
use Rattle.semantics.specs.Formula.{Sort, Formula, encode, nesting}
use Rattle.formula.specs.Codes.{has_operand}
use Rattle.formula.specs.Tree.{Tree, none, node, ParsedTree, parse_tree}
use Rattle.formula.specs.Reader.{fault_at}
use Rattle.formula.specs.declared.reader.Counts.{Counts}
use Rattle.formula_trees.specs.ToTree.{to_tree}
use Rattle.formula_trees.specs.Place.{formula_at, bytes_at}
use Rattle.formula_trees.proofs.Constructors.{after, operand, by_shape}
use Rattle.formula_trees.proofs.NodeBytes.{head, head_fine}
use Rattle.formula_trees.proofs.ReadFormula.{Passed, passed, is_formula}
use Rattle.formula_trees.proofs.EncodedTree.{size, encode_append, parse_encode}

-- a tree's bytes before other bytes: those of its formula, whatever the sort
abbrev bytes_of : Tree → List ℕ → List ℕ
bytes_of none l = l
bytes_of (node c o t u) l = after c o (bytes_of t (bytes_of u l))

after_operand : (c o : ℕ) (l : List ℕ) → after c o l ≡ after c (operand c o) l
after_operand c o l = go (has_operand c)
  where
    go : (b : Bool) → c ∷ cond b (o ∷ l) l ≡ c ∷ cond b (cond b o 0 ∷ l) l
    go true = refl
    go false = refl

encode_to_tree : {s : Sort} (f : Formula s) (l : List ℕ) → encode f l ≡ bytes_of (to_tree f) l
encode_to_tree = by_shape (λ s f. (l : List ℕ) → encode f l ≡ bytes_of (to_tree f) l)
    (λ c p t o l. t.bytes o l ∙ after_operand c o l ∙ rw (t.tree o))
    (λ c p q t o f h l. t.bytes o f l ∙ ap (after c o) (h l) ∙ after_operand c o (bytes_of (to_tree f) l) ∙ rw (t.tree o f))
    (λ c p q t f g h k l. t.bytes 0 f g l ∙ ap (after c 0) (h (encode g l) ∙ ap (bytes_of (to_tree f)) (k l))
    ∙ after_operand c 0 (bytes_of (to_tree f) (bytes_of (to_tree g) l)) ∙ rw (t.tree 0 f g))

module _ {r q : Sort} (f : Formula r) (g : Formula q) where
  pub tree_bytes : to_tree f ≡ to_tree g → encode f [] ≡ encode g []
  tree_bytes e = encode_to_tree f [] ∙ ap (λ (t : Tree). bytes_of t []) e ∙ sym (encode_to_tree g [])

  pub bytes_tree : encode f [] ≡ encode g [] → to_tree f ≡ to_tree g
  bytes_tree e =
      let k : ℕ = max (nesting f) (nesting g) in
      ap (λ (u : ParsedTree). u.tree) (sym (parse_encode f (encode f []) k 0 [] refl (omega arith))
      ∙ parse_encode g (encode f []) k 0 [] e (omega arith))

-- the bytes of what is passed
pub reads_bytes : (s : List ℕ) (n : Counts) (k p at : ℕ) → fault_at s n k p at ≡ 0
    → drop at s ≡ encode (formula_at s k p at) (drop (parse_tree s k at).end s)
reads_bytes s n k p at h = go (passed s n k p at h)
  where
    go : Passed s n k p at → drop at s ≡ encode (formula_at s k p at) (drop (parse_tree s k at).end s)
    go q = rw (is_formula s n k p at q) q.bytes

passed_bytes : (s : List ℕ) (n : Counts) (k p at : ℕ) (q : Passed s n k p at) → at < length s → bytes_at s k at ≡ encode q.formula []
passed_bytes s n k p at q h =
    let f = q.formula in
    let l : List ℕ = drop (parse_tree s k at).end s in
    rw (parse_encode f s k at l q.bytes q.deep, take-add at (size f) s)
    (drop_at (take at s) (take (size f) (drop at s)) at (length-take-le at s (omega arith))
    ∙ ap (take (size f)) (q.bytes ∙ sym (encode_append f [] l)) ∙ take-append_seam (encode f []) l)

module _ (s : List ℕ) (n : Counts) (k p at : ℕ) (h : fault_at s n k p at ≡ 0) (t : List ℕ) (m : Counts) (j q to : ℕ)
    (g : fault_at t m j q to ≡ 0) where
  here : Passed s n k p at
  here = passed s n k p at h

  there : Passed t m j q to
  there = passed t m j q to g

  here_bytes : bytes_at s k at ≡ encode here.formula []
  here_bytes = passed_bytes s n k p at here (head s n p at (head_fine s n k p at h)).0

  there_bytes : bytes_at t j to ≡ encode there.formula []
  there_bytes = passed_bytes t m j q to there (head t m q to (head_fine t m j q to g)).0

  pub same_bytes : (parse_tree s k at).tree ≡ (parse_tree t j to).tree → bytes_at s k at ≡ bytes_at t j to
  same_bytes e = here_bytes ∙ tree_bytes here.formula there.formula (sym here.tree ∙ e ∙ there.tree) ∙ sym there_bytes

  pub same_trees : bytes_at s k at ≡ bytes_at t j to → (parse_tree s k at).tree ≡ (parse_tree t j to).tree
  same_trees e = here.tree ∙ bytes_tree here.formula there.formula (sym here_bytes ∙ e ∙ there_bytes) ∙ sym there.tree
