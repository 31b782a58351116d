-- Trees and formulas: reading a formula's tree gives the formula; comparison agrees.
use mathlib.Core.Path.{◌≡◌, refl, ap, ap₂, sym, ◌∙◌, subst}
use mathlib.Core.Bool.{◌&&◌}
use lib.Dec.{T, eqb, eqb→eq, eqb_refl}
use Rattle.semantics.specs.Formula.{Sort, Formula, same, Formula.const, Formula.reg, Formula.word, Formula.sum, Formula.equal, Formula.less, Formula.and, Formula.or, Formula.unsync, Formula.cov, Formula.box, Formula.one, Formula.chop, Formula.both, Formula.either, Formula.sees, Formula.both_a, Formula.either_a, Formula.start, Formula.holds}
use Rattle.semantics.proofs.Base.{bool_ext, and_left, and_right, and_both}
use Rattle.semantics.proofs.Encoding.{same_eq, same_refl}
use Rattle.formula.specs.Tree.{Tree, none, node}
use Rattle.formula_compare.specs.Same.{same_tree}
use Rattle.formula_trees.specs.ToTree.{to_tree, of_tree, Sorted}

pub of_tree_to_tree : {s : Sort} (f : Formula s) → of_tree s (to_tree f) ≡ f
of_tree_to_tree (const n) = refl
of_tree_to_tree (reg n) = refl
of_tree_to_tree (word n) = refl
of_tree_to_tree (sum f g) = ap₂ sum (of_tree_to_tree f) (of_tree_to_tree g)
of_tree_to_tree Formula.false = refl
of_tree_to_tree (equal f g) = ap₂ equal (of_tree_to_tree f) (of_tree_to_tree g)
of_tree_to_tree (less f g) = ap₂ less (of_tree_to_tree f) (of_tree_to_tree g)
of_tree_to_tree (Formula.not f) = ap Formula.not (of_tree_to_tree f)
of_tree_to_tree (and f g) = ap₂ and (of_tree_to_tree f) (of_tree_to_tree g)
of_tree_to_tree (or f g) = ap₂ or (of_tree_to_tree f) (of_tree_to_tree g)
of_tree_to_tree (unsync n) = refl
of_tree_to_tree (cov n) = refl
of_tree_to_tree (box f) = ap box (of_tree_to_tree f)
of_tree_to_tree (one n) = refl
of_tree_to_tree (chop f g) = ap₂ chop (of_tree_to_tree f) (of_tree_to_tree g)
of_tree_to_tree (both f g) = ap₂ both (of_tree_to_tree f) (of_tree_to_tree g)
of_tree_to_tree (either f g) = ap₂ either (of_tree_to_tree f) (of_tree_to_tree g)
of_tree_to_tree (sees n f) = ap (sees n) (of_tree_to_tree f)
of_tree_to_tree (both_a f g) = ap₂ both_a (of_tree_to_tree f) (of_tree_to_tree g)
of_tree_to_tree (either_a f g) = ap₂ either_a (of_tree_to_tree f) (of_tree_to_tree g)
of_tree_to_tree start = refl
of_tree_to_tree (holds f) = ap holds (of_tree_to_tree f)

pub to_tree_sorted : {s : Sort} (f : Formula s) → Sorted s (to_tree f)
to_tree_sorted f = ap to_tree (of_tree_to_tree f)

pub to_tree_eq : {s : Sort} (f g : Formula s) → to_tree f ≡ to_tree g → f ≡ g
to_tree_eq {s} f g e = sym (of_tree_to_tree f) ∙ ap (of_tree s) e ∙ of_tree_to_tree g

-- trees that are the same are equal
pub tree_eq : (t u : Tree) → T (same_tree t u) → t ≡ u
unfolding same_tree
tree_eq none none h = refl
tree_eq none (node d p m s) h = absurd h
tree_eq (node c o l r) none h = absurd h
tree_eq (node c o l r) (node d p m s) h =
    go (eqb→eq c d (search and_left)) (eqb→eq o p (search (and_left, and_right))) (tree_eq l m (search (and_left, and_right)))
    (tree_eq r s (search (and_left, and_right)))
  where
    go : c ≡ d → o ≡ p → l ≡ m → r ≡ s → node c o l r ≡ node d p m s
    go a b c d = cc

pub tree_refl : (t : Tree) → T (same_tree t t)
unfolding same_tree
tree_refl none = tt
tree_refl (node c o l r) =
    and_both (eqb c c) (eqb o o && (same_tree l l && same_tree r r)) (eqb_refl c)
    (and_both (eqb o o) (same_tree l l && same_tree r r) (eqb_refl o) (and_both (same_tree l l) (same_tree r r) (tree_refl l) (tree_refl r)))

-- comparison
pub to_tree_same : {s : Sort} (f g : Formula s) → same_tree (to_tree f) (to_tree g) ≡ same f g
to_tree_same f g =
    bool_ext (same_tree (to_tree f) (to_tree g)) (same f g)
    (λ h. subst (λ z. T (same f z)) (to_tree_eq f g (tree_eq (to_tree f) (to_tree g) h)) (same_refl f))
    (λ h. subst (λ z. T (same_tree (to_tree f) (to_tree z))) (same_eq f g h) (tree_refl (to_tree f)))
