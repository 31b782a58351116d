-- THE TEST OF A ROW: no two of its holes have one number, and its side conditions ask of holes that stand in the line or its premises. It
-- computes, and every row of the table of rules passes it.
use mathlib.Core.Path.{◌≡◌, refl, ap, ap₂, sym, ◌∙◌, subst}
use mathlib.Core.Bool.{Bool, true, false, not, cond, ◌&&◌, ◌||◌}
use mathlib.Core.List.{List, [], ◌∷◌, ◌++◌}
use Prim.Native.Nat.{ℕ}
use lib.Dec.{T, eqb, eqb→eq}
use lib.ListN.{get_or}
use Rattle.semantics.specs.Base.{all, All}
use Rattle.semantics.specs.Formula.{Sort}
use Rattle.semantics.proofs.Base.{and_left, and_right}
use Rattle.logic_schemas.specs.Pattern
use Rattle.logic_schemas.specs.Pattern.{Num, Pattern, Given, Fill}
use Rattle.logic.specs.Rule.{Rule}
use Rattle.logic.proofs.EachRule.{each_rule}
use Rattle.logic_schemas.specs.Rules.{Shape, Shape.inside, Shape.implies, Shape.triple, Shape.pair, Premises, these, implications, Side, ◌is◌with◌, start_of, starts_at_0, is_new, kept, lacks_x, no_flag, by_rows, by_table, Row, row}
use Rattle.formula.specs.Tree.{Tree}
use Rattle.formula_trees.specs.ToTree.{to_tree}
use Rattle.formula_match.specs.Template.{formula_hole, num_hole, shapes, Holes}
use Rattle.rules_table.proofs.HolesAgree.{Hole, Hole.formula, Hole.num, Hole.operand, holes, fill_at, At}

-- sorts and numbers, told apart by numbers of their own
abbrev pub sort_number : Sort → ℕ
sort_number Sort.value = 0
sort_number Sort.test = 1
sort_number Sort.interval = 2
sort_number Sort.assertion = 3

abbrev sort_of : ℕ → Sort
sort_of n = get_or (Sort.value ∷ Sort.test ∷ Sort.interval ∷ []) n Sort.assertion

sort_back : (s : Sort) → sort_of (sort_number s) ≡ s
sort_back Sort.value = refl
sort_back Sort.test = refl
sort_back Sort.interval = refl
sort_back Sort.assertion = refl

abbrev num_of : ℕ → Num
num_of n = get_or (Pattern.t ∷ Pattern.x ∷ Pattern.r ∷ Pattern.u ∷ []) n Pattern.y

num_back : (n : Num) → num_of (num_hole n) ≡ n
num_back Pattern.t = refl
num_back Pattern.x = refl
num_back Pattern.r = refl
num_back Pattern.u = refl
num_back Pattern.y = refl

abbrev pub same_hole : Hole → Hole → Bool
same_hole (formula s k) (formula r j) = eqb (sort_number s) (sort_number r) && eqb k j
same_hole (formula s k) (num n) = false
same_hole (formula s k) operand = false
same_hole (num n) (formula r j) = false
same_hole (num n) (num m) = eqb (num_hole n) (num_hole m)
same_hole (num n) operand = false
same_hole operand (formula r j) = false
same_hole operand (num m) = false
same_hole operand operand = true

hole_eq : (a b : Hole) → T (same_hole a b) → a ≡ b
hole_eq (formula s k) (formula r j) h =
    ap₂ formula
    (sym (sort_back s) ∙ ap sort_of (eqb→eq (sort_number s) (sort_number r) (and_left (eqb (sort_number s) (sort_number r)) (eqb k j) h))
    ∙ sort_back r)
    (eqb→eq k j (and_right (eqb (sort_number s) (sort_number r)) (eqb k j) h))
hole_eq (formula s k) (num n) h = absurd h
hole_eq (formula s k) operand h = absurd h
hole_eq (num n) (formula r j) h = absurd h
hole_eq (num n) (num m) h = ap num (sym (num_back n) ∙ ap num_of (eqb→eq (num_hole n) (num_hole m) h) ∙ num_back m)
hole_eq (num n) operand h = absurd h
hole_eq operand (formula r j) h = absurd h
hole_eq operand (num m) h = absurd h
hole_eq operand operand h = refl

abbrev pub is_in : List Hole → Hole → Bool
is_in [] h = false
is_in (x ∷ l) h = same_hole x h || is_in l h

-- what holds of every hole of a list holds of those that are in it
at_in : (Q : Hole → Type 0) (l : List Hole) (h : Hole) → All Q l → T (is_in l h) → Q h
at_in Q [] h a i = absurd i
at_in Q (x ∷ l) h a i = go (same_hole x h) refl i (λ w. at_in Q l h a.1 w)
  where
    go : (b : Bool) → same_hole x h ≡ b → T (b || is_in l h) → (T (is_in l h) → Q h) → Q h
    go true e w f = subst Q (hole_eq x h (subst T (sym e) tt)) a.0
    go false e w f = f w

pub all_in : (Q : Hole → Type 0) (l m : List Hole) → All Q l → T (all (is_in l) m) → All Q m
all_in Q l [] a i = tt
all_in Q l (h ∷ m) a i =
    (at_in Q l h a (and_left (is_in l h) (all (is_in l) m) i), all_in Q l m a (and_right (is_in l h) (all (is_in l) m) i))

abbrev pub shape_holes : Shape → List Hole
shape_holes (inside p q) = holes p ++ holes q
shape_holes (implies p q) = holes p ++ holes q
shape_holes (triple p q) = holes p ++ holes q
shape_holes (pair p q) = holes p ++ holes q

abbrev pub premise_holes : List Shape → List Hole
premise_holes [] = []
premise_holes (m ∷ l) = shape_holes m ++ premise_holes l

abbrev pub row_holes : Row → List Hole
row_holes R = shape_holes R.says ++ premise_holes (shapes R.premises)

-- the first hole for a formula that has a number
abbrev pub first_at : List Hole → ℕ → Hole
first_at [] j = operand
first_at (formula s k ∷ l) j = cond (eqb k j) (formula s k) (first_at l j)
first_at (num n ∷ l) j = first_at l j
first_at (operand ∷ l) j = first_at l j

abbrev pub single : List Hole → Hole → Bool
single l (formula s k) = not (eqb k formula_hole) && same_hole (first_at l k) (formula s k)
single l (num n) = true
single l operand = true

abbrev pub is_test_hole : Pattern Sort.test → Bool
is_test_hole (Pattern.any_e k) = true
is_test_hole (Pattern.equal p q) = false
is_test_hole (Pattern.and p q) = false
is_test_hole (Pattern.unsync n) = false
is_test_hole (Pattern.cov n) = false

abbrev pub is_implies : Shape → Bool
is_implies (inside p q) = false
is_implies (implies p q) = true
is_implies (triple p q) = false
is_implies (pair p q) = false

abbrev pub is_any : Premises → Bool
is_any (these l) = false
is_any implications = true

abbrev pub side_right : Row → Side → Bool
side_right R (p is q with b) = all (is_in (row_holes R)) (holes p ++ holes q)
side_right R (start_of n p) = all (is_in (row_holes R)) (num n ∷ holes p)
side_right R (starts_at_0 n) = all (is_in (row_holes R)) (num n ∷ [])
side_right R (is_new p) = all (is_in (row_holes R)) (holes p)
side_right R (kept p) = all (is_in (row_holes R)) (holes p)
side_right R (lacks_x p) = all (is_in (row_holes R)) (holes p)
side_right R (no_flag p) = all (is_in (row_holes R)) (holes p)
side_right R (by_rows p q) = (is_test_hole p && is_test_hole q) && all (is_in (shape_holes R.says)) (holes p ++ holes q)
side_right R by_table = is_implies R.says && is_any R.premises

abbrev pub row_right : Row → Bool
row_right R = all (single (row_holes R)) (row_holes R) && all (side_right R) R.sides

-- THE HOLES OF A ROW, filled as a filling of patterns says
module _ (g : Given) (σ : Fill) where
  abbrev pub tree_at : Hole → ℕ → Tree
  tree_at (formula s k) j = to_tree (fill_at σ s j)
  tree_at (num n) j = Tree.none
  tree_at operand j = Tree.none

  abbrev pub filled_holes : List Hole → Holes
  filled_holes l = record {
    num = λ j. get_or (g.t ∷ g.x ∷ g.r ∷ σ.u ∷ σ.y ∷ []) j 0;
    tree = λ j. elim (eqb j formula_hole) [ true ↦ to_tree g.f | false ↦ tree_at (first_at l j) j ];
  }

  filled_at : (l : List Hole) (h : Hole) → T (single l h) → At g σ (filled_holes l) h
  filled_at l (formula s k) i = go (eqb k formula_hole) i
    where
      go : (b : Bool) → T (not b && same_hole (first_at l k) (formula s k))
          → ◌≡◌ {A = Tree} (elim b [ true ↦ to_tree g.f | false ↦ tree_at (first_at l k) k ]) (to_tree (fill_at σ s k))
      go true w = absurd w
      go false w = ap (λ (h : Hole). tree_at h k) (hole_eq (first_at l k) (formula s k) w)
  filled_at l (num Pattern.t) i = refl
  filled_at l (num Pattern.x) i = refl
  filled_at l (num Pattern.r) i = refl
  filled_at l (num Pattern.u) i = refl
  filled_at l (num Pattern.y) i = refl
  filled_at l operand i = refl

  pub all_filled : (l m : List Hole) → T (all (single l) m) → All (At g σ (filled_holes l)) m
  all_filled l [] i = tt
  all_filled l (h ∷ m) i =
      (filled_at l h (and_left (single l h) (all (single l) m) i), all_filled l m (and_right (single l h) (all (single l) m) i))

-- every row of the table
pub rows_right : (n : Rule) → T (row_right (row n))
rows_right = each_rule (λ n. row_right (row n)) tt
