-- Conclusions by positions, matched against the bytes of templates, are conclusions by trees, matched against shapes.
use mathlib.Core.Path.{◌≡◌, refl, ap, sym, ◌∙◌, subst}
use mathlib.Core.Bool.{Bool, true, false, not, ◌&&◌, ◌||◌, cond}
use mathlib.Core.List.{List, [], ◌∷◌, map}
use Prim.Native.Nat.{ℕ, ◌+◌, ◌*◌, ◌/◌, ◌%◌}
use native.Mathlib.Omega.{arith}
use lib.ListN.{length}
use lib.Dec.{T, eqb}
use Rattle.std.specs.Prelude.{Option, None, Some, option_map}
use Rattle.logic_schemas.specs.Rules.{Shape}
use Rattle.limits.specs.Limits.{nesting}
use Rattle.formula.specs.Tree.{Tree, parse_tree}
use Rattle.formula_match.specs.Match.{match_t}
use Rattle.formula_match.specs.MatchPlaces.{match_at, whole_of, whole_at, then_whole, taken_of, proper}
use Rattle.formula_match.specs.declared.bind.Bind.{Bind}
use Rattle.formula_match.specs.declared.matching.Match.{Match}
use Rattle.formula_match.specs.declared.matching_whole.Whole.{Whole}
use Rattle.formula_match.proofs.TreesAgree.{Sized, given, bind_of, Stops, Follows, match_follows}
use Rattle.formula_trees.specs.StatementTree.{acted, placed, form_of}
use Rattle.rules_table.specs.FitTree.{left_of, right_of, match_sides, match_all}
use Rattle.rules_table.specs.RuleTable.{form_number, form_numbered, same_form}
use Rattle.rules_table.specs.TableTest.{packed}
use Rattle.rules_table.specs.declared.rule.Form.{Form}
use Rattle.rules_line.specs.Conclusion.{concluded_at, placed_at, match_conclusion, conclusion_at, conclusions_from, match_from}
use Rattle.rules_line.specs.declared.conclusion.Conclusion.{Conclusion}
use Rattle.rules_line.specs.declared.conclusion.Premises.{Premises}

none_some : {A Z : Type 0} (x : A) → ◌≡◌ {A = Option A} None (Some x) → Z
none_some x e = let q : ◌≡◌ {A = ℕ} 0 1 = cc in absurd (omega arith)

placed_same : (s : List ℕ) (form : Form) (t k : ℕ) (c : Conclusion)
    → placed (form_number form) t k (concluded_at s c) ≡ placed_at form t k c
unfolding placed_at
placed_same s form t k c = go (same_form c.form form) (acted (form_number form)) (eqb c.thread t) (eqb c.point k)
  where
    go : (a b d e : Bool) → (a && (not b || (d && e))) ≡ cond a (cond b (cond d e false) true) false
    go true true true e = refl
    go true true false e = refl
    go true false d e = refl
    go false b d e = refl

-- the position behind two templates
abbrev pub behind : List ℕ → ℕ → ℕ
behind t i = (parse_tree t nesting (parse_tree t nesting i).end).end

-- templates for the two sides stand at a position
pub record StandSides (t : List ℕ) (i : ℕ) (p q : Tree) : Type 0 where
  pub left : (parse_tree t nesting i).tree ≡ p
  pub right : (parse_tree t nesting (parse_tree t nesting i).end).tree ≡ q
  pub holes_left : T (proper p)
  pub holes_right : T (proper q)

-- those of a shape
abbrev pub Stands : List ℕ → ℕ → Shape → Type 0
Stands t i m = StandSides t i (left_of m) (right_of m)

-- the bindings of a match
abbrev pub bound : Option Whole → Option Bind
bound m = option_map (λ (x : Whole). x.bind) m

bound_whole : (m : Option Match) → bound (whole_of m) ≡ bind_of m
bound_whole None = refl
bound_whole (Some x) = refl

-- where a match stops, and the holes' tables have their size
pub record StopsAt (e : ℕ) (x : Whole) : Type 0 where
  pub tpl : x.tpl ≡ e
  pub sized : Sized x.bind

whole_stops : (e d : ℕ) (m : Option Match) → ((y : Match) → m ≡ Some y → Stops e d y) → (x : Whole) → whole_of m ≡ Some x → StopsAt e x
whole_stops e d None h x q = none_some x q
whole_stops e d (Some y) h x q =
    let p : ◌≡◌ {A = Whole} (record { tpl = y.tpl; bind = y.bind }) x = cc in
    subst (StopsAt e) p (record { tpl = (h y refl).tpl; sized = (h y refl).sized })

pub record SidesFollow (s t : List ℕ) (i thread point form : ℕ) (p q : Tree) (c : Conclusion) (b : Bind) (r : Option Whole) : Type 0 where
  pub same : match_sides thread point form p q (concluded_at s c) (taken_of s b) ≡ given s (bound r)
  pub stops : (x : Whole) → r ≡ Some x → StopsAt (behind t i) x

abbrev pub ConclusionFollows : List ℕ → List ℕ → ℕ → ℕ → ℕ → Shape → Conclusion → Bind → Option Whole → Type 0
ConclusionFollows s t i thread point m c b r = SidesFollow s t i thread point (form_of m) (left_of m) (right_of m) c b r

module _ (s t : List ℕ) (i thread point : ℕ) (form : Form) (p q : Tree) (c : Conclusion) (b : Bind) (z : Sized b)
    (st : StandSides t i p q) where
  abbrev first : Option Match
  first = match_at s t nesting i c.left b

  left_follows : Follows s t nesting i c.left b first
  left_follows = match_follows s t nesting i c.left b z (subst (λ u. T (proper u)) (sym st.left) st.holes_left)

  left_same : match_t p (parse_tree s nesting c.left).tree (taken_of s b) ≡ given s (bind_of first)
  left_same = subst (λ u. match_t u (parse_tree s nesting c.left).tree (taken_of s b) ≡ given s (bind_of first)) st.left left_follows.same

  module _ (x : Match) (e : first ≡ Some x) where
    abbrev second : Option Match
    second = match_at s t nesting x.tpl c.right x.bind

    left_stops : Stops (parse_tree t nesting i).end (parse_tree s nesting c.left).end x
    left_stops = left_follows.stops x e

    at_right : (parse_tree t nesting x.tpl).tree ≡ q
    at_right = ap (λ (k : ℕ). (parse_tree t nesting k).tree) left_stops.tpl ∙ st.right

    right_follows : Follows s t nesting x.tpl c.right x.bind second
    right_follows = match_follows s t nesting x.tpl c.right x.bind left_stops.sized
        (subst (λ u. T (proper u)) (sym at_right) st.holes_right)

    right_same : match_t q (parse_tree s nesting c.right).tree (taken_of s x.bind) ≡ given s (bound (whole_of second))
    right_same =
        subst (λ u. match_t u (parse_tree s nesting c.right).tree (taken_of s x.bind) ≡ given s (bind_of second)) at_right right_follows.same
        ∙ ap (given s) (sym (bound_whole second))

    right_stops : (y : Whole) → whole_of second ≡ Some y → StopsAt (behind t i) y
    right_stops y h =
        subst (λ k. StopsAt (parse_tree t nesting k).end y) left_stops.tpl
        (whole_stops (parse_tree t nesting x.tpl).end (parse_tree s nesting c.right).end second right_follows.stops y h)

  pub sides_follow : SidesFollow s t i thread point (form_number form) p q c b (match_conclusion s t i form thread point c b)
  unfolding match_conclusion whole_at
  sides_follow = go (placed_at form thread point c) refl first refl
    where
      go : (here : Bool) → placed_at form thread point c ≡ here → (m : Option Match) → first ≡ m
          → SidesFollow s t i thread point (form_number form) p q c b
          (cond here (then_whole (whole_of m) (λ x. whole_of (match_at s t nesting x.tpl c.right x.bind))) None)
      go false h m e = record { same = rw (placed_same s form thread point c, h); stops = λ x y. none_some x y }
      go true h None e = record { same = rw (placed_same s form thread point c, h, left_same, e); stops = λ x y. none_some x y }
      go true h (Some x) e = record {
        same = rw (placed_same s form thread point c, h, left_same, e) (right_same x e);
        stops = right_stops x e;
      }

pub conclusion_follows : (s t : List ℕ) (i thread point : ℕ) (m : Shape) (f : Form) → form_number f ≡ form_of m
    → (c : Conclusion) (b : Bind) → Sized b → Stands t i m
    → ConclusionFollows s t i thread point m c b (match_conclusion s t i f thread point c b)
conclusion_follows s t i thread point m f e c b z st =
    subst (λ (n : ℕ). SidesFollow s t i thread point n (left_of m) (right_of m) c b (match_conclusion s t i f thread point c b)) e
    (sides_follow s t i thread point f (left_of m) (right_of m) c b z st)

-- the templates of shapes stand one after the other
abbrev pub StandAll : List ℕ → ℕ → List Shape → Type 0
StandAll t i [] = Unit {0}
StandAll t i (m ∷ l) = Stands t i m × StandAll t (behind t i) l

form-of : (m : Shape) (q : ℕ) → (form_of m + 4 * q) % 4 ≡ form_of m
form-of (Shape.inside a b) q = omega arith
form-of (Shape.implies a b) q = omega arith
form-of (Shape.triple a b) q = omega arith
form-of (Shape.pair a b) q = omega arith

forms_left : (m : Shape) (q : ℕ) → (form_of m + 4 * q) / 4 ≡ q
forms_left (Shape.inside a b) q = omega arith
forms_left (Shape.implies a b) q = omega arith
forms_left (Shape.triple a b) q = omega arith
forms_left (Shape.pair a b) q = omega arith

numbered_back : (m : Shape) → form_number (form_numbered (form_of m)) ≡ form_of m
numbered_back (Shape.inside a b) = refl
numbered_back (Shape.implies a b) = refl
numbered_back (Shape.triple a b) = refl
numbered_back (Shape.pair a b) = refl

module _ (s t : List ℕ) (thread point : ℕ) (p : Premises) where
  abbrev pub FromFollows : List Shape → ℕ → Bind → Option Whole → Type 0
  FromFollows l j b r = match_all thread point l (map (concluded_at s) (conclusions_from p (length l) j)) (taken_of s b) ≡ given s (bound r)

  module _ (m : Shape) (l : List Shape) (i j : ℕ) (b : Bind) (z : Sized b) (st : Stands t i m) where
    abbrev one : Option Whole
    one = match_conclusion s t i (form_numbered (form_of m)) thread point (conclusion_at p j) b

    abbrev rest : Whole → Option Whole
    rest w = match_from s t thread point p (length l) w.tpl (packed l) (j + 1) w.bind

    one_follows : ConclusionFollows s t i thread point m (conclusion_at p j) b one
    one_follows = conclusion_follows s t i thread point m (form_numbered (form_of m)) (numbered_back m) (conclusion_at p j) b z st

    more_follow : (o : Option Whole) → one ≡ o → ((w : Whole) → one ≡ Some w → FromFollows l (j + 1) w.bind (rest w))
        → FromFollows (m ∷ l) j b (then_whole o rest)
    more_follow None e g = rw (one_follows.same, e)
    more_follow (Some w) e g = rw (one_follows.same, e) (g w e)

  pub from_follows : (l : List Shape) (i j : ℕ) (b : Bind) → Sized b → StandAll t i l
      → FromFollows l j b (match_from s t thread point p (length l) i (packed l) j b)
  unfolding match_from
  from_follows [] i j b z st = refl
  from_follows (m ∷ l) i j b z st =
      rw (form-of m (packed l), forms_left m (packed l))
      (more_follow m l i j b z st.0 (one m l i j b z st.0) refl
      (λ w e. let d = (one_follows m l i j b z st.0).stops w e in
      from_follows l w.tpl (j + 1) w.bind d.sized (subst (λ k. StandAll t k l) (sym d.tpl) st.1)))
