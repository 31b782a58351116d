-- The matcher by positions: a template and a formula in their bytes, the holes bound to positions.
use Rattle.std.specs.Prelude.{ℕ, zero, suc, ◌+◌, ◌-◌, List, Bool, true, false, ◌&&◌, cond, get_or, set, ltb, eqb, Option, Some, None, option_map}
use Rattle.std.proofs.Math.Option.{none, some}
use Rattle.formula.specs.Codes.{has_operand}
use Rattle.formula.specs.Tree.{Tree, parse_tree, node_at}
use Rattle.formula.specs.declared.node.Node.{Node}
use Rattle.formula_compare.specs.Same.{same_of}
use Rattle.formula_match.specs.Template.{first_hole, first_number}
use Rattle.formula_match.specs.Match as Match
use Rattle.formula_match.specs.declared.bind.Bind.{Bind}
use Rattle.formula_match.specs.declared.bind.Rest.{Rest}
use Rattle.formula_match.specs.declared.bind.Rest.TheVariants.{Nothing, One, Two, Taken}
use Rattle.formula_match.specs.declared.bind.Root.{Root}
use Rattle.formula_match.specs.declared.matching.Match.{Match}
use Rattle.formula_match.specs.declared.matching_whole.Whole.{Whole}

-- the number of holes for formulas, and of those for numbers
abbrev pub hole_count : ℕ
hole_count = 5

-- a hole is bound to the formula; where it ends is not known yet
abbrev pub opened : ℕ → Bind → Root
opened tpl b = record { tpl = tpl; rest = Taken; bind = b }

-- a bound hole, by the comparison of its formula with this one
abbrev pub held_at : Bind → ℕ → Option (ℕ × ℕ) → Option Root
held_at b tpl None = None
held_at b tpl (Some x) = Some (record { tpl = tpl; rest = Nothing x.1; bind = b })

-- two formulas are at one position, with the same nesting left
unfoldable pub is_there : ℕ → ℕ → ℕ → ℕ → Bool
is_there p m q k = cond (eqb p q) (eqb m k) false

-- the hole j with the formula at a position: bound if it is free, else compared
unfoldable pub hole_at : List ℕ → ℕ → ℕ → ℕ → ℕ → Bind → Option Root
hole_at s tpl j at k b =
    cond (eqb (get_or b.left j 0) 0)
    (Some (opened tpl (record { at = set b.at j at; left = set b.left j k; num = b.num })))
    (cond (is_there (get_or b.at j 0) (get_or b.left j 0) at k) (Some (opened tpl b))
    (held_at b tpl (same_of (parse_tree s (get_or b.left j 0) (get_or b.at j 0)) (parse_tree s k at))))

-- the bindings, if the test is passed
abbrev pub kept : Bool → Bind → Option Bind
kept c b = cond c (Some b) None

-- an operand of a template with one of a formula: the bindings, if it fits
unfoldable pub operand_of : ℕ → ℕ → Bind → Option Bind
operand_of want has b =
    cond (ltb want first_number)
    (cond (ltb want hole_count)
    (cond (eqb (get_or b.num want 0) 0)
    (Some (record { at = b.at; left = b.left; num = set b.num want (has + 1) }))
    (kept (eqb (get_or b.num want 0) (has + 1)) b))
    None)
    (kept (eqb (want - first_number) has) b)

-- what is left to match behind a node: no part, one, or two
abbrev pub rest_of : Node → Rest
rest_of x = cond (eqb x.parts 0) (Nothing x.next) (cond (eqb x.parts 1) (One x.next) (Two x.next))

-- two equal nodes, and the parts that are left to match
abbrev pub rooted : Node → Node → Bind → Root
rooted h x b = record { tpl = h.next; rest = rest_of x; bind = b }

-- a node of a template that is no hole with a node of a formula
unfoldable pub node_of : Node → Node → Bind → Option Root
node_of h x b =
    cond (eqb h.code x.code)
    (option_map (λ b'. rooted h x b') (cond (has_operand h.code) (operand_of h.operand x.operand b) (Some b)))
    None

-- the root of the template at i with the root of the formula at a position
unfoldable pub root_at : List ℕ → List ℕ → ℕ → ℕ → ℕ → Bind → Option Root
root_at s t i at k b =
    cond (eqb k 0) (Some (record { tpl = i; rest = Nothing at; bind = b }))
    (cond (ltb (node_at t i).code first_hole) (node_of (node_at t i) (node_at s at) b)
    (cond (ltb ((node_at t i).code - first_hole) hole_count) (hole_at s (node_at t i).next ((node_at t i).code - first_hole) at k b) None))

-- f, if the match succeeded
abbrev pub then_match : Option Match → (Match → Option Match) → Option Match
then_match None f = None
then_match (Some m) f = f m

-- the match of what is left behind a root: the parts are matched by f one after the other; a hole ends where the formula does
abbrev pub grown_by : (ℕ → ℕ → Bind → Option Match) → ℕ → ℕ → Bind → Rest → Option Match
grown_by f end tpl b (Nothing next) = Some (record { tpl = tpl; next = next; bind = b })
grown_by f end tpl b Taken = Some (record { tpl = tpl; next = end; bind = b })
grown_by f end tpl b (One next) = f tpl next b
grown_by f end tpl b (Two next) = then_match (f tpl next b) (λ m. f m.tpl m.next m.bind)

-- the match of the whole from that of the roots
abbrev pub grown : (ℕ → ℕ → Bind → Option Match) → ℕ → Option Root → Option Match
grown f end None = None
grown f end (Some r) = grown_by f end r.tpl r.bind r.rest

-- the template at i with the formula at a position, nested at most k deep
unfoldable pub match_at : List ℕ → List ℕ → ℕ → ℕ → ℕ → Bind → Option Match
match_at s t zero i at b = Some (record { tpl = i; next = at; bind = b })
match_at s t (suc k) i at b = grown (λ i' at' b'. match_at s t k i' at' b') (parse_tree s (suc k) at).end (root_at s t i at (suc k) b)

-- a match without the formula's end
abbrev pub whole_of : Option Match → Option Whole
whole_of m = option_map (λ (m : Match). record { tpl = m.tpl; bind = m.bind }) m

-- the template at i with the formula at a position, without the formula's end
unfoldable pub whole_at : List ℕ → List ℕ → ℕ → ℕ → ℕ → Bind → Option Whole
whole_at s t k i at b = whole_of (match_at s t k i at b)

-- f, if the match succeeded
abbrev pub then_whole : Option Whole → (Whole → Option Whole) → Option Whole
then_whole None f = None
then_whole (Some m) f = f m

-- the bindings as trees and numbers
abbrev pub taken_of : List ℕ → Bind → Match.Taken
taken_of s b = record {
  num = λ j. cond (eqb (get_or b.num j 0) 0) none (some (get_or b.num j 0 - 1));
  tree = λ j. cond (eqb (get_or b.left j 0) 0) none (some (parse_tree s (get_or b.left j 0) (get_or b.at j 0)).tree);
}

-- a template has only holes that exist
unfoldable pub proper : Tree → Bool
proper Tree.none = true
proper (Tree.node d o l r) =
    cond (ltb d first_hole) (cond (has_operand d) (cond (ltb o first_number) (ltb o hole_count) true) true && (proper l && proper r))
    (ltb (d - first_hole) hole_count)
