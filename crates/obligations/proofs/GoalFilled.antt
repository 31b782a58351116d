-- Where every hole is set, the matcher compares with the templates filled.
use mathlib.Core.Path.{◌≡◌, refl, ap, sym, ◌∙◌, subst}
use mathlib.Core.Bool.{Bool, ◌&&◌}
use mathlib.Core.Option.{some}
use mathlib.Core.List.{List}
use Prim.Native.Nat.{ℕ}
use native.Mathlib.Omega.{arith}
use lib.Dec.{T}
use Rattle.std.specs.Prelude.{Option, None, Some, is_some}
use Rattle.semantics.proofs.Base.{bool_ext, and_left, and_right, and_both}
use Rattle.formula.specs.Tree.{Tree}
use Rattle.formula_compare.specs.Same.{same_tree}
use Rattle.formula_trees.proofs.TreeAgree.{tree_eq, tree_refl}
use Rattle.formula_match.specs.Template.{Holes, inst_t}
use Rattle.formula_match.specs.Match.{Taken}
use Rattle.formula_match.specs.MatchPlaces.{taken_of}
use Rattle.formula_match.specs.declared.bind.Bind.{Bind}
use Rattle.formula_match.specs.declared.matching_whole.Whole.{Whole}
use Rattle.formula_match.proofs.MatchFills.{Has}
use Rattle.formula_match.proofs.TreesAgree.{Sized, given}
use Rattle.formula_trees.specs.StatementTree.{TreeConclusion, placed}
use Rattle.rules_table.specs.FitTree.{holes_from}
use Rattle.rules_table.proofs.FitTreeAgrees.{FitSides, sides_sound, sides_goes, has_from}
use Rattle.rules_line.specs.Conclusion.{concluded_at, match_conclusion}
use Rattle.rules_line.specs.declared.conclusion.Conclusion.{Conclusion}
use Rattle.rules_table.specs.RuleTable.{form_number}
use Rattle.rules_table.specs.declared.rule.Form.{Form}
use Rattle.rules_line.proofs.ConclusionAgrees.{StandSides, bound, sides_follow}

given_some : (s : List ℕ) (r : Option Whole) (z : Taken) → given s (bound r) ≡ some z → T (is_some r)
given_some s (Some x) z e = tt
given_some s None z e = let q : ◌≡◌ {A = ℕ} 0 1 = cc in absurd (omega arith)

some_of : (r : Option Whole) → T (is_some r) → (x : Whole) × (r ≡ Some x)
some_of (Some x) o = (x, refl)
some_of None o = absurd o

module _ (s t : List ℕ) (i thread point : ℕ) (form : Form) (p q : Tree) (b : Bind) (c : Conclusion) where
  abbrev v : TreeConclusion
  v = concluded_at s c

  abbrev f : ℕ
  f = form_number form

  abbrev result : Option Whole
  result = match_conclusion s t i form thread point c b

  abbrev taken : Taken
  taken = taken_of s b

  abbrev filling : Holes
  filling = holes_from taken

  -- whatever fills the holes that are set fills the templates alike
  abbrev pub Settled : Type 0
  Settled = (d : Holes) → Has d taken → (inst_t d p ≡ inst_t filling p) × (inst_t d q ≡ inst_t filling q)

  module _ (z : Sized b) (st : StandSides t i p q) (set : Settled) where
    sound : (x : Whole) → result ≡ Some x → FitSides filling thread point f p q v
    sound x h =
        let e = (sides_follow s t i thread point form p q c b z st).same ∙ ap (λ (r : Option Whole). given s (bound r)) h in
        let y = sides_sound (holes_from (taken_of s x.bind)) thread point f p q v taken (taken_of s x.bind) e
        (has_from (taken_of s x.bind)) in
        let g = set (holes_from (taken_of s x.bind)) y.0 in
        record { placed = y.1.placed; left = sym g.0 ∙ y.1.left; right = sym g.1 ∙ y.1.right }

    goes : FitSides filling thread point f p q v → T (is_some result)
    goes g =
        let x = sides_goes filling thread point f p q v taken g (has_from taken) in
        given_some s result x.to (sym (sides_follow s t i thread point form p q c b z st).same ∙ x.is)

    abbrev left_same : Bool
    left_same = same_tree (inst_t filling p) v.left

    abbrev right_same : Bool
    right_same = same_tree (inst_t filling q) v.right

    pub filled_is : is_some result ≡ (placed f thread point v && (left_same && right_same))
    filled_is =
        bool_ext (is_some result) (placed f thread point v && (left_same && right_same))
        (λ o. let y = some_of result o in
        let g = sound y.0 y.1 in
        and_both (placed f thread point v) (left_same && right_same) g.placed
        (and_both left_same right_same (subst (λ (u : Tree). T (same_tree (inst_t filling p) u)) g.left (tree_refl (inst_t filling p)))
        (subst (λ (u : Tree). T (same_tree (inst_t filling q) u)) g.right (tree_refl (inst_t filling q)))))
        (λ h. let k = and_right (placed f thread point v) (left_same && right_same) h in
        goes
        (record {
          placed = and_left (placed f thread point v) (left_same && right_same) h;
          left = tree_eq (inst_t filling p) v.left (and_left left_same right_same k);
          right = tree_eq (inst_t filling q) v.right (and_right left_same right_same k);
        }))
