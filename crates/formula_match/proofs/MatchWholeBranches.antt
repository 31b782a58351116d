-- The ways through the matcher where nobody asks for the formula's end, one law for each.
use Prim.Native.Nat.{ℕ, ◌-◌}
use mathlib.Core.Path.{◌≡◌, refl, ap, ◌∙◌}
use mathlib.Core.List.{List}
use Rattle.std.specs.Prelude.{Option, Some, None}
use Rattle.formula.specs.Tree.{parse_tree}
use Rattle.formula_match.specs.MatchPlaces.{root_at, match_at, whole_of, whole_at}
use Rattle.formula_match.specs.declared.bind.Bind.{Bind}
use Rattle.formula_match.specs.declared.bind.Rest.TheVariants.{Nothing, One, Two, Taken}
use Rattle.formula_match.specs.declared.bind.Root.{Root}
use Rattle.formula_match.specs.declared.matching.Match.{Match}
use Rattle.formula_match.specs.declared.matching_whole.Whole.{Whole}
use Rattle.formula_match.proofs.MatchBranches.{match_no, match_ended, match_open, match_one, match_first_no, match_two, parting}
use Rattle.limits.proofs.BranchTests.{tests}

module _ (s t : List ℕ) (i at k : ℕ) (b : Bind) (o : Option Root) (e : o ≡ root_at s t i at k b) where
  pub whole_no : o ≡ None → None ≡ whole_at s t k i at b
  unfolding whole_at
  whole_no f = ap whole_of (match_no s t i at k b o e f)

  module _ (r : Root) (f : o ≡ Some r) where
    pub whole_ended : (next : ℕ) → r.rest ≡ Nothing next → Some (record { tpl = r.tpl; bind = r.bind }) ≡ whole_at s t k i at b
    unfolding whole_at
    whole_ended next q = ap whole_of (match_ended s t i at k b o e r f next q)

    pub whole_open : r.rest ≡ Taken → Some (record { tpl = r.tpl; bind = r.bind }) ≡ whole_at s t k i at b
    unfolding whole_at
    whole_open q = ap whole_of (match_open s t i at k b o e r f (parse_tree s k at).end q refl)

    pub whole_one : (next : ℕ) (w : Option Whole) → r.rest ≡ One next → w ≡ whole_at s t (k - 1) r.tpl next r.bind → w ≡ whole_at s t k i at b
    unfolding whole_at
    whole_one next w q d = d ∙ ap whole_of (match_one s t i at k b o e r f next (match_at s t (k - 1) r.tpl next r.bind) q refl)

    module _ (next : ℕ) (m : Option Match) (q : r.rest ≡ Two next) (em : m ≡ match_at s t (k - 1) r.tpl next r.bind) where
      pub whole_first_no : m ≡ None → None ≡ whole_at s t k i at b
      unfolding whole_at
      whole_first_no g = ap whole_of (match_first_no s t i at k b o e r f next m q em g)

      pub whole_two : (x : Match) (w : Option Whole) → m ≡ Some x → w ≡ whole_at s t (k - 1) x.tpl x.next x.bind → w ≡ whole_at s t k i at b
      unfolding whole_at
      whole_two x w g d =
          d ∙ ap whole_of (match_two s t i at k b o e r f next m q em x (match_at s t (k - 1) x.tpl x.next x.bind) g refl)

pub ruleset match_whole_branches = (whole_no, whole_ended, whole_open, whole_one, whole_first_no, whole_two, parting)

-- what the matcher without the end is proved by
pub ruleset whole_ways = (match_whole_branches, tests)
