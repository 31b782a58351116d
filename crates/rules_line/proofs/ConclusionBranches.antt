-- Conclusions against templates: the ways through the functions, one law for each.
use mathlib.Core.Path.{◌≡◌, sym}
use mathlib.Core.Bool.{Bool, true, false}
use mathlib.Core.List.{List}
use Prim.Native.Nat.{ℕ, suc, ◌+◌, ◌-◌, ◌/◌, ◌%◌, ◌≤◌, ◌<◌}
use native.Mathlib.Omega.{arith}
use lib.ListN.{get_or}
use lib.Dec.{eqb}
use borrow.Author.Tests.{lt-ltb, le-ltb, eq-eqb, ne_eqb}
use Rattle.std.specs.Prelude.{Option, None, Some}
use Rattle.limits.specs.Limits.{nesting, premises}
use Rattle.limits.proofs.BranchTests.{tests}
use Rattle.formula_match.specs.MatchPlaces.{whole_at, then_whole}
use Rattle.formula_match.specs.declared.bind.Bind.{Bind}
use Rattle.formula_match.specs.declared.matching_whole.Whole.{Whole}
use Rattle.formula_trees.specs.StatementTree.{acted}
use Rattle.rules_table.specs.RuleTable.{form_number, form_numbered}
use Rattle.rules_table.specs.declared.rule.Form.{Form}
use Rattle.rules_line.specs.Conclusion.{placed_at, match_conclusion, no_conclusion, conclusion_at, match_from}
use Rattle.rules_line.specs.declared.conclusion.Conclusion.{Conclusion}
use Rattle.rules_line.specs.declared.conclusion.Premises.{Premises}

module _ (form : Form) (t k : ℕ) (c : Conclusion) (n m : ℕ) (e : n ≡ form_number c.form) (g : m ≡ form_number form) where
  pub placed_other : (n ≡ m → ⊥) → false ≡ placed_at form t k c
  unfolding placed_at
  placed_other h = rw (← e, ← g, ne_eqb _ _ h)

  module _ (h : n ≡ m) (a : Bool) (d : a ≡ acted (form_number form)) where
    same : eqb (form_number c.form) (form_number form) ≡ true
    same = rw (← e, ← g) (eq-eqb _ _ h)

    pub placed_form : a ≡ false → true ≡ placed_at form t k c
    unfolding placed_at
    placed_form f = rw (same, ← d, f)

    module _ (y : a ≡ true) where
      pub placed_thread : (c.thread ≡ t → ⊥) → false ≡ placed_at form t k c
      unfolding placed_at
      placed_thread f = rw (same, ← d, y, ne_eqb _ _ f)

      pub placed_point : (b : Bool) → c.thread ≡ t → b ≡ eqb c.point k → b ≡ placed_at form t k c
      unfolding placed_at
      placed_point b q g = rw (same, ← d, y, eq-eqb _ _ q) g

module _ (s t : List ℕ) (i thread point : ℕ) (form : Form) (c : Conclusion) (b : Bind) (p : Bool) (e : p ≡ placed_at form thread point c) where
  pub conclusion_elsewhere : p ≡ false → None ≡ match_conclusion s t i form thread point c b
  unfolding match_conclusion
  conclusion_elsewhere n = rw (← e, n)

  module _ (h : p ≡ true) (m : Option Whole) (d : m ≡ whole_at s t nesting i c.left b) where
    pub conclusion_left : m ≡ None → None ≡ match_conclusion s t i form thread point c b
    unfolding match_conclusion
    conclusion_left n = rw (← e, h, ← d, n)

    pub conclusion_both : (w : Whole) (r : Option Whole) → m ≡ Some w → r ≡ whole_at s t nesting w.tpl c.right w.bind
        → r ≡ match_conclusion s t i form thread point c b
    unfolding match_conclusion
    conclusion_both w r o g = rw (← e, h, ← d, o) g

pub conclusion_there : (p : Premises) (j : ℕ) → j < premises → get_or p.conclusions j no_conclusion ≡ conclusion_at p j
unfolding conclusion_at
conclusion_there p j h = rw (lt-ltb _ _ h)

pub conclusion_missing : (p : Premises) (j : ℕ) → premises ≤ j → no_conclusion ≡ conclusion_at p j
unfolding conclusion_at
conclusion_missing p j h = rw (le-ltb _ _ h)

-- the premises from premise j on, where i is the position of their templates
module _ (s t : List ℕ) (thread point : ℕ) (p : Premises) (n : ℕ) (all : Option Whole) where
  abbrev pub Rest : ℕ → ℕ → ℕ → Bind → Type 0
  Rest i forms j b = all ≡ match_from s t thread point p (n - j) i forms j b

  module _ (i forms j : ℕ) (b : Bind) (so : Rest i forms j b) where
    pub from_none : n ≡ j → Some (record { tpl = i; bind = b }) ≡ all
    unfolding match_from
    from_none e = let d : n - j ≡ 0 = omega arith in sym (rw d at so)

    module _ (h : j < n) (f : Form) (ef : f ≡ form_numbered (forms % 4)) (c : Conclusion) (ec : c ≡ conclusion_at p j) (m : Option Whole)
        (em : m ≡ match_conclusion s t i f thread point c b) where
      step : all ≡ then_whole m (λ w. match_from s t thread point p (n - suc j) w.tpl (forms / 4) (j + 1) w.bind)
      unfolding match_from
      step = let d : n - j ≡ suc (n - suc j) = omega arith in rw (em, ec, ef) (rw d at so)

      pub from_no : m ≡ None → None ≡ all
      from_no o = sym (rw o at step)

      pub from_more : (w : Whole) → m ≡ Some w → Rest w.tpl (forms / 4) (j + 1) w.bind
      from_more w o = let d : n - (j + 1) ≡ n - suc j = omega arith in rw d (rw o at step)

-- the beginning: what is left is the whole match
pub from_start : (s t : List ℕ) (thread point : ℕ) (p : Premises) (n i forms j : ℕ) (b : Bind)
    → Rest s t thread point p (j + n) (match_from s t thread point p n i forms j b) i forms j b
from_start s t thread point p n i forms j b = let d : j + n - j ≡ n = omega arith in rw d

pub ruleset match_from_branches = (from_start, from_none, from_no, from_more)

pub ruleset conclusion_branches = (
  placed_other,
  placed_form,
  placed_thread,
  placed_point,
  conclusion_elsewhere,
  conclusion_left,
  conclusion_both,
  conclusion_there,
  conclusion_missing,
  tests,
)
