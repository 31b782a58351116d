-- The ways through the premises, one law for each.
use mathlib.Core.Path.{◌≡◌, refl, sym, subst}
use mathlib.Core.Bool.{Bool, true, false}
use mathlib.Core.List.{List, [], ◌∷◌}
use Prim.Native.Nat.{ℕ, ◌≤◌, ◌<◌}
use Rattle.std.specs.Prelude.{Option, None, Some}
use lib.Dec.{T}
use lib.ListN.{get_or}
use borrow.Author.Tests.{le-leb, lt-leb, lt-ltb, le-ltb, eq-eqb, ne_eqb}
use Rattle.limits.proofs.BranchTests.{tests}
use Rattle.limits.specs.Limits as Limits
use Rattle.image_frames.specs.Records.{bodies}
use Rattle.image_header.specs.declared.sizes.Sizes.{Sizes}
use Rattle.image_bodies.specs.Line as Lines
use Rattle.formula_match.specs.declared.bind.Bind.{Bind}
use Rattle.formula_match.specs.declared.matching_whole.Whole.{Whole}
use Rattle.image_meaning.specs.Certificate.{line_body}
use Rattle.rules_table.specs.RuleTable.{any_implications, same_form}
use Rattle.rules_table.specs.declared.rule.Form.TheVariants.{Implication}
use Rattle.rules_table.proofs.RuleForms.{same_forms}
use Rattle.rules_table.specs.declared.rule.Rule.{Rule}
use Rattle.rules_line.specs.Conclusion.{no_conclusion, conclusion_at, match_from}
use Rattle.rules_line.specs.LineConclusion.{conclusion_of}
use Rattle.rules_line.specs.Premises.{premise_conclusion, premises_of, is_implication_at, all_implications, match_premises}
use Rattle.rules_line.specs.declared.conclusion.Conclusion.{Conclusion}
use Rattle.rules_line.specs.declared.conclusion.Premises.{Premises}

module _ (s : List ℕ) (z : Sizes) (n count : ℕ) where
  pub premise_past : (j : ℕ) → count ≤ j → no_conclusion ≡ premise_conclusion s z n count j
  unfolding premise_conclusion
  premise_past j h = rw (le-leb _ _ h)

  pub premise_there : (j m : ℕ) (c : Conclusion) → j < count → m ≡ get_or (Lines.premises (line_body z (bodies s) n)) j 0
      → c ≡ conclusion_of s z m → c ≡ premise_conclusion s z n count j
  unfolding premise_conclusion
  premise_there j m c h e d = rw (lt-leb _ _ h, ← e) d

  pub premises_is : (a b c d : Conclusion) → a ≡ premise_conclusion s z n count 0 → b ≡ premise_conclusion s z n count 1
      → c ≡ premise_conclusion s z n count 2 → d ≡ premise_conclusion s z n count 3
      → record { count = count; conclusions = a ∷ b ∷ c ∷ d ∷ [] } ≡ premises_of s z n count
  unfolding premises_of
  premises_is a b c d e f g h = rw (e, f, g, h)

module _ (p : Premises) where
  pub implication_past : (j : ℕ) → p.count ≤ j → true ≡ is_implication_at p j
  unfolding is_implication_at
  implication_past j h = rw (le-leb _ _ h)

  module _ (j : ℕ) (c : Conclusion) (h : j < p.count) (e : c ≡ conclusion_at p j) where
    pub implication_there : c.form ≡ Implication → true ≡ is_implication_at p j
    unfolding is_implication_at
    implication_there d = rw (lt-leb _ _ h, ← e, d)

    pub implication_not : (c.form ≡ Implication → ⊥) → false ≡ is_implication_at p j
    unfolding is_implication_at
    implication_not n = rw (lt-leb _ _ h, ← e) (go (same_form c.form Implication) refl)
      where
        go : (b : Bool) → same_form c.form Implication ≡ b → false ≡ same_form c.form Implication
        go true q = absurd (n (same_forms c.form Implication (subst T (sym q) tt)))
        go false q = sym q

  pub too_many : Limits.premises < p.count → false ≡ all_implications p
  unfolding all_implications
  too_many h = rw (lt-ltb _ _ h)

  module _ (few : p.count ≤ Limits.premises) where
    pub not_first : (a : Bool) → a ≡ is_implication_at p 0 → a ≡ false → false ≡ all_implications p
    unfolding all_implications
    not_first a e h = rw (le-ltb _ _ few, ← e, h)

    pub not_second : (a b : Bool) → a ≡ is_implication_at p 0 → a ≡ true → b ≡ is_implication_at p 1 → b ≡ false → false ≡ all_implications p
    unfolding all_implications
    not_second a b e h f g = rw (le-ltb _ _ few, ← e, h, ← f, g)

    pub not_third : (a b c : Bool) → a ≡ is_implication_at p 0 → a ≡ true → b ≡ is_implication_at p 1 → b ≡ true → c ≡ is_implication_at p 2
        → c ≡ false → false ≡ all_implications p
    unfolding all_implications
    not_third a b c e h f g i k = rw (le-ltb _ _ few, ← e, h, ← f, g, ← i, k)

    pub by_fourth : (a b c d : Bool) → a ≡ is_implication_at p 0 → a ≡ true → b ≡ is_implication_at p 1 → b ≡ true → c ≡ is_implication_at p 2
        → c ≡ true → d ≡ is_implication_at p 3 → d ≡ all_implications p
    unfolding all_implications
    by_fourth a b c d e h f g i k l = rw (le-ltb _ _ few, ← e, h, ← f, g, ← i, k) l

module _ (s t : List ℕ) (i : ℕ) (w : Rule) (thread point : ℕ) (p : Premises) (b : Bind) where
  module _ (e : w.premises ≡ any_implications) (o : Bool) (d : o ≡ all_implications p) where
    pub premises_any : o ≡ true → Some (record { tpl = i; bind = b }) ≡ match_premises s t i w thread point p b
    unfolding match_premises
    premises_any h = rw (eq-eqb _ _ e, ← d, h)

    pub premises_none : o ≡ false → None ≡ match_premises s t i w thread point p b
    unfolding match_premises
    premises_none h = rw (eq-eqb _ _ e, ← d, h)

  pub premises_counted : (r : Option Whole) → (w.premises ≡ any_implications → ⊥) → w.premises ≡ p.count
      → r ≡ match_from s t thread point p p.count i w.forms 0 b → r ≡ match_premises s t i w thread point p b
  unfolding match_premises
  premises_counted r n e d = rw (ne_eqb _ _ n, eq-eqb _ _ e) d

  pub premises_other : (w.premises ≡ any_implications → ⊥) → (w.premises ≡ p.count → ⊥)
      → None ≡ match_premises s t i w thread point p b
  unfolding match_premises
  premises_other n m = rw (ne_eqb _ _ n, ne_eqb _ _ m)

pub ruleset premises_branches = (
  premise_past,
  premise_there,
  premises_is,
  implication_past,
  implication_there,
  implication_not,
  too_many,
  not_first,
  not_second,
  not_third,
  by_fourth,
  premises_any,
  premises_none,
  premises_counted,
  premises_other,
  tests,
)
