-- The ways through the look-ups of conclusions, one law for each.
use mathlib.Core.Path.{◌≡◌, refl, ap, sym, ◌∙◌, subst}
use mathlib.Core.Bool.{Bool, true, false}
use mathlib.Core.List.{List}
use Prim.Native.Nat.{ℕ}
use lib.Dec.{T}
use Rattle.limits.proofs.BranchTests.{tests}
use Rattle.image_frames.specs.Records.{bodies}
use Rattle.image_header.specs.declared.sizes.Sizes.{Sizes}
use Rattle.image_header.specs.declared.instruction.Instruction.{Instruction}
use Rattle.image_header.specs.Instruction.{pair_operation}
use Rattle.image_bodies.specs.RecordPlaces.{instruction_of}
use Rattle.image_meaning.specs.Certificate.{line_body}
use Rattle.image_access.specs.AccessPlaces.{line_in}
use Rattle.image_access.specs.declared.line.Line.{Line}
use Rattle.rules_table.specs.RuleTable.{same_form, rule_row}
use Rattle.rules_table.specs.declared.rule.Form.{Form}
use Rattle.rules_table.specs.declared.rule.Form.TheVariants.{Triple, Pair}
use Rattle.rules_table.proofs.RuleForms.{same_forms}
use Rattle.rules_line.specs.LineConclusion.{spoken_form, conclusion_by, line_at, conclusion_of}
use Rattle.rules_line.specs.declared.conclusion.Conclusion.{Conclusion}

module _ (rule op : ℕ) (f : Form) (e : f ≡ (rule_row rule).form) where
  pub spoken_pair : (p : Bool) → f ≡ Pair → p ≡ pair_operation op → p ≡ true → f ≡ spoken_form (rule_row rule).form op
  unfolding spoken_form
  spoken_pair p h d q = rw (← e, h, ← d, q)

  pub spoken_alone : (p : Bool) → f ≡ Pair → p ≡ pair_operation op → p ≡ false → Triple ≡ spoken_form (rule_row rule).form op
  unfolding spoken_form
  spoken_alone p h d q = rw (← e, h, ← d, q)

  -- another form stays
  other : (f ≡ Pair → ⊥) → same_form f Pair ≡ false
  other n = go (same_form f Pair) refl
    where
      go : (b : Bool) → same_form f Pair ≡ b → b ≡ false
      go true q = absurd (n (same_forms f Pair (subst T (sym q) tt)))
      go false q = refl

  pub spoken_other : (f ≡ Pair → ⊥) → f ≡ spoken_form (rule_row rule).form op
  unfolding spoken_form
  spoken_other n = rw (← e, other n)

pub conclusion-by : (l : Line) (op : ℕ) (f : Form) → f ≡ spoken_form (rule_row l.rule).form op
    → record { form = f; thread = l.thread; point = l.point; left = l.left; right = l.right } ≡ conclusion_by l op
unfolding conclusion_by
conclusion-by l op f e = rw (← e)

module _ (s : List ℕ) (z : Sizes) (n : ℕ) (l : Line) (e : l ≡ line_in s (line_body z (bodies s) n)) (f : Form)
    (g : f ≡ (rule_row l.rule).form) where
  pub conclusion_pair : (i : Instruction) (c : Conclusion) → f ≡ Pair → i ≡ instruction_of z (bodies s) l.thread l.point
      → c ≡ conclusion_by l i.operation → c ≡ conclusion_of s z n
  unfolding conclusion_of line_at
  conclusion_pair i c h d q = rw (← e) (q ∙ ap (λ (j : Instruction). conclusion_by l j.operation) d)

  pub conclusion_other : (c : Conclusion) → (f ≡ Pair → ⊥) → c ≡ conclusion_by l 0 → c ≡ conclusion_of s z n
  unfolding conclusion_of conclusion_by line_at spoken_form
  conclusion_other c h q = let o = other l.rule 0 f g h in rw (← e, ← g, o) (q ∙ rw (← g, o))

pub ruleset line_conclusion_branches = (
  spoken_pair,
  spoken_alone,
  spoken_other,
  conclusion-by,
  conclusion_pair,
  conclusion_other,
  tests,
)
