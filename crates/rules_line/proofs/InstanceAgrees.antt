-- A line fits by positions exactly if it fits by trees.
use mathlib.Core.Path.{◌≡◌, refl, ap, ap₂, sym, ◌∙◌, subst, subst₂}
use mathlib.Core.Bool.{Bool, true, false, cond, ◌&&◌}
use mathlib.Core.List.{List, [], ◌∷◌, map}
use mathlib.Core.Option.{none, some}
use mathlib.Core.Option as Taking
use Prim.Native.Nat.{ℕ, zero, suc, ◌+◌, ◌≤◌}
use native.Mathlib.Omega.{arith}
use lib.Dec.{eqb, leb}
use lib.ListN.{length}
use borrow.Author.Tests.{eqb-true, eqb-false, eq-eqb, ne_eqb, lt-ltb}
use Rattle.std.specs.Prelude.{Option, None, Some}
use Rattle.semantics.specs.Base.{all}
use Rattle.logic.specs.Opcode
use Rattle.logic.specs.Rule.{Rule}
use Rattle.logic_schemas.specs.Rules.{Shape, Premises, these, implications, row}
use Rattle.logic_schemas.specs.Fits.{is_among}
use Rattle.limits.specs.Limits as Limits
use Rattle.formula.specs.Codes.{member}
use Rattle.formula_match.specs.Match.{Taken, and_then, when}
use Rattle.formula_match.specs.MatchPlaces.{taken_of}
use Rattle.formula_match.specs.Template.{shapes}
use Rattle.formula_match.specs.declared.bind.Bind.{Bind}
use Rattle.formula_match.specs.declared.matching_whole.Whole.{Whole}
use Rattle.formula_match.proofs.TreesAgree.{Sized, given}
use Rattle.formula_trees.specs.StatementTree as Said
use Rattle.rules_table.specs.FitTree as FitT
use Rattle.formula_trees.specs.StatementTree.{TreeConclusion, hoare, paired, implication, form_of}
use Rattle.rules_table.specs.FitTree.{match_line, match_all, is_implication, preset, operation_t, rest_t, answer, fits_t}
use Rattle.image_header.specs.Instruction.{first_operation}
use Rattle.image_access.specs.AccessTrees.{acting_at}
use Rattle.image_access.specs.declared.line.Line.{Line}
use Rattle.image_access.specs.declared.acting_instruction.Acting.{Acting}
use Rattle.rules_table.specs.RuleTable.{any_implications, form_number, rule_row, templates}
use Rattle.rules_table.specs.TableTest.{packed, premise_count, allows}
use Rattle.logic.specs.RuleNumbers.{number_of}
use Rattle.rules_table.specs.declared.rule.Rule as Code
use Rattle.rules_table.specs.declared.rule.Side as Sides
use Rattle.rules_line.specs.Conclusion.{concluded_at, conclusion_at, conclusions_from, match_conclusion, match_from}
use Rattle.rules_line.specs.LineConclusion.{conclusion_by}
use Rattle.rules_line.specs.Premises.{is_implication_at, all_implications, match_premises}
use Rattle.rules_line.specs.Preset.{preset_at}
use Rattle.rules_line.specs.SideConditions.{asked}
use Rattle.rules_line.specs.RuleInstance.{is_allowed, rest_at, then_ask, line_match, fits_row}
use Rattle.rules_line.specs.declared.conclusion.Conclusion.{Conclusion}
use Rattle.rules_line.specs.declared.conclusion.Premises as Conclusions
use Rattle.rules_line.proofs.ConclusionAgrees.{StandAll, bound, ConclusionFollows, conclusion_follows, from_follows}
use Rattle.rules_line.proofs.Presets.{preset_sized, preset_taken}
use Rattle.rules_line.proofs.RuleRow.{row-form, row_premises, row_few, row_forms, row_side, row_stands, row_operations}
use Rattle.rules_line.proofs.SideConditionsAgree.{setup_in, sides_are}

-- PREMISES

then_none : {A B : Type 0} (o : Taking.Option A) (f : A → Taking.Option B) → ((a : A) → f a ≡ none) → and_then o f ≡ none
then_none none f h = refl
then_none (some a) f h = h a

-- not as many as the rule has
other_count : (i k : ℕ) (l : List Shape) (vs : List TreeConclusion) (b : Taken) → (length l ≡ length vs → ⊥) → match_all i k l vs b ≡ none
other_count i k [] [] b n = absurd (n refl)
other_count i k [] (v ∷ vs) b n = refl
other_count i k (m ∷ l) [] b n = refl
other_count i k (m ∷ l) (v ∷ vs) b n = then_none (match_line i k m v b) (match_all i k l vs)
    (λ z. other_count i k l vs z (λ e. n (omega arith)))

four : (a b c d : Bool) → a && (b && (c && (d && true))) ≡ cond a (cond b (cond c d false) false) false
four true true true true = refl
four true true true false = refl
four true true false d = refl
four true false c d = refl
four false b c d = refl

module _ (s : List ℕ) (p : Conclusions.Premises) where
  abbrev is : ℕ → Bool
  is j = eqb (form_number (conclusion_at p j).form) implication

  conclusions_length : (n j : ℕ) → length (map (concluded_at s) (conclusions_from p n j)) ≡ n
  conclusions_length zero j = refl
  conclusions_length (suc n) j = ap (λ (m : ℕ). suc m) (conclusions_length n (j + 1))

  abbrev pub says : List TreeConclusion
  says = map (concluded_at s) (conclusions_from p p.count 0)

  -- at most four, implications all of them
  implications_are : (n : ℕ) → p.count ≡ n → n ≤ Limits.premises
      → leb (length (map (concluded_at s) (conclusions_from p n 0))) Limits.premises
      && all is_implication (map (concluded_at s) (conclusions_from p n 0)) ≡ all_implications p
  unfolding all_implications is_implication_at conclusion_at
  implications_are zero e h = rw e
  implications_are (suc zero) e h = rw e (four (is 0) true true true)
  implications_are (suc (suc zero)) e h = rw e (four (is 0) (is 1) true true)
  implications_are (suc (suc (suc zero))) e h = rw e (four (is 0) (is 1) (is 2) true)
  implications_are (suc (suc (suc (suc zero)))) e h = rw e (four (is 0) (is 1) (is 2) (is 3))
  implications_are (suc (suc (suc (suc (suc n))))) e h = absurd (omega arith)

  module _ (thread point i : ℕ) (w : Code.Rule) (b : Bind) (z : Sized b) (few : p.count ≤ Limits.premises) where
    abbrev found : Option Whole
    found = match_premises s templates i w thread point p b

    -- what is taken where nothing is matched any more
    when_bound : (x : Bool) → when x (taken_of s b) ≡ given s (bound (cond x (Some (record { tpl = i; bind = b })) None))
    when_bound true = refl
    when_bound false = refl

    premises_same : (W : Premises) → w.premises ≡ premise_count W → w.forms ≡ packed (shapes W) → length (shapes W) ≤ Limits.premises
        → StandAll templates i (shapes W)
        → FitT.match_premises thread point W says (taken_of s b) ≡ given s (bound found)
    unfolding match_premises
    premises_same implications e f h st =
        rw (eq-eqb w.premises any_implications e) (when_bound (leb (length says) Limits.premises && all is_implication says)
        ∙ ap (λ (x : Bool). given s (bound (cond x (Some (record { tpl = i; bind = b })) None))) (implications_are p.count refl few))
    premises_same (these l) e f h st = rw (ne_eqb w.premises any_implications (λ (q : w.premises ≡ any_implications). omega arith))
        (go (eqb w.premises p.count) refl)
      where
        go : (x : Bool) → eqb w.premises p.count ≡ x
            → match_all thread point l says (taken_of s b)
            ≡ given s (bound (cond x (match_from s templates thread point p p.count i w.forms 0 b) None))
        go true d =
            let q : p.count ≡ length l = sym (eqb-true w.premises p.count d) ∙ e in
            subst₂
            (λ (n g : ℕ). match_all thread point l (map (concluded_at s) (conclusions_from p n 0)) (taken_of s b) ≡ given s
            (bound (match_from s templates thread point p n i g 0 b)))
            (sym q) (sym f) (from_follows s templates thread point p l i 0 b z st)
        go false d = other_count thread point l says (taken_of s b)
            (λ q. eqb-false w.premises p.count d (e ∙ q ∙ conclusions_length p.count 0))

-- what is asked besides is asked where the operation is allowed
and_where : (x y h k : Bool) → x ≡ y → (x ≡ true → h ≡ k) → x && h ≡ cond y k false
and_where true y h k e f = subst (λ (z : Bool). h ≡ cond z k false) e (f refl)
and_where false y h k e f = subst (λ (z : Bool). false ≡ cond z k false) e refl

-- what is known of an instruction: its operations are 0 to 12, and of a pair the one is the first half's
pub record Known (a : Acting) : Type 0 where
  pub operation : a.operation ≤ Opcode.assign_two
  pub whole : a.whole ≤ Opcode.assign_two
  pub first : a.operation ≡ first_operation a.whole

-- THE LINE

module _ (s : List ℕ) (n : Rule) (l : Line) (named : l.rule ≡ number_of n) (a : Acting) (known : Known a) (p : Conclusions.Premises)
    (few : p.count ≤ Limits.premises) where
  abbrev c : Conclusion
  c = conclusion_by l a.whole

  abbrev w : Code.Rule
  w = rule_row l.rule

  abbrev A : Said.Acting
  A = acting_at s a

  -- the row of its rule
  its : {B : Type 0} (f : Code.Rule → B) → f w ≡ f (rule_row (number_of n))
  its f = ap (λ (k : ℕ). f (rule_row k)) named

  form_is : form_number w.form ≡ form_of (row n).says
  form_is = its (λ r. form_number r.form) ∙ row-form n

  -- an operation among those of the row
  bits : (op : ℕ) → op ≤ Opcode.assign_two → is_among op (row n).operations ≡ member w.operations op
  unfolding member
  bits op h = sym (rw (lt-ltb op 32 (omega arith)) (its (λ r. allows r.operations op) ∙ row_operations n op h))

  operation_is : operation_t A (form_of (row n).says) (row n).operations ≡ is_allowed w a
  unfolding is_allowed
  operation_is =
      rw form_is
      (ap₂ (λ (x y : Bool). cond (eqb (form_of (row n).says) hoare) x (cond (eqb (form_of (row n).says) paired) y true))
      (bits a.operation known.operation) (bits a.whole known.whole))

  rest_is : (b : Bind) → rest_t (setup_in s) A (row n) (concluded_at s c) (says s p) (taken_of s b) ≡ rest_at s w a c p b
  unfolding rest_at
  rest_is b = and_where _ _ _ _ operation_is (λ e. sides_are s b a c p few known.first n e
      ∙ ap (λ (k : Sides.Side). asked s k b a c p) (sym (its (λ r. r.side) ∙ row_side n)))

  abbrev b₀ : Bind
  b₀ = preset_at l.thread a.word a.register a.formula

  abbrev m : Option Whole
  m = match_conclusion s templates w.template w.form c.thread c.point c b₀

  stands : StandAll templates w.template ((row n).says ∷ shapes (row n).premises)
  stands = subst (λ (i : ℕ). StandAll templates i ((row n).says ∷ shapes (row n).premises)) (sym (its (λ r. r.template))) (row_stands n)

  follows : ConclusionFollows s templates w.template c.thread c.point (row n).says c b₀ m
  follows = conclusion_follows s templates w.template c.thread c.point (row n).says w.form form_is c b₀
      (preset_sized l.thread a.word a.register a.formula) stands.0

  line_same : match_line c.thread c.point (row n).says (concluded_at s c) (preset c.thread A) ≡ given s (bound m)
  unfolding conclusion_by
  line_same = ap (match_line c.thread c.point (row n).says (concluded_at s c))
      (sym (preset_taken s l.thread a.operation a.whole a.word a.register a.formula A.notes)) ∙ follows.same

  module _ (x : Whole) (e : m ≡ Some x) where
    abbrev q : Option Whole
    q = match_premises s templates x.tpl w c.thread c.point p x.bind

    rests_same : FitT.match_premises c.thread c.point (row n).premises (says s p) (taken_of s x.bind) ≡ given s (bound q)
    rests_same =
        premises_same s p c.thread c.point x.tpl w x.bind (follows.stops x e).sized few (row n).premises
        (its (λ r. r.premises) ∙ row_premises n) (its (λ r. r.forms) ∙ row_forms n) (row_few n)
        (subst (λ (i : ℕ). StandAll templates i (shapes (row n).premises)) (sym (follows.stops x e).tpl) stands.1)

  abbrev asks : Taken → Bool
  asks = rest_t (setup_in s) A (row n) (concluded_at s c) (says s p)

  pub fits_same : fits_t (setup_in s) A n (concluded_at s c) (says s p) ≡ fits_row s templates l a p
  unfolding fits_row line_match
  fits_same = ap (λ o. answer (and_then o (FitT.match_premises c.thread c.point (row n).premises (says s p))) asks)
      line_same ∙ go m refl
    where
      then : (o : Option Whole) → answer (given s (bound o)) asks ≡ then_ask o (λ y. rest_at s w a c p y.bind)
      then None = refl
      then (Some y) = rest_is y.bind

      go : (o : Option Whole) → m ≡ o → answer (and_then (given s (bound o))
          (FitT.match_premises c.thread c.point (row n).premises (says s p))) asks
          ≡ then_ask o (λ x. then_ask (match_premises s templates x.tpl w c.thread c.point p x.bind) (λ y. rest_at s w a c p y.bind))
      go None e = refl
      go (Some x) e = ap (λ o. answer o asks) (rests_same x e) ∙ then (q x e)
