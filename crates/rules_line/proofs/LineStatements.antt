-- What a line of a sound image concludes, by positions, is what it says in the logic.
use mathlib.Core.Path.{◌≡◌, refl, ap, sym, ◌∙◌}
use mathlib.Core.Bool.{Bool, true, false, cond, not, ◌||◌, true≢false}
use mathlib.Core.List.{List}
use Prim.Native.Nat.{ℕ, ◌≤◌}
use native.Mathlib.Omega.{arith}
use lib.Dec.{T, eqb, ltb, eqb→eq}
use lib.ListN.{get_or}
use borrow.Author.Tests.{ltb-true, ltb-false, lt-leb, le-ltb, ne_eqb}
use Rattle.semantics.specs.Base.{Within}
use Rattle.logic.specs.Rows.{all_below}
use Rattle.logic.proofs.Rows.{all_below_at}
use Rattle.image_frames.specs.Records.{bodies}
use Rattle.image_header.specs.declared.sizes.Sizes.{Sizes}
use Rattle.image_bodies.specs.declared.line.Form.{Form}
use Rattle.image_bodies.specs.declared.line.Form.TheVariants.{Triple, Implication, Inclusion, Pair, Unlisted}
use Rattle.image_bodies.specs.Line.{form_of, placed}
use Rattle.formula_trees.specs.StatementTree.{concluded, hoare, paired}
use Rattle.image_header.specs.Instruction.{pair_operation}
use Rattle.image_meaning.specs.Certificate.{line_body, certificate_of}
use Rattle.image_access.specs.AccessPlaces.{line_in}
use Rattle.image_access.specs.AccessTrees as Said
use Rattle.image_access.specs.AccessTrees.{tree_at, spoken}
use Rattle.image_meaning.proofs.RecordsChecked.{Checks}
use Rattle.image_meaning.proofs.LinesAdmitted.{numbers_passed}
use Rattle.image_access.proofs.RuleForm.{rule_form}
use Rattle.image_access.proofs.AccessAgree.{line_is}
use Rattle.rules_table.specs.declared.rule.Form as Code
use Rattle.rules_table.specs.declared.rule.Form.TheVariants as Row
use Rattle.rules_table.specs.RuleTable.{form_number, rule_row}
use Rattle.logic.specs.RuleNumbers.{rule_of, number_of}
use Rattle.rules_line.specs.Conclusion.{concluded_at}
use Rattle.rules_line.specs.LineConclusion.{spoken_form, conclusion_by, line_at, operation_at, conclusion_of}
use Rattle.rules_line.proofs.RuleRow.{row-form}

abbrev is_listed : Form → Bool
is_listed Triple = true
is_listed Implication = true
is_listed Inclusion = true
is_listed Pair = true
is_listed Unlisted = false

-- a number that a rule has is that rule's number
numbers_back : T (all_below 51 (λ n. not (is_listed (form_of n)) || eqb (number_of (rule_of n)) n))
unfolding rule_of form_of
numbers_back = tt

none_past : (n : ℕ) → 51 ≤ n → is_listed (form_of n) ≡ false
unfolding form_of
none_past n h = let q : n ≡ 50 → ⊥ = omega arith in
    rw (
      le-ltb n 1 (omega arith),
      lt-leb n 16 (omega arith),
      le-ltb n 20 (omega arith),
      lt-leb n 27 (omega arith),
      le-ltb n 30 (omega arith),
      lt-leb n 46 (omega arith),
      lt-leb n 49 (omega arith),
      ne_eqb n 50 q,
    )

pub rule_number : (n : ℕ) → is_listed (form_of n) ≡ true → number_of (rule_of n) ≡ n
rule_number n l = go (ltb n 51) refl
  where
    go : (b : Bool) → ltb n 51 ≡ b → number_of (rule_of n) ≡ n
    go true e =
        let h : T (not (is_listed (form_of n)) || eqb (number_of (rule_of n)) n) =
        all_below_at 51 (λ i. not (is_listed (form_of i)) || eqb (number_of (rule_of i)) i) numbers_back n (ltb-true n 51 e) in
        eqb→eq (number_of (rule_of n)) n (rw l at h)
    go false e = absurd (true≢false (sym l ∙ none_past n (ltb-false n 51 e)))

-- the form of its row
pub conclusion_form : (n : ℕ) → is_listed (form_of n) ≡ true → form_number (rule_row n).form ≡ Said.form_number (form_of n)
conclusion_form n l = ap (λ (k : ℕ). form_number (rule_row k).form) (sym (rule_number n l)) ∙ row-form (rule_of n) ∙ rule_form n

-- the number of the form that a line has
spoken_number : (f : Code.Form) (op : ℕ)
    → form_number (spoken_form f op) ≡ cond (eqb (form_number f) paired) (cond (pair_operation op) paired hoare) (form_number f)
unfolding spoken_form
spoken_number f op = go (eqb (form_number f) paired) (pair_operation op)
  where
    go : (a b : Bool) → form_number (cond a (cond b Row.Pair Row.Triple) f) ≡ cond a (cond b paired hoare) (form_number f)
    go true true = refl
    go true false = refl
    go false b = refl

-- and what the line says with it
spoken_is : (f : Form) (op : ℕ)
    → cond (eqb (Said.form_number f) paired) (cond (pair_operation op) paired hoare) (Said.form_number f) ≡ spoken f op
spoken_is Triple op = refl
spoken_is Implication op = refl
spoken_is Inclusion op = refl
spoken_is Pair op = refl
spoken_is Unlisted op = refl

module _ (s : List ℕ) (z : Sizes) (c : Checks z (bodies s)) (n : ℕ) (w : Within z.lines n) where
  -- a line of a sound image has a rule
  pub line_listed : is_listed (form_of (line_at s z n).rule) ≡ true
  unfolding line_at line_in placed
  line_listed = go (form_of (get_or (line_body z (bodies s) n) 0 0)) (numbers_passed z (bodies s) c n w.0 w.1).0
    where
      go : (f : Form) → placed z (bodies s) f (line_body z (bodies s) n) ≡ true → is_listed f ≡ true
      go Triple e = refl
      go Implication e = refl
      go Inclusion e = refl
      go Pair e = refl
      go Unlisted e = absurd (true≢false (sym e))

  pub conclusion_trees : concluded_at s (conclusion_of s z n) ≡ concluded ((certificate_of z (bodies s)).line n).says
  unfolding conclusion_of conclusion_by line_at
  conclusion_trees =
      ap
      (λ (f : ℕ). record {
        form = f;
        thread = (line_at s z n).thread;
        point = (line_at s z n).point;
        left = tree_at s (line_at s z n).left;
        right = tree_at s (line_at s z n).right;
      })
      (spoken_number (rule_row (line_at s z n).rule).form (operation_at s z (line_at s z n))
      ∙ ap (λ (f : ℕ). cond (eqb f paired) (cond (pair_operation (operation_at s z (line_at s z n))) paired hoare) f)
      (conclusion_form (line_at s z n).rule line_listed)
      ∙ spoken_is (form_of (line_at s z n).rule) (operation_at s z (line_at s z n)))
      ∙ sym (line_is s z c n w)
