-- The form of a rule's lines goes by its number.
use Prim.Native.Nat.{ℕ, zero, suc, ◌-◌, ◌≤◌, ◌<◌}
use mathlib.Core.Path.{◌≡◌, refl, ap, sym, ◌∙◌}
use mathlib.Core.Bool.{Bool, true, false, cond, ◌&&◌}
use mathlib.Core.List.{List, [], ◌∷◌}
use native.Mathlib.Omega.{arith}
use lib.Dec.{T, eqb, ltb, leb, eqb→eq}
use lib.ListN.{length, get_or, get_or-eq_default}
use borrow.Author.Tests.{ne_eqb, lt-leb, le-ltb, ltb-true, ltb-false}
use Rattle.std.proofs.Common.{rules}
use Rattle.std.proofs.lemmas.Bool.Decides.{nat_tests}
use Rattle.semantics.proofs.Base.{and_left, and_right}
use Rattle.logic.specs.Rows.{all_below}
use Rattle.logic.proofs.Rows.{all_below_at}
use Rattle.rules_table.specs.contracts.rule.FormPartialEq.TheImpl as equality
use Rattle.rules_table.specs.declared.rule.Side.{Side}
use Rattle.rules_table.specs.declared.rule.Side.TheVariants.{Nothing, Kept, Assigned, Loaded, WordAbsent, Stored, ByRows, ByTable, StartValue, NewValue, StartsAtZero}
use Rattle.rules_table.specs.TableTest.{same_side}
use Rattle.rules_table.specs.RuleTable.{form_number, form_numbered, same_form, side_number, side_numbered, rows, unlisted, rule_row}
use Rattle.rules_table.specs.declared.rule.Form.{Form}
use Rattle.rules_table.specs.declared.rule.Form.TheVariants.{Inclusion, Implication, Triple, Pair, Unlisted, Other}
use Rattle.rules_table.specs.declared.rule.Rule.{Rule}
use Rattle.rules_table.proofs.TableRows.{row_past}

unfoldable pub form_by : ℕ → Form
form_by n =
    cond (eqb n 0) Unlisted
    (cond (leb n 16) Triple
    (cond (ltb n 20) Unlisted
    (cond (leb n 27) Implication
    (cond (ltb n 30) Unlisted
    (cond (leb n 46) Inclusion
    (cond (ltb n 50) Triple
    (cond (eqb n 50) Pair Unlisted)))))))

-- the form of any number
abbrev pub form_named : ℕ → Form
form_named n = get_or (Inclusion ∷ Implication ∷ Triple ∷ Pair ∷ Unlisted ∷ []) n (Other (n - 5))

-- a number from 5 on has no form with a name
named_past : (n : ℕ) → 5 ≤ n → form_named n ≡ Other (n - 5)
named_past n h = get_or-eq_default (Inclusion ∷ Implication ∷ Triple ∷ Pair ∷ Unlisted ∷ []) (Other (n - 5)) h

form_back : (f : Form) → form_named (form_number f) ≡ f
form_back Inclusion = refl
form_back Implication = refl
form_back Triple = refl
form_back Pair = refl
form_back Unlisted = refl
form_back (Other n) =
    let number : ℕ = suc (suc (suc (suc (suc n)))) in
    let past : 5 ≤ number = omega arith in
    let back : number - 5 ≡ n = omega arith in
    named_past number past ∙ ap Other back

-- forms are told apart by their numbers
pub form_one : (f g : Form) → form_number f ≡ form_number g → f ≡ g
form_one f g e = sym (form_back f) ∙ ap form_named e ∙ form_back g

pub same_forms : (f g : Form) → T (same_form f g) → f ≡ g
same_forms f g h = form_one f g (eqb→eq (form_number f) (form_number g) h)

-- what the code's `==` answers for two forms is this test. Proofs of code find that by themselves; the law is there to be cited
pub form_flag : (f g : Form) → equality.ghosts.eq f g ≡ same_form f g
form_flag f g = search rules

side_back : (a : Side) → side_numbered (side_number a) ≡ a
side_back Nothing = refl
side_back Kept = refl
side_back Assigned = refl
side_back Loaded = refl
side_back WordAbsent = refl
side_back Stored = refl
side_back ByRows = refl
side_back ByTable = refl
side_back StartValue = refl
side_back NewValue = refl
side_back StartsAtZero = refl

-- side conditions, likewise
pub same_sides : (a b : Side) → T (same_side a b) → a ≡ b
same_sides a b h = sym (side_back a) ∙ ap side_numbered (eqb→eq (side_number a) (side_number b) h) ∙ side_back b

-- one test shows that the first five forms that f gives have the numbers 0 to 4
five_numbers : (f : ℕ → Form) → T (all_below 5 (λ i. eqb (form_number (f i)) i)) → (n : ℕ) → n < 5 → form_number (f n) ≡ n
five_numbers f t n h = eqb→eq (form_number (f n)) n (all_below_at 5 (λ i. eqb (form_number (f i)) i) t n h)

named_back : T (all_below 5 (λ n. eqb (form_number (form_numbered n)) n))
named_back = tt

module _ (n : ℕ) where
  pub form_below : (f : Form) → n < 5 → f ≡ form_numbered n → form_number f ≡ n
  form_below f h e = ap form_number e ∙ five_numbers form_numbered named_back n h

  pub form_above : 5 ≤ n → form_number (Other (n - 5)) ≡ n
  form_above h = omega arith

-- so every number is that of some form
pub named_number : (n : ℕ) → form_number (form_named n) ≡ n
named_number n = go (ltb n 5) refl
  where
    go : (b : Bool) → ltb n 5 ≡ b → form_number (form_named n) ≡ n
    go true e = five_numbers form_named tt n (ltb-true n 5 e)
    go false e =
        let past : 5 ≤ n = ltb-false n 5 e in
        ap form_number (named_past n past) ∙ form_above n past

pub ruleset forms_by_number = (form_below, form_above)

pub side_past : (n : ℕ) → 11 ≤ n → WordAbsent ≡ side_numbered n
side_past n h = sym (get_or-eq_default
    (Nothing ∷ Kept ∷ Assigned ∷ Loaded ∷ WordAbsent ∷ Stored ∷ ByRows ∷ ByTable ∷ StartValue ∷ NewValue ∷ StartsAtZero ∷ [])
    WordAbsent
    h)

pub numbered_past : (n : ℕ) → 4 ≤ n → Unlisted ≡ form_numbered n
numbered_past n h = sym (get_or-eq_default (Inclusion ∷ Implication ∷ Triple ∷ Pair ∷ []) Unlisted h)

abbrev agree : (ℕ → Form) → List Rule → Bool
agree f [] = true
agree f (r ∷ l) = same_form (f 0) r.form && agree (λ n. f (suc n)) l

agree_at : (f : ℕ → Form) (l : List Rule) → T (agree f l) → (n : ℕ) → n < length l → f n ≡ (get_or l n unlisted).form
agree_at f [] h n b = absurd (omega arith)
agree_at f (r ∷ l) h zero b = same_forms (f 0) r.form (and_left (same_form (f 0) r.form) (agree (λ n. f (suc n)) l) h)
agree_at f (r ∷ l) h (suc n) b =
    let rest : T (agree (λ n. f (suc n)) l) = and_right (same_form (f 0) r.form) (agree (λ n. f (suc n)) l) h in
    agree_at (λ n. f (suc n)) l rest n (omega arith)

past : (n : ℕ) → 51 ≤ n → form_by n ≡ Unlisted
unfolding form_by
past n h =
    let a : n ≡ 0 → ⊥ = omega arith in
    let b : n ≡ 50 → ⊥ = omega arith in
    rw (
      ne_eqb n 0 a,
      lt-leb n 16 (omega arith),
      le-ltb n 20 (omega arith),
      lt-leb n 27 (omega arith),
      le-ltb n 30 (omega arith),
      lt-leb n 46 (omega arith),
      le-ltb n 50 (omega arith),
      ne_eqb n 50 b,
    )

form_is : (n : ℕ) → form_by n ≡ (rule_row n).form
unfolding form_by rule_row
form_is n = go (ltb n 51) refl
  where
    go : (b : Bool) → ltb n 51 ≡ b → form_by n ≡ (get_or rows n unlisted).form
    go true e = agree_at form_by rows tt n (ltb-true n 51 e)
    go false e = past n (ltb-false n 51 e) ∙ ap (λ (r : Rule). r.form) (row_past n (ltb-false n 51 e))

pub form_known : (n : ℕ) (r : Form) → r ≡ form_by n → r ≡ (rule_row n).form
form_known n r e = e ∙ form_is n

pub ruleset form_at_branches = (form_known, nat_tests)
