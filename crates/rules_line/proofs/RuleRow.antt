-- What the code's row of a rule says, read off the test that compares the two tables.
use mathlib.Core.Path.{◌≡◌, refl, sym, subst}
use mathlib.Core.Bool.{Bool, true, false, ◌&&◌, ◌||◌}
use mathlib.Core.List.{List, [], ◌∷◌}
use Prim.Native.Nat.{ℕ, zero, suc, ◌≤◌}
use native.Mathlib.Omega.{arith}
use lib.Dec.{T, eqb, leb, eqb→eq, leb→le}
use lib.ListN.{length}
use borrow.Author.Tests.{eqb-true}
use Rattle.semantics.specs.Base.{all}
use Rattle.logic.specs.Rule.{Rule}
use Rattle.logic_schemas.specs.Rules.{Shape, row}
use Rattle.logic_schemas.specs.Fits.{is_among}
use Rattle.logic.specs.Opcode
use Rattle.semantics.proofs.Base.{and_left, and_right}
use Rattle.limits.specs.Limits as Limits
use Rattle.limits.specs.Limits.{nesting}
use Rattle.formula.specs.Tree.{parse_tree}
use Rattle.formula_compare.specs.Same.{same_tree}
use Rattle.formula_trees.proofs.TreeAgree.{tree_eq}
use Rattle.formula_match.specs.Template.{shapes}
use Rattle.formula_match.specs.MatchPlaces.{proper}
use Rattle.formula_trees.specs.StatementTree.{form_of}
use Rattle.rules_table.specs.FitTree.{left_of, right_of}
use Rattle.rules_table.specs.RuleTable.{form_number, rule_row, templates}
use Rattle.rules_table.specs.TableTest.{trees, stand_at, packed, premise_count, premises_right, allows, same_bit, operations, side_of, same_side}
use Rattle.logic.specs.RuleNumbers.{number_of}
use Rattle.rules_table.proofs.RuleForms.{same_sides}
use Rattle.rules_table.proofs.TableAgrees.{listed-right}
use Rattle.rules_line.proofs.ConclusionAgrees.{StandAll}

same_bits : (a b : Bool) → T (same_bit a b) → a ≡ b
same_bits true true h = refl
same_bits false false h = refl
same_bits true false h = absurd h
same_bits false true h = absurd h

stand_all : (i : ℕ) (l : List Shape) → T (stand_at i (trees l)) → StandAll templates i l
stand_all i [] h = tt
stand_all i (m ∷ l) h =
    let j : ℕ = (parse_tree templates nesting i).end in
    let k : ℕ = (parse_tree templates nesting j).end in
    let a : Bool = same_tree (parse_tree templates nesting i).tree (left_of m) in
    let b : Bool = same_tree (parse_tree templates nesting j).tree (right_of m) in
    let c : Bool = b && proper (right_of m) in
    let d : Bool = stand_at k (trees l) in
    let x = and_left (a && proper (left_of m)) (c && d) h in
    let r = and_right (a && proper (left_of m)) (c && d) h in
    let y = and_left c d r in (
      record {
        left = tree_eq (parse_tree templates nesting i).tree (left_of m) (and_left a (proper (left_of m)) x);
        right = tree_eq (parse_tree templates nesting j).tree (right_of m) (and_left b (proper (right_of m)) y);
        holes_left = and_right a (proper (left_of m)) x;
        holes_right = and_right b (proper (right_of m)) y;
      },
      stand_all k l (and_right c d r),
    )

module _ (n : Rule) where
  abbrev form : Bool
  form = eqb (form_number (rule_row (number_of n)).form) (form_of (row n).says)

  abbrev count : Bool
  count = premises_right n

  abbrev counted : Bool
  counted = eqb (rule_row (number_of n)).premises (premise_count (row n).premises)

  abbrev few : Bool
  few = leb (length (shapes (row n).premises)) Limits.premises

  abbrev forms : Bool
  forms = eqb (rule_row (number_of n)).forms (packed (shapes (row n).premises))

  abbrev same_at : ℕ → Bool
  same_at op = same_bit (allows (rule_row (number_of n)).operations op) (is_among op (row n).operations)

  abbrev bits : Bool
  bits = all same_at operations

  abbrev side : Bool
  side = same_side (rule_row (number_of n)).side (side_of (row n).sides)

  abbrev stands : Bool
  stands = stand_at (rule_row (number_of n)).template (trees ((row n).says ∷ shapes (row n).premises))

  conclusions : T (form && (count && forms))
  conclusions = and_left (form && (count && forms)) ((bits && side) && stands) (listed-right n)

  asks : T ((bits && side) && stands)
  asks = and_right (form && (count && forms)) ((bits && side) && stands) (listed-right n)

  pub row-form : form_number (rule_row (number_of n)).form ≡ form_of (row n).says
  row-form = eqb→eq _ _ (and_left form (count && forms) conclusions)

  pub row_premises : (rule_row (number_of n)).premises ≡ premise_count (row n).premises
  row_premises = eqb→eq _ _ (and_left counted few (and_left count forms (and_right form (count && forms) conclusions)))

  pub row_few : length (shapes (row n).premises) ≤ Limits.premises
  row_few = leb→le _ _ (and_right counted few (and_left count forms (and_right form (count && forms) conclusions)))

  pub row_forms : (rule_row (number_of n)).forms ≡ packed (shapes (row n).premises)
  row_forms = eqb→eq _ _ (and_right count forms (and_right form (count && forms) conclusions))

  pub row_side : (rule_row (number_of n)).side ≡ side_of (row n).sides
  row_side = same_sides _ _ (and_right bits side (and_left (bits && side) stands asks))

  pub row_stands : StandAll templates (rule_row (number_of n)).template ((row n).says ∷ shapes (row n).premises)
  row_stands = stand_all (rule_row (number_of n)).template ((row n).says ∷ shapes (row n).premises) (and_right (bits && side) stands asks)

  each_bit : (l : List ℕ) (op : ℕ) → T (all same_at l) → T (is_among op l) → T (same_at op)
  each_bit [] op h g = absurd g
  each_bit (m ∷ l) op h g = go (eqb op m) refl g (λ w. each_bit l op (and_right (same_at m) (all same_at l) h) w)
    where
      go : (b : Bool) → eqb op m ≡ b → T (b || is_among op l) → (T (is_among op l) → T (same_at op)) → T (same_at op)
      go true e w f = subst (λ (k : ℕ). T (same_at k)) (sym (eqb-true op m e)) (and_left (same_at m) (all same_at l) h)
      go false e w f = f w

  -- operations are 0 to 12
  pub row_operations : (op : ℕ) → op ≤ Opcode.assign_two → allows (rule_row (number_of n)).operations op ≡ is_among op (row n).operations
  row_operations op h =
      same_bits (allows (rule_row (number_of n)).operations op) (is_among op (row n).operations)
      (each_bit operations op (and_left bits side (and_left (bits && side) stands asks)) (known op h))
    where
      known : (op : ℕ) → op ≤ Opcode.assign_two → T (is_among op operations)
      known zero h = tt
      known (suc zero) h = tt
      known (suc (suc zero)) h = tt
      known (suc (suc (suc zero))) h = tt
      known (suc (suc (suc (suc zero)))) h = tt
      known (suc (suc (suc (suc (suc zero))))) h = tt
      known (suc (suc (suc (suc (suc (suc zero)))))) h = tt
      known (suc (suc (suc (suc (suc (suc (suc zero))))))) h = tt
      known (suc (suc (suc (suc (suc (suc (suc (suc zero)))))))) h = tt
      known (suc (suc (suc (suc (suc (suc (suc (suc (suc zero))))))))) h = tt
      known (suc (suc (suc (suc (suc (suc (suc (suc (suc (suc zero)))))))))) h = tt
      known (suc (suc (suc (suc (suc (suc (suc (suc (suc (suc (suc zero))))))))))) h = tt
      known (suc (suc (suc (suc (suc (suc (suc (suc (suc (suc (suc (suc zero)))))))))))) h = tt
      known (suc (suc (suc (suc (suc (suc (suc (suc (suc (suc (suc (suc (suc op))))))))))))) h = absurd (omega arith)
