-- The code's table against the logic's table of rules: one test for each rule, which computes.
use Rattle.std.specs.Prelude.{Bool, true, false, ◌&&◌, List, [], ◌∷◌, ℕ, ◌+◌, ◌*◌, ◌^◌, ◌/◌, ◌%◌, eqb, leb, length}
use Rattle.semantics.specs.Base.{all}
use Rattle.logic.specs.Opcode
use Rattle.logic.specs.Rule.{Rule}
use Rattle.logic.specs.RuleNumbers.{number_of}
use Rattle.logic_schemas.specs.Rules.{Shape, Premises, these, implications, by_notes, r_by_x, x_by_f, Side, ◌is◌with◌, start_of, starts_at_0, is_new, kept, lacks_x, no_flag, by_rows, by_table, row}
use Rattle.logic_schemas.specs.Fits.{is_among}
use Rattle.limits.specs.Limits as Limits
use Rattle.limits.specs.Limits.{nesting}
use Rattle.formula.specs.Tree.{Tree, parse_tree}
use Rattle.formula_compare.specs.Same.{same_tree}
use Rattle.formula_match.specs.Template.{shapes}
use Rattle.formula_match.specs.MatchPlaces.{proper}
use Rattle.formula_trees.specs.StatementTree.{form_of}
use Rattle.rules_table.specs.FitTree.{left_of, right_of}
use Rattle.rules_table.specs.declared.rule.Side as Code
use Rattle.rules_table.specs.declared.rule.Side.TheVariants.{Nothing, Kept, Assigned, Loaded, WordAbsent, Stored, ByRows, ByTable, StartValue, NewValue, StartsAtZero}
use Rattle.rules_table.specs.RuleTable.{any_implications, form_number, side_number, rule_row, templates}

-- the trees of schemas, left side and right side of each
abbrev pub trees : List Shape → List Tree
trees [] = []
trees (m ∷ l) = left_of m ∷ right_of m ∷ trees l

-- the trees are in the templates, one after another from position i on
abbrev pub stand_at : ℕ → List Tree → Bool
stand_at i [] = true
stand_at i (t ∷ ts) = (same_tree (parse_tree templates nesting i).tree t && proper t) && stand_at (parse_tree templates nesting i).end ts

-- the forms of the premises, two bits each from the lowest
abbrev pub packed : List Shape → ℕ
packed [] = 0
packed (m ∷ l) = form_of m + 4 * packed l

-- the premise count in the code's row
abbrev pub premise_count : Premises → ℕ
premise_count (these l) = length l
premise_count implications = any_implications

-- the operation is in the set, which is a number with a bit for each
abbrev pub allows : ℕ → ℕ → Bool
allows set op = eqb ((set / (2 ^ op)) % 2) 1

-- two Booleans are equal
abbrev pub same_bit : Bool → Bool → Bool
same_bit true b = b
same_bit false true = false
same_bit false false = true

-- all operations
abbrev pub operations : List ℕ
operations =
    Opcode.assign ∷ Opcode.load ∷ Opcode.acquire ∷ Opcode.store ∷ Opcode.release ∷ Opcode.swap ∷ Opcode.branch ∷ Opcode.exchange
    ∷ Opcode.fetch_add
    ∷ Opcode.pair_store ∷ Opcode.pair_release ∷ Opcode.pair_swap ∷ Opcode.assign_two ∷ []

-- the side condition in the code's row; rule 9, which has two, has one for both
abbrev pub side_of : List Side → Code.Side
side_of [] = Nothing
side_of (◌is◌with◌ p q by_notes ∷ l) = Assigned
side_of (◌is◌with◌ p q r_by_x ∷ l) = Loaded
side_of (◌is◌with◌ p q x_by_f ∷ l) = Stored
side_of (start_of n p ∷ l) = StartValue
side_of (starts_at_0 n ∷ l) = StartsAtZero
side_of (is_new p ∷ l) = NewValue
side_of (kept p ∷ l) = Kept
side_of (lacks_x p ∷ l) = WordAbsent
side_of (no_flag p ∷ l) = Nothing
side_of (by_rows p q ∷ l) = ByRows
side_of (by_table ∷ l) = ByTable

-- two side conditions are the same
abbrev pub same_side : Code.Side → Code.Side → Bool
same_side a b = eqb (side_number a) (side_number b)

-- the premise count is right, and no more than a line may have
abbrev pub premises_right : Rule → Bool
premises_right n = eqb (rule_row (number_of n)).premises (premise_count (row n).premises)
    && leb (length (shapes (row n).premises)) Limits.premises

-- the code's row of the rule says what the logic's says
abbrev pub listed_right : Rule → Bool
listed_right n =
    (eqb (form_number (rule_row (number_of n)).form) (form_of (row n).says)
    && (premises_right n && eqb (rule_row (number_of n)).forms (packed (shapes (row n).premises))))
    && ((all (λ op. same_bit (allows (rule_row (number_of n)).operations op) (is_among op (row n).operations)) operations
    && same_side (rule_row (number_of n)).side (side_of (row n).sides))
    && stand_at (rule_row (number_of n)).template (trees ((row n).says ∷ shapes (row n).premises)))
