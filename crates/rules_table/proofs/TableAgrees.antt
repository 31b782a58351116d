-- ONE TABLE: each row of the code's table, and the bytes of its templates, are those of the table of rules.
use lib.Dec.{T}
use Rattle.semantics.specs.Base.{all}
use Rattle.logic.specs.Rule.{Rule}
use Rattle.logic.specs.RuleNumbers.{rules}
use Rattle.logic.proofs.EachRule.{each_rule}
use Rattle.formula.specs.Codes.{has_operand, part_count}
use Rattle.formula.specs.Tree.{node_at, parse_tree}
use Rattle.formula_compare.specs.Same.{same_tree}
use Rattle.formula_match.specs.MatchPlaces.{proper}
use Rattle.rules_table.specs.RuleTable.{rule_row}
use Rattle.rules_table.specs.TableTest.{listed_right}

-- one test over the whole table
all_right : T (all listed_right rules)
unfolding rule_row parse_tree node_at has_operand part_count same_tree proper
all_right = tt

pub listed-right : (n : Rule) → T (listed_right n)
listed-right = each_rule listed_right all_right
