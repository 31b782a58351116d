-- The table that the code looks up is the table of rules.
use Prim.Native.Nat.{ℕ, zero, suc, ◌≤◌, ◌<◌}
use mathlib.Core.Path.{◌≡◌, refl, sym}
use mathlib.Core.List.{List, [], ◌∷◌}
use native.Mathlib.Omega.{arith}
use lib.ListN.{length, get_or, get_or-eq_default}
use Rattle.rules_table.specs.RuleTable.{rows, unlisted, rule_row}
use Rattle.rules_table.specs.declared.rule.Rule.{Rule}

-- inside a list it does not matter what stands for the entries past its end
same_inside : (l : List Rule) (n : ℕ) (d e : Rule) → n < length l → get_or l n d ≡ get_or l n e
same_inside [] n d e h = absurd (omega arith)
same_inside (x ∷ l) zero d e h = refl
same_inside (x ∷ l) (suc n) d e h = same_inside l n d e (omega arith)

pub row_listed : (n : ℕ) (d : Rule) → n < 51 → get_or rows n d ≡ rule_row n
unfolding rule_row
row_listed n d h = same_inside rows n d unlisted h

pub row_past : (n : ℕ) → 51 ≤ n → unlisted ≡ rule_row n
unfolding rule_row
row_past n h = sym (get_or-eq_default rows unlisted h)
