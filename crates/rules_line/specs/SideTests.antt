-- The tests that side conditions are made of, on the trees that fill the holes.
use Rattle.std.specs.Prelude.{Bool, true, false, not, cond, None, List, [], ℕ, ◌-◌, get_or, eqb, ltb, leb}
use Rattle.semantics.specs.Code
use Rattle.semantics.specs.Code.{byte}
use Rattle.logic.specs.Opcode
use Rattle.limits.specs.Limits.{nesting}
use Rattle.limits.specs.Numbers.{nth}
use Rattle.formula.specs.Tree.{Tree, none, node, parse_tree}
use Rattle.image_header.specs.Header.{start_values}
use Rattle.formula_compare.specs.Same.{same_tree}
use Rattle.formula_compare.specs.Replace.{replace_t, substituted}
use Rattle.formula_compare.specs.declared.replace.Substitution.{Substitution}
use Rattle.formula_compare.specs.declared.replace.Replacing.{Replacing}
use Rattle.formula_compare.specs.declared.replace.Replacing.TheVariants.{Formula}
use Rattle.formula_compare.specs.declared.replace.Name.{Name}
use Rattle.formula_compare.specs.Occurs.{occurs, register, word_any_role, flag}
use Rattle.formula_match.specs.declared.bind.Bind.{Bind}
use Rattle.rules_line.specs.declared.side_tests.Position.{Position}

-- the position of the formula in hole j
unfoldable pub hole_of : Bind → ℕ → Position
hole_of b j = record { at = get_or b.at j 0; left = get_or b.left j 0 }

-- the number in hole j; 0 where the hole has taken none
unfoldable pub number_in : Bind → ℕ → ℕ
number_in b j = get_or b.num j 0 - 1

-- the tree at a position
abbrev pub tree_of : List ℕ → Position → Tree
tree_of s p = (parse_tree s p.left p.at).tree

-- neither the word, in any role, nor the result register of an exchange or a fetch-add occurs in the tree
unfoldable pub apart : ℕ → ℕ → ℕ → Tree → Bool
apart op x r u =
    cond (occurs (word_any_role x) [] u) false
    (cond (leb op Opcode.branch) true
    (cond (leb op Opcode.fetch_add) (not (occurs (register r) [] u)) true))

-- rule 1: a load preserves P if its register does not occur in P; a store or swap, if its word and its result register do not
unfoldable pub keeps : ℕ → ℕ → ℕ → Tree → Bool
keeps op x r u =
    cond (ltb op Opcode.load) false
    (cond (leb op Opcode.acquire) (not (occurs (register r) [] u))
    (cond (eqb op Opcode.branch) false
    (cond (leb op Opcode.fetch_add) (apart op x r u) false)))

-- the substitution for one name alone, a word or a register
unfoldable pub one_by : Name → Replacing → Substitution
one_by name by = record { name = name; by = by; second = None }

-- u is v after the substitution
unfoldable pub is_with : List ℕ → Substitution → Tree → Tree → Bool
is_with s w u v = same_tree (replace_t (substituted s w) v) u

-- rule 9: u is v with the word replaced by the formula at position f, and neither flag of the word is in v
unfoldable pub stored_by : List ℕ → ℕ → ℕ → Tree → Tree → Bool
stored_by s x f u v = cond (occurs (flag x) [] v) false (is_with s (one_by (Name.Word x) (Formula f nesting)) u v)

-- rule 26: u is the constant that the header's body h gives as the word's start value
unfoldable pub is_start : List ℕ → ℕ → Tree → Bool
is_start h x u = same_tree (node (byte Code.const) (nth (start_values h) x 0) none none) u
