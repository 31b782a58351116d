-- The ways through the side conditions, one law for each.
use mathlib.Core.Path.{◌≡◌, refl, ap, ◌∙◌}
use mathlib.Core.Bool.{Bool, true, false, not, cond}
use mathlib.Core.List.{List, []}
use Prim.Native.Nat.{ℕ, ◌-◌, ◌≤◌, ◌<◌}
use lib.ListN.{get_or}
use borrow.Author.Tests.{lt-ltb, le-ltb, le-leb, lt-leb, eq-eqb, ne_eqb}
use Rattle.std.specs.Prelude.{Option, None, Some, is_some}
use Rattle.semantics.specs.Code
use Rattle.semantics.specs.Code.{byte}
use Rattle.logic.specs.Opcode
use Rattle.limits.proofs.BranchTests.{tests}
use Rattle.limits.specs.Limits.{nesting}
use Rattle.limits.specs.Numbers.{nth}
use Rattle.formula.specs.Codes.{part_count}
use Rattle.formula.specs.Tree.{Tree, parse_tree}
use Rattle.formula_compare.specs.Same.{same_tree, same_of}
use Rattle.formula_compare.specs.Replace.{leaf_only, replaced_of}
use Rattle.formula_compare.specs.declared.replace.Name.{Name}
use Rattle.formula_compare.specs.declared.replace.Substitution.{Substitution}
use Rattle.formula_compare.specs.declared.replace.Replacing.TheVariants.{Formula}
use Rattle.formula_compare.specs.Occurs.{occurs, register, word_any_role, flag}
use Rattle.image_header.specs.Header.{start_values}
use Rattle.formula_match.specs.declared.bind.Bind.{Bind}
use Rattle.rules_line.specs.SideTests.{hole_of, number_in, tree_of, apart, keeps, one_by, is_with, stored_by, is_start}
use Rattle.rules_line.specs.declared.side_tests.Position.{Position}

pub hole_is : (b : Bind) (j : ℕ) → record { at = get_or b.at j 0; left = get_or b.left j 0 } ≡ hole_of b j
unfolding hole_of
hole_is b j = refl

module _ (op x r : ℕ) (u : Tree) where
  pub apart_word : (o : Bool) → o ≡ occurs (word_any_role x) [] u → o ≡ true → false ≡ apart op x r u
  unfolding apart
  apart_word o e h = rw (← e, h)

  module _ (o : Bool) (e : o ≡ occurs (word_any_role x) [] u) (h : o ≡ false) where
    pub apart_plain : op ≤ Opcode.branch → true ≡ apart op x r u
    unfolding apart
    apart_plain l = rw (← e, h, le-leb _ _ l)

    module _ (l : Opcode.branch < op) where
      pub apart_result : (q : Bool) → op ≤ Opcode.fetch_add → q ≡ occurs (register r) [] u → not q ≡ apart op x r u
      unfolding apart
      apart_result q m d = rw (← e, h, lt-leb _ _ l, le-leb _ _ m, ← d)

      pub apart_rest : Opcode.fetch_add < op → true ≡ apart op x r u
      unfolding apart
      apart_rest m = rw (← e, h, lt-leb _ _ l, lt-leb _ _ m)

module _ (op x r : ℕ) (u : Tree) where
  pub keeps_first : op < Opcode.load → false ≡ keeps op x r u
  unfolding keeps
  keeps_first h = rw (lt-ltb _ _ h)

  module _ (l : Opcode.load ≤ op) where
    pub keeps_load : (o : Bool) → op ≤ Opcode.acquire → o ≡ occurs (register r) [] u → not o ≡ keeps op x r u
    unfolding keeps
    keeps_load o h e = rw (le-ltb _ _ l, le-leb _ _ h, ← e)

    module _ (m : Opcode.acquire < op) where
      pub keeps_branch : op ≡ Opcode.branch → false ≡ keeps op x r u
      unfolding keeps
      keeps_branch h = rw (le-ltb _ _ l, lt-leb _ _ m, eq-eqb _ _ h)

      module _ (n : op ≡ Opcode.branch → ⊥) where
        pub keeps_write : (o : Bool) → op ≤ Opcode.fetch_add → o ≡ apart op x r u → o ≡ keeps op x r u
        unfolding keeps
        keeps_write o h e = rw (le-ltb _ _ l, lt-leb _ _ m, ne_eqb _ _ n, le-leb _ _ h) e

        pub keeps_rest : Opcode.fetch_add < op → false ≡ keeps op x r u
        unfolding keeps
        keeps_rest h = rw (le-ltb _ _ l, lt-leb _ _ m, ne_eqb _ _ n, lt-leb _ _ h)

-- an answer is there if the test that it comes from is passed
pub answered : {A : Type 0} (r : Option A) (b : Bool) (x : A) → r ≡ cond b (Some x) None → is_some r ≡ b
answered r true x e = ap is_some e
answered r false x e = ap is_some e

pub with_answer : (s : List ℕ) (w : Substitution) (p q : Position) (r : Option (ℕ × ℕ)) (b : Bool)
    → r ≡ replaced_of s w (parse_tree s q.left q.at) (parse_tree s p.left p.at) → b ≡ is_some r
    → b ≡ is_with s w (tree_of s p) (tree_of s q)
unfolding is_with
with_answer s w p q r b e d = d ∙ answered r _ _ e

module _ (s : List ℕ) (x f : ℕ) (p q : Position) (o : Bool) (e : o ≡ occurs (flag x) [] (tree_of s q)) where
  pub stored_flag : o ≡ true → false ≡ stored_by s x f (tree_of s p) (tree_of s q)
  unfolding stored_by
  stored_flag h = rw (← e, h)

  pub stored_with : (b : Bool) (w : Substitution) → o ≡ false → w ≡ one_by (Name.Word x) (Formula f nesting)
      → b ≡ is_with s w (tree_of s p) (tree_of s q) → b ≡ stored_by s x f (tree_of s p) (tree_of s q)
  unfolding stored_by
  stored_with b w h g d = rw (← e, h, ← g) d

pub number_none : (b : Bind) (j n : ℕ) → n ≡ get_or b.num j 0 → n ≡ 0 → 0 ≡ number_in b j
unfolding number_in
number_none b j n e z = rw (← e, z)

pub number_taken : (b : Bind) (j n : ℕ) → n ≡ get_or b.num j 0 → n - 1 ≡ number_in b j
unfolding number_in
number_taken b j n e = rw (← e)

pub start_answer : (s h : List ℕ) (x v : ℕ) (p : Position) (r : Option (ℕ × ℕ)) (b : Bool) → v ≡ nth (start_values h) x 0
    → r ≡ same_of (leaf_only (byte Code.const) v) (parse_tree s p.left p.at) → b ≡ is_some r → b ≡ is_start h x (tree_of s p)
unfolding is_start
start_answer s h x v p r b e f d = rw (← e) (d ∙ answered r _ _ f)

pub const_parts : part_count (byte Code.const) ≡ 0
unfolding part_count
const_parts = refl

pub ruleset side_tests_branches = (
  hole_is,
  apart_word,
  apart_plain,
  apart_result,
  apart_rest,
  keeps_first,
  keeps_load,
  keeps_branch,
  keeps_write,
  keeps_rest,
  with_answer,
  stored_flag,
  stored_with,
  number_none,
  number_taken,
  start_answer,
  const_parts,
  tests,
)
