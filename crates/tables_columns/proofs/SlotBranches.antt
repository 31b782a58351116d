-- The slots: the ways through their functions, one law for each.
use Prim.Native.Nat.{ℕ, zero, suc, ◌+◌, ◌-◌, ◌≤◌, ◌<◌, max}
use mathlib.Core.Path.{◌≡◌, refl, ap, ap₂, sym, ◌∙◌}
use mathlib.Core.List.{List}
use mathlib.Core.Bool.{Bool, true, false, cond, ◌&&◌, ◌||◌}
use native.Mathlib.Omega.{arith}
use lib.Dec.{ltb, eqb}
use borrow.Author.Tests.{lt-ltb, eq-eqb, ne_eqb, eqb-true, eqb-false}
use Rattle.formula.specs.Codes.{part_count}
use Rattle.formula.specs.Tree.{Tree, none, node, node_at, parse_tree, part, ParsedTree}
use Rattle.formula.specs.declared.node.Node.{Node}
use Rattle.formula.proofs.NodeBranches.{parse_zero, parse_step, parts_of}
use Rattle.formula_compare.specs.Same.{same_tree}
use Rattle.formula_compare.proofs.ByPair.{same_none, same_none_node, same_node_none, same_nodes}
use Rattle.tables_columns.specs.Slots.{slots, slot_tree, leaf_slot, same_plain, same_slot, nth, slot_at, slot_from, slot_of, slot_within}
use Rattle.tables_columns.specs.declared.slot.Slot.{Slot}
use Rattle.tables_columns.specs.declared.slot.Slot.TheVariants.{Plain, Whole}

-- the slot of a leaf
module _ (s : List ℕ) (at left : ℕ) (x : Node) (e : x ≡ node_at s at) where
  pub slot_plain : x.parts ≡ 0 → Plain x.code x.operand ≡ leaf_slot s at left
  unfolding leaf_slot
  slot_plain p = rw (← e, eq-eqb _ _ p)

  pub slot_whole : (x.parts ≡ 0 → ⊥) → Whole at left ≡ leaf_slot s at left
  unfolding leaf_slot
  slot_whole p = rw (← e, ne_eqb _ _ p)

pub ruleset leaf_slot_branches = (slot_plain, slot_whole)

pub same_self : (t : Tree) → same_tree t t ≡ true
unfolding same_tree
same_self none = refl
same_self (node c o l r) = rw (eq-eqb c c refl, eq-eqb o o refl, same_self l, same_self r)

-- the formula of a slot
module _ (s : List ℕ) (at left : ℕ) (x : Node) where
  pub slot_here : (c o : ℕ) → same_slot s at left x (Plain c o)
      ≡ (eqb x.code c && (eqb x.operand o && (eqb x.parts 0 || eqb left 1)))
  unfolding same_slot
  slot_here c o = refl

  pub slot_told : (p k : ℕ) (b : Bool) → b ≡ same_tree (parse_tree s left at).tree (parse_tree s (max k 1) p).tree
      → b ≡ same_slot s at left x (Whole p k)
  unfolding same_slot
  slot_told p k b e = e

  pub slot_self : (p k : ℕ) → p ≡ at → max k 1 ≡ left → true ≡ same_slot s at left x (Whole p k)
  unfolding same_slot
  slot_self p k d l = rw (l, d) (sym (same_self (parse_tree s left at).tree))

pub ruleset same_slot_branches = (slot_here, slot_told, slot_self)

-- a leaf without parts
module _ (s : List ℕ) (c o : ℕ) where
  pub plain_one : (d i : ℕ) → same_plain s c o (Plain d i) ≡ (eqb c d && eqb o i)
  unfolding same_plain
  plain_one d i = refl

  pub plain_there : (p k : ℕ) → same_plain s c o (Whole p k) ≡ (eqb c (node_at s p).code && eqb o (node_at s p).operand)
  unfolding same_plain
  plain_there p k = refl

pub ruleset same_plain_branches = (plain_one, plain_there)

-- comparison with a slot is comparison with its tree
module _ (s : List ℕ) (at left : ℕ) (z : left ≡ 0 → ⊥) where
  abbrev x : Node
  x = node_at s at

  same-slot : (p : Slot) → same_slot s at left x p ≡ same_tree (parse_tree s left at).tree (slot_tree s p)
  unfolding same_slot slot_tree
  same-slot (Whole p k) = refl
  same-slot (Plain c o) = go (eqb x.code c) (eqb x.operand o) (eqb x.parts 0) (eqb left 1) refl refl refl refl
    where
      go : (a b c₂ d : Bool) → eqb x.code c ≡ a → eqb x.operand o ≡ b → eqb x.parts 0 ≡ c₂ → eqb left 1 ≡ d
          → (eqb x.code c && (eqb x.operand o && (eqb x.parts 0 || eqb left 1)))
          ≡ same_tree (parse_tree s left at).tree (node c o none none)
      go false b c₂ d ea eb ec ed = rw (ea, parse_step s left at z, same_nodes, ea)
      go true false c₂ d ea eb ec ed = rw (ea, eb, parse_step s left at z, same_nodes, ea, eb)
      go true true true d ea eb ec ed =
          let n : x.parts ≡ 0 = eqb-true x.parts 0 ec in
          rw (ea, eb, ec, parse_step s left at z, same_nodes, ea, eb, n, same_none)
      go true true false true ea eb ec ed =
          let n : x.parts ≡ 0 → ⊥ = eqb-false x.parts 0 ec in
          let t₀ : 0 < x.parts = omega arith in
          let o₁ : left ≡ 1 = eqb-true left 1 ed in
          let y : left - 1 ≡ 0 = omega arith in
          rw (
            ea,
            eb,
            ec,
            ed,
            parse_step s left at z,
            same_nodes,
            ea,
            eb,
            lt-ltb _ _ t₀,
            parse_zero s (left - 1) x.next y,
            same_none,
          ) (right (ltb 1 x.parts) y)
        where
          right : (b : Bool) → left - 1 ≡ 0 → true ≡ same_tree (part (λ q. parse_tree s (left - 1) q) b x.next).tree none
          right true y = rw (parse_zero s (left - 1) x.next y, same_none)
          right false y = rw same_none
      go true true false false ea eb ec ed =
          let n : x.parts ≡ 0 → ⊥ = eqb-false x.parts 0 ec in
          let t₀ : 0 < x.parts = omega arith in
          let o₁ : left ≡ 1 → ⊥ = eqb-false left 1 ed in
          let y : left - 1 ≡ 0 → ⊥ = λ q. omega arith in
          rw (
            ea,
            eb,
            ec,
            ed,
            parse_step s left at z,
            same_nodes,
            ea,
            eb,
            lt-ltb _ _ t₀,
            parse_step s (left - 1) x.next y,
            same_node_none,
          )

-- the same of a leaf without parts
module _ (s : List ℕ) (c o : ℕ) (none_of : part_count c ≡ 0) where
  same-plain : (p : Slot) → same_plain s c o p ≡ same_tree (node c o none none) (slot_tree s p)
  unfolding same_plain slot_tree
  same-plain (Plain d i) = rw same_nodes (join (eqb c d) (eqb o i))
    where
      join : (a b : Bool) → (a && b) ≡ (a && (b && (same_tree none none && same_tree none none)))
      join true true = rw same_none
      join true false = refl
      join false b = refl
  same-plain (Whole p k) = go (eqb c (node_at s p).code) refl
    where
      one : max k 1 ≡ 0 → ⊥
      one e = omega arith

      join : (b : Bool) → b ≡ (b && (same_tree none none && same_tree none none))
      join true = rw same_none
      join false = refl

      go : (a : Bool) → eqb c (node_at s p).code ≡ a → (eqb c (node_at s p).code && eqb o (node_at s p).operand)
          ≡ same_tree (node c o none none) (parse_tree s (max k 1) p).tree
      go true ea =
          let n : (node_at s p).parts ≡ 0 = parts_of s p ∙ ap part_count (sym (eqb-true c (node_at s p).code ea)) ∙ none_of in
          rw (parse_step s (max k 1) p one, same_nodes, n, ea) (join (eqb o (node_at s p).operand))
      go false ea = rw (parse_step s (max k 1) p one, same_nodes, ea)

pub plain_tree : (s : List ℕ) (c o : ℕ) → slot_tree s (Plain c o) ≡ node c o none none
unfolding slot_tree
plain_tree s c o = refl

pub whole_tree : (s : List ℕ) (p k : ℕ) → slot_tree s (Whole p k) ≡ (parse_tree s (max k 1) p).tree
unfolding slot_tree
whole_tree s p k = refl

-- a slot holds a node, never nothing
slot_node : (s : List ℕ) (p : Slot) → same_tree none (slot_tree s p) ≡ false
slot_node s (Plain c o) = rw (plain_tree, same_none_node)
slot_node s (Whole p k) = let z : max k 1 ≡ 0 → ⊥ = λ e. omega arith in rw (whole_tree, parse_step s (max k 1) p z, same_none_node)

-- the leaf's slot holds the leaf
pub leaf-slot : (s : List ℕ) (at left : ℕ) → (left ≡ 0 → ⊥) → slot_tree s (leaf_slot s at left) ≡ (parse_tree s left at).tree
unfolding leaf_slot
leaf-slot s at left z = go (eqb (node_at s at).parts 0) refl
  where
    go : (b : Bool) → eqb (node_at s at).parts 0 ≡ b
        → slot_tree s (cond b (Plain (node_at s at).code (node_at s at).operand) (Whole at left)) ≡ (parse_tree s left at).tree
    go true e =
        let n : (node_at s at).parts ≡ 0 = eqb-true (node_at s at).parts 0 e in
        rw (plain_tree, parse_step s left at z, n)
    go false e = let m : max left 1 ≡ left = omega arith in rw (whole_tree, m)

-- from one slot to the next
pub from_step : (s : List ℕ) (q : List Slot) (d j : ℕ) (t : Tree)
    → slot_from s q (suc d) j t ≡ cond (same_tree t (slot_at s q j)) j (slot_from s q d (suc j) t)
unfolding slot_from
from_step s q d j t = refl

pub from_next : (s : List ℕ) (q : List Slot) (j : ℕ) (t : Tree) → j < slots
    → slot_from s q (slots - j) j t ≡ cond (same_tree t (slot_at s q j)) j (slot_from s q (slots - (j + 1)) (j + 1) t)
from_next s q j t h =
    let e : slots - j ≡ suc (slots - (j + 1)) = omega arith in
    let f : suc j ≡ j + 1 = omega arith in
    rw (e, from_step, f)

pub from_end : (s : List ℕ) (q : List Slot) (j : ℕ) (t : Tree) → slots ≤ j → j ≤ slots → slot_from s q (slots - j) j t ≡ slots
unfolding slot_from
from_end s q j t h g =
    let e : j ≡ slots = omega arith in
    rw e

pub from_zero : (s : List ℕ) (q : List Slot) (j : ℕ) (t : Tree) → slot_from s q 0 j t ≡ j
unfolding slot_from
from_zero s q j t = refl

slot_some : (s : List ℕ) (q : List Slot) (j : ℕ) → same_tree none (slot_at s q j) ≡ false
unfolding slot_at
slot_some s q j = slot_node s (nth q j)

from_none : (s : List ℕ) (q : List Slot) (d j : ℕ) → slot_from s q d j none ≡ j + d
from_none s q zero j = let e : j ≡ j + 0 = omega arith in rw from_zero e
from_none s q (suc d) j =
    let e : suc j + d ≡ j + suc d = omega arith in
    rw (from_step, slot_some s q j, from_none s q d (suc j)) e

-- neither below the first nor above the one behind them
module _ (s : List ℕ) (q : List Slot) (t : Tree) where
  pub from_least : (d j : ℕ) → j ≤ slot_from s q d j t
  unfolding slot_from
  from_least zero j = omega arith
  from_least (suc d) j = go (same_tree t (slot_at s q j)) (from_least d (suc j))
    where
      go : (b : Bool) → suc j ≤ slot_from s q d (suc j) t → j ≤ cond b j (slot_from s q d (suc j) t)
      go true h = omega arith
      go false h = omega arith

  from_most : (d j : ℕ) → slot_from s q d j t ≤ j + d
  unfolding slot_from
  from_most zero j = omega arith
  from_most (suc d) j = go (same_tree t (slot_at s q j)) (from_most d (suc j))
    where
      go : (b : Bool) → slot_from s q d (suc j) t ≤ suc j + d → cond b j (slot_from s q d (suc j) t) ≤ j + suc d
      go true h = omega arith
      go false h = omega arith

pub of_is : (s : List ℕ) (q : List Slot) (t : Tree) → slot_of s q t ≡ slot_from s q slots 0 t
unfolding slot_of
of_is s q t = refl

-- the ways through `slot_of`
module _ (s : List ℕ) (q : List Slot) (at left : ℕ) where
  abbrev tree : Tree
  tree = (parse_tree s left at).tree

  pub of_zero : left ≡ 0 → slots ≡ slot_of s q tree
  of_zero z = sym (of_is s q tree ∙ ap (λ (u : ParsedTree). slot_from s q slots 0 u.tree) (parse_zero s left at z)
      ∙ from_none s q slots 0)

  pub of_begin : slot_of s q tree ≡ slot_from s q (slots - 0) 0 tree
  of_begin = of_is s q tree

  -- of n slots
  pub of_end : (j n : ℕ) → j ≤ n → n ≤ j → slot_of s q tree ≡ slot_from s q (slots - j) j tree → n ≡ slot_within s q n tree
  unfolding slot_within
  of_end j n h g e = let k = from_least s q tree (slots - j) j in omega arith

  -- of all
  pub of_all : (r : ℕ) → r ≡ slot_within s q 12 tree → r ≡ slot_of s q tree
  unfolding slot_within
  of_all r e = let h = of_is s q tree in let k = from_most s q tree slots 0 in omega arith

  module _ (x : Node) (p : Slot) (j n : ℕ) (b : Bool) (l : 0 < left) (ex : x ≡ node_at s at) (g : j < n) (m : n ≤ 12)
      (ep : p ≡ nth q j) (eb : b ≡ same_slot s at left x p) (e : slot_of s q tree ≡ slot_from s q (slots - j) j tree) where
    z : left ≡ 0 → ⊥
    z e = omega arith

    h : j < slots
    h = omega arith

    here : b ≡ same_tree tree (slot_at s q j)
    unfolding slot_at
    here = eb ∙ ap₂ (λ (y : Node) (p : Slot). same_slot s at left y p) ex ep ∙ same-slot s at left z (nth q j)

    pub of_found : b ≡ true → j ≡ slot_within s q n tree
    unfolding slot_within
    of_found d = let f : j ≡ slot_of s q tree = sym (e ∙ from_next s q j tree h ∙ rw (← here, d)) in omega arith

    pub of_next : b ≡ false → slot_of s q tree ≡ slot_from s q (slots - (j + 1)) (j + 1) tree
    of_next d = e ∙ from_next s q j tree h ∙ rw (← here, d)

-- the ways through `plain_slot`
module _ (s : List ℕ) (q : List Slot) (c o : ℕ) where
  abbrev leaf : Tree
  leaf = node c o none none

  pub plain_begin : slot_of s q (node c o none none) ≡ slot_from s q (slots - 0) 0 (node c o none none)
  plain_begin = of_is s q leaf

  pub plain_end : (j : ℕ) → j ≤ slots → slots ≤ j → slot_of s q (node c o none none) ≡ slot_from s q (slots - j) j (node c o none none)
      → slots ≡ slot_of s q (node c o none none)
  plain_end j h g e = sym (e ∙ from_end s q j leaf g h)

  module _ (p : Slot) (j : ℕ) (b : Bool) (z : part_count c ≡ 0) (h : j < slots) (ep : p ≡ nth q j) (eb : b ≡ same_plain s c o p)
      (e : slot_of s q (node c o none none) ≡ slot_from s q (slots - j) j (node c o none none)) where
    plain_here : b ≡ same_tree leaf (slot_at s q j)
    unfolding slot_at
    plain_here = eb ∙ ap (same_plain s c o) ep ∙ same-plain s c o z (nth q j)

    pub plain_found : b ≡ true → j ≡ slot_of s q (node c o none none)
    plain_found d = sym (e ∙ from_next s q j leaf h ∙ rw (← plain_here, d))

    pub plain_next : b ≡ false → slot_of s q (node c o none none) ≡ slot_from s q (slots - (j + 1)) (j + 1) (node c o none none)
    plain_next d = e ∙ from_next s q j leaf h ∙ rw (← plain_here, d)

pub ruleset plain_slot_branches = (plain_begin, plain_end, plain_found, plain_next)

pub ruleset slot_within_branches = (of_begin, of_end, of_found, of_next)

pub ruleset slot_of_branches = (of_zero, of_all)
