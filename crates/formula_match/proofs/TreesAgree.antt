-- The matcher by positions is the matcher on trees.
use Prim.Native.Nat.{ℕ, zero, suc, ◌+◌, ◌-◌, ◌≤◌, ◌<◌}
use mathlib.Core.Path.{◌≡◌, refl, ap, ap₂, sym, ◌∙◌, subst, fun_ext}
use mathlib.Core.List.{List, [], ◌∷◌}
use mathlib.Core.Logic.{◌≢◌}
use mathlib.Core.Bool.{Bool, true, false, ◌&&◌, cond, true≢false}
use mathlib.Core.Option.{Option, none, some}
use Rattle.std.specs.Prelude.{Some, None, option_map}
use Rattle.std.specs.Prelude as Std
use Rattle.std.proofs.lemmas.Option.{same_Some, none-some}
use native.Mathlib.Omega.{arith}
use lib.ListN.{length, get_or, set, length-set}
use lib.Seq.{get_or-set_same, get_or-set_other}
use lib.Dec.{T, ltb, leb, eqb, ltb→lt}
use borrow.Author.Tests.{lt-ltb, le-ltb, le-leb, lt-leb, eq-eqb, ne_eqb, eqb-true, eqb-false, ltb-true, ltb-false}
use Rattle.semantics.specs.Base.{upd}
use Rattle.semantics.specs.Code.{Code, byte}
use Rattle.semantics.proofs.Base.{upd_same, upd_other, by_word, and_left, and_right, holds_true}
use Rattle.formula.specs.Codes.{among, one_part, two_parts, has_operand, part_count}
use Rattle.formula.specs.Tree.{Tree, Tree.node, ParsedTree, part, node_at, parse_tree}
use Rattle.formula.specs.declared.node.Node.{Node}
use Rattle.formula.proofs.NodeBranches.{parse_zero, parse_step, parts_of}
use Rattle.formula_compare.specs.Same.{same_tree, same_of}
use Rattle.formula_trees.proofs.TreeAgree.{tree_refl}
use Rattle.formula_match.specs.Template.{first_hole, first_number}
use Rattle.formula_match.specs.Match as Trees
use Rattle.formula_match.specs.Match.{and_then, when, take_tree, take_num, take_operand, is_node, match_t}
use Rattle.formula_match.specs.MatchPlaces.{hole_count, opened, held_at, is_there, hole_at, kept, operand_of, rooted, node_of, root_at, grown, match_at, taken_of, proper}
use Rattle.formula_match.specs.declared.bind.Bind.{Bind}
use Rattle.formula_match.specs.declared.matching.Match.{Match}
use Rattle.formula_match.proofs.MatchBranches.{part_small}

-- the holes' tables have their size
pub record Sized (b : Bind) : Type 0 where
  pub at : length b.at ≡ hole_count
  pub left : length b.left ≡ hole_count
  pub num : length b.num ≡ hole_count

-- TAKING
module _ (s : List ℕ) (b : Bind) (z : Sized b) where
  -- a number
  num_set : (j n : ℕ) → j < hole_count → taken_of s (record { at = b.at; left = b.left; num = set b.num j (n + 1) }) ≡ record
      { num = upd (taken_of s b).num j (some n); tree = (taken_of s b).tree }
  num_set j n h = λ q. record { num = nums q; tree = (taken_of s b).tree }
    where
      value : ℕ → Option ℕ
      value m = cond (eqb m 0) none (some (m - 1))

      suc_value : value (n + 1) ≡ some n
      suc_value = let e : n + 1 ≢ 0 = omega arith in let d : n + 1 - 1 ≡ n = omega arith in rw (ne_eqb (n + 1) 0 e, d)

      nums : (λ (i : ℕ). value (get_or (set b.num j (n + 1)) i 0)) ≡ upd (λ (i : ℕ). value (get_or b.num i 0)) j (some n)
      nums = fun_ext (by_word j _
          (ap value (get_or-set_same b.num j (n + 1) 0 (omega (arith, z.num))) ∙ suc_value
          ∙ sym (upd_same (λ (i : ℕ). value (get_or b.num i 0)) j (some n)))
          (λ i q. ap value (get_or-set_other b.num j i (n + 1) 0 q)
          ∙ sym (upd_other (λ (i : ℕ). value (get_or b.num i 0)) j (some n) i q)))

  -- a formula
  tree_set : (j at k : ℕ) → j < hole_count → k ≢ 0 → taken_of s (record { at = set b.at j at; left = set b.left j k; num = b.num })
      ≡ record { num = (taken_of s b).num; tree = upd (taken_of s b).tree j (some (parse_tree s k at).tree) }
  tree_set j at k h n = λ q. record { num = (taken_of s b).num; tree = trees q }
    where
      value : ℕ → ℕ → Option Tree
      value m p = cond (eqb m 0) none (some (parse_tree s m p).tree)

      trees : (λ (i : ℕ). value (get_or (set b.left j k) i 0) (get_or (set b.at j at) i 0)) ≡ upd
          (λ (i : ℕ). value (get_or b.left i 0) (get_or b.at i 0)) j (some (parse_tree s k at).tree)
      trees = fun_ext (by_word j _
          (ap₂ value (get_or-set_same b.left j k 0 (omega (arith, z.left))) (get_or-set_same b.at j at 0 (omega (arith, z.at)))
          ∙
          (rw (ne_eqb k 0 n)
          (sym (upd_same (λ (i : ℕ). value (get_or b.left i 0) (get_or b.at i 0)) j (some (parse_tree s k at).tree)))))
          (λ i q. ap₂ value (get_or-set_other b.left j i k 0 q) (get_or-set_other b.at j i at 0 q)
          ∙ sym (upd_other (λ (i : ℕ). value (get_or b.left i 0) (get_or b.at i 0)) j (some (parse_tree s k at).tree) i q)))

-- what is taken, if it is
abbrev pub given : List ℕ → Std.Option Bind → Option Trees.Taken
given s None = none
given s (Some b) = some (taken_of s b)

pub when_given : (s : List ℕ) (x : Bool) (b : Bind) → when x (taken_of s b) ≡ given s (kept x b)
when_given s true b = refl
when_given s false b = refl

-- an operand: by what the tests show
abbrev taking : Bind → ℕ → ℕ → Bool → Bool → Bool → Std.Option Bind
taking b o n i j e =
    cond i
    (cond j
    (cond e (Some (record { at = b.at; left = b.left; num = set b.num o (n + 1) })) (kept (eqb (get_or b.num o 0) (n + 1)) b))
    None)
    (kept (eqb (o - first_number) n) b)

operand_follows : (s : List ℕ) (b : Bind) → Sized b → (d o n : ℕ) → has_operand d ≡ true
    → T (cond (ltb o first_number) (ltb o hole_count) true)
    → take_operand d o n (taken_of s b) ≡ given s (operand_of o n b)
unfolding operand_of
operand_follows s b z d o n h p = go (has_operand d) (ltb o first_number) (ltb o hole_count) (eqb (get_or b.num o 0) 0) h refl refl refl p
  where
    took : (m : ℕ) → get_or b.num o 0 ≡ m → m ≢ 0 → when (eqb (m - 1) n) (taken_of s b) ≡ given s (kept (eqb m (n + 1)) b)
    took m e q = (λ i. when (same m q i) (taken_of s b)) ∙ when_given s (eqb m (n + 1)) b
      where
        same : (m : ℕ) → m ≢ 0 → eqb (m - 1) n ≡ eqb m (n + 1)
        same m q = cases (eqb (m - 1) n) refl
          where
            cases : (c : Bool) → eqb (m - 1) n ≡ c → c ≡ eqb m (n + 1)
            cases true e = let f = eqb-true (m - 1) n e in sym (eq-eqb m (n + 1) (omega arith))
            cases false e = let f = eqb-false (m - 1) n e in sym (ne_eqb m (n + 1) (λ (g : m ≡ n + 1). f (omega arith)))

    go : (a i j e : Bool) → a ≡ true → ltb o first_number ≡ i → ltb o hole_count ≡ j → eqb (get_or b.num o 0) 0 ≡ e → T (cond i j true)
        → ◌≡◌ {A = Option Trees.Taken}
        (elim a [
          | false ↦ when (eqb 0 n) (taken_of s b)
          | true ↦ elim i [
            | true ↦ take_num o n (taken_of s b) (cond e none (some (get_or b.num o 0 - 1)))
            | false ↦ when (eqb (o - first_number) n)
                (taken_of s b)
          ]
        ])
        (given s (taking b o n i j e))
    go false i j e h q r w p = let y : ◌≡◌ {A = ℕ} 0 1 = cc in absurd (omega arith)
    go true true true true h q r w p = ap some (sym (num_set s b z o n (ltb-true o hole_count r)))
    go true true true false h q r w p = took (get_or b.num o 0) refl (eqb-false (get_or b.num o 0) 0 w)
    go true true false e h q r w p = absurd p
    go true false j e h q r w p = when_given s (eqb (o - first_number) n) b

operand_none : (d o n : ℕ) (b : Trees.Taken) → has_operand d ≡ false → n ≡ 0 → take_operand d o n b ≡ some b
operand_none d o n b h e = go (has_operand d) h
  where
    go : (a : Bool) → a ≡ false → ◌≡◌ {A = Option Trees.Taken}
        (elim a [
          | false ↦ when (eqb 0 n) b
          | true ↦ elim (ltb o first_number)
              [ true ↦ take_num o n b (b.num o) | false ↦ when (eqb (o - first_number) n) b ]
        ]) (some b)
    go true h = let y : ◌≡◌ {A = ℕ} 0 1 = cc in absurd (omega arith)
    go false h = rw e

operand_sized : (b : Bind) → Sized b → (o n : ℕ) (b' : Bind) → operand_of o n b ≡ Some b' → Sized b'
unfolding operand_of
operand_sized b z o n b' h = go (ltb o first_number) (ltb o hole_count) (eqb (get_or b.num o 0) 0) h
  where
    held : (x : Bool) → kept x b ≡ Some b' → Sized b'
    held true e = subst Sized (same_Some b b' e) z
    held false e = absurd (none-some b' e)

    go : (i j e : Bool) → taking b o n i j e ≡ Some b' → Sized b'
    go true true true e = subst Sized (same_Some _ b' e) (record { at = z.at; left = z.left; num = length-set b.num o (n + 1) ∙ z.num })
    go true true false e = held (eqb (get_or b.num o 0) (n + 1)) e
    go true false x e = absurd (none-some b' e)
    go false j x e = held (eqb (o - first_number) n) e

abbrev small : List Code → Bool
small [] = true
small (k ∷ l) = ltb (byte k) first_hole && small l

-- THE STEP
-- codes of holes have neither operand nor parts
high : (c : ℕ) (l : List Code) → T (small l) → first_hole ≤ c → among c l ≡ false
high c [] h g = refl
high c (k ∷ l) h g =
    let q : c ≢ byte k = λ (e : c ≡ byte k). below (byte k) (and_left (ltb (byte k) first_hole) (small l) h) e in
    rw (ne_eqb c (byte k) q) (high c l (and_right (ltb (byte k) first_hole) (small l) h) g)
  where
    below : (n : ℕ) → T (ltb n first_hole) → c ≡ n → ⊥
    below n h e = let l = ltb→lt n first_hole h in omega arith

hole_leaf : (c : ℕ) → first_hole ≤ c → part_count c ≡ 0
unfolding part_count
hole_leaf c h = rw (high c two_parts tt h, high c one_part tt h)

-- of a node without an operand the tree has 0
abbrev shown : List ℕ → ℕ → Bool → Bool → Node
shown s at a b =
    cond a
    (cond b
    (record { code = get_or s at 0; operand = get_or s (at + 1) 0; parts = part_count (get_or s at 0); next = at + 2 })
    (record { code = get_or s at 0; operand = 0; parts = part_count (get_or s at 0); next = at + 1 }))
    (record { code = 0; operand = 0; parts = 0; next = at })

no_operand : (s : List ℕ) (at : ℕ) → has_operand (node_at s at).code ≡ false → (node_at s at).operand ≡ 0
unfolding node_at
no_operand s at = go (ltb at (length s)) (has_operand (get_or s at 0)) refl
  where
    go : (a b : Bool) → has_operand (get_or s at 0) ≡ b → has_operand (shown s at a b).code ≡ false → (shown s at a b).operand ≡ 0
    go true true e h = let z : ◌≡◌ {A = Bool} true false = sym e ∙ h in let y : ◌≡◌ {A = ℕ} 0 1 = cc in absurd (omega arith)
    go true false e h = refl
    go false b e h = refl

-- the bindings of a match
abbrev pub bind_of : Std.Option Match → Std.Option Bind
bind_of m = option_map (λ (x : Match). x.bind) m

-- where a match stops, and the holes' tables have their size
pub record Stops (e d : ℕ) (m : Match) : Type 0 where
  pub tpl : m.tpl ≡ e
  pub next : m.next ≡ d
  pub sized : Sized m.bind

-- what the matcher gives by positions, as it is on trees; and where it stops
pub record Follows (s t : List ℕ) (k i at : ℕ) (b : Bind) (m : Std.Option Match) : Type 0 where
  pub same : match_t (parse_tree t k i).tree (parse_tree s k at).tree (taken_of s b) ≡ given s (bind_of m)
  pub stops : (x : Match) → m ≡ Some x → Stops (parse_tree t k i).end (parse_tree s k at).end x

match_node : (d o : ℕ) (l r u : Tree) (b : Trees.Taken) → match_t (node d o l r) u b ≡ elim (leb first_hole d) [
  | true ↦ take_tree (d - first_hole) u b (b.tree (d - first_hole))
  | false ↦ is_node u (λ e n m s. and_then (when (eqb d e) b)
      (λ b₀. and_then (take_operand d o n b₀) (λ b₁. and_then (match_t l m b₁) (λ b₂. match_t r s b₂))))
]
unfolding match_t
match_node d o l r u b = refl

match_none : (b : Trees.Taken) → match_t Tree.none Tree.none b ≡ some b
unfolding match_t
match_none b = refl

proper_node : (d o : ℕ) (l r : Tree) → proper (node d o l r) ≡ cond (ltb d first_hole)
    (cond (has_operand d) (cond (ltb o first_number) (ltb o hole_count) true) true && (proper l && proper r)) (ltb (d - first_hole) hole_count)
unfolding proper
proper_node d o l r = refl

-- one formula at one place is equal to itself
there_equal : (s : List ℕ) (p m q k : ℕ) → is_there p m q k ≡ true → same_tree (parse_tree s m p).tree (parse_tree s k q).tree ≡ true
unfolding is_there
there_equal s p m q k = go (eqb p q) refl
  where
    go : (x : Bool) → eqb p q ≡ x → cond x (eqb m k) false ≡ true → same_tree (parse_tree s m p).tree (parse_tree s k q).tree ≡ true
    go true e h = rw (eqb-true p q e, eqb-true m k h)
        (holds_true (same_tree (parse_tree s k q).tree (parse_tree s k q).tree) (tree_refl (parse_tree s k q).tree))
    go false e h = absurd (true≢false (sym h))

-- a hole
module _ (s t : List ℕ) (k i at : ℕ) (b : Bind) (z : Sized b) where
  abbrev h₀ : Node
  h₀ = node_at t i

  abbrev j₀ : ℕ
  j₀ = (node_at t i).code - first_hole

  hole_follows : first_hole ≤ h₀.code → j₀ < hole_count → Follows s t (suc k) i at b (match_at s t (suc k) i at b)
  unfolding match_at root_at hole_at
  hole_follows large below = go (eqb (get_or b.left j₀ 0) 0) refl
      (same_tree (parse_tree s (get_or b.left j₀ 0) (get_or b.at j₀ 0)).tree (parse_tree s (suc k) at).tree) refl
    where
      parts : h₀.parts ≡ 0
      parts = parts_of t i ∙ hole_leaf h₀.code large

      ended : h₀.next ≡ (parse_tree t (suc k) i).end
      ended = let n : suc k ≡ 0 → ⊥ = omega arith in rw (parse_step t (suc k) i n, parts)

      taken : match_t (parse_tree t (suc k) i).tree (parse_tree s (suc k) at).tree (taken_of s b) ≡ take_tree j₀
          (parse_tree s (suc k) at).tree (taken_of s b) ((taken_of s b).tree j₀)
      taken = let n : suc k ≡ 0 → ⊥ = omega arith in rw (parse_step t (suc k) i n, match_node, le-leb first_hole h₀.code large)

      root : match_at s t (suc k) i at b ≡ grown (λ i' at' b'. match_at s t k i' at' b') (parse_tree s (suc k) at).end
          (hole_at s h₀.next j₀ at (suc k) b)
      root = let n : suc k ≡ 0 → ⊥ = omega arith in rw (ne_eqb (suc k) 0 n, le-ltb h₀.code first_hole large, lt-ltb j₀ hole_count below)

      there : Bool
      there = is_there (get_or b.at j₀ 0) (get_or b.left j₀ 0) at (suc k)

      alike : Bool
      alike = same_tree (parse_tree s (get_or b.left j₀ 0) (get_or b.at j₀ 0)).tree (parse_tree s (suc k) at).tree

      held : (x : Bool) → alike ≡ true → grown (λ i' at' b'. match_at s t k i' at' b') (parse_tree s (suc k) at).end
          (cond x (Some (opened h₀.next b)) (held_at b h₀.next
          (same_of (parse_tree s (get_or b.left j₀ 0) (get_or b.at j₀ 0)) (parse_tree s (suc k) at))))
          ≡ Some (record { tpl = h₀.next; next = (parse_tree s (suc k) at).end; bind = b })
      held true d = refl
      held false d = rw d

      elsewhere : (x : Bool) → there ≡ x → alike ≡ false → x ≡ false
      elsewhere true y d = absurd (true≢false (sym (there_equal s (get_or b.at j₀ 0) (get_or b.left j₀ 0) at (suc k) y) ∙ d))
      elsewhere false y d = refl

      go : (e : Bool) → eqb (get_or b.left j₀ 0) 0 ≡ e → (q : Bool)
          → same_tree (parse_tree s (get_or b.left j₀ 0) (get_or b.at j₀ 0)).tree (parse_tree s (suc k) at).tree ≡ q
          → Follows s t (suc k) i at b (match_at s t (suc k) i at b)
      go true e q d =
          let m : Match = record {
            tpl = h₀.next;
            next = (parse_tree s (suc k) at).end;
            bind = record { at = set b.at j₀ at; left = set b.left j₀ (suc k); num = b.num };
          } in
          let r : match_at s t (suc k) i at b ≡ Some m = root ∙ (rw e) in
          subst (Follows s t (suc k) i at b) (sym r) (record {
            same = taken ∙ (rw e (ap some (sym (tree_set s b z j₀ at (suc k) below (λ (y : suc k ≡ 0). omega arith)))));
            stops = λ x o. subst (Stops _ _) (same_Some m x o) (record {
              tpl = ended;
              next = refl;
              sized = record { at = length-set b.at j₀ at ∙ z.at; left = length-set b.left j₀ (suc k) ∙ z.left; num = z.num };
            });
          })
      go false e true d =
          let m : Match = record { tpl = h₀.next; next = (parse_tree s (suc k) at).end; bind = b } in
          let r : match_at s t (suc k) i at b ≡ Some m = root ∙ (rw e (held there d)) in
          subst (Follows s t (suc k) i at b) (sym r) (record {
            same = taken ∙ (rw (e, d));
            stops = λ x o. subst (Stops _ _) (same_Some m x o) (record { tpl = ended; next = refl; sized = z });
          })
      go false e false d =
          let n : there ≡ false = elsewhere there refl d in
          let r : match_at s t (suc k) i at b ≡ None = root ∙ (rw (e, n, d)) in
          subst (Follows s t (suc k) i at b) (sym r) (record { same = taken ∙ (rw (e, d)); stops = λ x o. absurd (none-some x o) })

-- the parts of two nodes that are alike
module _ (s t : List ℕ) (k : ℕ) (ih : (i at : ℕ) (b : Bind) → Sized b → T (proper (parse_tree t k i).tree)
    → Follows s t k i at b (match_at s t k i at b)) where
  abbrev first : List ℕ → Node → ParsedTree
  first l x = part (λ p. parse_tree l k p) (ltb 0 x.parts) x.next

  abbrev second : List ℕ → Node → ParsedTree
  second l x = part (λ p. parse_tree l k p) (ltb 1 x.parts) (first l x).end

  record PartsFollow (h x : Node) (b : Bind) (m : Std.Option Match) : Type 0 where
    same : and_then (match_t (first t h).tree (first s x).tree (taken_of s b))
        (λ b₂. match_t (second t h).tree (second s x).tree b₂) ≡ given s (bind_of m)
    stops : (y : Match) → m ≡ Some y → Stops (second t h).end (second s x).end y

  abbrev sub_match : ℕ → ℕ → Bind → Std.Option Match
  sub_match i at b = match_at s t k i at b

  parts_follow : (h x : Node) (b : Bind) → Sized b → (end p : ℕ) → h.parts ≡ p → x.parts ≡ p → p < 3 → T (proper (first t h).tree)
      → T (proper (second t h).tree)
      → PartsFollow h x b (grown sub_match end (Some (rooted h x b)))
  parts_follow h x b z end zero eh ex l pf ps =
      let m : Match = record { tpl = h.next; next = x.next; bind = b } in
      let q : grown sub_match end (Some (rooted h x b)) ≡ Some m = rw ex in
      subst (PartsFollow h x b) (sym q) (record {
        same = rw (eh, ex, match_none, match_none);
        stops = λ y o. subst (Stops _ _) (same_Some m y o) (record { tpl = rw eh; next = rw ex; sized = z });
      })
  parts_follow h x b z end (suc zero) eh ex l pf ps = go (sub_match h.next x.next b) (ih h.next x.next b z (rw eh at pf)) refl
    where
      go : (m : Std.Option Match) → Follows s t k h.next x.next b m → sub_match h.next x.next b ≡ m
          → PartsFollow h x b (grown sub_match end (Some (rooted h x b)))
      go m f e = let q : grown sub_match end (Some (rooted h x b)) ≡ m = rw (ex, e) in subst (PartsFollow h x b) (sym q) (record {
        same = rw (eh, ex, f.same) (last (bind_of m));
        stops = λ y o. rw (eh, ex) (f.stops y o);
      })
        where
          last : (o : Std.Option Bind) → and_then (given s o) (λ b₂. match_t Tree.none Tree.none b₂) ≡ given s o
          last (Some b₂) = match_none (taken_of s b₂)
          last None = refl
  parts_follow h x b z end (suc (suc zero)) eh ex l pf ps =
      go (sub_match h.next x.next b) (ih h.next x.next b z (rw eh at pf)) refl
    where
      go : (m : Std.Option Match) → Follows s t k h.next x.next b m → sub_match h.next x.next b ≡ m
          → PartsFollow h x b (grown sub_match end (Some (rooted h x b)))
      go (Some m) f e =
          let y = f.stops m refl in
          let pr : T (proper (parse_tree t k m.tpl).tree) = subst (λ (n : ℕ). T (proper (parse_tree t k n).tree)) (sym y.tpl) (rw eh at ps) in
          let g : Follows s t k m.tpl m.next m.bind (sub_match m.tpl m.next m.bind) = ih m.tpl m.next m.bind y.sized pr in
          let q : grown sub_match end (Some (rooted h x b)) ≡ sub_match m.tpl m.next m.bind = rw (ex, e) in
          subst (PartsFollow h x b) (sym q) (record {
            same = rw (eh, ex, f.same, ← y.tpl, ← y.next) g.same;
            stops = λ w o. rw (eh, ex, ← y.tpl, ← y.next) (g.stops w o);
          })
      go None f e =
          let q : grown sub_match end (Some (rooted h x b)) ≡ None = rw (ex, e) in
          subst (PartsFollow h x b) (sym q) (record { same = rw (eh, ex, f.same); stops = λ y o. absurd (none-some y o) })
  parts_follow h x b z end (suc (suc (suc p))) eh ex l pf ps = absurd (omega arith)

  -- two nodes, the template's no hole
  module _ (i at : ℕ) (b : Bind) (z : Sized b) (low : (node_at t i).code < first_hole) where
    abbrev h : Node
    h = node_at t i

    abbrev x : Node
    x = node_at s at

    abbrev end : ℕ
    end = (parse_tree s (suc k) at).end

    abbrev left_tpl : Tree
    left_tpl = (first t h).tree

    abbrev right_tpl : Tree
    right_tpl = (second t h).tree

    not_zero : suc k ≡ 0 → ⊥
    not_zero e = omega arith

    tpl_tree : parse_tree t (suc k) i ≡ record { tree = node h.code h.operand left_tpl right_tpl; end = (second t h).end }
    unfolding parse_tree
    tpl_tree = refl

    its_tree : parse_tree s (suc k) at ≡ record {
      tree = node x.code x.operand (first s x).tree (second s x).tree;
      end = (second s x).end;
    }
    unfolding parse_tree
    its_tree = refl

    abbrev operand_ok : Bool
    operand_ok = cond (has_operand h.code) (cond (ltb h.operand first_number) (ltb h.operand hole_count) true) true

    -- on trees: the codes, the operands, the parts
    by_tree : match_t (parse_tree t (suc k) i).tree (parse_tree s (suc k) at).tree (taken_of s b)
        ≡ and_then (when (eqb h.code x.code) (taken_of s b))
        (λ b₀. and_then (take_operand h.code h.operand x.operand b₀)
        (λ b₁. and_then (match_t left_tpl (first s x).tree b₁) (λ b₂. match_t right_tpl (second s x).tree b₂)))
    by_tree = rw (tpl_tree, its_tree, match_node, lt-leb first_hole h.code low)

    -- by positions
    by_place : match_at s t (suc k) i at b ≡ grown sub_match end (node_of h x b)
    unfolding match_at root_at
    by_place = rw (ne_eqb (suc k) 0 not_zero, lt-ltb h.code first_hole low)

    refused_follows : match_t (parse_tree t (suc k) i).tree (parse_tree s (suc k) at).tree (taken_of s b) ≡ none → node_of h x b ≡ None
        → Follows s t (suc k) i at b (match_at s t (suc k) i at b)
    refused_follows e d =
        let q : match_at s t (suc k) i at b ≡ None = by_place ∙ (rw d) in
        subst (Follows s t (suc k) i at b) (sym q) (record { same = e; stops = λ y o. absurd (none-some y o) })

    -- once the operands are taken
    goes_on : (b'' : Bind) → Sized b'' → h.code ≡ x.code → T (proper left_tpl) → T (proper right_tpl) → node_of h x b ≡ Some (rooted h x b'')
        → match_t (parse_tree t (suc k) i).tree (parse_tree s (suc k) at).tree (taken_of s b) ≡ and_then
        (match_t left_tpl (first s x).tree (taken_of s b'')) (λ b₂. match_t right_tpl (second s x).tree b₂)
        → Follows s t (suc k) i at b (match_at s t (suc k) i at b)
    goes_on b'' z' c pl pr d e =
        let hp : h.parts ≡ x.parts = parts_of t i ∙ ap part_count c ∙ sym (parts_of s at) in
        let f : PartsFollow h x b'' (grown sub_match end (Some (rooted h x b''))) =
        parts_follow h x b'' z' end x.parts hp refl (part_small s at x refl) pl pr in
        let q : match_at s t (suc k) i at b ≡ grown sub_match end (Some (rooted h x b'')) = by_place ∙ (rw d) in
        subst (Follows s t (suc k) i at b) (sym q) (record { same = e ∙ f.same; stops = λ y o. rw (tpl_tree, its_tree) (f.stops y o) })

    node_follows : T (proper (parse_tree t (suc k) i).tree) → Follows s t (suc k) i at b (match_at s t (suc k) i at b)
    unfolding node_of
    node_follows pr = codes (eqb h.code x.code) refl
      where
        fine : T (operand_ok && (proper left_tpl && proper right_tpl))
        fine =
            let g : T (proper (node h.code h.operand left_tpl right_tpl)) =
            subst (λ (u : ParsedTree). T (proper u.tree)) tpl_tree pr in
            rw (proper_node, lt-ltb h.code first_hole low) at g

        operand_fine : T operand_ok
        operand_fine = and_left operand_ok (proper left_tpl && proper right_tpl) fine

        left_fine : T (proper left_tpl)
        left_fine = and_left (proper left_tpl) (proper right_tpl) (and_right operand_ok (proper left_tpl && proper right_tpl) fine)

        right_fine : T (proper right_tpl)
        right_fine = and_right (proper left_tpl) (proper right_tpl) (and_right operand_ok (proper left_tpl && proper right_tpl) fine)

        with_operand : (c : eqb h.code x.code ≡ true) → has_operand h.code ≡ true → (o : Std.Option Bind)
            → operand_of h.operand x.operand b ≡ o → Follows s t (suc k) i at b (match_at s t (suc k) i at b)
        with_operand c p o e =
            let w : take_operand h.code h.operand x.operand (taken_of s b) ≡ given s (operand_of h.operand x.operand b) =
            operand_follows s b z h.code h.operand x.operand p (rw p at operand_fine) in
            settle o e w
          where
            settle : (o : Std.Option Bind) → operand_of h.operand x.operand b ≡ o
                → take_operand h.code h.operand x.operand (taken_of s b) ≡ given s (operand_of h.operand x.operand b)
                → Follows s t (suc k) i at b (match_at s t (suc k) i at b)
            settle (Some b') e w =
                goes_on b' (operand_sized b z h.operand x.operand b' e) (eqb-true h.code x.code c) left_fine right_fine (rw (c, p, e))
                (by_tree ∙ (rw (c, w, e)))
            settle None e w = refused_follows (by_tree ∙ (rw (c, w, e))) (rw (c, p, e))

        no_operands : (c : eqb h.code x.code ≡ true) → has_operand h.code ≡ false
            → Follows s t (suc k) i at b (match_at s t (suc k) i at b)
        no_operands c p =
            let n : x.operand ≡ 0 = no_operand s at (ap has_operand (sym (eqb-true h.code x.code c)) ∙ p) in
            goes_on b z (eqb-true h.code x.code c) left_fine right_fine (rw (c, p))
            (by_tree ∙ (rw (c, operand_none h.code h.operand x.operand (taken_of s b) p n)))

        operands : (c : eqb h.code x.code ≡ true) → (p : Bool) → has_operand h.code ≡ p
            → Follows s t (suc k) i at b (match_at s t (suc k) i at b)
        operands c true p = with_operand c p (operand_of h.operand x.operand b) refl
        operands c false p = no_operands c p

        codes : (c : Bool) → eqb h.code x.code ≡ c → Follows s t (suc k) i at b (match_at s t (suc k) i at b)
        codes true c = operands c (has_operand h.code) refl
        codes false c = refused_follows (by_tree ∙ (rw c)) (rw c)

-- THE MATCHER BY POSITIONS IS THE MATCHER ON TREES
pub match_follows : (s t : List ℕ) (k i at : ℕ) (b : Bind) → Sized b → T (proper (parse_tree t k i).tree)
    → Follows s t k i at b (match_at s t k i at b)
unfolding match_at
match_follows s t zero i at b z pr =
    let m : Match = record { tpl = i; next = at; bind = b } in
    record {
      same = rw (parse_zero t 0 i refl, parse_zero s 0 at refl) (match_none (taken_of s b));
      stops = λ x o. rw (parse_zero t 0 i refl, parse_zero s 0 at refl) (subst (Stops i at) (same_Some m x o) (record { tpl = refl; next = refl; sized = z }));
    }
match_follows s t (suc k) i at b z pr = go (ltb (node_at t i).code first_hole) refl (λ i at b z pr. match_follows s t k i at b z pr)
  where
    go : (c : Bool) → ltb (node_at t i).code first_hole ≡ c
        → ((i at : ℕ) (b : Bind) → Sized b → T (proper (parse_tree t k i).tree) → Follows s t k i at b (match_at s t k i at b))
        → Follows s t (suc k) i at b (match_at s t (suc k) i at b)
    go true c ih = node_follows s t k ih i at b z (ltb-true (node_at t i).code first_hole c) pr
    go false c ih =
        let n : suc k ≡ 0 → ⊥ = omega arith in
        hole_follows s t k i at b z (ltb-false (node_at t i).code first_hole c)
        (ltb→lt ((node_at t i).code - first_hole) hole_count (rw (parse_step t (suc k) i n, proper_node, c) at pr))
