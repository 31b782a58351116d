-- Leaves gathered: what the slots hold, and the ways through the functions, one law for each.
use Prim.Native.Nat.{ℕ, zero, suc, ◌+◌, ◌-◌, ◌≤◌, ◌<◌, min}
use mathlib.Core.Path.{◌≡◌, refl, ap, ap₂, sym, ◌∙◌, subst}
use mathlib.Core.List.{List, [], ◌∷◌}
use mathlib.Core.Bool.{Bool, true, false, ◌||◌, cond}
use native.Mathlib.Omega.{arith}
use lib.ListN.{length, set, length-set}
use lib.Seq.{get_or-set_same, get_or-set_other}
use lib.Dec.{ltb}
use borrow.Author.Tests.{lt-ltb, le-ltb, ltb-true, ltb-false}
use Rattle.logic.specs.Rows.{is_in}
use Rattle.formula.specs.Codes.{member}
use Rattle.formula.specs.Tree.{Tree, none, node, node_at, parse_tree, ParsedTree}
use Rattle.formula.specs.declared.node.Node.{Node}
use Rattle.formula.proofs.NodeBranches.{parse_zero, parse_step}
use Rattle.limits.proofs.BranchTests.{lower}
use Rattle.formula_compare.specs.Same.{same_tree}
use Rattle.tables_columns.specs.Slots.{slots, slot_tree, leaf_slot, nth, slot_at, slot_from, slot_of, slot_within, kept}
use Rattle.tables_columns.specs.Gather.{Gathered, many, keys, put_t, gather_t, view, count_put, slot_put}
use Rattle.tables_columns.specs.declared.slot.Slot.{Slot}
use Rattle.tables_columns.specs.declared.slot.Slot.TheVariants.{Plain}
use Rattle.tables_columns.proofs.SlotBranches.{same_self, leaf-slot, from_zero, from_step, from_least, from_next, of_is}

pub kept_none : (s : List ℕ) (q : List Slot) → kept s q 0 ≡ []
unfolding kept
kept_none s q = refl

pub kept_step : (s : List ℕ) (q : List Slot) (n : ℕ) → kept s q (suc n) ≡ slot_at s q n ∷ kept s q n
unfolding kept
kept_step s q n = refl

pub kept_length : (s : List ℕ) (q : List Slot) (n : ℕ) → length (kept s q n) ≡ n
kept_length s q zero = rw kept_none
kept_length s q (suc n) = rw (kept_step s q n) (ap suc (kept_length s q n))

in_none : (t : Tree) → is_in same_tree t [] ≡ false
unfolding is_in
in_none t = refl

in_step : (t u : Tree) (l : List Tree) → is_in same_tree t (u ∷ l) ≡ (same_tree t u || is_in same_tree t l)
unfolding is_in
in_step t u l = refl

-- a tree is among the first n if its slot is below n
module _ (s : List ℕ) (q : List Slot) (t : Tree) where
  from_skip : (n : ℕ) → n ≤ slots → n ≤ slot_of s q t → slot_of s q t ≡ slot_from s q (slots - n) n t
  from_skip zero h g = of_is s q t
  from_skip (suc n) h g = go (same_tree t (slot_at s q n)) (from_skip n (omega arith) (omega arith) ∙ from_next s q n t (omega arith))
    where
      go : (b : Bool) → slot_of s q t ≡ cond b n (slot_from s q (slots - (n + 1)) (n + 1) t)
          → slot_of s q t ≡ slot_from s q (slots - suc n) (suc n) t
      go true e = absurd (omega arith)
      go false e = let f : n + 1 ≡ suc n = omega arith in rw (← f) e

  pub in_kept : (n : ℕ) → n ≤ slots → is_in same_tree t (kept s q n) ≡ ltb (slot_of s q t) n
  in_kept zero h = let e : 0 ≤ slot_of s q t = omega arith in rw (kept_none, in_none, le-ltb _ _ e)
  in_kept (suc n) h = rw (kept_step s q n, in_step)
      (go (ltb (slot_of s q t) n) (same_tree t (slot_at s q n)) refl refl (in_kept n (omega arith)))
    where
      go : (a b : Bool) → ltb (slot_of s q t) n ≡ a → same_tree t (slot_at s q n) ≡ b → is_in same_tree t (kept s q n) ≡ ltb (slot_of s q t) n
          → (same_tree t (slot_at s q n) || is_in same_tree t (kept s q n)) ≡ ltb (slot_of s q t) (suc n)
      go true true ea eb ih = let l : slot_of s q t < suc n = omega (arith, ltb-true (slot_of s q t) n ea) in rw (eb, lt-ltb _ _ l)
      go true false ea eb ih = let l : slot_of s q t < suc n = omega (arith, ltb-true (slot_of s q t) n ea) in rw (eb, ih, ea, lt-ltb _ _ l)
      go false true ea eb ih =
          let f : slot_of s q t ≡ n = from_skip n (omega arith) (ltb-false (slot_of s q t) n ea) ∙ from_next s q n t (omega arith) ∙ rw eb in
          let l : slot_of s q t < suc n = omega arith in
          rw (eb, lt-ltb _ _ l)
      go false false ea eb ih =
          let f : slot_of s q t ≡ slot_from s q (slots - (n + 1)) (n + 1) t = from_skip n (omega arith) (ltb-false (slot_of s q t) n ea)
          ∙ from_next s q n t (omega arith) ∙ rw eb in
          let l : suc n ≤ slot_of s q t = omega (arith, from_least s q t (slots - (n + 1)) (n + 1)) in
          rw (eb, ih, ea, le-ltb _ _ l)

-- of n slots
within : (n a : ℕ) → ltb (min n a) n ≡ ltb a n
within n a = go (ltb a n) refl
  where
    go : (b : Bool) → ltb a n ≡ b → ltb (min n a) n ≡ ltb a n
    go true e = lt-ltb (min n a) n (omega (arith, ltb-true a n e)) ∙ sym e
    go false e = le-ltb (min n a) n (omega (arith, ltb-false a n e)) ∙ sym e

-- a slot that is written
module _ (q : List Slot) (n : ℕ) (p : Slot) where
  abbrev written : List Slot
  written = set q n p

  nth_other : (j : ℕ) → j < n → nth written j ≡ nth q j
  unfolding nth
  nth_other j h = get_or-set_other q n j p (Plain 0 0) (λ e. omega arith)

  nth_same : n < length q → nth written n ≡ p
  unfolding nth
  nth_same b = get_or-set_same q n p (Plain 0 0) b

  kept_other : (s : List ℕ) (m : ℕ) → m ≤ n → kept s written m ≡ kept s q m
  unfolding slot_at
  kept_other s zero h = kept_none s written ∙ sym (kept_none s q)
  kept_other s (suc m) h =
      kept_step s written m
      ∙ ap₂ (λ (p : Slot) (l : List Tree). slot_tree s p ∷ l) (nth_other m (omega arith)) (kept_other s m (omega arith))
      ∙ sym (kept_step s q m)

  kept_written : (s : List ℕ) → n < length q → kept s written (n + 1) ≡ slot_tree s p ∷ kept s q n
  unfolding slot_at
  kept_written s b =
      let e : n + 1 ≡ suc n = omega arith in
      rw e (kept_step s written n ∙ ap₂ (λ (p : Slot) (l : List Tree). slot_tree s p ∷ l) (nth_same b) (kept_other s n (omega arith)))

-- a leaf put among the others
put_none : (m : Gathered) → put_t none m ≡ m
unfolding put_t
put_none many = refl
put_none (keys k) = refl

put_many : (c o : ℕ) (l r : Tree) → put_t (node c o l r) many ≡ many
unfolding put_t
put_many c o l r = refl

pub put_keys : (c o : ℕ) (l r : Tree) (k : List Tree)
    → put_t (node c o l r) (keys k) ≡ cond (is_in same_tree (node c o l r) k) (keys k)
    (cond (ltb (length k) slots) (keys (node c o l r ∷ k)) many)
unfolding put_t
put_keys c o l r k = refl

put_some : (c o : ℕ) (l r t : Tree) (k : List Tree) → t ≡ node c o l r
    → put_t t (keys k) ≡ cond (is_in same_tree t k) (keys k) (cond (ltb (length k) slots) (keys (t ∷ k)) many)
put_some c o l r t k e = rw e (put_keys c o l r k)

pub view_keys : (s : List ℕ) (n : ℕ) (q : List Slot) → n ≤ slots → view s n q ≡ keys (kept s q n)
unfolding view
view_keys s n q h = rw (le-ltb _ _ h)

pub view_many : (s : List ℕ) (n : ℕ) (q : List Slot) → slots < n → view s n q ≡ many
unfolding view
view_many s n q h = rw (lt-ltb _ _ h)

module _ (s : List ℕ) (at left n : ℕ) (q : List Slot) where
  pub put_zero : left ≡ 0 → view s n q ≡ put_t (parse_tree s left at).tree (view s n q)
  put_zero z = rw (parse_zero s left at z, put_none)

  pub put_over : (left ≡ 0 → ⊥) → slots < n → view s n q ≡ put_t (parse_tree s left at).tree (view s n q)
  put_over z h = rw (view_many s n q h, parse_step s left at z, put_many)

  module _ (r : ℕ) (z : left ≡ 0 → ⊥) (h : n ≤ slots) (er : r ≡ slot_within s q n (parse_tree s left at).tree) where
    put_by : put_t (parse_tree s left at).tree (view s n q) ≡ cond (ltb r n) (keys (kept s q n))
        (cond (ltb n slots) (keys ((parse_tree s left at).tree ∷ kept s q n)) many)
    unfolding slot_within
    put_by =
        ap (put_t (parse_tree s left at).tree) (view_keys s n q h)
        ∙ put_some _ _ _ _ (parse_tree s left at).tree (kept s q n) (ap (λ (u : ParsedTree). u.tree) (parse_step s left at z))
        ∙ rw (kept_length s q n, in_kept s q (parse_tree s left at).tree n h, er, within n (slot_of s q (parse_tree s left at).tree))

    pub put_there : r < n → view s n q ≡ put_t (parse_tree s left at).tree (view s n q)
    put_there l = view_keys s n q h ∙ sym (put_by ∙ rw (lt-ltb _ _ l))

    pub put_new : (p : Slot) (m : ℕ) (q₂ : List Slot) → length q ≡ 12 → n ≤ r → p ≡ leaf_slot s at left → m ≡ count_put n → q₂ ≡ slot_put n p q
        → view s m q₂ ≡ put_t (parse_tree s left at).tree (view s n q)
    unfolding count_put slot_put
    put_new p m q₂ len l ep em eq = ap₂ (view s) em eq ∙ go (ltb n slots) refl ∙ sym (put_by ∙ rw (le-ltb _ _ l))
      where
        go : (b : Bool) → ltb n slots ≡ b → view s (count_put n) (slot_put n p q) ≡ cond (ltb n slots)
            (keys ((parse_tree s left at).tree ∷ kept s q n)) many
        go true e =
            let h : n < slots = ltb-true n slots e in
            let m : n + 1 ≤ slots = omega arith in
            let b : n < length q = omega arith in
            rw e (view_keys s (n + 1) (written q n p) m ∙ ap keys
            (kept_written q n p s b ∙ ap (λ (t : Tree). t ∷ kept s q n) (ap (slot_tree s) ep ∙ leaf-slot s at left z)))
        go false e =
            let m : slots < slots + 1 = omega arith in
            rw e (view_many s (slots + 1) q m)

-- as many slots as before
pub put_length : (n : ℕ) (p : Slot) (q q₂ : List Slot) → length q ≡ 12 → q₂ ≡ slot_put n p q → length q₂ ≡ 12
unfolding slot_put
put_length n p q q₂ l e = ap length e ∙ go (ltb n slots)
  where
    go : (b : Bool) → length (cond b (written q n p) q) ≡ 12
    go true =
        length-set q n p ∙ l
    go false = l

pub ruleset add_leaf_branches = (put_zero, put_over, put_there, put_new, put_length)

-- the leaves of a tree
gather_none : (w : ℕ) (m : Gathered) → gather_t w none m ≡ m
unfolding gather_t
gather_none w m = refl

pub gather_node : (w c o : ℕ) (l r : Tree) (m : Gathered)
    → gather_t w (node c o l r) m ≡ cond (member w c) (put_t (node c o l r) m) (gather_t w l (gather_t w r m))
unfolding gather_t
gather_node w c o l r m = refl

module _ (s : List ℕ) (k at w n : ℕ) (q : List Slot) where
  pub gather_zero : k ≡ 0 → view s n q ≡ gather_t w (parse_tree s k at).tree (view s n q)
  gather_zero z = rw (parse_zero s k at z, gather_none)

  module _ (x : Node) (b : Bool) (z : k ≡ 0 → ⊥) (e : x ≡ node_at s at) (eb : b ≡ member w x.code) where
    pub gather_here : (m : ℕ) (q₂ : List Slot) → b ≡ true → view s m q₂ ≡ put_t (parse_tree s k at).tree (view s n q)
        → view s m q₂ ≡ gather_t w (parse_tree s k at).tree (view s n q)
    gather_here m q₂ d f = f ∙ rw (parse_step s k at z, ← e, gather_node, ← eb, d)

    pub gather_leaf : b ≡ false → x.parts ≡ 0 → view s n q ≡ gather_t w (parse_tree s k at).tree (view s n q)
    gather_leaf d p = rw (parse_step s k at z, ← e, gather_node, ← eb, d, p) (simp gather_none)

    pub gather_one : (m : ℕ) (q₂ : List Slot) → b ≡ false → (x.parts ≡ 0 → ⊥) → x.parts ≡ 1
        → view s m q₂ ≡ gather_t w (parse_tree s (k - 1) x.next).tree (view s n q)
        → view s m q₂ ≡ gather_t w (parse_tree s k at).tree (view s n q)
    gather_one m q₂ d p o f = f ∙ rw (parse_step s k at z, ← e, gather_node, ← eb, d, o, gather_none)

    pub gather_two : (y m m₂ : ℕ) (q₂ q₃ : List Slot) → b ≡ false → (x.parts ≡ 0 → ⊥) → (x.parts ≡ 1 → ⊥)
        → y ≡ (parse_tree s (k - 1) x.next).end
        → view s m q₂ ≡ gather_t w (parse_tree s (k - 1) y).tree (view s n q)
        → view s m₂ q₃ ≡ gather_t w (parse_tree s (k - 1) x.next).tree (view s m q₂)
        → view s m₂ q₃ ≡ gather_t w (parse_tree s k at).tree (view s n q)
    gather_two y m m₂ q₂ q₃ d p o em f f₂ =
        let t₀ : 0 < x.parts = omega arith in
        let t₁ : 1 < x.parts = omega arith in
        f₂ ∙ rw (f, em, parse_step s k at z, ← e, gather_node, ← eb, d, lt-ltb _ _ t₀, lt-ltb _ _ t₁)

pub ruleset gathers = (gather_zero, gather_here, gather_leaf, gather_one, gather_two, lower)

-- the slots before the one that is written are as they were
pub nth_put : (n : ℕ) (p : Slot) (q q₂ : List Slot) → q₂ ≡ slot_put n p q → (j : ℕ) → j < n → nth q₂ j ≡ nth q j
unfolding slot_put
nth_put n p q q₂ e j h = ap (λ (l : List Slot). nth l j) e ∙ go (ltb n slots)
  where
    go : (b : Bool) → nth (cond b (written q n p) q) j ≡ nth q j
    go true = nth_other q n p j h
    go false = refl

-- a tree among the first slots stays in its slot
module _ (s : List ℕ) (q q₂ : List Slot) (n : ℕ) (t : Tree) (same : (j : ℕ) → j < n → nth q₂ j ≡ nth q j) where
  same_at : (j : ℕ) → j < n → slot_at s q₂ j ≡ slot_at s q j
  unfolding slot_at
  same_at j h = ap (slot_tree s) (same j h)

  from_later : (d j : ℕ) → slot_from s q d j t < n → slot_from s q₂ d j t ≡ slot_from s q d j t
  from_later zero j h = from_zero s q₂ j t ∙ sym (from_zero s q j t)
  from_later (suc d) j h =
      from_step s q₂ d j t
      ∙ go (same_tree t (slot_at s q j)) refl (λ k. from_later d (suc j) k) (subst (λ (x : ℕ). x < n) (from_step s q d j t) h)
      ∙ sym (from_step s q d j t)
    where
      go : (b : Bool) → same_tree t (slot_at s q j) ≡ b
          → (slot_from s q d (suc j) t < n → slot_from s q₂ d (suc j) t ≡ slot_from s q d (suc j) t)
          → cond (same_tree t (slot_at s q j)) j (slot_from s q d (suc j) t) < n
          → cond (same_tree t (slot_at s q₂ j)) j (slot_from s q₂ d (suc j) t) ≡ cond (same_tree t (slot_at s q j)) j (slot_from s q d (suc j) t)
      go true e ih h =
          let k : j < n = rw e at h in
          rw (same_at j k, e)
      go false e ih h =
          let k : slot_from s q d (suc j) t < n = rw e at h in
          let l : j < n = omega (arith, from_least s q t d (suc j)) in
          rw (same_at j l, e) (ih k)

  pub slot_later : slot_of s q t < n → slot_of s q₂ t ≡ slot_of s q t
  slot_later h = of_is s q₂ t ∙ from_later slots 0 (let e = of_is s q t in omega arith) ∙ sym (of_is s q t)

-- a new tree is in the slot that was written
module _ (s : List ℕ) (at left n : ℕ) (p : Slot) (q : List Slot) (z : left ≡ 0 → ⊥) (h : n < slots) (len : length q ≡ 12)
    (ep : p ≡ leaf_slot s at left) where
  abbrev t : Tree
  t = (parse_tree s left at).tree

  put_slot : (l : n ≤ slot_of s q t) → slot_of s (written q n p) t ≡ n
  put_slot l = let a = least in let b = most in omega arith
    where
      least : n ≤ slot_of s (written q n p) t
      least = ltb-false (slot_of s (written q n p) t) n
          (sym (in_kept s (written q n p) t n (omega arith)) ∙ ap (is_in same_tree t) (kept_other q n p s n (omega arith))
          ∙ in_kept s q t n (omega arith) ∙ le-ltb _ _ l)

      here : kept s (written q n p) (n + 1) ≡ t ∷ kept s q n
      here = kept_written q n p s (omega arith) ∙ ap (λ (u : Tree). u ∷ kept s q n) (ap (slot_tree s) ep ∙ leaf-slot s at left z)

      most : slot_of s (written q n p) t < n + 1
      most = ltb-true (slot_of s (written q n p) t) (n + 1)
          (sym (in_kept s (written q n p) t (n + 1) (omega arith)) ∙ ap (is_in same_tree t) here ∙ in_step t t (kept s q n)
          ∙ rw (same_self t))

  pub slot-put : (q₂ : List Slot) → q₂ ≡ slot_put n p q → n ≤ slot_of s q t → slot_of s q₂ t ≡ n
  unfolding slot_put
  slot-put q₂ e l = ap (λ (l : List Slot). slot_of s l t) (e ∙ rw (lt-ltb _ _ h)) ∙ put_slot l
