-- The ways through the functions on one entry, one law for each; the sweep.
use mathlib.Core.Path.{◌≡◌, refl, sym, ap, ◌∙◌}
use Prim.Native.Nat.{min, ℕ, zero, suc, ◌+◌, ◌-◌, ◌≤◌, ◌<◌}
use native.Mathlib.Omega.{arith}
use mathlib.Core.Bool.{Bool, true, false, cond}
use mathlib.Core.List.{List}
use lib.Dec.{eqb, ltb}
use lib.ListN.{length, get_or, set, length-set}
use borrow.Author.Tests.{lt-ltb, le-ltb, eq-eqb, ne_eqb, eqb-true, eqb-false, ltb-true, ltb-false}
use Rattle.replay_memory.specs.View.{up_view}
use Rattle.replay_memory.specs.Write.{no_write, start_write, up_write, covered_write}
use Rattle.replay_memory.specs.declared.view.View.{View}
use Rattle.replay_memory.specs.declared.write.Write.{Write}
use Rattle.replay_table.specs.Sweep.{no_order, start_order, cover_at, turn_of, visits, sweep_at, sweep_to, swept_of}
use Rattle.replay_table.specs.declared.order.Order.{Order}
use Rattle.replay_table.specs.declared.order.Turn.{Turn}

pub raise_write : (w : Write) (k p : ℕ) (u : View) → u ≡ up_view k p w.stored
    → record { value = w.value; releasing = w.releasing; covered = w.covered; stored = u } ≡ up_write k p w
unfolding up_write
raise_write w k p u e = rw e

-- nothing to insert, and a start write
pub no_made : (w : Write) → w ≡ start_write 0
    → record { count = 0; at = 0; word = 0; behind = 0; covers = false; write = w } ≡ no_order
no_made w e = rw e

pub start_made : (k v : ℕ) (w : Write) → w ≡ start_write v
    → record { count = k + 1; at = k; word = k; behind = 255; covers = false; write = w } ≡ start_order k v
start_made k v w e = rw e

-- the entry after entry i
pub next_there : (i at : ℕ) → i < at → eqb (at - i) 1 ≡ eqb at (suc i)
next_there i at h = go (eqb (at - i) 1) refl
  where
    go : (b : Bool) → eqb (at - i) 1 ≡ b → b ≡ eqb at (suc i)
    go true e = let q : at - i ≡ 1 = eqb-true (at - i) 1 e in let d : at ≡ suc i = omega arith in sym (eq-eqb at (suc i) d)
    go false e =
        let q : at - i ≡ 1 → ⊥ = eqb-false (at - i) 1 e in
        sym (ne_eqb at (suc i) (λ (d : at ≡ suc i). q (omega arith)))

pub next_past : (i at : ℕ) → at ≤ i → ltb i at ≡ eqb at (suc i)
next_past i at h = le-ltb i at h ∙ sym (ne_eqb at (suc i) (λ (d : at ≡ suc i). omega arith))

pub ruleset is_next_branches = (next_there, next_past)

module _ (o : Order) (e : ℕ) (w : Write) where
  pub cover_not : o.covers ≡ false → w ≡ cover_at o e w
  unfolding cover_at
  cover_not h = rw h

  module _ (b : Bool) (d : b ≡ eqb o.at (suc e)) (h : o.covers ≡ true) where
    pub cover_there : b ≡ true → record { value = w.value; releasing = w.releasing; covered = true; stored = w.stored } ≡ cover_at o e w
    unfolding cover_at covered_write
    cover_there g = rw (h, ← d, g)

    pub cover_else : b ≡ false → w ≡ cover_at o e w
    unfolding cover_at
    cover_else g = rw (h, ← d, g)

pub ruleset covered_by_branches = (cover_not, cover_there, cover_else)

module _ (o : Order) (e : ℕ) (carried old w : Write) where
  pub turn_before : (c : Write) → c ≡ cover_at o e old → w ≡ up_write o.word o.behind c → e < o.at
      → record { put = w; next = carried } ≡ turn_of o e carried old
  unfolding turn_of
  turn_before c f d h = rw (d, f, lt-ltb e o.at h)

  pub turn_from : w ≡ up_write o.word o.behind old → o.at ≤ e → record { put = carried; next = w } ≡ turn_of o e carried old
  unfolding turn_of
  turn_from d h = rw (d, le-ltb e o.at h)

pub ruleset turn_at_branches = (turn_before, turn_from)

-- the sweep: nothing swept, one entry more, and the length
pub sweep_none : (o : Order) (l : List Write) → sweep_to o 0 l ≡ (l, o.write)
unfolding sweep_to
sweep_none o l = refl

pub sweep_more : (o : Order) (n : ℕ) (l : List Write) → sweep_to o (suc n) l ≡ sweep_at o n (sweep_to o n l)
unfolding sweep_to
sweep_more o n l = refl

pub sweep_next : (o : Order) (n : ℕ) (l m : List Write) (c : Write)
    (t : Turn) → (m, c) ≡ sweep_to o n l → t ≡ turn_of o n c (get_or m n no_write)
    → (set m n t.put, t.next) ≡ sweep_to o (suc n) l
sweep_next o n l m c t e d = rw (sweep_more o n l, ← e, d)

pub sweep_length : (o : Order) (n : ℕ) (l : List Write) → length (sweep_to o n l).0 ≡ length l
sweep_length o zero l = rw (sweep_none o l)
sweep_length o (suc n) l =
    ap (λ (s : List Write × Write). length s.0) (sweep_more o n l) ∙ length-set (sweep_to o n l).0 n _ ∙ sweep_length o n l

pub swept : (o : Order) (l : List Write) (n : ℕ)
    (z : List Write × Write) → n ≡ visits o (length l) → z ≡ sweep_to o n l → z.0 ≡ swept_of o l
unfolding swept_of
swept o l n z f e = ap (λ (y : List Write × Write). y.0) (e ∙ ap (λ (j : ℕ). sweep_to o j l) f)

pub swept_length : (o : Order) (l : List Write) → length (swept_of o l) ≡ length l
unfolding swept_of
swept_length o l = sweep_length o (visits o (length l)) l

-- the entries visited are there
pub visits_few : (o : Order) (n : ℕ) → visits o n ≤ n
unfolding visits
visits_few o n = go (ltb o.count n) refl
  where
    go : (b : Bool) → ltb o.count n ≡ b → cond b o.count n ≤ n
    go true e = let h = ltb-true o.count n e in omega arith
    go false e = omega arith

pub visits_least : (o : Order) (n : ℕ) → min o.count n ≡ visits o n
unfolding visits
visits_least o n = go (ltb o.count n) refl
  where
    go : (b : Bool) → ltb o.count n ≡ b → min o.count n ≡ cond b o.count n
    go true e = let h = ltb-true o.count n e in omega arith
    go false e = let h = ltb-false o.count n e in omega arith

-- all entries in use are visited, where they are there
pub visits_all : (o : Order) (n : ℕ) → o.count ≤ n → visits o n ≡ o.count
unfolding visits
visits_all o n h = go (ltb o.count n) refl
  where
    go : (b : Bool) → ltb o.count n ≡ b → cond b o.count n ≡ o.count
    go true e = refl
    go false e = let g = ltb-false o.count n e in omega arith
