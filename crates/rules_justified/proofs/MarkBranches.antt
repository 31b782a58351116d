-- Marks as they are read and written.
use mathlib.Core.Path.{◌≡◌, refl, sym}
use mathlib.Core.Bool.{Bool, true, false}
use mathlib.Core.List.{List}
use mathlib.Core.Logic.{◌≢◌}
use Prim.Native.Nat.{ℕ, ◌-◌, ◌≤◌, ◌<◌}
use native.Mathlib.Omega.{arith}
use lib.Dec.{eqb, ltb}
use lib.ListN.{length, get_or, set, length-set, length-replicate, get_or-replicate, get_or-eq_default}
use lib.Seq.{get_or-set_same, get_or-set_other, set_out}
use borrow.Author.Tests.{eqb-false, ltb-true, ltb-false, eq-eqb, ne_eqb}
use Rattle.limits.specs.Limits.{lines}
use Rattle.rules_justified.specs.Marks.{as_marks, no_marks, is_marked, with_mark}
use Rattle.rules_justified.specs.declared.marks.Marks.{Marks}

-- THE WAYS THROUGH READING AND WRITING
module _ (l : List Bool) (n : ℕ) where
  pub mark_none : n ≡ 0 → false ≡ is_marked (as_marks l) n
  unfolding is_marked
  mark_none z = rw (eq-eqb n 0 z)

  pub stays_none : (b : Bool) → n ≡ 0 → l ≡ (with_mark (as_marks l) n b).on
  unfolding with_mark
  stays_none b z = rw (eq-eqb n 0 z)

  module _ (z : n ≡ 0 → ⊥) where
    pub mark_there : n ≤ length l → get_or l (n - 1) false ≡ is_marked (as_marks l) n
    unfolding is_marked
    mark_there h = rw (ne_eqb n 0 z)

    pub mark_past : length l < n → false ≡ is_marked (as_marks l) n
    unfolding is_marked
    mark_past h = rw (ne_eqb n 0 z) (sym (get_or-eq_default l false (omega arith)))

    pub set_there : (b : Bool) → n ≤ length l → set l (n - 1) b ≡ (with_mark (as_marks l) n b).on
    unfolding with_mark
    set_there b h = rw (ne_eqb n 0 z)

    pub stays_past : (b : Bool) → length l < n → l ≡ (with_mark (as_marks l) n b).on
    unfolding with_mark
    stays_past b h = rw (ne_eqb n 0 z) (sym (set_out l (n - 1) b (omega arith)))

pub ruleset marks_branches = (mark_none, mark_there, mark_past, stays_none, set_there, stays_past)

-- WHAT IS READ BEHIND WHAT WAS WRITTEN
pub none_length : length no_marks.on ≡ lines
unfolding no_marks
none_length = length-replicate lines false

pub none_marked : (n : ℕ) → is_marked no_marks n ≡ false
unfolding is_marked no_marks
none_marked n = go (eqb n 0) (ltb (n - 1) lines) refl refl
  where
    go : (a b : Bool) → eqb n 0 ≡ a → ltb (n - 1) lines ≡ b → is_marked no_marks n ≡ false
    go true b e d = rw e
    go false true e d = rw e (get_or-replicate lines (n - 1) false false (ltb-true (n - 1) lines d))
    go false false e d = let z = eqb-false n 0 e in let q = ltb-false (n - 1) lines d in let k = none_length in
        sym (mark_past no_marks.on n z (omega arith))

module _ (m : Marks) (n : ℕ) (b : Bool) where
  pub with_length : length (with_mark m n b).on ≡ length m.on
  unfolding with_mark
  with_length = go (eqb n 0) refl
    where
      go : (a : Bool) → eqb n 0 ≡ a → length (with_mark m n b).on ≡ length m.on
      go true e = rw e
      go false e = rw e (length-set m.on (n - 1) b)

  -- what was written is read
  pub marked_same : length m.on ≡ lines → 1 ≤ n → n ≤ lines → is_marked (with_mark m n b) n ≡ b
  unfolding is_marked with_mark
  marked_same h low high =
      let q : n ≡ 0 → ⊥ = omega arith in
      rw (ne_eqb n 0 q) (get_or-set_same m.on (n - 1) b false (omega arith))

  -- the other marks stay
  pub marked_other : (k : ℕ) → k ≢ n → is_marked (with_mark m n b) k ≡ is_marked m k
  unfolding is_marked with_mark
  marked_other k h = go (eqb n 0) (eqb k 0) refl refl
    where
      go : (p x : Bool) → eqb n 0 ≡ p → eqb k 0 ≡ x → is_marked (with_mark m n b) k ≡ is_marked m k
      go true x ep ex = rw ep
      go false true ep ex = rw ex
      go false false ep ex =
          let i : k - 1 ≢ n - 1 = let a = eqb-false n 0 ep in let c = eqb-false k 0 ex in omega arith in
          rw (ep, ex) (get_or-set_other m.on (n - 1) (k - 1) b false i)
