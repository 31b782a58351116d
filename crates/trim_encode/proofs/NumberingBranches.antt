-- New numbers by a running count.
use mathlib.Core.Path.{◌≡◌, refl, ap, ◌∙◌}
use mathlib.Core.Bool.{Bool, true, false, cond}
use mathlib.Core.List.{List, [], ◌∷◌}
use Prim.Native.Nat.{ℕ, zero, suc, ◌+◌, ◌-◌, ◌≤◌, ◌<◌}
use native.Mathlib.Numerals.{add-one}
use native.Mathlib.Omega.{arith}
use borrow.Author.Tests.{lt-ltb, le-ltb}
use lib.ListN.{length, get_or, set, drop, replicate, length-replicate, get_or-eq_default}
use lib.Seq.{get_or-drop}
use mir.Val.{bool_byte}
use Rattle.trim_spec.specs.Live.{set_below, renumbered, numbers_to, new_numbers}
use Rattle.trim_encode.specs.Renumbered.{renewed}

below_step : (n : ℕ) (l : List Bool) → set_below (suc n) l ≡ set_below n l + cond (get_or l n false) 1 0
unfolding set_below
below_step n [] = go n
  where
    go : (n : ℕ) → 0 ≡ set_below n [] + 0
    go zero = refl
    go (suc n) = refl
below_step zero (b ∷ l) = go b l
  where
    go : (b : Bool) (l : List Bool) → cond b 1 0 + set_below 0 l ≡ 0 + cond b 1 0
    go true l = refl
    go false l = refl
below_step (suc n) (b ∷ l) = let h = below_step n l in ap (λ (k : ℕ). cond b 1 0 + k) h ∙ (omega arith)

renumbered_step : (m : List Bool) (i : ℕ) → renumbered m (i + 1) ≡ renumbered m i + cond (get_or m (i + 1) false) 1 0
unfolding renumbered
renumbered_step m i =
    let q : 1 + i ≡ suc i = omega arith in
    rw (add-one i)
    (below_step i (drop 1 m)
    ∙ ap (λ (b : Bool). set_below i (drop 1 m) + cond b 1 0) (get_or-drop 1 m i false ∙ ap (λ (k : ℕ). get_or m k false) q))

-- the count and the table, one number after the other
module _ (m : List Bool) where
  pub count_none : 0 ≡ renumbered m 0
  unfolding renumbered set_below
  count_none = refl

  pub table_none : (t : List ℕ) → t ≡ replicate (length m) 0 → t ≡ numbers_to m 0
  unfolding numbers_to
  table_none t e = e

  module _ (i n : ℕ) (e : n ≡ renumbered m i) where
    pub count_more : (b : Bool) → b ≡ get_or m (i + 1) false → n + bool_byte b ≡ renumbered m (i + 1)
    count_more true h = rw (renumbered_step m i, ← h, ← e)
    count_more false h = rw (renumbered_step m i, ← h, ← e)

    pub table_more : (t : List ℕ) → t ≡ numbers_to m i → set t i n ≡ numbers_to m (i + 1)
    unfolding numbers_to
    table_more t d = rw (add-one i, ← d, ← e)

  pub table_all : (t : List ℕ) (i : ℕ) → i ≤ length m → length m ≤ i → t ≡ numbers_to m i → t ≡ new_numbers m
  unfolding new_numbers
  table_all t i a b f = let q : i ≡ length m = omega arith in rw q at f

pub one_at_most : (b : Bool) → bool_byte b ≤ 1
one_at_most true = omega arith
one_at_most false = omega arith

pub zeros_long : (m : List Bool) (t : List ℕ) → t ≡ replicate (length m) 0 → length t ≡ length m
zeros_long m t e = ap length e ∙ length-replicate {A = ℕ} (length m) 0

-- the new number of one number
module _ (t : List ℕ) (n : ℕ) where
  pub new_in : n < length t → get_or t n 0 ≡ renewed t n
  unfolding renewed
  new_in h = rw (lt-ltb _ _ h)

  pub new_none : length t ≤ n → length t ≡ 0 → 0 ≡ renewed t n
  unfolding renewed
  new_none h e = let q : length t ≤ length t - 1 = omega arith in rw (le-ltb _ _ h, get_or-eq_default t 0 q)

  pub new_past : length t ≤ n → get_or t (length t - 1) 0 ≡ renewed t n
  unfolding renewed
  new_past h = rw (le-ltb _ _ h)

pub ruleset numbering_branches = (
  count_none,
  table_none,
  count_more,
  table_more,
  table_all,
  one_at_most,
  zeros_long,
  new_in,
  new_none,
  new_past,
)
