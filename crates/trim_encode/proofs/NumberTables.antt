-- The table of new numbers renews each number as it should: one past its end too.
use mathlib.Core.Path.{◌≡◌, refl, ap, sym, ◌∙◌, fun_ext}
use mathlib.Core.Bool.{Bool, true, false, cond}
use mathlib.Core.List.{List, [], ◌∷◌}
use Prim.Native.Nat.{ℕ, zero, suc, ◌+◌, ◌-◌, ◌≤◌, ◌<◌}
use native.Mathlib.Omega.{arith}
use lib.Dec.{eqb, ltb}
use lib.ListN.{length, get_or, set, length-set, length-replicate}
use lib.Seq.{get_or-set_same, get_or-set_other}
use borrow.Author.Tests.{eqb-true, eqb-false, ltb-true, ltb-false}
use Rattle.trim_spec.specs.Live.{set_below, renumbered, numbers_to, new_numbers}
use Rattle.trim_encode.specs.Renumbered.{renewed}
use Rattle.trim_encode.proofs.NumberingBranches.{new_in, new_past}

table_length : (m : List Bool) (n : ℕ) → length (numbers_to m n) ≡ length m
unfolding numbers_to
table_length m zero = length-replicate (length m) 0
table_length m (suc n) = length-set (numbers_to m n) n (renumbered m n) ∙ table_length m n

table_at : (m : List Bool) (n i : ℕ) → i < n → n ≤ length m → get_or (numbers_to m n) i 0 ≡ renumbered m i
unfolding numbers_to
table_at m zero i h k = absurd (omega arith)
table_at m (suc n) i h k = go (eqb i n) refl (λ j. table_at m n i j (omega arith))
  where
    go : (b : Bool) → eqb i n ≡ b → (i < n → get_or (numbers_to m n) i 0 ≡ renumbered m i)
        → get_or (set (numbers_to m n) n (renumbered m n)) i 0 ≡ renumbered m i
    go true e f =
        let q : i ≡ n = eqb-true i n e in
        let j : n < length (numbers_to m n) = rw (table_length m n) (omega arith) in
        rw (q, get_or-set_same (numbers_to m n) n (renumbered m n) 0 j)
    go false e f =
        let q : (i ≡ n → ⊥) = eqb-false i n e in
        get_or-set_other (numbers_to m n) n i (renumbered m n) 0 q ∙ f (omega arith)

-- no more are set than there are
all_set : (l : List Bool) (n : ℕ) → length l ≤ n → set_below n l ≡ set_below (length l) l
unfolding set_below
all_set [] zero h = refl
all_set [] (suc n) h = refl
all_set (b ∷ l) zero h = absurd (omega arith)
all_set (b ∷ l) (suc n) h = ap (λ k. cond b 1 0 + k) (all_set l n (omega arith))

none-set : (n : ℕ) → get_or (new_numbers []) (length {A = Bool} [] - 1) 0 ≡ renumbered [] n
unfolding new_numbers numbers_to renumbered set_below
none-set zero = refl
none-set (suc n) = refl

past_all : (m : List Bool) (n : ℕ) → length m ≤ n → get_or (new_numbers m) (length m - 1) 0 ≡ renumbered m n
unfolding new_numbers renumbered
past_all [] n h = none-set n
past_all (b ∷ m) n h =
    let q : length (b ∷ m) - 1 ≡ length m = omega arith in
    ap (λ i. get_or (numbers_to (b ∷ m) (length (b ∷ m))) i 0) q
    ∙ table_at (b ∷ m) (length (b ∷ m)) (length m) (omega arith) (omega arith)
    ∙ sym (all_set m n (omega arith))

new_number : (m : List Bool) (n : ℕ) → renewed (new_numbers m) n ≡ renumbered m n
unfolding new_numbers
new_number m n = go (ltb n (length m)) refl
  where
    l : length (new_numbers m) ≡ length m
    l = table_length m (length m)

    go : (b : Bool) → ltb n (length m) ≡ b → renewed (new_numbers m) n ≡ renumbered m n
    go true e =
        let h : n < length m = ltb-true n (length m) e in
        let k : n < length (new_numbers m) = rw l h in
        sym (new_in (new_numbers m) n k) ∙ table_at m (length m) n h (omega arith)
    go false e =
        let h : length m ≤ n = ltb-false n (length m) e in
        let k : length (new_numbers m) ≤ n = rw l h in
        sym (new_past (new_numbers m) n k) ∙ (ap (λ i. get_or (new_numbers m) (i - 1) 0) l ∙ past_all m n h)

pub renewed_new : (m : List Bool) → renewed (new_numbers m) ≡ renumbered m
renewed_new m = fun_ext (new_number m)
