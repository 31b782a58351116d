-- Columns written from the first row on: the ways through the functions, one law for each.
use Prim.Native.Nat.{ℕ, zero, suc, ◌+◌, ◌≤◌, ◌<◌}
use mathlib.Core.Path.{◌≡◌, refl, ap, sym, ◌∙◌}
use mathlib.Core.List.{List, [], ◌∷◌, ◌++◌}
use mathlib.Core.Bool.{Bool, true, false, cond, not}
use native.Mathlib.Omega.{arith}
use native.Mathlib.Numerals.{add-one}
use lib.ListN.{length, get_or, take, replicate}
use lib.Seq.{take-suc, take_at}
use lib.Dec.{eqb}
use Rattle.std.proofs.lemmas.List.{length-take-le, length-replicate, replicate-append-replicate}
use Rattle.tables_columns.specs.Combine.{combine}
use Rattle.tables_columns.specs.Column.{column, constant, combined, deny_of, denied, seen_of, none_below, Zipped}
use Rattle.tables_columns.proofs.ColumnLists.{column_none, column_step}

-- a list that has the values of f at its first n places begins with their column
pub column_begins : (f : ℕ → ℕ) (n : ℕ) (l : List ℕ) → n ≤ length l → ((i : ℕ) → i < n → get_or l i 0 ≡ f i) → take n l ≡ column f n
column_begins f zero l h e = sym (column_none f)
column_begins f (suc n) l h e =
    take-suc l n 0 (omega arith)
    ∙ rw (column_begins f n l (omega arith) (λ i k. e i (omega arith)), e n (omega arith), column_step f n)

-- the same value at every row
pub constant_replicate : (v n : ℕ) → constant v n ≡ replicate n v
unfolding constant
constant_replicate v zero = column_none (λ (i : ℕ). v)
constant_replicate v (suc n) =
    let e : n + 1 ≡ suc n = omega arith in
    column_step (λ (i : ℕ). v) n
    ∙ ap (λ (l : List ℕ). l ++ (v ∷ [])) (constant_replicate v n)
    ∙ replicate-append-replicate n 1 v
    ∙ ap (λ (m : ℕ). replicate m v) e

pub filled : (v n : ℕ) (o l r : List ℕ) → n ≤ length o → l ≡ replicate (length (take n o)) v → take n (l ++ r) ≡ constant v n
filled v n o l r h e =
    let k : l ≡ replicate n v = rw (length-take-le n o h) at e in
    take_at l r n (ap length k ∙ length-replicate n v) ∙ k ∙ sym (constant_replicate v n)

-- columns combined, in the place of the first
module _ (n : ℕ) (a b l : List ℕ) (h : n ≤ length l) where
  module _ (P : ℕ → ℕ → ℕ → Type 0) (z : Zipped P n a b l) where
    pub zip_combined : (R c o : ℕ) → ((x y r : ℕ) → P x y r → r ≡ combine R c o x y) → take n l ≡ combined R c o n a b
    unfolding combined
    zip_combined R c o f = column_begins (λ (i : ℕ). combine R c o (get_or a i 0) (get_or b i 0)) n l h (λ i k. f _ _ _ (z.at 0 i k))

    -- 1 in one column and not in the other
    pub zip_denied : ((x y r : ℕ) → P x y r → r ≡ deny_of x y) → take n l ≡ denied n a b
    unfolding denied
    zip_denied f = column_begins (λ (i : ℕ). deny_of (get_or a i 0) (get_or b i 0)) n l h (λ i k. f _ _ _ (z.at 0 i k))

-- no row is 1
module _ (a : List ℕ) where
  pub none_begin : ◌≡◌ {A = ℕ} 0 (cond (none_below a 0) 0 1)
  unfolding none_below
  none_begin = refl

  pub none_next : (i found v : ℕ) → found ≡ cond (none_below a i) 0 1 → v ≡ seen_of found (get_or a i 0) → v ≡ cond (none_below a (i + 1)) 0 1
  unfolding none_below seen_of
  none_next i found v e d = d ∙ ap (cond (eqb (get_or a i 0) 1) 1) e ∙ go (eqb (get_or a i 0) 1) (none_below a i)
      ∙ ap (λ (m : ℕ). cond (none_below a m) 0 1) (sym (add-one i))
    where
      go : (x y : Bool) → ◌≡◌ {A = ℕ} (cond x 1 (cond y 0 1)) (cond (elim (not x) as (λ z. Bool) [ true ↦ y | false ↦ false ]) 0 1)
      go true y = refl
      go false y = refl

  pub none_end : (n found : ℕ) → found ≡ cond (none_below a n) 0 1 → eqb found 0 ≡ none_below a n
  none_end n found e = ap (λ (m : ℕ). eqb m 0) e ∙ go (none_below a n)
    where
      go : (x : Bool) → eqb (cond x 0 1) 0 ≡ x
      go true = refl
      go false = refl

pub ruleset none_below_branches = (none_begin, none_next, none_end)
