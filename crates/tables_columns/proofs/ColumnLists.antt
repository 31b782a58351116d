-- Columns as lists.
use Prim.Native.Nat.{ℕ, zero, suc, ◌<◌}
use mathlib.Core.Path.{◌≡◌, refl, ap, sym, ◌∙◌}
use mathlib.Core.List.{List, [], ◌∷◌, ◌++◌}
use mathlib.Core.Bool.{Bool, true, false}
use native.Mathlib.Omega.{arith}
use lib.ListN.{length, get_or, take, length-append, get_or-append}
use lib.Seq.{get_or-take, get_or_at}
use lib.Dec.{T, ltb}
use borrow.Author.Tests.{ltb-true, ltb-false}
use Rattle.logic.specs.Rows.{all_below}
use Rattle.tables_columns.specs.Column.{column}

module _ {A : Type 0} (f : ℕ → A) where
  pub column_none : column f 0 ≡ []
  unfolding column
  column_none = refl

  pub column_step : (n : ℕ) → column f (suc n) ≡ column f n ++ (f n ∷ [])
  unfolding column
  column_step n = refl

  pub column_length : (n : ℕ) → length (column f n) ≡ n
  column_length zero = ap length column_none
  column_length (suc n) = rw (column_step n, length-append) (let e = column_length n in omega arith)

  -- what stands in a column
  pub column_get_d : (d : A) (n i : ℕ) → i < n → get_or (column f n) i d ≡ f i
  column_get_d d zero i h = absurd (omega arith)
  column_get_d d (suc n) i h = ap (λ (l : List A). get_or l i d) (column_step n) ∙ go (ltb i n) refl (column_get_d d n i)
    where
      go : (b : Bool) → ltb i n ≡ b → (i < n → get_or (column f n) i d ≡ f i) → get_or (column f n ++ (f n ∷ [])) i d ≡ f i
      go true e ih = get_or-append (column f n) (f n ∷ []) d i (let k = column_length n in omega (arith, ltb-true i n e))
          ∙ ih (ltb-true i n e)
      go false e ih =
          let q : i ≡ n = omega (arith, ltb-false i n e) in
          rw q (get_or_at (column f n) (f n) [] d n (column_length n))

  -- a list whose front is the column has the column's values
  pub column_at : (d : A) (l : List A) (n i : ℕ) → take n l ≡ column f n → i < n → get_or l i d ≡ f i
  column_at d l n i e h = sym (get_or-take n l i d h) ∙ ap (λ (l : List A). get_or l i d) e ∙ column_get_d d n i h

pub column_same : {A : Type 0} (f g : ℕ → A) (n : ℕ) → ((i : ℕ) → i < n → f i ≡ g i) → column f n ≡ column g n
column_same f g zero h = column_none f ∙ sym (column_none g)
column_same f g (suc n) h = column_step f n ∙ rw (column_same f g n (λ i k. h i (omega arith)), h n (omega arith), column_step g n)

-- every number below another
pub below_from : (n : ℕ) (f : ℕ → Bool) → ((i : ℕ) → i < n → T (f i)) → T (all_below n f)
below_from zero f h = tt
below_from (suc n) f h = go (f n) (h n (omega arith)) (below_from n f (λ i l. h i (omega arith)))
  where
    go : (b : Bool) → T b → T (all_below n f) → T (elim b as (λ x. Bool) [ true ↦ all_below n f | false ↦ false ])
    go true h g = g
    go false h g = h
