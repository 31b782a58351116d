-- Columns: a value for each row.
use Rattle.std.specs.Prelude.{ℕ, zero, suc, ◌<◌, List, [], ◌∷◌, ◌++◌, Bool, cond, not, get_or, eqb}
use Rattle.logic.specs.Rows.{all_below}
use Rattle.tables_columns.specs.Combine.{combine}

-- a value for each number below n
unfoldable pub column : {A : Type 0} → (ℕ → A) → ℕ → List A
column f zero = []
column f (suc n) = column f n ++ (f n ∷ [])

-- the value v at n rows
unfoldable pub constant : ℕ → ℕ → List ℕ
constant v n = column (λ i. v) n

-- a node's column from those of its parts
unfoldable pub combined : ℕ → ℕ → ℕ → ℕ → List ℕ → List ℕ → List ℕ
combined R c o n a b = column (λ i. combine R c o (get_or a i 0) (get_or b i 0)) n

-- 1 if a is 1 and b is not, else 0
unfoldable pub deny_of : ℕ → ℕ → ℕ
deny_of a b = cond (eqb a 1) (cond (eqb b 1) 0 1) 0

-- 1 at the rows where a is 1 and b is not
unfoldable pub denied : ℕ → List ℕ → List ℕ → List ℕ
denied n a b = column (λ i. deny_of (get_or a i 0) (get_or b i 0)) n

-- R holds between each of the first n of a, that of b and that of c
pub record Zipped {A : Type 0} (R : A → A → A → Type 0) (n : ℕ) (a b c : List A) : Type 0 where
  pub at : (d : A) (i : ℕ) → i < n → R (get_or a i d) (get_or b i d) (get_or c i d)

-- 1 from the first 1 on
unfoldable pub seen_of : ℕ → ℕ → ℕ
seen_of found v = cond (eqb v 1) 1 found

-- none of the first n rows is 1
unfoldable pub none_below : List ℕ → ℕ → Bool
none_below a n = all_below n (λ i. not (eqb (get_or a i 0) 1))
