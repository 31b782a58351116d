-- The digits of the slots at all rows from the row of zeros on. A digit takes its values in runs of rows.
use Rattle.std.specs.Prelude.{ℕ, zero, suc, ◌+◌, ◌*◌, ◌<◌, min, ◌≡◌, List, cond, get_or, replicate, take, ltb}
use Rattle.tables_columns.specs.Slots.{slots}
use Rattle.tables_columns.specs.Column.{column}
use Rattle.tables_digits.specs.Advance.{after}

-- the value of slot j in a row; 0 past the last slot
unfoldable pub value_in : List ℕ → ℕ → ℕ
value_in values j = cond (ltb j slots) (get_or values j 0) 0

-- the row that comes i rows after the row of zeros: a value for each slot
unfoldable pub row_in : List ℕ → ℕ → List ℕ
row_in ms i = after ms i (replicate slots 0)

-- the values of slot j in the first n rows
unfoldable pub slot_column : List ℕ → ℕ → ℕ → List ℕ
slot_column ms j n = column (λ i. value_in (row_in ms i) j) n

-- the run of the next digit, after one with the last value m; it need not grow once it has n rows
unfoldable pub longer_run : ℕ → ℕ → ℕ → ℕ
longer_run n m run = cond (ltb run n) (run * (m + 1)) run

-- the number of rows in a run of digit j: the product of the choices before it, or no fewer than n
unfoldable pub run_of : ℕ → List ℕ → ℕ → ℕ
run_of n ms zero = 1
run_of n ms (suc j) = longer_run n (get_or ms j 0) (run_of n ms j)

-- the period of the first j digits: the rows in which they take all their values, n at most
unfoldable pub span_of : ℕ → List ℕ → ℕ → ℕ
span_of n ms j = min n (run_of n ms j)

-- how many of the first digits the value of slot j depends on
unfoldable pub level_in : ℕ → ℕ
level_in j = cond (ltb j slots) (j + 1) 0

-- f repeats after `to` rows, if there are more than these among n
unfoldable pub Cycles : (ℕ → ℕ) → ℕ → ℕ → Type 0
Cycles f n to = to < n → (0 < to) × ((i : ℕ) → f (to + i) ≡ f i)

-- b has the first `to` rows of any column whose first p rows are in a and repeat
unfoldable pub Widened : ℕ → ℕ → List ℕ → ℕ → List ℕ → Type 0
Widened p n a to b = (f : ℕ → ℕ) → take p a ≡ column f p → Cycles f n p → (take to b ≡ column f to) × Cycles f n to
