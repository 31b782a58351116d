-- The starred cases are those that their names say: how many there are, how deep a formula is, how many leaves and rows a line has.
use mathlib.Core.Path.{◌≡◌, refl}
use mathlib.Core.List.{[], ◌∷◌, map}
use Prim.Native.Nat.{ℕ, zero, suc, ◌/◌, ◌%◌}
use native.Mathlib.Decide.{ℕ_discrete}
use lib.ListN.{length}
use Rattle.semantics.specs.Formula.{Formula, Value, Test, Formula.const, Formula.reg, Formula.word, Formula.sum, Formula.equal, Formula.less, Formula.and, Formula.or, Formula.unsync, Formula.start, Formula.holds, encode, nesting, same}
use Rattle.semantics.specs.Names.{names as namesIn}
use Rattle.logic.specs.Rows.{same_name, is_in, distinct, row_count, choices}
use Rattle.logic.specs.Table.{same_leaf, leaves_all}
use Rattle.checker_starred.specs.StarredImage.{entailed_by_table, entailed_by_rows}
use Rattle.checker_starred.specs.StarredCases.{Name, small_image, small_without_line, empty_image, output_21, output_22, nesting_16, nesting_17, leaves_10, leaves_11, four_names, four_with_flag, three_of_16, three_of_16_with_flag, twelve_of_2, thirteen_of_2, case_of, names, table}

-- fifteen cases
counted : length table ≡ 15
counted = refl

-- each name is in the table: the number of its row
abbrev row_of : Name → ℕ
row_of small_image = 0
row_of small_without_line = 1
row_of empty_image = 2
row_of output_21 = 3
row_of output_22 = 4
row_of nesting_16 = 5
row_of nesting_17 = 6
row_of leaves_10 = 7
row_of leaves_11 = 8
row_of four_names = 9
row_of four_with_flag = 10
row_of three_of_16 = 11
row_of three_of_16_with_flag = 12
row_of twelve_of_2 = 13
row_of thirteen_of_2 = 14

in_order : map row_of names ≡ 0 ∷ 1 ∷ 2 ∷ 3 ∷ 4 ∷ 5 ∷ 6 ∷ 7 ∷ 8 ∷ 9 ∷ 10 ∷ 11 ∷ 12 ∷ 13 ∷ 14 ∷ []
in_order = refl

-- the code that each wants, and the length of its buffer
wanted : map (λ c. c.code) table ≡ 0 ∷ 20 ∷ 2 ∷ 1 ∷ 0 ∷ 0 ∷ 7 ∷ 0 ∷ 22 ∷ 0 ∷ 22 ∷ 0 ∷ 22 ∷ 0 ∷ 22 ∷ []
wanted = refl

buffers : map (λ c. length c.buffer) table
    ≡ 25 ∷ 25 ∷ 25 ∷ 21 ∷ 22 ∷ 25 ∷ 25 ∷ 25 ∷ 25 ∷ 25 ∷ 25 ∷ 25 ∷ 25 ∷ 25 ∷ 25 ∷ []
buffers = refl

-- NESTING: k negations of `false and false`
abbrev negated : ℕ → Test
negated zero = and Formula.false Formula.false
negated (suc k) = Formula.not (negated k)

image_16 : (case_of nesting_16).image ≡ entailed_by_table (encode (holds (negated 13)) [])
image_16 = refl

nested_16 : nesting (holds (negated 13)) ≡ 16
nested_16 = refl

image_17 : (case_of nesting_17).image ≡ entailed_by_table (encode (holds (negated 14)) [])
image_17 = refl

nested_17 : nesting (holds (negated 14)) ≡ 17
nested_17 = refl

-- LEAVES: one of k different comparisons, or `not false`; line 1 is the implication from start to it
abbrev one_of : ℕ → Test
one_of zero = Formula.not Formula.false
one_of (suc k) = or (equal (const (k / 8)) (const (k % 8))) (one_of k)

abbrev leaf_count : ℕ → ℕ
leaf_count k = length (distinct same_leaf (leaves_all (record { left = start; right = holds (one_of k) } ∷ [])))

image_10 : (case_of leaves_10).image ≡ entailed_by_table (encode (holds (one_of 9)) [])
image_10 = refl

ten : leaf_count 9 ≡ 10
unfolding same_leaf same is_in distinct
ten = refl

image_11 : (case_of leaves_11).image ≡ entailed_by_table (encode (holds (one_of 10)) [])
image_11 = refl

eleven : leaf_count 10 ≡ 11
unfolding same_leaf same is_in distinct
eleven = refl

-- ROWS: neither the sum of the words nor that of the registers is less than 0
abbrev sum_of : (ℕ → Value) → ℕ → Value
sum_of name zero = const 0
sum_of name (suc n) = sum (name (suc n)) (sum_of name n)

abbrev none_less : ℕ → ℕ → Test
none_less words registers =
    and (Formula.not (less (sum_of (λ x. word x) words) (const 0))) (Formula.not (less (sum_of (λ r. reg r) registers) (const 0)))

abbrev or_flag : Test → Test
or_flag e = or (unsync 1) e

abbrev rows_of : ℕ → Test → ℕ
rows_of range e = row_count same_name (choices range) (distinct same_name (namesIn e))

image_four : (case_of four_names).image ≡ entailed_by_rows 8 2 2 (encode (none_less 2 2) [])
image_four = refl

rows_four : rows_of 8 (none_less 2 2) ≡ 4096
unfolding same_name is_in distinct ℕ_discrete
rows_four = refl

image_four_flag : (case_of four_with_flag).image ≡ entailed_by_rows 8 2 2 (encode (or_flag (none_less 2 2)) [])
image_four_flag = refl

rows_four_flag : rows_of 8 (or_flag (none_less 2 2)) ≡ 8192
unfolding same_name is_in distinct ℕ_discrete
rows_four_flag = refl

image_three : (case_of three_of_16).image ≡ entailed_by_rows 16 2 1 (encode (none_less 2 1) [])
image_three = refl

rows_three : rows_of 16 (none_less 2 1) ≡ 4096
unfolding same_name is_in distinct ℕ_discrete
rows_three = refl

image_three_flag : (case_of three_of_16_with_flag).image ≡ entailed_by_rows 16 2 1 (encode (or_flag (none_less 2 1)) [])
image_three_flag = refl

rows_three_flag : rows_of 16 (or_flag (none_less 2 1)) ≡ 8192
unfolding same_name is_in distinct ℕ_discrete
rows_three_flag = refl

image_twelve : (case_of twelve_of_2).image ≡ entailed_by_rows 2 8 4 (encode (none_less 8 4) [])
image_twelve = refl

rows_twelve : rows_of 2 (none_less 8 4) ≡ 4096
unfolding same_name is_in distinct ℕ_discrete
rows_twelve = refl

image_thirteen : (case_of thirteen_of_2).image ≡ entailed_by_rows 2 8 5 (encode (none_less 8 5) [])
image_thirteen = refl

rows_thirteen : rows_of 2 (none_less 8 5) ≡ 8192
unfolding same_name is_in distinct ℕ_discrete
rows_thirteen = refl
