-- The starred cases of the scope page, a row each.
use Rattle.std.specs.Prelude.{Bool, ◌&&◌, List, [], ◌∷◌, ◌++◌, map, ℕ, eqb, get_or, replicate}
use Rattle.semantics.specs.Formula.{same_bytes}
use Rattle.verdict_record.specs.Output.{code_for, bytes_for}
use Rattle.verdict_record.specs.Record.{two}
use Rattle.verdict_record.specs.declared.verdict.Verdict.{Verdict}
use Rattle.checker_spec.specs.ImageVerdict.{verdict}
use Rattle.checker_starred.specs.StarredImage.{entailed_by_table, entailed_by_rows, nested, compared, named, flagged}

-- an image and an output buffer; the code returned, and the buffer afterwards
pub record Case : Type 0 where
  pub image : List ℕ
  pub buffer : List ℕ
  pub code : ℕ
  pub written : List ℕ

-- a verdict v gives the code and the buffer of the case
abbrev pub reports : Case → Verdict → Bool
reports c v = eqb (code_for v c.buffer) c.code && same_bytes (bytes_for v c.buffer) c.written

-- the verdict on the image gives them
abbrev pub holds : Case → Bool
holds c = reports c (verdict c.image)

-- a buffer of n bytes
abbrev pub room : ℕ → List ℕ
room n = replicate n 255

-- numbers of 16 bits, one after another
abbrev pub numbers : List ℕ → List ℕ
numbers [] = []
numbers (n ∷ l) = two n ++ numbers l

-- the record with these nine numbers
abbrev pub reported : List ℕ → List ℕ
reported l = 20 ∷ 0 ∷ 7 ∷ 0 ∷ numbers l

-- the case of an image and the nine numbers of its verdict, with a buffer that is longer than the record
abbrev pub answer : List ℕ → List ℕ → Case
answer s l = record { image = s; buffer = room 25; code = get_or l 0 0; written = reported l ++ room 3 }

-- the page's small image with the range byte of Change 14; n is its last line number
abbrev pub small : ℕ → List ℕ
small n =
    7 ∷ 0 ∷ 1 ∷ 0 ∷ 1 ∷ 1 ∷ 0 ∷ 8 ∷ 0 ∷ 5 ∷ 0 ∷ 2 ∷ 0 ∷ 28 ∷ 11 ∷ 8 ∷ 3 ∷ 0 ∷ 2 ∷ 0 ∷ 27 ∷ 3 ∷ 0 ∷ 3 ∷ 0 ∷ 1 ∷ 4 ∷ 0 ∷ 4 ∷ 0 ∷ 1 ∷ 0
    ∷ 10 ∷ 0 ∷ 5 ∷ 0 ∷ 20 ∷ 0 ∷ 0 ∷ 2 ∷ 0 ∷ 1 ∷ 0 ∷ 0 ∷ 4 ∷ 0 ∷ 6 ∷ 0 ∷ n ∷ 0 ∷ []

-- the nine numbers of an accepted image with one obligation
abbrev pub accepted : List ℕ
accepted = 0 ∷ 0 ∷ 0 ∷ 0 ∷ 0 ∷ 0 ∷ 0 ∷ 0 ∷ 1 ∷ []

-- too many rows: line 1, a premise of line 2, is unjustified, so line 2 is
abbrev pub too_many : List ℕ
too_many = 22 ∷ 0 ∷ 1 ∷ 1 ∷ 0 ∷ 0 ∷ 0 ∷ 2 ∷ 0 ∷ []

-- the starred cases by name: the page's eleven, and the four of Change 14 ("Rows are counted from the range, still at most 4,096")
pub data Name : Type 0 where
  -- "these two"; "empty image"; "output of 21 and 22"
  small_image small_without_line empty_image output_21 output_22 : Name
  -- "nesting 16 and 17"; "10 and 11 leaves", start among them; "four names and four with a flag by rows"
  nesting_16 nesting_17 leaves_10 leaves_11 four_names four_with_flag : Name
  -- with 16 values three names, and three with a flag; with 2 values twelve names and thirteen
  three_of_16 three_of_16_with_flag twelve_of_2 thirteen_of_2 : Name

-- each case with its wanted answer
abbrev pub case_of : Name → Case
case_of small_image = answer (small 1) accepted
case_of small_without_line = answer (small 0) (20 ∷ 0 ∷ 1 ∷ 1 ∷ 0 ∷ 0 ∷ 0 ∷ 0 ∷ 0 ∷ [])
case_of empty_image = answer [] (2 ∷ 0 ∷ 0 ∷ 0 ∷ 0 ∷ 0 ∷ 0 ∷ 0 ∷ 0 ∷ [])
case_of output_21 = record { image = small 1; buffer = room 21; code = 1; written = room 21 }
case_of output_22 = record { image = small 1; buffer = room 22; code = 0; written = reported accepted }
case_of nesting_16 = answer (entailed_by_table (nested 16)) accepted
case_of nesting_17 = answer (entailed_by_table (nested 17)) (7 ∷ 2 ∷ 0 ∷ 0 ∷ 0 ∷ 0 ∷ 0 ∷ 0 ∷ 0 ∷ [])
case_of leaves_10 = answer (entailed_by_table (28 ∷ compared 9)) accepted
case_of leaves_11 = answer (entailed_by_table (28 ∷ compared 10)) (22 ∷ 0 ∷ 1 ∷ 1 ∷ 0 ∷ 0 ∷ 0 ∷ 1 ∷ 0 ∷ [])
case_of four_names = answer (entailed_by_rows 8 2 2 (named 2 2)) accepted
case_of four_with_flag = answer (entailed_by_rows 8 2 2 (flagged (named 2 2))) too_many
case_of three_of_16 = answer (entailed_by_rows 16 2 1 (named 2 1)) accepted
case_of three_of_16_with_flag = answer (entailed_by_rows 16 2 1 (flagged (named 2 1))) too_many
case_of twelve_of_2 = answer (entailed_by_rows 2 8 4 (named 8 4)) accepted
case_of thirteen_of_2 = answer (entailed_by_rows 2 8 5 (named 8 5)) too_many

-- the names in the page's order
abbrev pub names : List Name
names =
    small_image
    ∷ small_without_line
    ∷ empty_image
    ∷ output_21
    ∷ output_22
    ∷ nesting_16
    ∷ nesting_17
    ∷ leaves_10
    ∷ leaves_11
    ∷ four_names
    ∷ four_with_flag
    ∷ three_of_16
    ∷ three_of_16_with_flag
    ∷ twelve_of_2
    ∷ thirteen_of_2
    ∷ []

-- the case of each name
abbrev pub table : List Case
table = map case_of names
