-- A line's record: codes 5, 6 and 8.
use Rattle.std.specs.Prelude.{Bool, true, ◌&&◌, List, [], ℕ, eqb, get_or, drop}
use Rattle.limits.specs.Numbers.{le16}
use Rattle.image_frames.specs.Fault.{unless, also, Checked, passed}
use Rattle.image_frames.specs.declared.fault.Fault.TheVariants.{Sort}
use Rattle.formula.specs.Codes as Codes
use Rattle.formula.specs.Reader.{sort_of}
use Rattle.image_header.specs.declared.sizes.Sizes.{Sizes}
use Rattle.image_bodies.specs.declared.line.Form.{Form}
use Rattle.image_bodies.specs.declared.line.Form.TheVariants.{Triple, Implication, Inclusion, Pair, Unlisted}
use Rattle.image_bodies.specs.Line.{form_of, line_numbers}
use Rattle.image_bodies.specs.ListBody.{outlined_at}

-- formula k has the sort s
unfoldable pub sort_at : List (List ℕ) → ℕ → ℕ → Bool
sort_at l s k = eqb (sort_of (get_or l k [])) s

-- triples are about assertions without start, implications about assertions, inclusions about intervals
unfoldable pub sorted_by : List (List ℕ) → Form → ℕ → Bool
sorted_by l Triple k = outlined_at l k
sorted_by l Implication k = sort_at l Codes.assertion k
sorted_by l Inclusion k = sort_at l Codes.interval k
sorted_by l Pair k = outlined_at l k
sorted_by l Unlisted k = true

-- both sides of the line have the sort that its form needs
unfoldable pub line_sorted : List (List ℕ) → List ℕ → Bool
line_sorted l b = sorted_by l (form_of (get_or b 0 0)) (le16 (drop 3 b)) && sorted_by l (form_of (get_or b 0 0)) (le16 (drop 5 b))

-- codes 5 and 6, then 8, for a line with this number of lines before it
unfoldable pub line : Sizes → List (List ℕ) → ℕ → List ℕ → Checked
line z l lower b = also (line_numbers z l lower b) (unless (line_sorted l b) Sort passed)
