-- What the code finds out about the lines that a table names, by bytes and positions.
use Rattle.std.specs.Prelude.{Bool, true, false, ◌&&◌, List, [], ℕ, suc, ◌+◌, ◌-◌, get_or}
use Rattle.semantics.specs.Formula.{same_bytes}
use Rattle.image_frames.specs.Records.{bodies}
use Rattle.image_header.specs.declared.sizes.Sizes.{Sizes}
use Rattle.image_bodies.specs.declared.line.Form.{Form}
use Rattle.image_bodies.specs.declared.line.Form.TheVariants.{Triple, Implication, Inclusion, Pair, Unlisted}
use Rattle.image_bodies.specs.Line.{form_of}
use Rattle.image_meaning.specs.Program.{point_count, program_of, outline_number}
use Rattle.image_meaning.specs.Certificate.{left, right, line_body}
use Rattle.rules_justified.specs.Marks.{is_marked}
use Rattle.rules_justified.specs.declared.marks.Marks.{Marks}
use Rattle.handover_spec.specs.Table.{point_named, line_named, points_to, each}

-- the bytes of the assertion at point k of thread t
unfoldable pub assertion_of : List ℕ → Sizes → ℕ → ℕ → List ℕ
assertion_of s z t k = get_or (bodies s) (outline_number z (bodies s) t k) []

-- whether lines of this form are implications
abbrev pub is_implication : Form → Bool
is_implication Triple = false
is_implication Implication = true
is_implication Inclusion = false
is_implication Pair = false
is_implication Unlisted = false

-- the formulas of the line with body b have the bytes p and q
unfoldable pub sides_match : List ℕ → List ℕ → List ℕ → List ℕ → Bool
sides_match s b p q = same_bytes p (get_or (bodies s) (left b) []) && same_bytes q (get_or (bodies s) (right b) [])

-- line n has a mark and is an implication between formulas with the bytes p and q
unfoldable pub line_serves : List ℕ → Sizes → Marks → ℕ → List ℕ → List ℕ → Bool
line_serves s z m n p q =
    is_marked m n && (is_implication (form_of (get_or (line_body z (bodies s) n) 0 0)) && sides_match s (line_body z (bodies s) n) p q)

module _ (old : List ℕ) (z : Sizes) (new : List ℕ) (y : Sizes) (m : Marks) (table : List ℕ) where
  -- the line in entry i, that of point k of thread t, serves
  unfoldable pub entry_serves : ℕ → ℕ → ℕ → Bool
  entry_serves t k i = line_serves new y m (line_named table i) (assertion_of old z t k) (assertion_of new y t (point_named table i))

  -- the lines in entries from .. from + n - 1, those of points 0 to n - 1 of thread t, serve
  unfoldable pub entries_serve : ℕ → ℕ → ℕ → Bool
  entries_serve t from n = each n (λ k. entry_serves t k (from + k))

  -- the lines in the entries of thread t serve
  unfoldable pub thread_serves : ℕ → Bool
  thread_serves t = entries_serve t (points_to (program_of z (bodies old)) (t - 1)) (point_count z (bodies old) t)

  -- the lines in the entries of threads 1 to n serve
  unfoldable pub threads_serve : ℕ → Bool
  threads_serve n = each n (λ t. thread_serves (suc t))
