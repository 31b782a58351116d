-- The bytes of the records that are left out: those whose numbers have no mark.
use Rattle.std.specs.Prelude.{◌≡◌, Bool, false, cond, List, [], ◌∷◌, map, ℕ, suc, ◌+◌, ◌*◌, ◌≤◌, ◌<◌, length, get_or, drop}
use Rattle.limits.specs.Limits as Limits
use Rattle.image_frames.specs.Records.{bodies}
use Rattle.image_header.specs.declared.sizes.Sizes.{Sizes}
use Rattle.image_bodies.specs.Line.{line_size}
use Rattle.image.specs.Decode.{record_count}
use Rattle.image_meaning.specs.Certificate.{line_body}
use Rattle.trim_spec.specs.Encode.{encode}
use Rattle.trim_spec.specs.Parse.{part, document_of}

-- the bytes of a record with a body of n bytes, if number i has no mark; length and kind are 4 of them
unfoldable pub left_one : List Bool → ℕ → ℕ → ℕ
left_one m i n = cond (get_or m i false) 0 (n + 4)

-- the bytes left out of records with bodies of these lengths, whose marks begin with the first
unfoldable pub left_out : List Bool → List ℕ → ℕ
left_out m [] = 0
left_out m (n ∷ l) = left_one m 0 n + left_out (drop 1 m) l

-- the bytes left out of the n records after the one with index `from`, without the first i of them; they are numbered from 1
unfoldable pub left_behind : List (List ℕ) → ℕ → ℕ → List Bool → ℕ → ℕ
left_behind l from n m i = left_out (drop (suc i) m) (map length (drop i (part (from + 1) n l)))

-- a bound for the bytes of all records of one kind
abbrev pub most : ℕ
most = 65536 * (Limits.image_bytes + 4)

-- the lengths in a well-formed image s with sizes z
pub record Lengths (z : Sizes) (s : List ℕ) : Type 0 where
  pub short : length s ≤ Limits.image_bytes
  pub records : length (bodies s) ≡ record_count z
  -- a line's body is as long as its premise count says
  pub lines : (n : ℕ) → 1 ≤ n → n ≤ z.lines → length (line_body z (bodies s) n) ≡ line_size (line_body z (bodies s) n)
  pub document : length (encode (document_of z (bodies s))) ≡ length s

-- the counts of sizes z within their types
pub record InRange (z : Sizes) : Type 0 where
  pub formulas : z.formulas < 65536
  pub threads : z.threads < 256
  pub lines : z.lines < 65536
  pub claims : z.claims < 65536
