-- The whole image: codes 2 to 9 and 23 with the record, or the sizes of the image.
use Rattle.std.specs.Prelude.{List, [], ℕ, zero, suc, ◌+◌, get_or, drop, Result, Ok, Err}
use Rattle.image_frames.specs.Fault.{Checked}
use Rattle.image_frames.specs.Frames.{Framing, refused, whole_image}
use Rattle.image_frames.specs.Records.{bodies}
use Rattle.image_frames.specs.declared.fault.Refusal.{Refusal}
use Rattle.image_header.specs.declared.sizes.Sizes.{Sizes}
use Rattle.image_header.specs.Header.{thread_count, word_count, register_count, value_range}
use Rattle.image.specs.Body.{place_of, check}

-- the sizes of a well-formed image, or its first fault with the record
abbrev pub Decoded : Type 0
Decoded = Result Sizes Refusal

-- the number of records
unfoldable pub record_count : Sizes → ℕ
record_count z = 3 + z.formulas + z.threads + z.lines + z.claims

-- the header's counts as written, and the records that the frames counted
unfoldable pub sizes_of : List ℕ → ℕ → ℕ → ℕ → Sizes
sizes_of h formulas lines claims = record {
  threads = thread_count h;
  words = word_count h;
  registers = register_count h;
  range = value_range h;
  formulas = formulas;
  lines = lines;
  claims = claims;
}

-- the fault of record i, or d, the result for the records after it
abbrev pub unless_faulty : Checked → ℕ → Decoded → Decoded
unless_faulty (Ok _) i d = d
unless_faulty (Err f) i d = refused f i

-- the first fault of n records from record i on, whose bodies are m
unfoldable pub first_fault : ℕ → Sizes → List (List ℕ) → ℕ → ℕ → List (List ℕ) → Decoded
first_fault t z l i zero m = Ok z
first_fault t z l i (suc n) m = unless_faulty (check t z l (place_of z i) (get_or m 0 [])) i (first_fault t z l (i + 1) n (drop 1 m))

-- the bodies, if the frames passed
abbrev pub behind_frames : List (List ℕ) → Framing → Decoded
behind_frames l (Err r) = Err r
behind_frames l (Ok n) =
    let z = sizes_of (get_or l 0 []) n.formulas n.lines n.claims in
    first_fault n.threads z l 1 (record_count z) l

-- "Places in table order, records first to last": all frames, then the bodies
unfoldable pub decoded : List ℕ → Decoded
decoded s = behind_frames (bodies s) (whole_image s)
