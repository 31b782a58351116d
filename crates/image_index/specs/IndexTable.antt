-- The index of an image: a table of where its records start, and where the instructions of its threads begin.
use Rattle.std.specs.Prelude.{Bool, cond, List, ℕ, zero, suc, ◌+◌, ◌-◌, ◌*◌, min, eqb, ltb, leb, length, drop, set, replicate}
use Rattle.limits.specs.Limits as Limits
use Rattle.limits.specs.Numbers.{le16}
use Rattle.image_frames.specs.Records.{body, start_of}
use Rattle.image_header.specs.Thread.{last_point, begins}
use Rattle.image_index.specs.declared.starts.FirstThread.{FirstThread}

-- the number of records with an entry: a record has at least two bytes, so an image of 1,024 bytes has at most 512
unfoldable pub room : List ℕ → ℕ
room s = cond (leb (length s) 1024) 512 Limits.records

-- after the records an entry for the number of the first thread's record, and one for each of 16 points of four threads
unfoldable pub table_size : List ℕ → ℕ
table_size s = room s + 65

-- the table with the first i records: how many bytes there are from each one's start on, so 0 for a record that is not there
unfoldable pub records_to : List ℕ → ℕ → List ℕ
records_to s zero = replicate (table_size s) 0
records_to s (suc i) = set (records_to s i) i (length s - start_of s i)

-- the position of the record after the one at position p
unfoldable pub next_start : List ℕ → ℕ → ℕ
next_start s p = min (length s) (p + 2 + le16 (drop p s))

-- the record at position p is a thread's
unfoldable pub is_thread : List ℕ → ℕ → Bool
is_thread s p = eqb (le16 (drop (p + 2) s)) 3

-- the first of n records, from record i at position p on, that is a thread's; without one, the record after them or the image's end
unfoldable pub first_from : List ℕ → ℕ → ℕ → ℕ → FirstThread
first_from s i p zero = record { number = i; position = p }
first_from s i p (suc n) =
    cond (ltb p (length s))
    (cond (is_thread s p) (record { number = i; position = p }) (first_from s (i + 1) (next_start s p) n))
    (record { number = i; position = p })

-- the first thread's record of an image
unfoldable pub first_thread : List ℕ → FirstThread
first_thread s = first_from s 0 0 (room s)

-- the table l with the starts of the first p instructions of the thread's body b, written from an entry on
unfoldable pub row_to : List ℕ → ℕ → List ℕ → ℕ → List ℕ
row_to l from b zero = l
row_to l from b (suc p) = set (row_to l from b p) (from + p) (begins (drop 1 b) p)

-- the table l with the starts of all instructions of the thread's body b, sixteen at most
unfoldable pub row_of : List ℕ → ℕ → List ℕ → List ℕ
row_of l from b = row_to l from b (min Limits.points (last_point b))

-- the position of the j-th record after the one at position p
unfoldable pub behind : List ℕ → ℕ → ℕ → ℕ
behind s p zero = p
behind s p (suc j) = next_start s (behind s p j)

-- the table l with rows of sixteen entries for the first j records from position p on
unfoldable pub rows_to : List ℕ → List ℕ → ℕ → ℕ → ℕ → List ℕ
rows_to s l from p zero = l
rows_to s l from p (suc j) = row_of (rows_to s l from p j) (from + 16 * j) (body (drop (behind s p j) s))

-- the index of an image
unfoldable pub index_of : List ℕ → List ℕ
index_of s =
    rows_to s (set (records_to s (room s)) (room s) (first_thread s).number) (room s + 1) (first_thread s).position Limits.threads

-- the position of the record that has i before it; the image's end past the last one that an image may have
unfoldable pub place_of : List ℕ → ℕ → ℕ
place_of s i = cond (ltb i Limits.records) (start_of s i) (length s)
