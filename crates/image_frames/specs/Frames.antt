-- The whole image and its record frames: codes 2, 3 and 4.
use Rattle.std.specs.Prelude.{cond, List, [], ◌∷◌, ℕ, zero, suc, ◌+◌, ◌-◌, eqb, ltb, length, get_or, drop, set, Result, Ok, Err}
use Rattle.limits.specs.Limits as Limits
use Rattle.limits.specs.Numbers.{le16, has}
use Rattle.image_frames.specs.Kinds as Kinds
use Rattle.image_frames.specs.Kinds.{order, most}
use Rattle.image_frames.specs.Fault.{Checked, passed}
use Rattle.image_frames.specs.declared.fault.Fault.{Fault}
use Rattle.image_frames.specs.declared.fault.Fault.TheVariants.{Size, Length, Kind}
use Rattle.image_frames.specs.declared.fault.Refusal.{Refusal}
use Rattle.image_frames.specs.declared.frame.Seen.{Seen}
use Rattle.image_frames.specs.declared.walk.RecordCounts.{RecordCounts}

-- the fault f of record i, counted from 1, or of the image as a whole, 0
abbrev pub refused : {A : Type 0} → Fault → ℕ → Result A Refusal
refused f i = Err (record { fault = f; «record» = i })

-- the counts of the records of each kind that may repeat, or the first fault of the frames with its record
abbrev pub Framing : Type 0
Framing = Result RecordCounts Refusal

-- the frames are sound, with these numbers of formulas, threads, lines and claims
abbrev pub sound : ℕ → ℕ → ℕ → ℕ → Framing
sound f t l c = Ok (record { formulas = f; threads = t; lines = l; claims = c })

-- one more record, at the place k of the order
abbrev pub counted : Seen → ℕ → Seen
counted c k = record { last = k; count = set c.count k (get_or c.count k 0 + 1) }

-- a record at the place k of the order: "kind unknown, misplaced, too often" is a fault, else it passes
unfoldable pub admit : Seen → ℕ → Checked
admit c k =
    cond (ltb Kinds.last k) (Err Kind)
    (cond (ltb k c.last) (Err Kind)
    (cond (ltb 1 (k - c.last)) (Err Kind)
    (cond (ltb (get_or c.count k 0) (most k)) passed
    (Err Kind))))

-- the first record of l: "length cut short, under 2 or past the end", then its kind
unfoldable pub frame : Seen → List ℕ → Checked
frame c l =
    cond (has 2 l)
    (cond (ltb (le16 l) 2) (Err Length)
    (cond (has (2 + le16 l) l) (admit c (order (le16 (drop 2 l))))
    (Err Length)))
    (Err Length)

-- the image ends where record i would come: a kind "missing at the end (record after the last)", or the counts
unfoldable pub ended : ℕ → Seen → Framing
ended i c =
    cond (ltb c.last Kinds.obligations) (refused Kind i)
    (sound (get_or c.count Kinds.formula 0) (get_or c.count Kinds.thread 0) (get_or c.count Kinds.line 0) (get_or c.count Kinds.last 0))

-- the fault of record i, or g, the result for what follows it
abbrev pub unless_faulty : Checked → ℕ → Framing → Framing
unless_faulty (Ok _) i g = g
unless_faulty (Err f) i g = refused f i

-- the frames from record i on. The first argument decreases; it is at least the number of bytes left
unfoldable pub walk : ℕ → ℕ → Seen → List ℕ → Framing
walk zero i c l = ended i c
walk (suc k) i c [] = ended i c
walk (suc k) i c (x ∷ l) =
    unless_faulty (frame c (x ∷ l)) i (walk k (i + 1) (counted c (order (le16 (drop 2 (x ∷ l))))) (drop (2 + le16 (x ∷ l)) (x ∷ l)))

-- no record seen yet
abbrev pub none : Seen
none = record { last = 0; count = 0 ∷ 0 ∷ 0 ∷ 0 ∷ 0 ∷ 0 ∷ 0 ∷ 0 ∷ [] }

-- all frames of the image, records counted from 1
unfoldable pub frames : List ℕ → Framing
frames s = walk (length s) 1 none s

-- code 2, record 0: the image is empty or above the limit; then the frames
unfoldable pub whole_image : List ℕ → Framing
whole_image s = cond (eqb (length s) 0) (refused Size 0) (cond (ltb Limits.image_bytes (length s)) (refused Size 0) (frames s))
