-- A refusal names no record past the limits.
use mathlib.Core.Path.{◌≡◌, refl, ap, ◌∙◌}
use mathlib.Core.Bool.{Bool, true, false, cond, ◌&&◌}
use mathlib.Core.List.{List, [], ◌∷◌}
use mathlib.Core.Logic.{◌≢◌}
use Prim.Native.Nat.{ℕ, zero, suc, ◌+◌, ◌-◌, ◌≤◌, ◌<◌}
use native.Mathlib.Omega.{arith}
use lib.Dec.{eqb, ltb}
use lib.ListN.{length, get_or, drop, length-set}
use lib.Seq.{get_or-set_same, get_or-set_other}
use borrow.Author.Tests.{eqb-true, eqb-false}
use Rattle.limits.specs.Limits as Limits
use Rattle.limits.specs.Numbers.{le16, within, every}
use Rattle.image_frames.specs.Kinds as Kinds
use Rattle.image_frames.specs.Kinds.{order, most}
use Rattle.image_frames.specs.Frames.{counted, frame, ended, unless_faulty, walk, none, frames, whole_image, Framing, refused, sound}
use Rattle.image_frames.specs.Records.{bodies}
use Rattle.image_frames.specs.declared.fault.Fault.{Fault}
use Rattle.image_frames.specs.declared.fault.Fault.TheVariants.{Size, Kind}
use Rattle.image_frames.specs.declared.frame.Seen.{Seen}
use Rattle.image_frames.proofs.PassedFrame.{framed}
use Rattle.image_frames.proofs.KindCounts.{counts_few}
use Rattle.image_header.specs.declared.sizes.Sizes.{Sizes}
use Rattle.image_header.specs.Header as Header
use Rattle.image_header.specs.Header.{value_range, start_values, owners, marks, headed, header}
use Rattle.image_header.proofs.HeaderBranches.{counted_in}
use Rattle.image.specs.Body.{place_of, check}
use Rattle.image.specs.Decode as Decode
use Rattle.image.specs.Decode.{record_count, sizes_of, first_fault, behind_frames, decoded, Decoded}
use Rattle.image_meaning.proofs.Sums.{sum}
use Rattle.checker_spec.proofs.BoundedSums.{sum_falls}
use Rattle.limits.proofs.PassedTests.{and_true}
use Rattle.image_meaning.proofs.PassedChecks.{unless_passed}
use Rattle.image_frames.specs.Fault.{Checked, passed}
use Rattle.std.specs.Prelude.{Ok, Err}

-- of all kinds together, how many records may still come
left : Seen → ℕ
left c = sum (λ k. most k - get_or c.count k 0) (suc Kinds.last)

-- before record i: each kind has a count; what may still come is within the limits; no kind has i records
record Before (i : ℕ) (c : Seen) : Type 0 where
  all_kinds : length c.count ≡ suc Kinds.last
  few : i + left c ≤ suc Limits.records
  fewer : (k : ℕ) → get_or c.count k 0 < i

module _ (i : ℕ) (c : Seen) (k : ℕ) (b : Before i c) (known : k ≤ Kinds.last) (more : get_or c.count k 0 < most k) where
  here : get_or (counted c k).count k 0 ≡ get_or c.count k 0 + 1
  here = get_or-set_same c.count k (get_or c.count k 0 + 1) 0 (omega (arith, b.all_kinds))

  elsewhere : (j : ℕ) → j ≢ k → get_or (counted c k).count j 0 ≡ get_or c.count j 0
  elsewhere j q = get_or-set_other c.count k j (get_or c.count k 0 + 1) 0 q

  left_falls : left (counted c k) < left c
  unfolding left
  left_falls =
      sum_falls (λ j. most j - get_or c.count j 0) (λ j. most j - get_or (counted c k).count j 0) (suc Kinds.last) k (omega arith)
      (let e = here in omega arith)
      (λ j q. let e = elsewhere j q in omega arith)

  behind : Before (i + 1) (counted c k)
  behind = record {
    all_kinds = length-set c.count k (get_or c.count k 0 + 1) ∙ b.all_kinds;
    few = let f = left_falls in let g = b.few in omega arith;
    fewer = λ j. at j (eqb j k) refl;
  }
    where
      at : (j : ℕ) (x : Bool) → eqb j k ≡ x → get_or (counted c k).count j 0 < i + 1
      at j true q = let p = eqb-true j k q in rw p (let e = here in let f = b.fewer k in omega arith)
      at j false q = let e = elsewhere j (eqb-false j k q) in let f = b.fewer j in omega arith

first : Before 1 none
unfolding left sum most
first = record { all_kinds = refl; few = omega arith; fewer = λ k. small k }
  where
    small : (k : ℕ) → get_or none.count k 0 < 1
    small zero = omega arith
    small (suc zero) = omega arith
    small (suc (suc zero)) = omega arith
    small (suc (suc (suc zero))) = omega arith
    small (suc (suc (suc (suc zero)))) = omega arith
    small (suc (suc (suc (suc (suc zero))))) = omega arith
    small (suc (suc (suc (suc (suc (suc zero)))))) = omega arith
    small (suc (suc (suc (suc (suc (suc (suc zero))))))) = omega arith
    small (suc (suc (suc (suc (suc (suc (suc (suc k)))))))) = omega arith

-- what the frames say: a record within the limits, or no more formulas than there may be records
abbrev Within : Framing → Type 0
Within (Err r) = r.«record» ≤ suc Limits.records
Within (Ok n) = n.formulas ≤ Limits.records

ended_within : (i : ℕ) (c : Seen) → Before i c → Within (ended i c)
unfolding ended
ended_within i c b = go (ltb c.last Kinds.obligations)
  where
    count : ℕ → ℕ
    count k = get_or c.count k 0

    go : (p : Bool) → Within (cond p (refused Kind i)
        (sound (count Kinds.formula) (count Kinds.thread) (count Kinds.line) (count Kinds.last)))
    go true = let f = b.few in omega arith
    go false = let f = b.few in let g = b.fewer Kinds.formula in omega arith

walk_within : (k i : ℕ) (c : Seen) (l : List ℕ) → Before i c → Within (walk k i c l)
unfolding walk
walk_within zero i c l b = ended_within i c b
walk_within (suc k) i c [] b = ended_within i c b
walk_within (suc k) i c (x ∷ l) b =
    go (frame c (x ∷ l)) refl (λ d. walk_within k (i + 1) (counted c kind) (drop (2 + le16 (x ∷ l)) (x ∷ l)) d)
  where
    kind : ℕ
    kind = order (le16 (drop 2 (x ∷ l)))

    rest : Framing
    rest = walk k (i + 1) (counted c kind) (drop (2 + le16 (x ∷ l)) (x ∷ l))

    go : (f : Checked) → frame c (x ∷ l) ≡ f → (Before (i + 1) (counted c kind) → Within rest) → Within (unless_faulty f i rest)
    go (Ok _) e h = let a = (framed c (x ∷ l) e).admits in h (behind i c kind b a.known a.few)
    go (Err f) e h = let g = b.few in omega arith

whole_within : (s : List ℕ) → Within (whole_image s)
unfolding whole_image frames
whole_within s = go (eqb (length s) 0) (ltb Limits.image_bytes (length s))
  where
    go : (p q : Bool) → Within (cond p (refused Size 0) (cond q (refused Size 0) (walk (length s) 1 none s)))
    go true q = omega arith
    go false true = omega arith
    go false false = walk_within (length s) 1 none s first

-- a header that passes has as many threads as there may be
pub header_threads : (t : ℕ) (b : List ℕ) → header t b ≡ passed → get_or b 0 0 ≤ Limits.threads
unfolding header headed
header_threads t b e =
    let h = (unless_passed _ _ _ (unless_passed _ _ _ (unless_passed _ _ _ e).1).1).0 in
    let lists = every (within 0 (value_range b - 1)) (start_values b)
    && (every (within 1 (get_or b 0 0)) (owners b) && every (within 0 1) (marks b)) in
    (counted_in t b (and_true (Header.counted t b) lists h).0).threads.1

-- the record that a refusal names
record_of : Decoded → ℕ
record_of (Ok _) = 0
record_of (Err r) = r.«record»

refused_number : (f g : Fault) (i r : ℕ) → ◌≡◌ {A = Decoded} (refused f i) (refused g r) → i ≡ r
unfolding record_of
refused_number f g i r e = ap record_of e

refused_sound : (f : Fault) (i : ℕ) (z : Sizes) → ◌≡◌ {A = Decoded} (Ok z) (refused f i) → ⊥
refused_sound f i z e = let q : ◌≡◌ {A = ℕ} 0 1 = cc in omega arith

-- the first fault of n records from record i on is in one of them
fault_number : (t : ℕ) (z : Sizes) (l : List (List ℕ)) (i n : ℕ) (m : List (List ℕ)) (f : Fault) (r : ℕ)
    → first_fault t z l i n m ≡ refused f r → r < i + n
unfolding first_fault
fault_number t z l i zero m f r e = absurd (refused_sound f r z e)
fault_number t z l i (suc n) m f r e = go (check t z l (place_of z i) (get_or m 0 [])) e (fault_number t z l (i + 1) n (drop 1 m) f r)
  where
    rest : Decoded
    rest = first_fault t z l (i + 1) n (drop 1 m)

    go : (c : Checked) → Decode.unless_faulty c i rest ≡ refused f r → (rest ≡ refused f r → r < i + 1 + n) → r < i + suc n
    go (Ok _) e h = let b = h e in omega arith
    go (Err g) e h = let q = refused_number g f i r e in omega arith

-- no record that a refusal names has a higher number
abbrev pub last_named : ℕ
last_named = 3 + Limits.records + Limits.threads + Limits.lines + Limits.claims

module _ (s : List ℕ) (f : Fault) (r : ℕ) where
  bodies_number : (a t n m : ℕ) → whole_image s ≡ sound a t n m → a ≤ Limits.records
      → behind_frames (bodies s) (sound a t n m) ≡ refused f r → r ≤ last_named
  unfolding first_fault check place_of record_count sizes_of
  bodies_number a t n m w few e = go (header t head) refl (rw q at e)
    where
      head : List ℕ
      head = get_or (bodies s) 0 []

      z : Sizes
      z = sizes_of head a n m

      later : ℕ
      later = 2 + a + get_or head 0 0 + n + m

      q : 3 + a + get_or head 0 0 + n + m ≡ suc later
      q = omega arith

      go : (c : Checked) → header t head ≡ c → Decode.unless_faulty c 1 (first_fault t z (bodies s) 2 later (drop 1 (bodies s))) ≡ refused f r
          → r ≤ last_named
      go (Ok _) h d =
          let b = fault_number t z (bodies s) 2 later (drop 1 (bodies s)) f r d in
          let few_threads = header_threads t head h in
          let counts = counts_few s a t n m w in
          omega (arith, counts.lines, counts.claims)
      go (Err g) h d = let p = refused_number g f 1 r d in omega arith

  pub refused_within : decoded s ≡ refused f r → r ≤ last_named
  unfolding decoded
  refused_within e = go (whole_image s) refl (whole_within s) e
    where
      go : (w : Framing) → whole_image s ≡ w → Within w → behind_frames (bodies s) w ≡ refused f r → r ≤ last_named
      go (Err p) q b d = let e = refused_number p.fault f p.«record» r d in omega arith
      go (Ok n) q b d = bodies_number n.formulas n.threads n.lines n.claims q b d
