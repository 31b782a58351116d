-- A list of so many numbers copied to the front of a buffer, one by one.
use mathlib.Core.Path.{◌≡◌, refl, ap, ◌∙◌}
use mathlib.Core.List.{List, ◌++◌, append_assoc}
use Prim.Native.Nat.{ℕ, suc, ◌+◌, ◌≤◌, ◌<◌}
use native.Mathlib.Numerals.{add-one}
use native.Mathlib.Omega.{arith}
use lib.ListN.{length, get_or, set, take, drop, length-set}
use lib.Seq.{take-suc, drop-cons, set_at, take_all, length-take-le}

module _ (size : ℕ) (v o w : List ℕ) (i : ℕ) (l : length v ≡ size) (e : w ≡ take i v ++ drop i o) where
  copy_byte : i < length v → i < length o → set w i (get_or v i 0) ≡ take (i + 1) v ++ drop (i + 1) o
  copy_byte a b =
      let le : i ≤ length v = omega arith in
      rw (
        add-one i,
        e,
        drop-cons o i 0 b,
        set_at (take i v) (get_or o i 0) (drop (suc i) o) (get_or v i 0) i (length-take-le i v le),
        take-suc v i 0 a,
        append_assoc,
      )

  -- the invariant after a turn
  pub copy_more : i < size → size ≤ length o → length w ≡ length o
      → (i + 1 ≤ size) × ((set w i (get_or v i 0) ≡ take (i + 1) v ++ drop (i + 1) o) × (length (set w i (get_or v i 0)) ≡ length o))
  copy_more lt lo q = (omega arith, (copy_byte (omega arith) (omega arith), length-set w i (get_or v i 0) ∙ q))

  pub copy_all : i ≤ size → size ≤ i → w ≡ v ++ drop size o
  copy_all a b =
      let q : i ≡ size = omega arith in
      let m : length v ≤ size = omega arith in
      rw q at e ∙ ap (λ x. x ++ drop size o) (take_all size v m)

pub copy_none : (v o : List ℕ) → o ≡ take 0 v ++ drop 0 o
copy_none v o = refl

pub ruleset copying = (copy_none, copy_more, copy_all)
