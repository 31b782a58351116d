-- A claim in bytes, and back.
use mathlib.Core.Path.{◌≡◌, refl}
use mathlib.Core.List.{List, [], ◌∷◌}
use Prim.Native.Nat.{ℕ, ◌+◌}
use native.Mathlib.Omega.{arith}
use lib.ListN.{length, get_or, drop, drop_of_length-le}
use Rattle.limits.specs.Numbers.{le16}
use Rattle.verdict_record.specs.Record.{two}
use Rattle.trim_spec.specs.Document.{ClaimRecord}
use Rattle.trim_spec.specs.Canonical.{Byte, Short, Bytes, ClaimFits}
use Rattle.trim_spec.specs.Encode.{claim_bytes}
use Rattle.trim_spec.specs.Parse.{claim_record}
use Rattle.trim_spec.proofs.EachMember.{each_cons}
use Rattle.trim_spec.proofs.U16Bytes.{word_two, two_bytes, byte_at, word_short, word_low, word_high, reads_all}

-- from a claim

module _ (c : ClaimRecord) where
  pub claim_thread : get_or (claim_bytes c) 0 0 ≡ c.thread
  unfolding claim_bytes
  claim_thread = refl

  pub claim_point : get_or (claim_bytes c) 1 0 ≡ c.point
  unfolding claim_bytes
  claim_point = refl

  pub claim_other : get_or (claim_bytes c) 2 0 ≡ c.other
  unfolding claim_bytes
  claim_other = refl

  pub claim_other_point : get_or (claim_bytes c) 3 0 ≡ c.other_point
  unfolding claim_bytes
  claim_other_point = refl

  pub claim_size : length (claim_bytes c) ≡ 6
  unfolding claim_bytes
  claim_size = refl

  pub claim_short : Short (length (claim_bytes c) + 2)
  claim_short = omega (arith, claim_size)

  module _ (f : ClaimFits c) where
    pub claim_line : le16 (drop 4 (claim_bytes c)) ≡ c.line
    unfolding claim_bytes
    claim_line = word_two c.line [] f.line

    pub claim_back : claim_record (claim_bytes c) ≡ c
    unfolding claim_record
    claim_back = rw (claim_thread, claim_point, claim_other, claim_other_point, claim_line)

    pub claim-bytes : Bytes (claim_bytes c)
    unfolding claim_bytes
    claim-bytes =
        let s : List ℕ = two c.line in
        each_cons Byte 0 c.thread (c.point ∷ c.other ∷ c.other_point ∷ s) f.thread
        (each_cons Byte 0 c.point (c.other ∷ c.other_point ∷ s) f.point
        (each_cons Byte 0 c.other (c.other_point ∷ s) f.other
        (each_cons Byte 0 c.other_point s f.other_point (two_bytes c.line))))

-- from bytes

module _ (b : List ℕ) (h : Bytes b) where
  pub claim_fits : ClaimFits (claim_record b)
  unfolding claim_record
  claim_fits = record {
    thread = byte_at b h 0;
    point = byte_at b h 1;
    other = byte_at b h 2;
    other_point = byte_at b h 3;
    line = word_short b h 4;
  }

  pub claim_again : length b ≡ 6 → claim_bytes (claim_record b) ≡ b
  unfolding claim_record claim_bytes
  claim_again e =
      let r : drop 6 b ≡ [] = drop_of_length-le b {i = 6} (omega arith) in
      rw (word_low b h 4, word_high b h 4) (rw r at (reads_all b 0 6 (omega arith)))
