-- Reads of 32-bit numbers, as the code makes them.
use Rattle.std.proofs.Common.{◌≡◌, ℕ, ◌+◌, ◌*◌, ◌≤◌, List, length, drop, drop_of_length-le, drop-drop}
use Rattle.limits.specs.Numbers.{le16}
use Rattle.vectors.specs.Number.{long}

pub long_past : (s : List ℕ) (at : ℕ) → length s ≤ at → 0 ≡ long (drop at s)
unfolding long le16
long_past s at h = rw (drop_of_length-le s h)

pub long_in : (s : List ℕ) (at a b : ℕ) → a ≡ le16 (drop at s) → b ≡ le16 (drop (at + 2) s) → a + 65536 * b ≡ long (drop at s)
unfolding long
long_in s at a b e d = rw (e, d, drop-drop 2 at s)

pub ruleset u32_at_branches = (long_past, long_in)
