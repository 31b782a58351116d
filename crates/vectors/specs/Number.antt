-- Numbers of 32 bits.
use Rattle.std.specs.Prelude.{ℕ, ◌+◌, ◌*◌, List, drop}
use Rattle.limits.specs.Numbers.{le16}

-- the 32-bit number in front, the low half first
unfoldable pub long : List ℕ → ℕ
long l = le16 l + 65536 * le16 (drop 2 l)
