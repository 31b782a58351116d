use Rattle.std.proofs.Common.{◌≡◌, ℕ, ◌<◌, get_or, length}
use Rattle.tables_bits.specs.Bits.{leaf_word}
use Rattle.tables_bits.proofs.bits.leaf_words.Given as goal

abbrev pub invariant-loop-w : goal.invariant-loop-w
invariant-loop-w l = ((k : ℕ) → k < l.w → get_or l.out k 0 ≡ leaf_word l.j k) × (length l.out ≡ 16)
