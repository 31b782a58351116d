use Rattle.std.proofs.Common.{arith}
use Rattle.tables_bits.proofs.BitBranches.{leaf_words_are}
use Rattle.tables_bits.proofs.bits.leaf_words.Goals as goal

pub returns : goal.returns
returns c = leaf_words_are _ _ c.loop-w.invariant.1 (λ i k. c.loop-w.invariant.0 i (omega arith))
