use Rattle.std.proofs.Common.{rules, arith}
use Rattle.tables_bits.proofs.BitBranches.{zip_denied}
use Rattle.tables_bits.proofs.bits.deny_words.Goals as goal

pub returns : goal.returns
returns c = zip_denied _ _ _ (omega (arith, c.zip_with.ensures.len)) _ c.zip_with.ensures.zipped (λ x y r k. search rules)
