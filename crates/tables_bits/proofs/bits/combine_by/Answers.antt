use Rattle.std.proofs.Common.{rules, arith}
use Rattle.tables_bits.proofs.BitBranches.{zip_words}
use Rattle.tables_bits.proofs.bits.combine_by.Goals as goal

pub returns : goal.returns
returns c = zip_words _ _ _ (omega (arith, c.zip_with.ensures.len)) _ c.zip_with.ensures.zipped _ _ (λ x y r k. search rules)
