use Rattle.limits.proofs.BranchTests.{tests}
use Rattle.tables_bits.proofs.TruthTableBranches.{leaf_bits_viewing, leaf_bits_growing, leaf_bits_showing}
use Rattle.tables_bits.proofs.truth_table.leaf_bits.Goals as goal

pub returns-then-n-gt-COUNT : goal.returns-then-n-gt-COUNT
returns-then-n-gt-COUNT c = record {
  slots_after = search (leaf_bits_viewing, tests);
  grown = search (leaf_bits_growing, tests);
  leaf_bits = search (leaf_bits_showing, tests);
}

pub returns-then-j-n : goal.returns-then-j-n
returns-then-j-n c = record {
  slots_after = search (leaf_bits_viewing, tests);
  grown = search (leaf_bits_growing, tests);
  leaf_bits = search (leaf_bits_showing, tests);
}

pub returns : goal.returns
returns c = record {
  slots_after = search (leaf_bits_viewing, tests);
  grown = search (leaf_bits_growing, tests);
  leaf_bits = search (leaf_bits_showing, tests);
}
