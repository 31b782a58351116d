-- A formula counted; s is the tail of its case.
use Rattle.std.specs.Prelude.{List, ℕ, get_or, drop}
use Rattle.limits.specs.Numbers.{le16}
use Rattle.formula.specs.Reader.{reading_of}
use Rattle.formula.specs.declared.reader.Counts.{Counts}
use Rattle.vectors.specs.Counters.{with_case}
use Rattle.vectors.specs.declared.counters.Counters.{Counters}
use Rattle.vectors_formulas.specs.Answer.{numbered, kind_of, is_answer}

-- threads, words, registers and the range, a byte each
unfoldable pub counts_at : List ℕ → Counts
counts_at s = record { threads = get_or s 0 0; words = get_or s 1 0; registers = get_or s 2 0; values = get_or s 3 0 }

-- one formula more, by its reading's kind and by whether it is the stored one
unfoldable pub with_formula : Counters → List ℕ → List ℕ → Counters
with_formula t body s = with_case t (kind_of (numbered (reading_of body (counts_at s))))
    (is_answer (numbered (reading_of body (counts_at s))) (le16 (drop 4 s)) (le16 (drop 6 s)))
