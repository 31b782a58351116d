-- Numbers read one after the other into an array.
use Rattle.std.proofs.Common.{◌≡◌, ℕ, ◌+◌, ◌*◌, ◌<◌, List, length, get_or, drop, sym, ◌∙◌, arith}
use Rattle.std.proofs.lemmas.List.{ext_get_or}
use Rattle.tables_columns.proofs.ColumnLists.{column_length, column_get_d}
use Rattle.vectors.specs.Number.{long}
use Rattle.vectors.specs.CallAnswer.{numbers_at}

pub stored_all : (s l : List ℕ) → length l ≡ 21 → ((k : ℕ) → k < 21 → get_or l k 0 ≡ long (drop (2 + 4 * k) s)) → l ≡ numbers_at s
unfolding numbers_at
stored_all s l e r =
    let f : ℕ → ℕ = λ i. long (drop (2 + 4 * i) s) in
    ext_get_or 0 l _ (e ∙ sym (column_length f 21)) (λ i h. r i (omega (arith, e, h)) ∙ sym (column_get_d f 0 21 i (omega (arith, e, h))))

pub ruleset stored = (stored_all)
