-- Answers counted.
use Rattle.std.specs.Prelude.{ℕ, ◌+◌, ◌%◌, ◌^◌, Bool, cond, Some, None, replicate, ◌==◌, nat_lt, slice_index, slice_set}
use Rattle.vectors.specs.declared.counters.Counters.{Counters}

-- kinds from here on are not counted
abbrev pub kinds_limit : ℕ
kinds_limit = 64

-- the next count, in 64 bits
abbrev pub more : ℕ → ℕ
more n = (n + 1) % 2 ^ 64

-- the counters before the first case
unfoldable pub no_case : Counters
no_case = record { cases = 0; kinds = replicate kinds_limit 0; differ = 0; first = None }

-- one case more, with an answer of this kind
unfoldable pub with_kind : Counters → ℕ → Counters
with_kind t k =
    record {
      cases = more t.cases;
      kinds = cond (nat_lt k kinds_limit) (slice_set t.kinds k (more (slice_index t.kinds k))) t.kinds;
      differ = t.differ;
      first = t.first;
    }

-- the case counted last differs
unfoldable pub with_difference : Counters → Counters
with_difference t = record {
  cases = t.cases;
  kinds = t.kinds;
  differ = more t.differ;
  first = cond (t.differ == 0) (Some t.cases) t.first;
}

-- one case more: the kind of its answer, and whether that is the stored one
unfoldable pub with_case : Counters → ℕ → Bool → Counters
with_case t k same = cond same (with_kind t k) (with_difference (with_kind t k))
