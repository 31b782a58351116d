-- The ways through the functions of a tally, one law for each.
use Rattle.std.proofs.Common.{◌≡◌, ℕ, ◌<◌, ◌≤◌, Bool, true, false, Some, get_or, set, le-ltb, lt-ltb, eq-eqb, ne_eqb}
use Rattle.vectors.specs.Counters.{kinds_limit, more, with_kind, with_difference, with_case}
use Rattle.vectors.specs.declared.counters.Counters.{Counters}

module _ (t : Counters) (k c : ℕ) (e : c ≡ more t.cases) where
  pub kind_past : kinds_limit ≤ k → record { cases = c; kinds = t.kinds; differ = t.differ; first = t.first } ≡ with_kind t k
  unfolding with_kind
  kind_past h = rw (e, le-ltb _ _ h)

  pub kind_in : (n : ℕ) → k < kinds_limit → n ≡ more (get_or t.kinds k 0)
      → record { cases = c; kinds = set t.kinds k n; differ = t.differ; first = t.first } ≡ with_kind t k
  unfolding with_kind
  kind_in n h d = rw (e, d, lt-ltb _ _ h)

module _ (t : Counters) (d : ℕ) (e : d ≡ more t.differ) where
  pub difference_later : (t.differ ≡ 0 → ⊥) → record
      { cases = t.cases; kinds = t.kinds; differ = d; first = t.first } ≡ with_difference t
  unfolding with_difference
  difference_later z = rw (e, ne_eqb _ _ z)

  pub difference_first : t.differ ≡ 0 → record { cases = t.cases; kinds = t.kinds; differ = d; first = Some t.cases } ≡ with_difference t
  unfolding with_difference
  difference_first z = rw (e, eq-eqb _ _ z)

module _ (t q : Counters) (k : ℕ) (same : Bool) (e : q ≡ with_kind t k) where
  pub case_same : same ≡ true → q ≡ with_case t k same
  unfolding with_case
  case_same s = rw s e

  pub case_other : (r : Counters) → same ≡ false → r ≡ with_difference q → r ≡ with_case t k same
  unfolding with_case
  case_other r s d = rw (s, ← e) d

pub ruleset counters_branches = (kind_past, kind_in, difference_later, difference_first, case_same, case_other)
