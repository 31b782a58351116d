-- The laws of the look-ups.
use Prim.Native.Nat.{ℕ, zero, suc, ◌+◌, ◌-◌, ◌^◌, ◌≤◌, ◌<◌}
use mathlib.Core.Path.{◌≡◌, refl, ap, sym, ◌∙◌}
use mathlib.Core.List.{List, []}
use mathlib.Core.Bool.{Bool, true, false}
use mathlib.Core.Logic.{◌≢◌}
use native.Mathlib.Numerals.{add-one}
use native.Mathlib.Omega.{arith}
use lib.Dec.{eqb}
use lib.ListN.{length, get_or, set, replicate, length-set, length-replicate}
use lib.Seq.{get_or-set_same, get_or-set_other}
use borrow.Author.Tests.{eqb-true, eqb-false, ne_eqb, le-ltb}
use Rattle.std.specs.Prelude.{min}
use Rattle.std.proofs.Common.{inl, inr}
use Rattle.std.proofs.lemmas.Bool.{cases_lt}
use Rattle.limits.specs.Limits as Limits
use Rattle.limits.specs.Numbers.{numbers}
use Rattle.limits.proofs.Numbers.{number_past}
use Rattle.image_frames.specs.Records.{bodies}
use Rattle.image_index.proofs.LookUps.{body_past}
use Rattle.image_header.specs.declared.sizes.Sizes.{Sizes}
use Rattle.image_header.specs.Thread.{last_point}
use Rattle.image_bodies.specs.RecordPlaces.{thread_body}
use Rattle.image_bodies.specs.declared.point_counts.PointCounts.{PointCounts}
use Rattle.image_bodies.proofs.Counts.{own_least, count_is}
use Rattle.image_bodies.specs.PointCounts.{thread_counts, point_counts_to, point_counts, obligations_by}
use Rattle.image_meaning.specs.Program.{outline_number}
use Rattle.image_meaning.specs.Certificate.{line_body}
use Rattle.image_access.specs.Totals.{points_below, points_before, totals_of}
use Rattle.image_access.specs.declared.totals.Totals.{Totals}

-- past the last record that an image may have there is no body, so a place that saturates finds what the sum itself would
far : (s : List ℕ) (m k : ℕ) → k ≡ min m (2 ^ 64 - 1) → get_or (bodies s) k [] ≡ get_or (bodies s) m []
far s m k e = elim (cases_lt m (2 ^ 64)) [
  | inl h ↦ let q : k ≡ m = omega arith in rw q
  | inr h ↦ body_past s k (omega arith) ∙ sym (body_past s m (omega arith))
]

module _ (s : List ℕ) (z : Sizes) (n k : ℕ) (r : List ℕ) (d : r ≡ get_or (bodies s) k []) where
  pub line_found : k ≡ min (z.formulas + z.threads + 1 + n) (2 ^ 64 - 1) → r ≡ line_body z (bodies s) n
  unfolding line_body
  line_found e = d ∙ far s (z.formulas + z.threads + 1 + n) k e

  pub thread_found : k ≡ min (z.formulas + n) (2 ^ 64 - 1) → r ≡ thread_body z (bodies s) n
  unfolding thread_body
  thread_found e = d ∙ far s (z.formulas + n) k e

-- sums over the threads

-- the point_counts goes by the thread records alone
tally_same : (y z : Sizes) (l : List (List ℕ)) (n : ℕ) → y.formulas ≡ z.formulas → point_counts_to y l n ≡ point_counts_to z l n
unfolding point_counts_to thread_body
tally_same y z l zero e = refl
tally_same y z l (suc n) e = rw (tally_same y z l n e, e)

pub before_is : (z : Sizes) (l : List (List ℕ)) (t : ℕ) (c : PointCounts)
    → c ≡ point_counts
    (record {
      threads = t - 1;
      words = z.words;
      registers = z.registers;
      range = z.range;
      formulas = z.formulas;
      lines = z.lines;
      claims = z.claims;
    }) l → c.points ≡ (point_counts_to z l (t - 1)).points
unfolding point_counts
before_is z l t c e = ap (λ (d : PointCounts). d.points)
    (e
    ∙ tally_same
    (record {
      threads = t - 1;
      words = z.words;
      registers = z.registers;
      range = z.range;
      formulas = z.formulas;
      lines = z.lines;
      claims = z.claims;
    }) z l (t - 1) refl)

pub below_none : (z : Sizes) (l : List (List ℕ)) → replicate Limits.threads 0 ≡ points_below z l 0
unfolding points_below
below_none z l = refl

pub below_more : (z : Sizes) (l : List (List ℕ)) (m : List ℕ) (t v : ℕ) → m ≡ points_below z l t → v ≡ (point_counts_to z l t).points
    → set m t v ≡ points_below z l (t + 1)
unfolding points_below
below_more z l m t v e d = rw (add-one t, ← e) (ap (set m t) d)

pub points_none : (z : Sizes) (l : List (List ℕ)) → 0 ≡ (point_counts_to z l 0).points
unfolding point_counts_to
points_none z l = refl

pub points_more : (z : Sizes) (l : List (List ℕ)) (t v n : ℕ) (b : List ℕ) → v ≡ (point_counts_to z l t).points
    → b ≡ get_or l (z.formulas + (t + 1)) []
    → n ≡ last_point b → v + (n + 1) ≡ (point_counts_to z l (t + 1)).points
unfolding point_counts_to thread_counts thread_body
points_more z l t v n b e d f = rw (add-one t, e, f, d, add-one t)

below_length : (z : Sizes) (l : List (List ℕ)) (n : ℕ) → length (points_below z l n) ≡ Limits.threads
unfolding points_below
below_length z l zero = length-replicate {A = ℕ} Limits.threads 0
below_length z l (suc n) = length-set (points_below z l n) n (point_counts_to z l n).points ∙ below_length z l n

below_at : (z : Sizes) (l : List (List ℕ)) (n t : ℕ) → t < n → n ≤ Limits.threads → get_or (points_below z l n) t 0 ≡ (point_counts_to z l t).points
unfolding points_below
below_at z l zero t h g = absurd (omega arith)
below_at z l (suc n) t h g = go (eqb t n) refl (λ b. below_at z l n t b (omega arith))
  where
    go : (b : Bool) → eqb t n ≡ b → (t < n → get_or (points_below z l n) t 0 ≡ (point_counts_to z l t).points)
        → get_or (set (points_below z l n) n (point_counts_to z l n).points) t 0 ≡ (point_counts_to z l t).points
    go true e f =
        let q = eqb-true t n e in
        let i : n < length (points_below z l n) = let a = below_length z l n in omega arith in
        rw q (get_or-set_same (points_below z l n) n (point_counts_to z l n).points 0 i)
    go false e f =
        let q : t ≢ n = eqb-false t n e in
        get_or-set_other (points_below z l n) n t (point_counts_to z l n).points 0 q ∙ f (omega arith)

pub totals_are : (z : Sizes) (l : List (List ℕ)) (c : PointCounts) (b : List ℕ) (n : ℕ) → c ≡ point_counts z l → b ≡ points_before z l
    → n ≡ obligations_by z.threads c
    → record { points = c.points; before = b; obligations = n } ≡ totals_of z l
unfolding totals_of
totals_are z l c b n ec eb en = rw (eb, count_is z l c n ec en, ec)

pub before_known : (z : Sizes) (l : List (List ℕ)) (y : Totals) (t : ℕ) → y ≡ totals_of z l → 1 ≤ t → t ≤ Limits.threads
    → get_or y.before (t - 1) 0 ≡ (point_counts_to z l (t - 1)).points
unfolding totals_of points_before
before_known z l y t e a b = rw e (below_at z l Limits.threads (t - 1) (omega arith) (omega arith))

pub known_length : (z : Sizes) (l : List (List ℕ)) (y : Totals) → y ≡ totals_of z l → length y.before ≡ Limits.threads
unfolding totals_of points_before
known_length z l y e = rw e (below_length z l Limits.threads)

pub ruleset totals_branches = (below_none, below_more, points_none, points_more, before_is, own_least, totals_are, before_known, known_length)

-- the outline

module _ (z : Sizes) (l : List (List ℕ)) (t p : ℕ) (y : Totals) (e : y ≡ totals_of z l) (h : t ≡ 0 → ⊥) (g : t ≤ z.threads) where
  points_are : y.points ≡ (point_counts z l).points
  unfolding totals_of
  points_are = rw e

  pub outline_found : (n k r : ℕ) (b : List ℕ) → n ≡ (point_counts_to z l (t - 1)).points → b ≡ get_or l (z.formulas + z.threads + 1) []
      → k ≡ min (n + p) (2 ^ 64 - 1) → y.points < 2 ^ 64 → r ≡ get_or (numbers y.points b) k 0 → r ≡ outline_number z l t p
  unfolding outline_number
  outline_found n k r b en eb ek low d =
      let there : r ≡ get_or (numbers y.points b) (n + p) 0 = elim (cases_lt (n + p) (2 ^ 64)) [
        | inl q ↦ let w : k ≡ n + p = omega arith in rw w at d
        | inr q ↦ d ∙ sym (number_past y.points b k (omega arith)) ∙ number_past y.points b (n + p) (omega arith)
      ] in
      rw (ne_eqb t 0 h, le-ltb z.threads t g, ← en, ← eb, ← points_are) there
