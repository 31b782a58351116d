-- The ways through the tests of lines, one law for each.
use mathlib.Core.Path.{◌≡◌, ap, sym, ◌∙◌}
use mathlib.Core.Bool.{Bool, true, false, ◌&&◌}
use mathlib.Core.List.{List, []}
use Prim.Native.Nat.{ℕ, suc, ◌+◌, ◌-◌, ◌≤◌, ◌<◌}
use native.Mathlib.Omega.{arith}
use native.Mathlib.Numerals.{add-one}
use lib.ListN.{get_or, drop}
use borrow.Author.Tests.{le-ltb, ne_eqb}
use Rattle.semantics.specs.Formula.{same_bytes}
use Rattle.limits.specs.Numbers.{le16, numbers}
use Rattle.image_frames.specs.Records.{bodies}
use Rattle.image_header.specs.declared.sizes.Sizes.{Sizes}
use Rattle.image_header.specs.Thread.{last_point}
use Rattle.image_bodies.specs.RecordPlaces.{thread_body}
use Rattle.image_bodies.specs.PointCounts.{point_counts_to}
use Rattle.image_bodies.specs.declared.line.Form.{Form}
use Rattle.image_bodies.specs.declared.line.Form.TheVariants.{Triple, Implication, Inclusion, Pair, Unlisted}
use Rattle.image_bodies.specs.Line.{form_of}
use Rattle.image_meaning.specs.Program.{point_count, outline_number}
use Rattle.image_meaning.specs.Certificate.{line_body}
use Rattle.image_access.specs.Totals.{totals_of}
use Rattle.image_access.specs.declared.totals.Totals.{Totals}
use Rattle.rules_justified.specs.Marks.{is_marked}
use Rattle.rules_justified.specs.declared.marks.Marks.{Marks}
use Rattle.handover_spec.specs.Table.{point_named, line_named}
use Rattle.handover_spec.specs.LinesFound.{assertion_of, is_implication, sides_match, line_serves, entry_serves, entries_serve, thread_serves, threads_serve}
use Rattle.handover_spec.proofs.EachBelow.{each_none, each_more, each_stops, each_done}
use Rattle.handover_spec.proofs.FewPoints.{points_are}

pub assertion_read : (s : List ℕ) (z : Sizes) (c : Totals) (t k n i : ℕ) (b r : List ℕ) → c ≡ totals_of z (bodies s) → 1 ≤ t → t ≤ z.threads
    → b ≡ get_or (bodies s) (z.formulas + z.threads + 1) [] → n ≡ (point_counts_to z (bodies s) (t - 1)).points
    → i ≡ get_or (numbers c.points b) (n + k) 0
    → r ≡ get_or (bodies s) i [] → r ≡ assertion_of s z t k
unfolding assertion_of outline_number totals_of
assertion_read s z c t k n i b r ec low high eb en ei er =
    let q : t ≡ 0 → ⊥ = omega arith in
    rw (ne_eqb t 0 q, le-ltb z.threads t high, ← en, ← eb)
    (er ∙ ap (λ (j : ℕ). get_or (bodies s) j []) (ei ∙ ap (λ (y : Totals). get_or (numbers y.points b) (n + k) 0) ec))

module _ (f g : Form) (e : f ≡ g) where
  pub form_triple : f ≡ Triple → false ≡ is_implication g
  form_triple h = ap is_implication (sym h ∙ e)

  pub form_implication : f ≡ Implication → true ≡ is_implication g
  form_implication h = ap is_implication (sym h ∙ e)

  pub form_inclusion : f ≡ Inclusion → false ≡ is_implication g
  form_inclusion h = ap is_implication (sym h ∙ e)

  pub form_pair : f ≡ Pair → false ≡ is_implication g
  form_pair h = ap is_implication (sym h ∙ e)

  pub form_unlisted : f ≡ Unlisted → false ≡ is_implication g
  form_unlisted h = ap is_implication (sym h ∙ e)

pub ruleset is_implication_branches = (form_triple, form_implication, form_inclusion, form_pair, form_unlisted)

module _ (s b p q : List ℕ) (i : ℕ) (x : List ℕ) (u : Bool) (ei : i ≡ le16 (drop 3 b)) (ex : x ≡ get_or (bodies s) i [])
    (eu : u ≡ same_bytes p x) where
  first_is : u ≡ same_bytes p (get_or (bodies s) (le16 (drop 3 b)) [])
  first_is = eu ∙ ap (λ (l : List ℕ). same_bytes p l) (ex ∙ ap (λ (k : ℕ). get_or (bodies s) k []) ei)

  pub left_other : u ≡ false → false ≡ sides_match s b p q
  unfolding sides_match
  left_other h = ap (λ (v : Bool). v && same_bytes q (get_or (bodies s) (le16 (drop 5 b)) [])) (sym h ∙ first_is)

  pub left_same : (j : ℕ) (w : List ℕ) (v : Bool) → u ≡ true → j ≡ le16 (drop 5 b) → w ≡ get_or (bodies s) j [] → v ≡ same_bytes q w
      → v ≡ sides_match s b p q
  unfolding sides_match
  left_same j w v h ej ew ev =
      ev ∙ ap (λ (l : List ℕ). same_bytes q l) (ew ∙ ap (λ (k : ℕ). get_or (bodies s) k []) ej)
      ∙ ap (λ (v : Bool). v && same_bytes q (get_or (bodies s) (le16 (drop 5 b)) [])) (sym h ∙ first_is)

pub ruleset sides_match_branches = (left_other, left_same)

module _ (s : List ℕ) (z : Sizes) (m : Marks) (n : ℕ) (p q : List ℕ) (u : Bool) (e : u ≡ is_marked m n) where
  pub line_unmarked : u ≡ false → false ≡ line_serves s z m n p q
  unfolding line_serves
  line_unmarked h = rw (← e, h)

  module _ (b : List ℕ) (v : Bool) (h : u ≡ true) (eb : b ≡ get_or (bodies s) (z.formulas + z.threads + 1 + n) [])
      (ev : v ≡ is_implication (form_of (get_or b 0 0))) where
    served : v && sides_match s b p q ≡ line_serves s z m n p q
    unfolding line_serves line_body
    served = rw (← e, h, ← eb) (ap (λ (w : Bool). w && sides_match s b p q) ev)

    pub line_other : v ≡ false → false ≡ line_serves s z m n p q
    line_other g = ap (λ (w : Bool). w && sides_match s b p q) (sym g) ∙ served

    pub line_sides : (w : Bool) → v ≡ true → w ≡ sides_match s b p q → w ≡ line_serves s z m n p q
    line_sides w g d = d ∙ ap (λ (w : Bool). w && sides_match s b p q) (sym g) ∙ served

pub ruleset line_serves_branches = (line_unmarked, line_other, line_sides)

module _ (old : List ℕ) (z : Sizes) (new : List ℕ) (y : Sizes) (m : Marks) (table : List ℕ) where
  pub entry_served : (t k i p n : ℕ) (a b : List ℕ) (r : Bool) → a ≡ assertion_of old z t k → p ≡ point_named table i
      → b ≡ assertion_of new y t p
      → n ≡ line_named table i → r ≡ line_serves new y m n a b → r ≡ entry_serves old z new y m table t k i
  unfolding entry_serves
  entry_served t k i p n a b r ea ep eb en er = rw (← en, ← ep, ← ea, ← eb) er

  module _ (t from : ℕ) where
    abbrev entry : ℕ → Bool
    entry k = entry_serves old z new y m table t k (from + k)

    pub serve_none : entries_serve old z new y m table t from 0 ≡ true
    unfolding entries_serve
    serve_none = each_none entry

    pub serve_more : (k : ℕ) (u : Bool) → entries_serve old z new y m table t from k ≡ true
        → u ≡ entry_serves old z new y m table t k (from + k) → u ≡ true
        → entries_serve old z new y m table t from (k + 1) ≡ true
    unfolding entries_serve
    serve_more k u h e g = each_more entry k u h e g

    pub serve_stops : (k n : ℕ) (u : Bool) → k < n → u ≡ entry_serves old z new y m table t k (from + k) → u ≡ false
        → false ≡ entries_serve old z new y m table t from n
    unfolding entries_serve
    serve_stops k n u b e g = each_stops entry k n u b e g

    pub serve_done : (k n : ℕ) → entries_serve old z new y m table t from k ≡ true → n ≤ k → k ≤ n
        → true ≡ entries_serve old z new y m table t from n
    unfolding entries_serve
    serve_done k n h a b = each_done entry k n h a b

  pub thread_served : (t from last : ℕ) (r : Bool) → from ≡ (point_counts_to z (bodies old) (t - 1)).points
      → last ≡ last_point (thread_body z (bodies old) t)
      → r ≡ entries_serve old z new y m table t from (last + 1) → r ≡ thread_serves old z new y m table t
  unfolding thread_serves point_count
  thread_served t from last r ef el er = rw (← points_are z (bodies old) (t - 1), ← ef, ← el) er

  abbrev each_thread : ℕ → Bool
  each_thread t = thread_serves old z new y m table (suc t)

  pub all_none : threads_serve old z new y m table 0 ≡ true
  unfolding threads_serve
  all_none = each_none each_thread

  pub all_more : (t : ℕ) (u : Bool) → threads_serve old z new y m table t ≡ true → u ≡ thread_serves old z new y m table (t + 1) → u ≡ true
      → threads_serve old z new y m table (t + 1) ≡ true
  unfolding threads_serve
  all_more t u h e g = each_more each_thread t u h (e ∙ ap (thread_serves old z new y m table) (add-one t)) g

  pub all_stop : (t n : ℕ) (u : Bool) → t < n → n ≡ z.threads → u ≡ thread_serves old z new y m table (t + 1) → u ≡ false
      → false ≡ threads_serve old z new y m table z.threads
  unfolding threads_serve
  all_stop t n u b q e g = each_stops each_thread t z.threads u (omega arith) (e ∙ ap (thread_serves old z new y m table) (add-one t)) g

  pub all_done : (t n : ℕ) → threads_serve old z new y m table t ≡ true → n ≡ z.threads → n ≤ t → t ≤ n
      → true ≡ threads_serve old z new y m table z.threads
  unfolding threads_serve
  all_done t n h q a b = each_done each_thread t z.threads h (omega arith) (omega arith)

pub ruleset entries_serve_branches = (serve_none, serve_more, serve_stops, serve_done)

pub ruleset lines_serve_branches = (all_none, all_more, all_stop, all_done)
