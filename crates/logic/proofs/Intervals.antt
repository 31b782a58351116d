-- Intervals: true of the empty list, kept by prefixes and suffixes; the rules 33 to 38.
use mathlib.Core.List.{List, []}
use mathlib.Core.Logic.{inl, inr}
use Prim.Native.Nat.{ℕ, ◌+◌, ◌-◌, min}
use lib.ListN.{take, drop, length}
use lib.Seq.{drop-length, take-length, drop-drop}
use Rattle.semantics.proofs.Cuts.{take_take_comm, drop_take, drop_drop_sub, take_min, take_drop_min, drop_drop_min, take_take_add, drop_take_add, All-take, All-drop, All-join}
use Rattle.semantics.specs.Eval.{Env}
use Rattle.semantics.specs.Formula.{Test, Interval, Formula.box, Formula.one, Formula.chop, Formula.both, Formula.either}
use Rattle.semantics.specs.Machine.{View}
use Rattle.semantics.specs.Truth.{Sat}

module _ (R : ℕ) (ρ : View → Env) where
  pub sat_empty : (i : Interval) → Sat R ρ i []
  sat_empty (box e) = tt
  sat_empty (one x) = (0, tt)
  sat_empty (chop i j) = (0, sat_empty i, sat_empty j)
  sat_empty (both i j) = (sat_empty i, sat_empty j)
  sat_empty (either i j) = inl (sat_empty i)

  pub sat_take : (i : Interval) (m : ℕ) (l : List View) → Sat R ρ i l → Sat R ρ i (take m l)
  sat_take (box e) m l h = All-take _ m l h
  sat_take (one x) m l h = (h.0, All-take _ m l h.1)
  sat_take (chop i j) m l h =
      (h.0, rw take_take_comm (sat_take i m (take h.0 l) h.1), rw drop_take (sat_take j (m - h.0) (drop h.0 l) h.2))
  sat_take (both i j) m l h = (sat_take i m l h.0, sat_take j m l h.1)
  sat_take (either i j) m l (inl h) = inl (sat_take i m l h)
  sat_take (either i j) m l (inr h) = inr (sat_take j m l h)

  pub sat_drop : (i : Interval) (m : ℕ) (l : List View) → Sat R ρ i l → Sat R ρ i (drop m l)
  sat_drop (box e) m l h = All-drop _ m l h
  sat_drop (one x) m l h = (h.0, All-drop _ m l h.1)
  sat_drop (chop i j) m l h = (
    h.0 - m,
    rw (← drop_take m h.0 l) (sat_drop i m (take h.0 l) h.1),
    rw drop_drop_sub (sat_drop j (m - h.0) (drop h.0 l) h.2),
  )
  sat_drop (both i j) m l h = (sat_drop i m l h.0, sat_drop j m l h.1)
  sat_drop (either i j) m l (inl h) = inl (sat_drop i m l h)
  sat_drop (either i j) m l (inr h) = inr (sat_drop j m l h)

-- I in J: every list that satisfies I satisfies J
abbrev pub In : ℕ → (View → Env) → Interval → Interval → Type 0
In R ρ i j = (l : List View) → Sat R ρ i l → Sat R ρ j l

module _ (R : ℕ) (ρ : View → Env) where
  pub rule_33 : (a b d : Interval) → In R ρ (chop (chop a b) d) (chop a (chop b d))
  rule_33 a b d l h =
      let k = h.0 in
      let j = h.1.0 in
      (min j k, rw take_min h.1.1, (k - j, rw take_drop_min h.1.2, rw drop_drop_min h.2))

  pub rule_34 : (a b d : Interval) → In R ρ (chop a (chop b d)) (chop (chop a b) d)
  rule_34 a b d l h =
      let k = h.0 in
      let j = h.2.0 in
      (k + j, (k, rw take_take_add h.1, rw drop_take_add h.2.1), rw (← drop-drop) h.2.2)

  pub rule_35 : (a b : Interval) → In R ρ b (chop a b)
  rule_35 a b l h = (0, sat_empty R ρ a, h)

  pub rule_36 : (a b : Interval) → In R ρ a (chop a b)
  rule_36 a b l h = (length l, rw take-length h, rw drop-length (sat_empty R ρ b))

  pub rule_37 : (e : Test) → In R ρ (chop (box e) (box e)) (box e)
  rule_37 e l h = All-join _ h.0 l h.1 h.2

  pub rule_38 : (k a b : Interval) → In R ρ (both k (chop a b)) (chop (both k a) (both k b))
  rule_38 k a b l h = (h.1.0, (sat_take R ρ k h.1.0 l h.0, h.1.1), (sat_drop R ρ k h.1.0 l h.0, h.1.2))
