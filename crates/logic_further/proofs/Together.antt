-- Rule 53: the view of the last writes is a prospect of every thread.
use mathlib.Core.Path.{subst}
use mathlib.Core.Bool.{Bool, true, false, ◌||◌}
use mathlib.Core.List.{List, [], ◌∷◌}
use mathlib.Core.Logic.{inl, inr}
use Prim.Native.Nat.{ℕ, zero, suc, ◌-◌, ◌<◌}
use native.Mathlib.Omega.{arith}
use lib.Dec.{T}
use lib.Seq.{take-nil}
use Rattle.semantics.specs.Eval.{Env, test, on_regs}
use Rattle.semantics.specs.Formula.{Test, Interval, Formula.and, Formula.box, Formula.one, Formula.chop, Formula.both, Formula.either}
use Rattle.semantics.specs.Machine.{View, State, Program, at}
use Rattle.semantics.specs.Names.{only, is_reg}
use Rattle.semantics.specs.Truth.{Sat, Sees}
use Rattle.logic.specs.Rows.{entailed_by_rows}
use Rattle.semantics.proofs.Base.{and_both}
use Rattle.semantics.proofs.Invariant.{Wf}
use Rattle.logic.proofs.Rows.{by_rows}
use Rattle.logic.proofs.Sound.{small_at, at_held}
use Rattle.logic_further.specs.Further.{at_last}

or_left : (a b : Bool) → T a → T (a || b)
or_left true b h = tt
or_left false b h = absurd h

or_right : (a b : Bool) → T b → T (a || b)
or_right true b h = tt
or_right false b h = h

-- what a list of a single view satisfies
pub at_last_lem : (R : ℕ) (ρ : View → Env) (v : View) (i : Interval) → Sat R ρ i (v ∷ []) → T (test R (ρ v) (at_last i))
at_last_lem R ρ v (box e) h = h.0
at_last_lem R ρ v (one x) h = tt
at_last_lem R ρ v (chop i j) (zero, h, g) = or_right (test R (ρ v) (at_last i)) (test R (ρ v) (at_last j)) (at_last_lem R ρ v j g)
at_last_lem R ρ v (chop i j) (suc k, h, g) =
    or_left (test R (ρ v) (at_last i)) (test R (ρ v) (at_last j))
    (at_last_lem R ρ v i (subst (λ (l : List View). Sat R ρ i (v ∷ l)) (take-nil k) h))
at_last_lem R ρ v (both i j) h =
    and_both (test R (ρ v) (at_last i)) (test R (ρ v) (at_last j)) (at_last_lem R ρ v i h.0) (at_last_lem R ρ v j h.1)
at_last_lem R ρ v (either i j) (inl h) = or_left (test R (ρ v) (at_last i)) (test R (ρ v) (at_last j)) (at_last_lem R ρ v i h)
at_last_lem R ρ v (either i j) (inr h) = or_right (test R (ρ v) (at_last i)) (test R (ρ v) (at_last j)) (at_last_lem R ρ v j h)

module _ {P : Program} {s : State} (wf : Wf P s) where
  -- the last write of each word
  abbrev top : View
  top x = s.size x - 1

  top_in : (x : ℕ) → top x < s.size x
  top_in x = omega (arith, wf.view_in 0 x)

  last_seen : (t : ℕ) (i : Interval) → Sees P s t i → T (test P.range (at P s top) (at_last i))
  last_seen t i h = at_last_lem P.range (at P s) top i (h (top ∷ []) (top_in, (λ x. omega (arith, wf.view_in t x)), tt))

  pub rule_53 : (t u : ℕ) (i j : Interval) (e : Test) → T (only is_reg e) → T (entailed_by_rows P.range (and (at_last i) (at_last j)) e)
      → Sees P s t i → Sees P s u j → T (test P.range (on_regs s.reg) e)
  rule_53 t u i j e c r h g =
      subst T (at_held wf top e c)
      (by_rows P.range (and (at_last i) (at_last j)) e r (at P s top) (small_at wf top top_in)
      (and_both (test P.range (at P s top) (at_last i)) (test P.range (at P s top) (at_last j)) (last_seen t i h) (last_seen u j g)))
