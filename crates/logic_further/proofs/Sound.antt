-- Each further rule is sound against the machine; so what both sets of rules derive is valid, and outlines so proved are true in every run.
use mathlib.Core.Path.{subst}
use mathlib.Core.List.{List, [], ◌∷◌}
use mathlib.Core.Logic.{◌⊎◌, inl, inr}
use Prim.Native.Nat.{ℕ, suc, ◌<◌}
use native.Mathlib.Omega.{arith}
use lib.Dec.{T}
use lib.ListN.{length, get_or}
use Rattle.semantics.specs.Base.{All, Within}
use Rattle.semantics.specs.Machine
use Rattle.semantics.specs.Machine.{View, Program, Mode.store, Mode.exchange, Mode.fetch_add}
use Rattle.semantics.specs.EveryRun.{Outline, EveryRun}
use Rattle.semantics.specs.Truth.{Sat}
use Rattle.logic.specs.Statement.{Statement, admitted}
use Rattle.logic.specs.WellFormed.{proper, WellFormed}
use Rattle.logic.specs.Claims.{Claim, NeverBoth, threads_in, claims}
use Rattle.semantics.proofs.Base.{and_right}
use Rattle.logic.proofs.Sound.{Valid, sound, its_proper, its_good, written}
use Rattle.logic.proofs.Runs.{every_run_by, never_both_by}
use Rattle.logic_further.specs.Further.{FurtherRule, Further}
use Rattle.logic_further.specs.Union.{DerivedFurther, by_published, by_further, ProvedFurther}
use Rattle.logic_further.proofs.Emptied.{none_behind, none_before}
use Rattle.logic_further.proofs.Together.{rule_53}
use Rattle.logic_further.proofs.Sums.{rule_51, rule_52}
use Rattle.logic_further.proofs.Divided.{rule_56}
use Rattle.logic_further.proofs.Landing.{rule_54, rule_55}

one_of : {A B C : Type 0} → A → B ⊎ C → (A × B) ⊎ (A × C)
one_of a (inl b) = inl (a, b)
one_of a (inr c) = inr (a, c)

module _ (P : Program) (ok : (t k : ℕ) → Within P.threads t → suc k < P.points t → T (proper P (P.points t) (P.code t k))) where
  pub further_sound : (n : FurtherRule) (s : Statement) (ps : List Statement) → Further P n ps s → T (admitted P s) → All (Valid P) ps
      → Valid P s
  further_sound n s ps (Further.i51 {t = t} {k = k} {r = r} {x = x} {u = u} {f = f} {e = e} q c) h vs =
      rw q (rule_51 P t r x u f e (its_good P ok t k (Machine.write (exchange r) x f) [] q (its_proper P ok s h))
      (written P ok t k (exchange r) x f q (its_proper P ok s h)) c)
  further_sound n s ps (Further.i52 {t = t} {k = k} {r = r} {x = x} {u = u} {f = f} {e = e} q c) h vs =
      rw q (rule_52 P t r x u f e c (its_good P ok t k (Machine.write (fetch_add r) x f) [] q (its_proper P ok s h)))
  further_sound n s ps (Further.i53 {t = t} {u = u} {i = i} {j = j} {e = e} c) h vs = λ s wf g.
      rule_53 wf t u i j e (search and_right) c g.0 g.1
  further_sound n s ps (Further.i54 {t = t} {k = k} {x = x} {u = u} {rel = rel} {f = f} {i = i} q) h vs =
      rw q (rule_54 P t x u rel f (its_good P ok t k (Machine.write (store rel) x f) [] q (its_proper P ok s h))
      (written P ok t k (store rel) x f q (its_proper P ok s h)) i)
  further_sound n s ps (Further.i55 {t = t} {k = k} {x = x} {u = u} {rel = rel} {f = f} {i = i} {j = j} {l = l} q) h vs =
      rw q (rule_55 P t x u rel f (its_good P ok t k (Machine.write (store rel) x f) [] q (its_proper P ok s h))
      (written P ok t k (store rel) x f q (its_proper P ok s h)) i j l (rw q at vs.0))
  further_sound n s ps (Further.i56 x {u = u} {i = i} {j = j} c d) h vs = λ s wf g. rule_56 x wf u i j c d g
  further_sound n s ps (Further.i57 {a = a}) h vs = λ ρ l small g.
      subst (λ (z : List View). Sat P.range ρ a z) (none_behind g.0 l g.2) g.1
  further_sound n s ps (Further.i58 {a = a}) h vs = λ ρ l small g.
      subst (λ (z : List View). Sat P.range ρ a z) (none_before g.0 l g.1) g.2
  further_sound n s ps Further.i59 h vs = λ ρ l small g. one_of g.0 g.1
  further_sound n s ps Further.i60 h vs = λ s wf g. g.0
  further_sound n s ps Further.i61 h vs = λ s wf g. g.1

  -- what both sets of rules derive
  all_of : (Q : Statement → Type 0) (d : Statement) (ps : List Statement) → ((i : ℕ) → i < length ps → Q (get_or ps i d)) → All Q ps
  all_of Q d [] h = tt
  all_of Q d (p ∷ ps) h = (h 0 (omega arith), all_of Q d ps (λ i b. h (suc i) (omega arith)))

  pub union_valid : (s : Statement) → DerivedFurther P s → Valid P s
  union_valid s (by_published {n = n} {ps = ps} d a f) = sound P ok n s ps d a (all_of (Valid P) s ps (λ i b. union_valid (get_or ps i s) (f i b)))
  union_valid s (by_further {n = n} {ps = ps} d a f) =
      further_sound n s ps d a (all_of (Valid P) s ps (λ i b. union_valid (get_or ps i s) (f i b)))

-- demand 3 by both sets of rules
module _ (P : Program) (O : Outline) (W : WellFormed P O) (D : ProvedFurther P O) where
  pub every_run_further : EveryRun P O
  every_run_further = every_run_by P O W (DerivedFurther P) (union_valid P W.instructions) D

  pub never_both_further : (c : Claim) → threads_in P c → DerivedFurther P (claims O c) → NeverBoth P c
  never_both_further = never_both_by P O W (DerivedFurther P) (union_valid P W.instructions) D
