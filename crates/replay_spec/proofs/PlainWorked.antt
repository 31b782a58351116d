-- Where an assertion made of 25, 26 and 28 alone is true, it is worked out to be true from the registers.
use mathlib.Core.Path.{◌≡◌}
use mathlib.Core.Bool.{Bool, true, false, ◌||◌}
use mathlib.Core.Logic.{inl, inr}
use lib.Dec.{T}
use Rattle.semantics.specs.Formula.{Assertion, Formula.sees, Formula.both_a, Formula.either_a, Formula.start, Formula.holds}
use Rattle.semantics.specs.Machine.{State, Program}
use Rattle.semantics.specs.Truth.{True}
use Rattle.semantics.proofs.Base.{and_left, and_right, and_both, holds_true}
use Rattle.replay_spec.specs.Plain.{of_regs, plain_true}

or_left : (a b : Bool) → T a → T (a || b)
or_left true b h = tt
or_left false b h = absurd h

or_right : (a b : Bool) → T b → T (a || b)
or_right true b h = tt
or_right false b h = h

module _ (P : Program) (s : State) where
  abbrev told : Assertion → Bool
  told a = plain_true P.range s.reg a

  plain_told : (a : Assertion) → T (of_regs a) → True P s a → T (told a)
  plain_told (sees t i) c h = absurd c
  plain_told (both_a a b) c h = and_both (told a) (told b) (plain_told a (search and_left) h.0) (plain_told b (search and_right) h.1)
  plain_told (either_a a b) c (inl h) = or_left (told a) (told b) (plain_told a (search and_left) h)
  plain_told (either_a a b) c (inr h) = or_right (told a) (told b) (plain_told b (search and_right) h)
  plain_told start c h = absurd c
  plain_told (holds e) c h = h

  pub plain-true : (a : Assertion) → T (of_regs a) → True P s a → plain_true P.range s.reg a ≡ true
  plain-true a c h = holds_true (told a) (plain_told a c h)
