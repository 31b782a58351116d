-- Computed obligations of class 4, worked out by hand from the scope page.
use mathlib.Core.Path.{◌≡◌, refl}
use mathlib.Core.List.{[], ◌∷◌, map}
use Prim.Native.Nat.{ℕ}
use Rattle.semantics.specs.Base.{upd}
use Rattle.semantics.proofs.Computed.{nothing, at_points, mixed, sender, receiver, message_passing}
use Rattle.logic.specs.Obligations.{Obligation, Obligation.interference, interferences}

-- CLASS 4 of `mixed`: by acting thread, acting point, asserting thread, asserting point
by_actor : interferences mixed ≡
    interference 2 0 1 0 ∷ interference 2 1 1 0 ∷ interference 3 0 1 0 ∷ interference 3 1 1 0 ∷ interference 3 2 1 0
    ∷ interference 1 0 2 0 ∷ interference 1 1 2 0 ∷ interference 3 0 2 0 ∷ interference 3 1 2 0 ∷ interference 3 2 2 0
    ∷ interference 1 0 3 0 ∷ interference 1 1 3 0 ∷ interference 2 0 3 0 ∷ interference 2 1 3 0
    ∷ interference 1 0 3 1 ∷ interference 1 1 3 1 ∷ interference 2 0 3 1 ∷ interference 2 1 3 1
    ∷ []
unfolding nothing at_points mixed upd
by_actor = refl

-- the acting point
abbrev pub actor : Obligation → ℕ
actor (Obligation.start t) = 0
actor (Obligation.step t k) = 0
actor (Obligation.taken t k) = 0
actor (Obligation.interference u j t k) = k

-- of message passing: thread 2 branches at its point 1, which is no action
no_branch : map actor (interferences message_passing) ≡ 0 ∷ 0 ∷ 0 ∷ 0 ∷ 1 ∷ 1 ∷ 1 ∷ 1 ∷ 0 ∷ 0 ∷ 0 ∷ 2 ∷ 2 ∷ 2 ∷ []
unfolding nothing at_points sender receiver message_passing upd
no_branch = refl
