-- The obligations of a program are about its threads and points.
use mathlib.Core.Path.{◌≡◌, refl, ap}
use mathlib.Core.Bool.{Bool, true, false}
use mathlib.Core.List.{List, [], ◌∷◌, ◌++◌, map}
use Prim.Native.Nat.{ℕ, zero, suc, ◌-◌, ◌<◌}
use native.Mathlib.Omega.{arith}
use lib.Dec.{eqb}
use Rattle.semantics.specs.Base.{All, Within, below, up_to}
use Rattle.semantics.specs.Machine.{Program, Instr, Instr.act, Instr.branch}
use Rattle.logic.specs.Statement.{is_branch}
use Rattle.logic.specs.Obligations.{Obligation, Obligation.start, Obligation.step, Obligation.taken, Obligation.interference, flat, own, acting, instructed, asserted, assertions, starts, steps, interferences, obligations}
use Rattle.logic.proofs.Reordered.{All-join}

-- an obligation is about threads and points that are there; one for a target is about a branch
abbrev pub InRange : Program → Obligation → Type 0
InRange P (start t) = Within P.threads t
InRange P (step t k) = Within P.threads t × (suc k < P.points t)
InRange P (taken t k) = Within P.threads t × ((suc k < P.points t) × (is_branch (P.code t k) ≡ true))
InRange P (interference u j t k) = (Within P.threads u × (j < P.points u)) × (Within P.threads t × (suc k < P.points t))

all_map : {A B : Type 0} (Q : B → Type 0) (f : A → B) (l : List A) → All (λ a. Q (f a)) l → All Q (map f l)
all_map Q f [] h = tt
all_map Q f (a ∷ l) h = (h.0, all_map Q f l h.1)

all_flat : {A B : Type 0} (Q : B → Type 0) (f : A → List B) (l : List A) → All (λ a. All Q (f a)) l → All Q (flat f l)
all_flat Q f [] h = tt
all_flat Q f (a ∷ l) h = All-join Q (f a) (flat f l) h.0 (all_flat Q f l h.1)

all-below : (Q : ℕ → Type 0) (n : ℕ) → ((k : ℕ) → k < n → Q k) → All Q (below n)
all-below Q zero h = tt
all-below Q (suc n) h = All-join Q (below n) (n ∷ []) (all-below Q n (λ k b. h k (omega arith))) (h n (omega arith), tt)

all_up : (Q : ℕ → Type 0) (n : ℕ) → ((k : ℕ) → Within n k → Q k) → All Q (up_to n)
all_up Q n h = all_map Q suc (below n) (all-below (λ k. Q (suc k)) n (λ k b. h (suc k) (omega arith, omega arith)))

module _ (P : Program) where
  abbrev Fine : Obligation → Type 0
  Fine = InRange P

  own_ranged : (t k : ℕ) (x : Instr) → P.code t k ≡ x → Within P.threads t → suc k < P.points t → All Fine (own P t k x)
  own_ranged t k (act A ns) e w h = ((w, h), tt)
  own_ranged t k (branch a b) e w h = ((w, (h, ap is_branch e)), ((w, h), tt))

  acting_ranged : (u j t k : ℕ) (x : Instr) → Within P.threads u → j < P.points u → Within P.threads t → suc k < P.points t
      → All Fine (acting P u j t k x)
  acting_ranged u j t k (act A ns) w h y g = (((w, h), (y, g)), tt)
  acting_ranged u j t k (branch a b) w h y g = tt

  assertions_ranged : (t k u : ℕ) → Within P.threads t → suc k < P.points t → Within P.threads u → All Fine (assertions P t k u)
  assertions_ranged t k u y g w = go (eqb t u)
    where
      go : (b : Bool) → All Fine (elim b as (λ y. List Obligation)
          [ true ↦ [] | false ↦ flat (λ j. acting P u j t k (P.code t k)) (below (asserted P u)) ])
      go true = tt
      go false =
          all_flat Fine (λ j. acting P u j t k (P.code t k)) (below (asserted P u))
          (all-below (λ j. All Fine (acting P u j t k (P.code t k))) (asserted P u) (λ j b. acting_ranged u j t k (P.code t k) w b y g))

  steps_ranged : All Fine (steps P)
  steps_ranged =
      all_flat Fine (λ t. flat (λ k. own P t k (P.code t k)) (instructed P t)) (up_to P.threads)
      (all_up (λ t. All Fine (flat (λ k. own P t k (P.code t k)) (instructed P t))) P.threads
      (λ t w. all_flat Fine (λ k. own P t k (P.code t k)) (instructed P t)
      (all-below (λ k. All Fine (own P t k (P.code t k))) (P.points t - 1) (λ k b. own_ranged t k (P.code t k) refl w (omega arith)))))

  interferences_ranged : All Fine (interferences P)
  interferences_ranged =
      all_flat Fine (λ t. flat (λ k. flat (λ u. assertions P t k u) (up_to P.threads)) (instructed P t)) (up_to P.threads)
      (all_up (λ t. All Fine (flat (λ k. flat (λ u. assertions P t k u) (up_to P.threads)) (instructed P t))) P.threads
      (λ t y. all_flat Fine (λ k. flat (λ u. assertions P t k u) (up_to P.threads)) (instructed P t)
      (all-below (λ k. All Fine (flat (λ u. assertions P t k u) (up_to P.threads))) (P.points t - 1)
      (λ k b. all_flat Fine (λ u. assertions P t k u) (up_to P.threads)
      (all_up (λ u. All Fine (assertions P t k u)) P.threads (λ u w. assertions_ranged t k u y (omega arith) w))))))

  pub obligations_ranged : All Fine (obligations P)
  obligations_ranged =
      All-join Fine (starts P) (steps P ++ interferences P)
      (all_map Fine start (up_to P.threads) (all_up (λ t. Fine (start t)) P.threads (λ t w. w)))
      (All-join Fine (steps P) (interferences P) steps_ranged interferences_ranged)
