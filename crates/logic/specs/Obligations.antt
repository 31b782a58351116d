-- The obligations of a program and its outline, in order, and what each asks for.
use Rattle.std.specs.Prelude.{true, false, List, [], ◌∷◌, ◌++◌, map, ℕ, suc, ◌-◌, eqb}
use Rattle.semantics.specs.Formula.{Formula, Formula.both_a, Formula.holds}
use Rattle.semantics.specs.Base.{below, up_to}
use Rattle.semantics.specs.Machine.{Program, Instr, Instr.act, Instr.branch}
use Rattle.logic.specs.Statement.{Statement, implies, taking}
use Rattle.semantics.specs.EveryRun.{Outline}

-- the verification conditions of an outline. Class 1: start t. Class 2: step t k, the instruction at point k of t leads to the next
-- point. Class 3: taken t k, a branch leads to its target.
-- Class 4: interference u j t k, the assertion of u at its point j under the instruction at point k of t
pub data Obligation : Type 0 where
  start : ℕ → Obligation
  step taken : ℕ → ℕ → Obligation
  interference : ℕ → ℕ → ℕ → ℕ → Obligation
  deriving Discrete as Obligation-discrete

-- the lists that f gives for the members, one after another
abbrev pub flat : {A B : Type 0} → (A → List B) → List A → List B
flat f [] = []
flat f (a ∷ l) = f a ++ flat f l

module _ (P : Program) where
  -- an instruction takes its point's assertion to the next (2); "a branch first gives its target" (3), "then the next point" (2)
  abbrev pub own : ℕ → ℕ → Instr → List Obligation
  own t k (act A ns) = step t k ∷ []
  own t k (branch e a) = taken t k ∷ step t k ∷ []

  -- the assertion of u at point j under the instruction at point k of t; "the action is no branch"
  abbrev pub acting : ℕ → ℕ → ℕ → ℕ → Instr → List Obligation
  acting u j t k (act A ns) = interference u j t k ∷ []
  acting u j t k (branch e a) = []

  -- the points of t that have an instruction: all but the last
  abbrev pub instructed : ℕ → List ℕ
  instructed t = below (P.points t - 1)

  -- how many points of u have an assertion: all, the last one too
  abbrev pub asserted : ℕ → ℕ
  asserted u = P.points u

  -- every assertion of u under the instruction at point k of t; "threads differ"
  abbrev pub assertions : ℕ → ℕ → ℕ → List Obligation
  assertions t k u = elim (eqb t u) [ true ↦ [] | false ↦ flat (λ j. acting u j t k (P.code t k)) (below (asserted u)) ]

  -- class 1: "start gives each thread's point 0"
  abbrev pub starts : List Obligation
  starts = map start (up_to P.threads)

  -- classes 2 and 3, "by thread and point"
  abbrev pub steps : List Obligation
  steps = flat (λ t. flat (λ k. own t k (P.code t k)) (instructed t)) (up_to P.threads)

  -- class 4, ordered "by acting thread, acting point, asserting thread, asserting point" (Change 10)
  abbrev pub interferences : List Obligation
  interferences = flat (λ t. flat (λ k. flat (λ u. assertions t k u) (up_to P.threads)) (instructed t)) (up_to P.threads)

  -- all obligations, in the order of the obligations record
  abbrev pub obligations : List Obligation
  obligations = starts ++ (steps ++ interferences)

  module _ (O : Outline) where
    -- what gives the next point's assertion: a triple of the instruction, or for a branch the implication from assertion and negated test
    abbrev pub wants_next : ℕ → ℕ → Instr → Statement
    wants_next t k (act A ns) = taking t k (act A ns) (O t k) (O t (suc k))
    wants_next t k (branch e a) = implies (both_a (O t k) (holds (Formula.not e))) (O t (suc k))

    -- what gives the target's assertion: the implication from assertion and test of a branch; for an action, which has no target, arbitrary
    abbrev pub wants_target : ℕ → ℕ → Instr → Statement
    wants_target t k (act A ns) = wants_next t k (act A ns)
    wants_target t k (branch e a) = implies (both_a (O t k) (holds e)) (O t a)

    -- the statement that meets an obligation; class 4: "both(its assertion, the actor's) is kept as the first"
    abbrev pub wants : Obligation → Statement
    wants (start t) = implies Formula.start (O t 0)
    wants (step t k) = wants_next t k (P.code t k)
    wants (taken t k) = wants_target t k (P.code t k)
    wants (interference u j t k) = taking t k (P.code t k) (both_a (O u j) (O t k)) (O u j)
