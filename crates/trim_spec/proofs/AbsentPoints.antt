-- Points of threads that are not there are nobody's concern: what follows by the rules, and what is owed, goes without them.
use mathlib.Core.Path.{◌≡◌, refl, ap, sym}
use mathlib.Core.Bool.{true, false}
use mathlib.Core.List.{List, [], ◌∷◌, ◌++◌, append_assoc, map-append}
use Prim.Native.Nat.{ℕ, zero, suc}
use native.Mathlib.Omega.{arith}
use lib.Dec.{eqb}
use Rattle.semantics.specs.Base.{Within, below, up_to}
use Rattle.semantics.specs.Machine.{Program, Instr, Instr.act, Instr.branch}
use Rattle.logic.specs.Rule.{Rule}
use Rattle.logic.specs.Statement.{Statement}
use Rattle.logic.specs.Inference.{Inference}
use Rattle.logic_schemas.proofs.Rules.{fits_rule, rule_fits}
use Rattle.logic.specs.Obligations.{Obligation, flat, own, acting, instructed, assertions, steps, interferences, obligations}

-- the same program, but for points
abbrev pub with_points : Program → (ℕ → ℕ) → Program
with_points P p = record {
  threads = P.threads;
  words = P.words;
  range = P.range;
  init = P.init;
  cleared = P.cleared;
  points = p;
  code = P.code;
}

-- whether a line fits its rule does not go by points
pub repointed : (P : Program) (p : ℕ → ℕ) {r : Rule} {ps : List Statement} {s : Statement} → Inference P r ps s
    → Inference (with_points P p) r ps s
repointed P p {r} {ps} {s} d = fits_rule (with_points P p) r s ps (rule_fits P r s ps d)

-- a list for each of 1 to n

flat_append : {A B : Type 0} (f : A → List B) (l m : List A) → flat f (l ++ m) ≡ flat f l ++ flat f m
flat_append f [] m = refl
flat_append f (x ∷ l) m = rw (flat_append f l m) (sym (append_assoc (f x) (flat f l) (flat f m)))

flat_ext : {A B : Type 0} (f g : A → List B) → ((x : A) → f x ≡ g x) → (l : List A) → flat f l ≡ flat g l
flat_ext f g h [] = refl
flat_ext f g h (x ∷ l) = rw (h x, flat_ext f g h l)

flat_same : {B : Type 0} (f g : ℕ → List B) (n : ℕ) → ((t : ℕ) → Within n t → f t ≡ g t) → flat f (up_to n) ≡ flat g (up_to n)
flat_same f g zero h = refl
flat_same f g (suc n) h =
    let q : f (suc n) ≡ g (suc n) = h (suc n) (omega arith, omega arith) in
    let r : flat f (up_to n) ≡ flat g (up_to n) = flat_same f g n (λ t w. h t (w.0, let b = w.1 in omega arith)) in
    rw (map-append, flat_append f (up_to n) (suc n ∷ []), flat_append g (up_to n) (suc n ∷ []), q, r)

module _ (P : Program) (p : ℕ → ℕ) (same : (t : ℕ) → Within P.threads t → p t ≡ P.points t) where
  abbrev Q : Program
  Q = with_points P p

  own_same : (t k : ℕ) (c : Instr) → own Q t k c ≡ own P t k c
  own_same t k (act A ns) = refl
  own_same t k (branch e a) = refl

  acting_same : (u j t k : ℕ) (c : Instr) → acting Q u j t k c ≡ acting P u j t k c
  acting_same u j t k (act A ns) = refl
  acting_same u j t k (branch e a) = refl

  assertions_same : (t k u : ℕ) → Within P.threads u → assertions Q t k u ≡ assertions P t k u
  assertions_same t k u w =
      ap (λ (l : List Obligation). elim (eqb t u) [ true ↦ [] | false ↦ l ])
      (rw (same u w) (flat_ext (λ j. acting Q u j t k (P.code t k)) (λ j. acting P u j t k (P.code t k))
      (λ j. acting_same u j t k (P.code t k)) (below (P.points u))))

  steps_same : steps Q ≡ steps P
  steps_same =
      flat_same (λ t. flat (λ k. own Q t k (P.code t k)) (instructed Q t)) (λ t. flat (λ k. own P t k (P.code t k)) (instructed P t))
      P.threads
      (λ t w. rw (same t w) (flat_ext (λ k. own Q t k (P.code t k)) (λ k. own P t k (P.code t k)) (λ k. own_same t k (P.code t k))
      (instructed P t)))

  interferences_same : interferences Q ≡ interferences P
  interferences_same =
      flat_same (λ t. flat (λ k. flat (λ u. assertions Q t k u) (up_to P.threads)) (instructed Q t))
      (λ t. flat (λ k. flat (λ u. assertions P t k u) (up_to P.threads)) (instructed P t)) P.threads
      (λ t w. rw (same t w) (flat_ext (λ k. flat (λ u. assertions Q t k u) (up_to P.threads))
      (λ k. flat (λ u. assertions P t k u) (up_to P.threads))
      (λ k. flat_same (λ u. assertions Q t k u) (λ u. assertions P t k u) P.threads (λ u v. assertions_same t k u v)) (instructed P t)))

  pub obligations_same : obligations Q ≡ obligations P
  obligations_same = rw (steps_same, interferences_same)
