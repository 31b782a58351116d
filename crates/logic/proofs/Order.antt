-- Class 4 by the asserting thread first, as it was, and by the acting thread first, as it is: the same obligations, each once.
use mathlib.Core.Path.{◌≡◌, refl, ap, ap₂, sym, ◌∙◌}
use mathlib.Core.Bool.{Bool, true, false, ◌&&◌}
use mathlib.Core.List.{List, [], ◌∷◌, ◌++◌, map}
use mathlib.Core.Logic.{◌≢◌}
use Prim.Native.Nat.{ℕ, ◌-◌}
use native.Mathlib.Omega.{arith}
use native.Mathlib.Decide.{ℕ_discrete}
use lib.Dec.{eqb}
use lib.ListN.{length}
use Rattle.semantics.specs.Base.{All, all, below, up_to}
use Rattle.semantics.specs.Machine.{Program, Instr, Instr.act, Instr.branch}
use Rattle.logic.specs.Obligations
use Rattle.logic.specs.Obligations.{Obligation, Obligation-discrete, step, taken, interference, flat, acting, instructed, asserted, assertions, starts, steps, interferences, obligations}
use Rattle.logic.proofs.Reordered.{Reordered, same, then_on, back, reordered_all, reordered_length, as_list, behind, each, none, turned, Once, All-of, reordered_once, flat_every, flat_once, below_once, up_once}

-- asserting thread and point, acting thread and point
abbrev place : Obligation → ℕ × ℕ × ℕ × ℕ
place (Obligations.start t) = (0, 0, 0, 0)
place (step t k) = (0, 0, 0, 0)
place (taken t k) = (0, 0, 0, 0)
place (interference u j t k) = (u, j, t, k)

module _ (P : Program) where
  -- class 4 by asserting thread, its point, acting thread, acting point
  abbrev pub actions : ℕ → ℕ → ℕ → List Obligation
  actions u j t = elim (eqb t u) [ true ↦ [] | false ↦ flat (λ k. acting P u j t k (P.code t k)) (instructed P t) ]

  abbrev pub formerly : List Obligation
  formerly = flat (λ u. flat (λ j. flat (λ t. actions u j t) (up_to P.threads)) (below (asserted P u))) (up_to P.threads)

  -- one obligation, or none
  abbrev one : ℕ → ℕ → ℕ → ℕ → List Obligation
  one u j t k = elim (eqb t u) [ true ↦ [] | false ↦ acting P u j t k (P.code t k) ]

  inside : (b : Bool) (f : ℕ → List Obligation) (l : List ℕ)
      → Reordered {A = Obligation} (elim b as (λ y. List Obligation) [ true ↦ [] | false ↦ flat f l ])
      (flat (λ k. elim b as (λ y. List Obligation) [ true ↦ [] | false ↦ f k ]) l)
  inside true f l = as_list (sym (none l))
  inside false f l = same

  pub reordered : Reordered formerly (interferences P)
  reordered =
      then_on (each _ _ (λ u. each _ _ (λ j. each _ _ (λ t.
      inside (eqb t u) (λ k. acting P u j t k (P.code t k)) (instructed P t)) (up_to P.threads)) (below (asserted P u)))
      (up_to P.threads))
      (then_on (each _ _ (λ u. turned (λ j t. flat (λ k. one u j t k) (instructed P t)) (below (asserted P u)) (up_to P.threads))
      (up_to P.threads))
      (then_on (turned (λ u t. flat (λ j. flat (λ k. one u j t k) (instructed P t)) (below (asserted P u))) (up_to P.threads)
      (up_to P.threads))
      (then_on (each _ _ (λ t. each _ _ (λ u. turned (λ j k. one u j t k) (below (asserted P u)) (instructed P t)) (up_to P.threads))
      (up_to P.threads))
      (then_on (each _ _ (λ t. turned (λ u k. flat (λ j. one u j t k) (below (asserted P u))) (up_to P.threads) (instructed P t))
      (up_to P.threads))
      (each _ _ (λ t. each _ _ (λ k. each _ _ (λ u.
      back (inside (eqb t u) (λ j. acting P u j t k (P.code t k)) (below (asserted P u)))) (up_to P.threads)) (instructed P t))
      (up_to P.threads))))))

  -- so all are met in the one order exactly if they are in the other, and there are as many
  unfoldable pub all_formerly : List Obligation
  all_formerly = starts P ++ (steps P ++ formerly)

  pub met_alike : (met : Obligation → Bool) → all met all_formerly ≡ all met (obligations P)
  unfolding all_formerly
  met_alike met = reordered_all met all_formerly (obligations P) (behind (starts P) (behind (steps P) reordered))

  pub as_many : length all_formerly ≡ length (obligations P)
  unfolding all_formerly
  as_many = reordered_length all_formerly (obligations P) (behind (starts P) (behind (steps P) reordered))

  -- each obligation of class 4 stands there once
  acting_once : (u j t k : ℕ) (c : Instr) → Once (acting P u j t k c)
  acting_once u j t k (act A ns) = (tt, tt)
  acting_once u j t k (branch e a) = tt

  acting_all : (Q : Obligation → Type 0) (u j t k : ℕ) (c : Instr) → Q (interference u j t k) → All Q (acting P u j t k c)
  acting_all Q u j t k (act A ns) h = (h, tt)
  acting_all Q u j t k (branch e a) h = tt

  assertions_all : (Q : Obligation → Type 0) (t k u : ℕ) → ((j : ℕ) → Q (interference u j t k)) → All Q (assertions P t k u)
  assertions_all Q t k u h = go (eqb t u)
    where
      go : (b : Bool)
          → All Q
          (elim b as (λ y. List Obligation) [ true ↦ [] | false ↦ flat (λ j. acting P u j t k (P.code t k)) (below (asserted P u)) ])
      go true = tt
      go false = flat_every Q (λ j. acting P u j t k (P.code t k)) (λ j. acting_all Q u j t k (P.code t k) (h j)) (below (asserted P u))

  assertions_once : (t k u : ℕ) → Once (assertions P t k u)
  assertions_once t k u = go (eqb t u)
    where
      go : (b : Bool) → Once {A = Obligation}
          (elim b as (λ y. List Obligation) [ true ↦ [] | false ↦ flat (λ j. acting P u j t k (P.code t k)) (below (asserted P u)) ])
      go true = tt
      go false =
          flat_once (λ o. (place o).1) (λ j. acting P u j t k (P.code t k)) (λ j. acting_all _ u j t k (P.code t k) refl)
          (λ j. acting_once u j t k (P.code t k))
          (below (asserted P u)) (below_once (asserted P u))

  pub once : Once (interferences P)
  once =
      flat_once (λ o. (place o).2) (λ t. flat (λ k. flat (λ u. assertions P t k u) (up_to P.threads)) (instructed P t))
      (λ t. flat_every _ (λ k. flat (λ u. assertions P t k u) (up_to P.threads)) (λ k.
      flat_every _ (λ u. assertions P t k u) (λ u. assertions_all _ t k u (λ j. refl)) (up_to P.threads)) (instructed P t))
      (λ t. flat_once (λ o. (place o).3) (λ k. flat (λ u. assertions P t k u) (up_to P.threads))
      (λ k. flat_every _ (λ u. assertions P t k u) (λ u. assertions_all _ t k u (λ j. refl)) (up_to P.threads))
      (λ k. flat_once (λ o. (place o).0) (λ u. assertions P t k u) (λ u. assertions_all _ t k u (λ j. refl)) (λ u. assertions_once t k u)
      (up_to P.threads) threads_once)
      (instructed P t) (below_once (P.points t - 1)))
      (up_to P.threads) threads_once
    where
      threads_once : Once (up_to P.threads)
      threads_once = up_once (below P.threads) (below_once P.threads)

  pub formerly_once : Once formerly
  formerly_once = reordered_once (interferences P) formerly (back reordered) once

-- RECORDS: a line number for each obligation of a list

-- each has a line that meets it
abbrev pub all_met : (Obligation → ℕ → Bool) → List Obligation → List ℕ → Bool
all_met met [] r = true
all_met met (o ∷ l) [] = false
all_met met (o ∷ l) (n ∷ r) = met o n && all_met met l r

-- the line for o, in a record that follows the list
unfoldable pub line_of : List Obligation → List ℕ → Obligation → ℕ
line_of [] r o = 0
line_of (a ∷ l) [] o = 0
line_of (a ∷ l) (n ∷ r) o = elim (Obligation-discrete ℕ_discrete o a) [ yes q ↦ n | no q ↦ line_of l r o ]

line_here : (a : Obligation) (l : List Obligation) (n : ℕ) (r : List ℕ) → line_of (a ∷ l) (n ∷ r) a ≡ n
unfolding line_of
line_here a l n r = go (Obligation-discrete ℕ_discrete a a)
  where
    go : (d : Dec (a ≡ a)) → elim d as (λ d. ℕ) [ yes q ↦ n | no q ↦ line_of l r a ] ≡ n
    go (yes q) = refl
    go (no q) = absurd (q refl)

line_there : (a : Obligation) (l : List Obligation) (n : ℕ) (r : List ℕ) (b : Obligation) → b ≢ a → line_of (a ∷ l) (n ∷ r) b ≡ line_of l r b
unfolding line_of
line_there a l n r b h = go (Obligation-discrete ℕ_discrete b a)
  where
    go : (d : Dec (b ≡ a)) → elim d as (λ d. ℕ) [ yes q ↦ n | no q ↦ line_of l r b ] ≡ line_of l r b
    go (yes q) = absurd (h q)
    go (no q) = refl

map_agree : (f g : Obligation → ℕ) (l : List Obligation) → All (λ b. f b ≡ g b) l → map f l ≡ map g l
map_agree f g [] h = refl
map_agree f g (b ∷ l) h = ap₂ (λ (n : ℕ) (r : List ℕ). n ∷ r) h.0 (map_agree f g l h.1)

-- where each obligation stands once, the record is what is found in it
lines_are : (l : List Obligation) (r : List ℕ) → Once l → length r ≡ length l → map (line_of l r) l ≡ r
lines_are [] [] h e = refl
lines_are [] (n ∷ r) h e = absurd (omega arith)
lines_are (a ∷ l) [] h e = absurd (omega arith)
lines_are (a ∷ l) (n ∷ r) h e =
    ap₂ (λ (n : ℕ) (r : List ℕ). n ∷ r) (line_here a l n r)
    (map_agree (line_of (a ∷ l) (n ∷ r)) (line_of l r) l (All-of _ _ (line_there a l n r) l h.0) ∙ lines_are l r h.1 (omega arith))

met_each : (met : Obligation → ℕ → Bool) (f : Obligation → ℕ) (l : List Obligation) → all_met met l (map f l) ≡ all (λ o. met o (f o)) l
met_each met f [] = refl
met_each met f (o ∷ l) = ap (λ (b : Bool). met o (f o) && b) (met_each met f l)

-- a record of class 4 in the former order, and its lines moved to the new one: all are met by the one exactly if they are by the other
module _ (P : Program) (r : List ℕ) (whole : length r ≡ length (formerly P)) where
  unfoldable pub moved : List ℕ
  moved = map (line_of (formerly P) r) (interferences P)

  pub moved_alike : (met : Obligation → ℕ → Bool) → all_met met (formerly P) r ≡ all_met met (interferences P) moved
  unfolding moved
  moved_alike met =
      ap (all_met met (formerly P)) (sym (lines_are (formerly P) r (formerly_once P) whole))
      ∙ met_each met (line_of (formerly P) r) (formerly P)
      ∙ reordered_all (λ o. met o (line_of (formerly P) r o)) (formerly P) (interferences P) (reordered P)
      ∙ sym (met_each met (line_of (formerly P) r) (interferences P))

  -- each line goes with its obligation
  pub moved_back : map (line_of (formerly P) r) (formerly P) ≡ r
  moved_back = lines_are (formerly P) r (formerly_once P) whole
