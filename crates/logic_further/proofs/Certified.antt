-- A certificate that passes its test derives the obligations; so a program with one is true to its outline in every run.
use mathlib.Core.Path.{◌≡◌, refl, sym, subst}
use mathlib.Core.Bool.{Bool, true, false}
use mathlib.Core.List.{List, [], ◌∷◌, map}
use Prim.Native.Nat.{ℕ, zero, suc, ◌-◌, ◌<◌}
use native.Mathlib.Omega.{arith}
use lib.Dec.{T, ltb, ltb→lt, leb→le}
use lib.ListN.{length, get_or}
use Rattle.semantics.specs.Base.{All, all, Within, below, up_to}
use Rattle.semantics.specs.Names.{startless}
use Rattle.semantics.specs.Machine.{Program}
use Rattle.semantics.specs.EveryRun.{Outline, EveryRun}
use Rattle.logic.specs.Statement.{Statement}
use Rattle.logic.specs.Obligations.{Obligation, obligations, wants}
use Rattle.logic.specs.WellFormed.{proper, WellFormed}
use Rattle.logic.specs.Claims.{Claim, NeverBoth, threads_in, claims}
use Rattle.logic_schemas.specs.Fits.{same_all}
use Rattle.semantics.proofs.Base.{and_left, and_right, all_All, is_true}
use Rattle.logic.proofs.Runs.{below_in, up_in}
use Rattle.logic_schemas.proofs.Fit.{statement_eq}
use Rattle.logic_schemas.proofs.Rules.{fits_rule}
use Rattle.logic_further.specs.Union.{DerivedFurther, by_published, by_further, ProvedFurther}
use Rattle.logic_further.specs.Example.{nth, Example, program_of, outline_of, well_formed}
use Rattle.logic_further.specs.Certificate.{Line, by, further, says, named, is_there, follows, checked, statements, states, meets, certified}
use Rattle.logic_further.proofs.Sound.{every_run_further, never_both_further}

-- WELL-FORMED by its test

nth_all : {A : Type 0} (f : A → Bool) (d : A) (l : List A) → T (f d) → T (all f l) → (i : ℕ) → T (f (nth d l i))
nth_all f d [] h g i = h
nth_all f d (a ∷ l) h g zero = and_left (f a) (all f l) g
nth_all f d (a ∷ l) h g (suc i) = nth_all f d l h (and_right (f a) (all f l) g) i

module _ (E : Example) where
  -- a test over threads and points, at a thread and a point
  at_point : (f : ℕ → ℕ → Bool) (n : ℕ → ℕ) → T (all (λ t. all (λ k. f t k) (below (n t))) (up_to (length E.threads)))
      → (t k : ℕ) → Within (length E.threads) t → k < n t → T (f t k)
  at_point f n h t k w b =
      below_in (λ k. T (f t k)) (n t) (all_All (f t) (below (n t))
      (up_in (λ t. T (all (λ k. f t k) (below (n t)))) (length E.threads)
      (all_All (λ t. all (λ k. f t k) (below (n t))) (up_to (length E.threads)) h) t w)) k b

  pub well-formed : T (well_formed E) → WellFormed (program_of E) (outline_of E)
  well-formed h = record {
    some_value = ltb→lt 0 E.range (search (and_left, and_right));
    start-values = λ x. ltb→lt (nth 0 (0 ∷ E.start) x) E.range
        (nth_all (λ n. ltb n E.range) 0 (0 ∷ E.start) (search (and_left, and_right)) (search (and_left, and_right)) x);
    some_point = λ t w. omega arith;
    instructions = λ t k w b.
        at_point (λ t k. proper (program_of E) ((program_of E).points t) ((program_of E).code t k)) (λ t. (program_of E).points t - 1)
        (search (and_left, and_right)) t k w (omega arith);
    no_start = λ t k w b. at_point (λ t k. startless (outline_of E t k)) (λ t. (program_of E).points t) (search (and_left, and_right)) t k w b;
  }

-- DERIVED by its test

module _ (P : Program) where
  nth_of : (Q : Statement → Type 0) (d : Statement) (l : List Statement) (i : ℕ) → i < length l → All Q l → Q (nth d l i)
  nth_of Q d [] i b h = absurd (omega arith)
  nth_of Q d (a ∷ l) zero b h = h.0
  nth_of Q d (a ∷ l) (suc i) b h = nth_of Q d l i (omega arith) h.1

  pub named_is : (Q : Statement → Type 0) (earlier : List Statement) (k : ℕ) → T (is_there P earlier k) → All Q earlier → Q (named P earlier k)
  named_is Q earlier k h =
      nth_of Q _ earlier (length earlier - k) (omega (arith, leb→le 1 k (search and_left), leb→le k (length earlier) (search and_right)))

  premises : (earlier : List Statement) (l : List ℕ) → T (all (is_there P earlier) l) → All (DerivedFurther P) earlier → (d : Statement)
      → (i : ℕ) → i < length (map (named P earlier) l) → DerivedFurther P (get_or (map (named P earlier) l) i d)
  premises earlier [] h g d i b = absurd (omega arith)
  premises earlier (k ∷ l) h g d zero b = named_is (DerivedFurther P) earlier k (search and_left) g
  premises earlier (k ∷ l) h g d (suc i) b = premises earlier l (search and_right) g d i (omega arith)

  same-all : (l m : List Statement) → T (same_all l m) → l ≡ m
  same-all [] [] h = refl
  same-all [] (s ∷ m) h = absurd h
  same-all (s ∷ l) [] h = absurd h
  same-all (s ∷ l) (r ∷ m) h =
      let e = statement_eq s r (search and_left) in let q = same-all l m (search and_right) in cc

  line_derived : (earlier : List Statement) (l : Line P) → T (follows P earlier l) → All (DerivedFurther P) earlier
      → DerivedFurther P (says P l)
  line_derived earlier (by n s l) h g =
      by_published (fits_rule P n s (map (named P earlier) l) (search (and_left, and_right))) (search (and_left, and_right))
      (premises earlier l (search (and_left, and_right)) g s)
  line_derived earlier (further ps s d l) h g =
      by_further d (search (and_left, and_right)) (subst (λ (qs : List Statement). (i : ℕ) → i < length qs → DerivedFurther P (get_or qs i s))
      (sym (same-all ps (map (named P earlier) l) (search (and_left, and_right)))) (premises earlier l (search (and_left, and_right)) g s))

  lines_derived : (ls : List (Line P)) (earlier : List Statement) → All (DerivedFurther P) earlier → T (checked P earlier ls)
      → All (DerivedFurther P) (statements P earlier ls)
  lines_derived [] earlier g h = g
  lines_derived (l ∷ ls) earlier g h = go (follows P earlier l) refl h (lines_derived ls (says P l ∷ earlier))
    where
      go : (b : Bool) → follows P earlier l ≡ b → T (elim b as (λ z. Bool) [ true ↦ checked P (says P l ∷ earlier) ls | false ↦ false ])
          → (All (DerivedFurther P) (says P l ∷ earlier) → T (checked P (says P l ∷ earlier) ls)
          → All (DerivedFurther P) (statements P (says P l ∷ earlier) ls))
          → All (DerivedFurther P) (statements P (says P l ∷ earlier) ls)
      go true e h f = f (line_derived earlier l (is_true e) g, g) h
      go false e h f = absurd h

  -- a line that states s derives it
  pub states_derived : (all_lines : List Statement) (s : Statement) (k : ℕ) → T (states P all_lines s k) → All (DerivedFurther P) all_lines
      → DerivedFurther P s
  states_derived all_lines s k h g =
      subst (DerivedFurther P) (sym (statement_eq s (named P all_lines k) (search and_right)))
      (named_is (DerivedFurther P) all_lines k (search and_left) g)

  module _ (O : Outline) where
    all-met : (all_lines : List Statement) → All (DerivedFurther P) all_lines → (os : List Obligation) (ks : List ℕ)
        → T (meets P O all_lines os ks) → All (λ o. DerivedFurther P (wants P O o)) os
    all-met all_lines g [] [] h = tt
    all-met all_lines g [] (k ∷ ks) h = absurd h
    all-met all_lines g (o ∷ os) [] h = absurd h
    all-met all_lines g (o ∷ os) (k ∷ ks) h = (
      states_derived all_lines (wants P O o) k (search and_left) g,
      all-met all_lines g os ks (search and_right),
    )

    pub checked_derived : (ls : List (Line P)) → T (checked P [] ls) → All (DerivedFurther P) (statements P [] ls)
    checked_derived ls h = lines_derived ls [] tt h

    pub certified_proved : (ls : List (Line P)) (ks : List ℕ) → T (certified P O ls ks) → ProvedFurther P O
    certified_proved ls ks h = all-met (statements P [] ls) (checked_derived ls (search and_left)) (obligations P) ks (search and_right)

-- the theorem, for a program with its outline and a certificate
pub certified_run : (E : Example) (ls : List (Line (program_of E))) (ks : List ℕ) → T (well_formed E)
    → T (certified (program_of E) (outline_of E) ls ks) → EveryRun (program_of E) (outline_of E)
certified_run E ls ks w h =
    every_run_further (program_of E) (outline_of E) (well-formed E w) (certified_proved (program_of E) (outline_of E) ls ks h)

-- and a claim that line k of it states
pub certified_never : (E : Example) (ls : List (Line (program_of E))) (ks : List ℕ) (c : Claim) (k : ℕ) → T (well_formed E)
    → T (certified (program_of E) (outline_of E) ls ks) → threads_in (program_of E) c
    → T (states (program_of E) (statements (program_of E) [] ls) (claims (outline_of E) c) k) → NeverBoth (program_of E) c
certified_never E ls ks c k w h b g =
    never_both_further (program_of E) (outline_of E) (well-formed E w) (certified_proved (program_of E) (outline_of E) ls ks h) c b
    (states_derived (program_of E) (statements (program_of E) [] ls) (claims (outline_of E) c) k g
    (checked_derived (program_of E) (outline_of E) ls (and_left (checked (program_of E) [] ls) _ h)))
