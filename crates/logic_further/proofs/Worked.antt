-- Truth along one word, worked out: whether a thread sees an interval that names one word alone is a test on the list of positions from
-- its own to the last. So what an assertion of such intervals comes to, in a state that a run reaches, is computed.
use mathlib.Core.Path.{◌≡◌, refl, sym, subst}
use mathlib.Core.Bool.{Bool, true, false, not, ◌&&◌, ◌||◌}
use mathlib.Core.List.{List, [], ◌∷◌}
use mathlib.Core.Logic.{◌⊎◌, inl, inr}
use Prim.Native.Nat.{ℕ, zero, suc, ◌-◌, ◌≤◌}
use native.Mathlib.Omega.{arith}
use lib.Dec.{T, eqb}
use lib.ListN.{take, drop, length}
use borrow.Author.Tests.{eqb-true, eq-eqb}
use Rattle.semantics.specs.Base.{All, all}
use Rattle.semantics.specs.Eval.{Env, test, on_regs}
use Rattle.semantics.specs.Formula.{Interval, Assertion, Formula.box, Formula.one, Formula.chop, Formula.both, Formula.either, Formula.sees, Formula.both_a, Formula.either_a, Formula.start, Formula.holds}
use Rattle.semantics.specs.Names.{only}
use Rattle.semantics.specs.Machine.{View, State, Program, Instr, Instr.act, Instr.branch, Step, at, begin, run}
use Rattle.semantics.specs.EveryRun.{Outline}
use Rattle.semantics.specs.Truth.{Sat, True}
use Rattle.logic.specs.Statement.{triple, pair, is_pair, half, taking}
use Rattle.logic.specs.Obligations
use Rattle.logic.specs.Obligations.{Obligation, obligations, wants, wants_next, wants_target}
use Rattle.logic.specs.WellFormed.{WellFormed}
use Rattle.semantics.proofs.Base.{and_left, and_right, and_both, all_All, is_true, holds_true, by_word, map_or}
use Rattle.semantics.proofs.Invariant.{Wf}
use Rattle.semantics.proofs.Starts.{begins}
use Rattle.logic.proofs.Sound.{Valid, ValidTriple}
use Rattle.logic.proofs.Runs.{valid_keeps, valid_start}
use Rattle.logic_schemas.proofs.Fit.{All-all}
use Rattle.logic_further.specs.Further.{along}
use Rattle.logic_further.specs.Example.{Example, program_of, well_formed, true_assertion}
use Rattle.logic_further.proofs.Certified.{well-formed}
use Rattle.logic_further.proofs.Decided.{within_list}
use Rattle.logic_further.proofs.Divided.{climb, climbed, seen}

-- INTERVALS over a list of views

-- a number up to n passes the test
abbrev pub some : (ℕ → Bool) → ℕ → Bool
some f zero = f 0
some f (suc n) = f (suc n) || some f n

some_is : (f : ℕ → Bool) (n : ℕ) → T (some f n) → (k : ℕ) × T (f k)
some_is f zero h = (0, h)
some_is f (suc n) h = go (f (suc n)) refl (some_is f n) h
  where
    go : (b : Bool) → f (suc n) ≡ b → (T (some f n) → (k : ℕ) × T (f k)) → T (b || some f n) → (k : ℕ) × T (f k)
    go true e q g = (suc n, is_true e)
    go false e q g = q g

right_or : (a b : Bool) → T b → T (a || b)
right_or true b h = tt
right_or false b h = h

left_or : (a b : Bool) → T a → T (a || b)
left_or true b h = tt
left_or false b h = absurd h

one_or : (a b : Bool) → T (a || b) → T a ⊎ T b
one_or true b h = inl tt
one_or false b h = inr h

is_some : (f : ℕ → Bool) (n k : ℕ) → k ≤ n → T (f k) → T (some f n)
is_some f zero k b h = subst (λ (z : ℕ). T (f z)) (let e : k ≡ 0 = omega arith in e) h
is_some f (suc n) k b h =
    by_word (suc n) (λ z. z ≤ suc n → T (f z) → T (some f (suc n))) (λ b h. left_or (f (suc n)) (some f n) h)
    (λ z d b h. right_or (f (suc n)) (some f n) (is_some f n z (omega arith) h)) k b h

abbrev pub satisfied : ℕ → (View → Env) → Interval → List View → Bool
satisfied R ρ (box e) l = all (λ v. test R (ρ v) e) l
satisfied R ρ (one x) [] = true
satisfied R ρ (one x) (v ∷ l) = all (λ w. eqb (w x) (v x)) (v ∷ l)
satisfied R ρ (chop i j) l = some (λ k. satisfied R ρ i (take k l) && satisfied R ρ j (drop k l)) (length l)
satisfied R ρ (both i j) l = satisfied R ρ i l && satisfied R ρ j l
satisfied R ρ (either i j) l = satisfied R ρ i l || satisfied R ρ j l

all_map : {A : Type 0} (Q Q' : A → Type 0) → ((a : A) → Q a → Q' a) → (l : List A) → All Q l → All Q' l
all_map Q Q' f [] h = tt
all_map Q Q' f (a ∷ l) h = (f a h.0, all_map Q Q' f l h.1)

module _ (R : ℕ) (ρ : View → Env) where
  satisfied_is : (i : Interval) (l : List View) → T (satisfied R ρ i l) → Sat R ρ i l
  satisfied_is (box e) l h = all_All _ l h
  satisfied_is (one x) [] h = (0, tt)
  satisfied_is (one x) (v ∷ l) h = (
    v x,
    all_map (λ w. T (eqb (w x) (v x))) (λ w. w x ≡ v x) (λ w q. eqb-true (w x) (v x) (holds_true (eqb (w x) (v x)) q)) (v ∷ l)
        (all_All (λ w. eqb (w x) (v x)) (v ∷ l) h),
  )
  satisfied_is (chop i j) l h =
      let r = some_is (λ k. satisfied R ρ i (take k l) && satisfied R ρ j (drop k l)) (length l) h in (
        r.0,
        satisfied_is i (take r.0 l) (and_left (satisfied R ρ i (take r.0 l)) (satisfied R ρ j (drop r.0 l)) r.1),
        satisfied_is j (drop r.0 l) (and_right (satisfied R ρ i (take r.0 l)) (satisfied R ρ j (drop r.0 l)) r.1),
      )
  satisfied_is (both i j) l h = (
    satisfied_is i l (and_left (satisfied R ρ i l) (satisfied R ρ j l) h),
    satisfied_is j l (and_right (satisfied R ρ i l) (satisfied R ρ j l) h),
  )
  satisfied_is (either i j) l h = map_or (satisfied_is i l) (satisfied_is j l) (one_or (satisfied R ρ i l) (satisfied R ρ j l) h)

  is_satisfied : (i : Interval) (l : List View) → Sat R ρ i l → T (satisfied R ρ i l)
  is_satisfied (box e) l h = All-all _ l h
  is_satisfied (one x) [] h = tt
  is_satisfied (one x) (v ∷ l) h =
      All-all (λ w. eqb (w x) (v x)) (v ∷ l)
      (all_map (λ w. w x ≡ h.0) (λ w. T (eqb (w x) (v x)))
      (λ w q. is_true (eq-eqb (w x) (v x) (subst (λ (n : ℕ). w x ≡ n) (sym h.1.0) q))) (v ∷ l) h.1)
  is_satisfied (chop i j) l h =
      let r = within_list h.0 l in
      is_some (λ k. satisfied R ρ i (take k l) && satisfied R ρ j (drop k l)) (length l) r.0 r.1
      (and_both (satisfied R ρ i (take r.0 l)) (satisfied R ρ j (drop r.0 l))
      (is_satisfied i (take r.0 l) (subst (λ (z : List View). Sat R ρ i z) r.2 h.1))
      (is_satisfied j (drop r.0 l) (subst (λ (z : List View). Sat R ρ j z) r.3 h.2)))
  is_satisfied (both i j) l h = and_both (satisfied R ρ i l) (satisfied R ρ j l) (is_satisfied i l h.0) (is_satisfied j l h.1)
  is_satisfied (either i j) l (inl h) = left_or (satisfied R ρ i l) (satisfied R ρ j l) (is_satisfied i l h)
  is_satisfied (either i j) l (inr h) = right_or (satisfied R ρ i l) (satisfied R ρ j l) (is_satisfied j l h)

-- ASSERTIONS in a state

-- every interval names the word x alone, and no unsync; start does not occur
abbrev pub along_word : ℕ → Assertion → Bool
along_word x (sees u i) = only (along x) i
along_word x (both_a a b) = along_word x a && along_word x b
along_word x (either_a a b) = along_word x a && along_word x b
along_word x start = false
along_word x (holds e) = true

-- the assertion in the state, its intervals on the list of positions of x
abbrev pub truth_along : ℕ → Program → State → Assertion → Bool
truth_along x P s (sees u i) = satisfied P.range (at P s) i (climb x (s.view u) (s.view u x) (s.size x - s.view u x))
truth_along x P s (both_a a b) = truth_along x P s a && truth_along x P s b
truth_along x P s (either_a a b) = truth_along x P s a || truth_along x P s b
truth_along x P s start = false
truth_along x P s (holds e) = test P.range (on_regs s.reg) e

module _ (x : ℕ) {P : Program} {s : State} (wf : Wf P s) where
  pub worked_true : (a : Assertion) → T (along_word x a) → T (truth_along x P s a) → True P s a
  worked_true (sees u i) c h = seen x wf u i c (satisfied_is P.range (at P s) i _ h)
  worked_true (both_a a b) c h = (
    worked_true a (and_left (along_word x a) (along_word x b) c) (and_left (truth_along x P s a) (truth_along x P s b) h),
    worked_true b (and_right (along_word x a) (along_word x b) c) (and_right (truth_along x P s a) (truth_along x P s b) h),
  )
  worked_true (either_a a b) c h =
      map_or (worked_true a (and_left (along_word x a) (along_word x b) c)) (worked_true b (and_right (along_word x a) (along_word x b) c))
      (one_or (truth_along x P s a) (truth_along x P s b) h)
  worked_true start c h = absurd c
  worked_true (holds e) c h = h

  true_worked : (a : Assertion) → T (along_word x a) → True P s a → T (truth_along x P s a)
  true_worked (sees u i) c h = is_satisfied P.range (at P s) i _ (h _ (climbed x wf u))
  true_worked (both_a a b) c h =
      and_both (truth_along x P s a) (truth_along x P s b) (true_worked a (and_left (along_word x a) (along_word x b) c) h.0)
      (true_worked b (and_right (along_word x a) (along_word x b) c) h.1)
  true_worked (either_a a b) c (inl h) =
      left_or (truth_along x P s a) (truth_along x P s b) (true_worked a (and_left (along_word x a) (along_word x b) c) h)
  true_worked (either_a a b) c (inr h) =
      right_or (truth_along x P s a) (truth_along x P s b) (true_worked b (and_right (along_word x a) (along_word x b) c) h)
  true_worked start c h = absurd c
  true_worked (holds e) c h = h

  pub worked_false : (a : Assertion) → T (along_word x a) → T (not (truth_along x P s a)) → True P s a → ⊥
  worked_false a c h g = go (truth_along x P s a) h (true_worked a c g)
    where
      go : (b : Bool) → T (not b) → T b → ⊥
      go true h g = h
      go false h g = g

-- STATES that a run reaches are well formed

-- the outline that says nothing, whose obligations are valid
abbrev silent : Outline
silent t k = true_assertion

silent_triple : (P : Program) (t : ℕ) (c : Instr) (a : Assertion) → ValidTriple P t c a true_assertion
silent_triple P t (act A ns) a = λ s wf p arr h. tt
silent_triple P t (branch e k) a = tt

silent_taking : (P : Program) (t k : ℕ) (c : Instr) (a : Assertion) → Valid P (taking t k c a true_assertion)
silent_taking P t k c a = go (is_pair c)
  where
    go : (b : Bool) → Valid P (elim b [ true ↦ pair t k a true_assertion | false ↦ triple t k a true_assertion ])
    go true = silent_triple P t (P.code t k) a
    go false = silent_triple P t (half P t k) a

silent_valid : (P : Program) (o : Obligation) → Valid P (wants P silent o)
silent_valid P (Obligations.start t) = λ s wf h. tt
silent_valid P (Obligations.step t k) = go (P.code t k)
  where
    go : (c : Instr) → Valid P (wants_next P silent t k c)
    go (act A ns) = silent_taking P t k (act A ns) true_assertion
    go (branch e a) = λ s wf h. tt
silent_valid P (Obligations.taken t k) = go (P.code t k)
  where
    go : (c : Instr) → Valid P (wants_target P silent t k c)
    go (act A ns) = silent_taking P t k (act A ns) true_assertion
    go (branch e a) = λ s wf h. tt
silent_valid P (Obligations.interference u j t k) = silent_taking P t k (P.code t k) _

each_of : {A : Type 0} (Q : A → Type 0) → ((a : A) → Q a) → (l : List A) → All Q l
each_of Q f [] = tt
each_of Q f (a ∷ l) = (f a, each_of Q f l)

-- from the start in which all registers are 0
pub reached_well : (E : Example) → T (well_formed E) → (l : List Step)
    → Wf (program_of E) (run (program_of E) (begin (program_of E) (λ q. 0)) l)
reached_well E h l =
    let P = program_of E in
    let w = well-formed E h in
    let ok : WellFormed P silent = record {
      some_value = w.some_value;
      start-values = w.start-values;
      some_point = w.some_point;
      instructions = w.instructions;
      no_start = λ t k q b. tt;
    } in
    let d = each_of (λ o. Valid P (wants P silent o)) (silent_valid P) (obligations P) in
    let b = valid_start P silent ok d (begin P (λ q. 0)) (begins P w.some_value (λ q. 0)) in
    (valid_keeps P silent ok d l (begin P (λ q. 0)) b).wf
