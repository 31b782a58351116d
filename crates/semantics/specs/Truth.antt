-- "Truth of an assertion": truth of intervals over lists of views, and of assertions in states.
use Rattle.std.specs.Prelude.{◌≡◌, List, [], ◌∷◌, ◌⊎◌, ℕ, ◌≤◌, ◌<◌, T, take, drop}
use Rattle.semantics.specs.Base.{All}
use Rattle.semantics.specs.Formula.{Interval, Assertion, Formula.box, Formula.one, Formula.chop, Formula.both, Formula.either, Formula.sees, Formula.both_a, Formula.either_a, Formula.start, Formula.holds}
use Rattle.semantics.specs.Eval.{Env, test, on_regs}
use Rattle.semantics.specs.Machine.{View, State, at, Program, Start}

-- "[E]: test E is true at each view. one(x): all views name the same write of x. I;J: the list is cut in two, either part perhaps empty,
-- the first satisfying I and the second J"; both and either on the same list. R: the range; ρ: the environment at a view
abbrev pub Sat : ℕ → (View → Env) → Interval → List View → Type 0
Sat R ρ (box e) l = All (λ v. T (test R (ρ v) e)) l
Sat R ρ (one x) l = (n : ℕ) × All (λ v. v x ≡ n) l
Sat R ρ (chop i j) l = (k : ℕ) × Sat R ρ i (take k l) × Sat R ρ j (drop k l)
Sat R ρ (both i j) l = Sat R ρ i l × Sat R ρ j l
Sat R ρ (either i j) l = Sat R ρ i l ⊎ Sat R ρ j l

-- the view names writes that are there; size: how many writes each row has
abbrev pub Names : (ℕ → ℕ) → View → Type 0
Names size v = (x : ℕ) → v x < size x

-- none before v in any word, none before its predecessor in any word, and all name writes that are there
abbrev pub From : (ℕ → ℕ) → View → List View → Type 0
From size v [] = Unit {0}
From size v (w ∷ l) = Names size w × ((x : ℕ) → v x ≤ w x) × From size w l

-- a prospect of a thread whose view is v, in the field one list of views of its potential: "a non-empty list of views, none
-- before the thread's view in any word and none before its predecessor in any word". Every number counts as a word here: one
-- that the program has not keeps its one write for ever
abbrev pub Prospect : (ℕ → ℕ) → View → List View → Type 0
Prospect size v [] = ⊥
Prospect size v (w ∷ l) = From size v (w ∷ l)

-- "every prospect of t satisfies I"
abbrev pub Sees : Program → State → ℕ → Interval → Type 0
Sees P s t i = (l : List View) → Prospect s.size (s.view t) l → Sat P.range (at P s) i l

-- the assertion is true in the state. "holds e": e is true of the registers; start is "true of the start state only", of any permitted one
abbrev pub True : Program → State → Assertion → Type 0
True P s (sees t i) = Sees P s t i
True P s (both_a a b) = True P s a × True P s b
True P s (either_a a b) = True P s a ⊎ True P s b
True P s start = Start P s
True P s (holds e) = T (test P.range (on_regs s.reg) e)
