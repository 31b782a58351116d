-- Rows are sound: what holds of every row holds of every meaning whose values are below the range.
use mathlib.Core.Path.{◌≡◌, refl, ap, ap₂, sym, subst}
use mathlib.Core.Bool.{Bool, true, false, cond, not, ◌||◌}
use mathlib.Core.List.{List, [], ◌∷◌, ◌++◌}
use Prim.Native.Nat.{ℕ, zero, suc, ◌<◌}
use native.Mathlib.Omega.{arith}
use native.Mathlib.Decide.{ℕ_discrete}
use lib.Dec.{T, T_not, eqb, leb}
use Rattle.logic.proofs.Agreement.{Same, test_same}
use Rattle.semantics.proofs.Base.{is_true, by_word, and_right, All-left, All-right}
use Rattle.semantics.proofs.Cuts.{All-map}
use Rattle.semantics.specs.Base.{All}
use Rattle.semantics.specs.Eval.{Env, test}
use Rattle.semantics.specs.Formula.{Test}
use Rattle.semantics.specs.Names.{Name, n_reg, n_word, n_unsync, n_cov, Name-discrete, names}
use Rattle.semantics.specs.Limits
use Rattle.logic.specs.Rows.{same_name, meaning, choices, choose, is_in, distinct, all_below, all_rows, row_count, every_row, entailed_by_rows}

pub all_below_at : (n : ℕ) (f : ℕ → Bool) → T (all_below n f) → (k : ℕ) → k < n → T (f k)
all_below_at zero f h = λ k b. absurd (omega arith)
all_below_at (suc n) f h = go (f n) refl h (all_below_at n f)
  where
    go : (b : Bool) → f n ≡ b → T (elim b as (λ x. Bool) [ true ↦ all_below n f | false ↦ false ])
        → (T (all_below n f) → (k : ℕ) → k < n → T (f k)) → (k : ℕ) → k < suc n → T (f k)
    go true e h r = by_word n (λ k. k < suc n → T (f k)) (λ b. rw e tt) (λ k q b. r h k (omega arith))
    go false e h r = absurd h

-- keys that are the same are equal, and each is the same as itself
pub record Equality {K : Type 0} (eq : K → K → Bool) : Type 0 where
  pub equal : (a b : K) → T (eq a b) → a ≡ b
  pub self : (a : K) → T (eq a a)

module _ {K : Type 0} {eq : K → K → Bool} (E : Equality eq) where
  -- chosen as another row has it, a key keeps what the two agree on
  choose_same : (ν μ : K → ℕ) (n m : K) → (T (not (eq m n)) → ν m ≡ μ m) → choose eq ν n (μ n) m ≡ μ m
  unfolding choose
  choose_same ν μ n m e = go (eq m n) refl
    where
      go : (b : Bool) → eq m n ≡ b → cond b (μ n) (ν m) ≡ μ m
      go true q = ap μ (sym (E.equal m n (is_true q)))
      go false q = e (subst (λ (b : Bool). T (not b)) (sym q) tt)

  -- what holds of the distinct keys holds of all
  in_all : (P : K → Type 0) (m : K) (l : List K) → T (is_in eq m l) → All P l → P m
  unfolding is_in
  in_all P m [] t h = absurd t
  in_all P m (n ∷ l) t h = go (eq m n) refl t (λ t. in_all P m l t h.1)
    where
      go : (b : Bool) → eq m n ≡ b → T (b || is_in eq m l) → (T (is_in eq m l) → P m) → P m
      go true q t r = subst P (sym (E.equal m n (is_true q))) h.0
      go false q t r = r t

  distinct_all : (P : K → Type 0) (l : List K) → All P (distinct eq l) → All P l
  unfolding distinct
  distinct_all P [] h = tt
  distinct_all P (n ∷ l) h = go (is_in eq n l) refl h (distinct_all P l)
    where
      go : (b : Bool) → is_in eq n l ≡ b → All P (cond b (distinct eq l) (n ∷ distinct eq l)) → (All P (distinct eq l) → All P l)
          → All P (n ∷ l)
      go true e h r = (in_all P n l (is_true e) (r h), r h)
      go false e h r = (h.0, r h.1)

  -- the row, with the listed keys as in μ
  copy : List K → (K → ℕ) → (K → ℕ) → K → ℕ
  copy [] μ ν = ν
  copy (n ∷ l) μ ν = copy l μ (choose eq ν n (μ n))

  copy_keeps : (l : List K) (μ ν : K → ℕ) (m : K) → ν m ≡ μ m → copy l μ ν m ≡ μ m
  unfolding copy
  copy_keeps [] μ ν m e = e
  copy_keeps (n ∷ l) μ ν m e = copy_keeps l μ (choose eq ν n (μ n)) m (choose_same ν μ n m (λ z. e))

  copy_all : (l : List K) (μ ν : K → ℕ) → All (λ m. copy l μ ν m ≡ μ m) l
  unfolding copy
  copy_all [] μ ν = tt
  copy_all (n ∷ l) μ ν = (
    copy_keeps l μ (choose eq ν n (μ n)) n (choose_same ν μ n n (λ z. absurd (T_not (eq n n) z (E.self n)))),
    copy_all l μ (choose eq ν n (μ n)),
  )

  module _ (choices : K → ℕ) where
    rows_at : (l : List K) (f : (K → ℕ) → Bool) (μ ν : K → ℕ) → ((n : K) → μ n < choices n) → T (all_rows eq choices l f ν)
        → T (f (copy l μ ν))
    unfolding copy
    rows_at [] f μ ν r h = h
    rows_at (n ∷ l) f μ ν r h = rows_at l f μ (choose eq ν n (μ n)) r
        (all_below_at (choices n) (λ k. all_rows eq choices l f (choose eq ν n k)) h (μ n) (r n))

    -- the one fact: a test that passes at every row, and that goes by the listed keys alone, passes
    pub row_sound : (l : List K) (f : (K → ℕ) → Bool) → ((μ ν : K → ℕ) → All (λ n. μ n ≡ ν n) l → f μ ≡ f ν)
        → T (every_row eq choices l f) → (μ : K → ℕ) → ((n : K) → μ n < choices n) → T (f μ)
    row_sound l f by h μ r =
        subst T (by (copy (distinct eq l) μ (λ n. 0)) μ (distinct_all _ l (copy_all (distinct eq l) μ (λ n. 0))))
        (rows_at (distinct eq l) f μ (λ n. 0) r h)

names_equal : Equality same_name
unfolding same_name
names_equal = record { equal = λ a b. go a b (Name-discrete ℕ_discrete a b); self = λ a. come a (Name-discrete ℕ_discrete a a) }
  where
    go : (a b : Name) (d : Dec (a ≡ b)) → T (elim d as (λ x. Bool) [ yes q ↦ true | no q ↦ false ]) → a ≡ b
    go a b (yes q) h = q
    go a b (no q) h = absurd h

    come : (a : Name) (d : Dec (a ≡ a)) → T (elim d as (λ x. Bool) [ yes q ↦ true | no q ↦ false ])
    come a (yes q) = tt
    come a (no q) = absurd (q refl)

-- rows that agree on a name give it one meaning
row_same : (μ ν : Name → ℕ) (n : Name) → μ n ≡ ν n → Same (meaning μ) (meaning ν) n
row_same μ ν (n_reg r) e = e
row_same μ ν (n_word x) e = e
row_same μ ν (n_unsync x) e = ap (λ (n : ℕ). eqb n 1) e
row_same μ ν (n_cov x) e = ap (λ (n : ℕ). eqb n 1) e

-- every meaning is a row's
row_of : Env → Name → ℕ
row_of ρ (n_reg r) = ρ.reg r
row_of ρ (n_word x) = ρ.word x
row_of ρ (n_unsync x) = cond (ρ.unsync x) 1 0
row_of ρ (n_cov x) = cond (ρ.cov x) 1 0

pub flag : (b : Bool) → eqb (cond b 1 0) 1 ≡ b
flag true = refl
flag false = refl

pub flag_in : (b : Bool) → cond {A = ℕ} b 1 0 < 2
flag_in true = omega arith
flag_in false = omega arith

row_of_meaning : (ρ : Env) → meaning (row_of ρ) ≡ ρ
unfolding row_of
row_of_meaning ρ = λ i. record { reg = ρ.reg; word = ρ.word; unsync = λ x. flag (ρ.unsync x) i; cov = λ x. flag (ρ.cov x) i }

module _ (R : ℕ) where
  pub record Small (ρ : Env) : Type 0 where
    pub reg : (r : ℕ) → ρ.reg r < R
    pub word : (x : ℕ) → ρ.word x < R

  row_in : (ρ : Env) → Small ρ → (n : Name) → row_of ρ n < choices R n
  unfolding row_of
  row_in ρ h (n_reg r) = h.reg r
  row_in ρ h (n_word x) = h.word x
  row_in ρ h (n_unsync x) = flag_in (ρ.unsync x)
  row_in ρ h (n_cov x) = flag_in (ρ.cov x)

  row_test : (μ ν : Name → ℕ) (e : Test) → All (λ n. μ n ≡ ν n) (names e) → test R (meaning μ) e ≡ test R (meaning ν) e
  row_test μ ν e h = test_same R (meaning μ) (meaning ν) e (All-map _ _ (row_same μ ν) (names e) h)

pub imp : (a b : Bool) → T (not a || b) → T a → T b
imp true b h k = h
imp false b h k = absurd k

pub by_rows : (R : ℕ) (e f : Test) → T (entailed_by_rows R e f) → (ρ : Env) → Small R ρ → T (test R ρ e) → T (test R ρ f)
by_rows R e f h ρ small =
    subst (λ (ρ : Env). T (test R ρ e) → T (test R ρ f)) (row_of_meaning ρ)
    (imp (test R (meaning (row_of ρ)) e) (test R (meaning (row_of ρ)) f)
    (row_sound names_equal (choices R) (names e ++ names f) (λ ν. not (test R (meaning ν) e) || test R (meaning ν) f)
    (λ μ ν a. ap₂ (λ a b. not a || b) (row_test R μ ν e (All-left _ (names e) (names f) a))
    (row_test R μ ν f (All-right _ (names e) (names f) a)))
    (and_right (leb (row_count same_name (choices R) (distinct same_name (names e ++ names f))) Limits.rows) _ h) (row_of ρ)
    (row_in R ρ small)))
