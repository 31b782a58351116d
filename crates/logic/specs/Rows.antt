-- Valuations (the page's rows): every choice of a value for each key of a list. By rows the keys are names, by truth table leaves.
use Rattle.std.specs.Prelude.{Bool, true, false, cond, not, ◌&&◌, ◌||◌, List, [], ◌∷◌, ◌++◌, ℕ, zero, suc, ◌*◌, eqb, leb}
use Rattle.std.proofs.Math.Decide.{ℕ_discrete}
use Rattle.semantics.specs.Limits
use Rattle.semantics.specs.Formula.{Test}
use Rattle.semantics.specs.Names.{Name, n_reg, n_word, n_unsync, n_cov, Name-discrete, names}
use Rattle.semantics.specs.Eval.{Env, test}

-- every number below n passes the test
abbrev pub all_below : ℕ → (ℕ → Bool) → Bool
all_below zero f = true
all_below (suc n) f = elim (f n) [ true ↦ all_below n f | false ↦ false ]

-- eq: whether two keys are the same
module _ {K : Type 0} (eq : K → K → Bool) where
  -- the row ν with k for the key n
  unfoldable pub choose : (K → ℕ) → K → ℕ → K → ℕ
  choose ν n k m = cond (eq m n) k (ν m)

  -- the key is in the list
  unfoldable pub is_in : K → List K → Bool
  is_in m [] = false
  is_in m (n ∷ l) = eq m n || is_in m l

  -- each key of the list once
  unfoldable pub distinct : List K → List K
  distinct [] = []
  distinct (n ∷ l) = cond (is_in n l) (distinct l) (n ∷ distinct l)

  -- choices: how many values each key has
  module _ (choices : K → ℕ) where
    -- the test is passed at every row over the keys; the other keys are as in ν
    abbrev pub all_rows : List K → ((K → ℕ) → Bool) → (K → ℕ) → Bool
    all_rows [] f ν = f ν
    all_rows (n ∷ l) f ν = all_below (choices n) (λ k. all_rows l f (choose ν n k))

    -- the test is passed at every row over the keys of the list, each taken once
    abbrev pub every_row : List K → ((K → ℕ) → Bool) → Bool
    every_row l f = all_rows (distinct l) f (λ n. 0)

    -- how many rows there are over the keys, if they are distinct
    abbrev pub row_count : List K → ℕ
    row_count [] = 1
    row_count (n ∷ l) = choices n * row_count l

-- two names are the same
unfoldable pub same_name : Name → Name → Bool
same_name m n = elim (Name-discrete ℕ_discrete m n) [ yes q ↦ true | no q ↦ false ]

-- the environment that a row of names stands for: a number for each name; for a flag 1 is true
abbrev pub meaning : (Name → ℕ) → Env
meaning ν = record {
  reg = λ r. ν (n_reg r);
  word = λ x. ν (n_word x);
  unsync = λ x. eqb (ν (n_unsync x)) 1;
  cov = λ x. eqb (ν (n_cov x)) 1;
}

-- "every choice of a value for each name (register or word) and true or false for each unsync or cov"
abbrev pub choices : ℕ → Name → ℕ
choices R (n_reg r) = R
choices R (n_word x) = R
choices R (n_unsync x) = 2
choices R (n_cov x) = 2

-- "wherever the left test is true the right one must be. At most 4,096 rows", over the names of both tests together
abbrev pub entailed_by_rows : ℕ → Test → Test → Bool
entailed_by_rows R e f =
    leb (row_count same_name (choices R) (distinct same_name (names e ++ names f))) Limits.rows
    && every_row same_name (choices R) (names e ++ names f) (λ ν. not (test R (meaning ν) e) || test R (meaning ν) f)
