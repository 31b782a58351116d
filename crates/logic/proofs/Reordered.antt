-- Lists in another order: what stays; one loop inside the other; lists that have each member once.
use mathlib.Core.Path.{◌≡◌, refl, ap, sym, ◌∙◌, subst}
use mathlib.Core.Bool.{Bool, true, false, ◌&&◌}
use mathlib.Core.List.{List, [], ◌∷◌, ◌++◌, map, append_assoc}
use mathlib.Core.Logic.{◌≢◌}
use Prim.Native.Nat.{ℕ, zero, suc, ◌<◌}
use native.Mathlib.Omega.{arith}
use lib.ListN.{length}
use Rattle.semantics.specs.Base.{All, all, below}
use Rattle.logic.specs.Obligations.{flat}

-- the same members, each as often
pub data Reordered {A : Type 0} : List A → List A → Type 0 where
  same : {l : List A} → Reordered l l
  skip : {a : A} {l m : List A} → Reordered l m → Reordered (a ∷ l) (a ∷ m)
  swap : {a b : A} {l : List A} → Reordered (a ∷ b ∷ l) (b ∷ a ∷ l)
  then_on : {l m n : List A} → Reordered l m → Reordered m n → Reordered l n

module _ {A : Type 0} where
  pub back : {l m : List A} → Reordered l m → Reordered m l
  back same = same
  back (skip p) = skip (back p)
  back swap = swap
  back (then_on p q) = then_on (back q) (back p)

  -- what holds of each member of the one holds of each of the other; as many pass; as many are there
  pub reordered_All : (Q : A → Type 0) (l m : List A) → Reordered l m → All Q l → All Q m
  reordered_All Q l m same h = h
  reordered_All Q l m (skip {l = k} {m = n} p) h = (h.0, reordered_All Q k n p h.1)
  reordered_All Q l m swap h = (h.1.0, (h.0, h.1.1))
  reordered_All Q l m (then_on {m = k} p q) h = reordered_All Q k m q (reordered_All Q l k p h)

  pub reordered_all : (f : A → Bool) (l m : List A) → Reordered l m → all f l ≡ all f m
  reordered_all f l m same = refl
  reordered_all f l m (skip {a = a} {l = k} {m = n} p) = ap (λ (b : Bool). f a && b) (reordered_all f k n p)
  reordered_all f l m (swap {a = a} {b = b} {l = k}) = exchange (f a) (f b) (all f k)
    where
      exchange : (a b c : Bool) → (a && (b && c)) ≡ (b && (a && c))
      exchange true b c = refl
      exchange false true c = refl
      exchange false false c = refl
  reordered_all f l m (then_on {m = k} p q) = reordered_all f l k p ∙ reordered_all f k m q

  pub reordered_length : (l m : List A) → Reordered l m → length l ≡ length m
  reordered_length l m same = refl
  reordered_length l m (skip {l = k} {m = n} p) = ap suc (reordered_length k n p)
  reordered_length l m swap = refl
  reordered_length l m (then_on {m = k} p q) = reordered_length l k p ∙ reordered_length k m q

  pub as_list : {l m : List A} → l ≡ m → Reordered l m
  as_list {l} e = subst (λ (z : List A). Reordered l z) e same

  -- behind a list; before a list; two lists one behind the other
  pub behind : (l : List A) {m n : List A} → Reordered m n → Reordered (l ++ m) (l ++ n)
  behind [] p = p
  behind (a ∷ l) p = skip (behind l p)

  before : {l m : List A} (n : List A) → Reordered l m → Reordered (l ++ n) (m ++ n)
  before n same = same
  before n (skip p) = skip (before n p)
  before n swap = swap
  before n (then_on p q) = then_on (before n p) (before n q)

  first-in : (a : A) (l m : List A) → Reordered (a ∷ (l ++ m)) (l ++ (a ∷ m))
  first-in a [] m = same
  first-in a (b ∷ l) m = then_on swap (skip (first-in a l m))

  past : (l m : List A) → Reordered (l ++ m) (m ++ l)
  past [] m = as_list (sym (append-nil m))
    where
      append-nil : (m : List A) → m ++ [] ≡ m
      append-nil [] = refl
      append-nil (a ∷ m) = ap (λ (z : List A). a ∷ z) (append-nil m)
  past (a ∷ l) m = then_on (skip (past l m)) (first-in a m l)

module _ {A B : Type 0} where
  pub each : (f g : A → List B) → ((a : A) → Reordered (f a) (g a)) → (l : List A) → Reordered (flat f l) (flat g l)
  each f g h [] = same
  each f g h (a ∷ l) = then_on (before (flat f l) (h a)) (behind (g a) (each f g h l))

  abbrev pub nothing : A → List B
  nothing a = []

  pub none : (l : List A) → flat nothing l ≡ []
  none [] = refl
  none (a ∷ l) = none l

  -- each list joined from two, or all the first and then all the second
  apart : (f g : A → List B) (l : List A) → Reordered (flat (λ a. f a ++ g a) l) (flat f l ++ flat g l)
  apart f g [] = same
  apart f g (a ∷ l) =
      then_on (behind (f a ++ g a) (apart f g l))
      (then_on (as_list (append_assoc (f a) (g a) (flat f l ++ flat g l)))
      (then_on (behind (f a) (then_on (as_list (sym (append_assoc (g a) (flat f l) (flat g l))))
      (then_on (before (flat g l) (past (g a) (flat f l))) (as_list (append_assoc (flat f l) (g a) (flat g l))))))
      (as_list (sym (append_assoc (f a) (flat f l) (g a ++ flat g l))))))

-- each member once
abbrev pub Once : {A : Type 0} → List A → Type 0
Once [] = Unit {0}
Once (a ∷ l) = All (λ b. b ≢ a) l × Once l

module _ {A : Type 0} where
  pub reordered_once : (l m : List A) → Reordered l m → Once l → Once m
  reordered_once l m same h = h
  reordered_once l m (skip {a = a} {l = k} {m = n} p) h = (reordered_All (λ b. b ≢ a) k n p h.0, reordered_once k n p h.1)
  reordered_once l m swap h = (((λ e. h.0.0 (sym e)), h.1.0), (h.0.1, h.1.1))
  reordered_once l m (then_on {m = k} p q) h = reordered_once k m q (reordered_once l k p h)

  pub All-join : (Q : A → Type 0) (l m : List A) → All Q l → All Q m → All Q (l ++ m)
  All-join Q [] m h g = g
  All-join Q (a ∷ l) m h g = (h.0, All-join Q l m h.1 g)

  once_join : (l m : List A) → Once l → Once m → All (λ a. All (λ b. b ≢ a) m) l → Once (l ++ m)
  once_join [] m h g d = g
  once_join (a ∷ l) m h g d = (All-join (λ b. b ≢ a) l m h.0 d.0, once_join l m h.1 g d.1)

  pub All-of : (Q R : A → Type 0) → ((a : A) → Q a → R a) → (l : List A) → All Q l → All R l
  All-of Q R f [] h = tt
  All-of Q R f (a ∷ l) h = (f a h.0, All-of Q R f l h.1)

module _ {A B : Type 0} where
  pub flat_every : (Q : B → Type 0) (f : A → List B) → ((a : A) → All Q (f a)) → (l : List A) → All Q (flat f l)
  flat_every Q f h [] = tt
  flat_every Q f h (a ∷ l) = All-join Q (f a) (flat f l) (h a) (flat_every Q f h l)

  -- lists for different members are apart where each member tells whose list it is in
  module _ (whose : B → A) (f : A → List B) (told : (a : A) → All (λ b. whose b ≡ a) (f a)) where
    others : (a : A) (l : List A) → All (λ c. c ≢ a) l → All (λ b. whose b ≢ a) (flat f l)
    others a [] h = tt
    others a (c ∷ l) h = All-join _ (f c) (flat f l) (All-of _ _ (λ b e z. h.0 (sym e ∙ z)) (f c) (told c)) (others a l h.1)

    pub flat_once : ((a : A) → Once (f a)) → (l : List A) → Once l → Once (flat f l)
    flat_once g [] h = tt
    flat_once g (a ∷ l) h =
        once_join (f a) (flat f l) (g a) (flat_once g l h.1)
        (All-of _ _ (λ b e. All-of _ _ (λ c z y. z (ap whose y ∙ e)) (flat f l) (others a l h.0)) (f a) (told a))

below_less : (n : ℕ) → All (λ k. k < n) (below n)
below_less zero = tt
below_less (suc n) = All-join _ (below n) (n ∷ []) (All-of _ _ (λ k h. omega arith) (below n) (below_less n)) (omega arith, tt)

pub below_once : (n : ℕ) → Once (below n)
below_once zero = tt
below_once (suc n) =
    once_join (below n) (n ∷ []) (below_once n) (tt, tt) (All-of _ _ (λ k h. ((λ e. omega arith), tt)) (below n) (below_less n))

pub up_once : (l : List ℕ) → Once l → Once (map suc l)
up_once [] h = tt
up_once (k ∷ l) h = (go l h.0, up_once l h.1)
  where
    go : (l : List ℕ) → All (λ j. j ≢ k) l → All (λ j. j ≢ suc k) (map suc l)
    go [] g = tt
    go (j ∷ l) g = ((λ e. g.0 (omega arith)), go l g.1)

-- one loop inside the other, or the other inside the one
pub turned : {A B C : Type 0} (f : A → B → List C) (l : List A) (m : List B)
    → Reordered (flat (λ a. flat (λ b. f a b) m) l) (flat (λ b. flat (λ a. f a b) l) m)
turned f [] m = as_list (sym (none m))
turned f (a ∷ l) m = then_on (behind (flat (λ b. f a b) m) (turned f l m)) (back (apart (λ b. f a b) (λ b. flat (λ a. f a b) l) m))
