-- Formulas go by their names alone: meanings that agree on a formula's names give it one truth.
use mathlib.Core.Path.{◌≡◌, refl, ap, ap₂, sym, ◌∙◌, subst}
use mathlib.Core.Bool.{Bool, true, not, ◌&&◌, ◌||◌}
use mathlib.Core.List.{List, [], ◌∷◌, map}
use mathlib.Core.Logic.{inl, inr}
use Prim.Native.Nat.{ℕ, zero, suc}
use lib.Dec.{T, eqb, ltb}
use lib.ListN.{take, drop}
use Rattle.semantics.proofs.Base.{and_left, and_right, all_All, All-left, All-right, all_left, all_right}
use Rattle.semantics.proofs.Cuts.{All-take, All-drop, All-map}
use Rattle.semantics.specs.Base.{All, all}
use Rattle.semantics.specs.Eval.{Env, on_regs, value, test}
use Rattle.semantics.specs.Formula.{Formula, Value, Test, Interval, Assertion, Formula.const, Formula.reg, Formula.word, Formula.sum, Formula.equal, Formula.less, Formula.and, Formula.or, Formula.unsync, Formula.cov, Formula.box, Formula.one, Formula.chop, Formula.both, Formula.either, Formula.sees, Formula.both_a, Formula.either_a, Formula.start, Formula.holds}
use Rattle.semantics.specs.Machine.{View, State, Program}
use Rattle.semantics.specs.Names.{Name, n_reg, n_word, n_unsync, n_cov, names, only, startless}
use Rattle.semantics.specs.Truth.{Sat, Sees, True}
use Rattle.semantics.proofs.World.{World, world, Seen, Truth, true_world, world_true}

-- the name stands for the same
abbrev pub Same : Env → Env → Name → Type 0
Same ρ σ (n_reg r) = ρ.reg r ≡ σ.reg r
Same ρ σ (n_word x) = ρ.word x ≡ σ.word x
Same ρ σ (n_unsync x) = ρ.unsync x ≡ σ.unsync x
Same ρ σ (n_cov x) = ρ.cov x ≡ σ.cov x

pub same_trans : (ρ σ τ : Env) (n : Name) → Same ρ σ n → Same σ τ n → Same ρ τ n
same_trans ρ σ τ (n_reg r) p q = p ∙ q
same_trans ρ σ τ (n_word x) p q = p ∙ q
same_trans ρ σ τ (n_unsync x) p q = p ∙ q
same_trans ρ σ τ (n_cov x) p q = p ∙ q

module _ (R : ℕ) (ρ σ : Env) where
  pub value_same : (a : Value) → All (Same ρ σ) (names a) → value R ρ a ≡ value R σ a
  value_same (const n) h = refl
  value_same (reg r) h = h.0
  value_same (word y) h = h.0
  value_same (sum a b) h = rw (value_same a (search All-left), value_same b (search All-right))

  pub test_same : (e : Test) → All (Same ρ σ) (names e) → test R ρ e ≡ test R σ e
  test_same Formula.false h = refl
  test_same (equal a b) h = ap₂ eqb (value_same a (search All-left)) (value_same b (search All-right))
  test_same (less a b) h = ap₂ ltb (value_same a (search All-left)) (value_same b (search All-right))
  test_same (Formula.not e) h = ap not (test_same e h)
  test_same (and e f) h = ap₂ ◌&&◌ (test_same e (search All-left)) (test_same f (search All-right))
  test_same (or e f) h = ap₂ ◌||◌ (test_same e (search All-left)) (test_same f (search All-right))
  test_same (unsync y) h = h.0
  test_same (cov y) h = h.0

-- two meanings agree on the names that pass
pub record Agree (ok : Name → Bool) (ρ σ : Env) : Type 0 where
  pub same : (n : Name) → T (ok n) → Same ρ σ n

pub agree_refl : {ok : Name → Bool} {ρ : Env} → Agree ok ρ ρ
agree_refl {ok} {ρ} = record { same = λ n h. go n }
  where
    go : (n : Name) → Same ρ ρ n
    go (n_reg r) = refl
    go (n_word y) = refl
    go (n_unsync y) = refl
    go (n_cov y) = refl

module _ {ok : Name → Bool} {ρ σ : Env} (R : ℕ) (ag : Agree ok ρ σ) where
  every : (l : List Name) → T (all ok l) → All (Same ρ σ) l
  every l h = All-map _ _ (λ n. ag.same n) l (all_All ok l h)

  pub value_agree : (a : Value) → T (only ok a) → value R ρ a ≡ value R σ a
  value_agree a h = value_same R ρ σ a (every (names a) h)

  pub test_agree : (e : Test) → T (only ok e) → test R ρ e ≡ test R σ e
  test_agree e h = test_same R ρ σ e (every (names e) h)

-- all of the mapped list: all of the list
pub All-back : (F P Q : View → Type 0) (g : View → View) → ((v : View) → F v → P (g v) → Q v) → (l : List View) → All F l
    → All P (map g l) → All Q l
All-back F P Q g f [] k h = tt
All-back F P Q g f (v ∷ l) k h = (f v k.0 h.0, All-back F P Q g f l k.1 h.1)

pub take_map : (g : View → View) (k : ℕ) (l : List View) → take k (map g l) ≡ map g (take k l)
take_map g zero l = refl
take_map g (suc k) [] = refl
take_map g (suc k) (v ∷ l) = ap (λ (r : List View). g v ∷ r) (take_map g k l)

pub drop_map : (g : View → View) (k : ℕ) (l : List View) → drop k (map g l) ≡ map g (drop k l)
drop_map g zero l = refl
drop_map g (suc k) [] = refl
drop_map g (suc k) (v ∷ l) = drop_map g k l

-- a view v in the one meaning is as g v in the other, for the names that pass
pub record Fits (ok : Name → Bool) (ρ σ : View → Env) (g : View → View) (v : View) : Type 0 where
  pub agree : Agree ok (ρ (g v)) (σ v)
  pub still : (y : ℕ) → T (ok (n_word y)) → g v y ≡ v y

-- the one fact for intervals: from the mapped list to the list
module _ (R : ℕ) (ok : Name → Bool) (ρ σ : View → Env) (g : View → View) where
  pub transport : (i : Interval) → T (only ok i) → (l : List View) → All (Fits ok ρ σ g) l → Sat R ρ i (map g l) → Sat R σ i l
  transport (box e) c l f h = All-back _ _ _ g (λ v k q. subst T (test_agree R k.agree e c) q) l f h
  transport (one y) c l f h = (h.0, All-back _ _ _ g (λ v k q. sym (k.still y (search and_left)) ∙ q) l f h.1)
  transport (chop i j) c l f h = (
    h.0,
    transport i (search all_left) (take h.0 l) (All-take _ h.0 l f) (rw take_map at h.1),
    transport j (search all_right) (drop h.0 l) (All-drop _ h.0 l f) (rw drop_map at h.2),
  )
  transport (both i j) c l f h = (transport i (search all_left) l f h.0, transport j (search all_right) l f h.1)
  transport (either i j) c l f (inl h) = inl (transport i (search all_left) l f h)
  transport (either i j) c l f (inr h) = inr (transport j (search all_right) l f h)

map_same : (l : List View) → map (λ v. v) l ≡ l
map_same [] = refl
map_same (v ∷ l) = ap (λ (r : List View). v ∷ r) (map_same l)

pub All-every : (P : View → Type 0) → ((v : View) → P v) → (l : List View) → All P l
All-every P f [] = tt
All-every P f (v ∷ l) = (f v, All-every P f l)

-- the same list
pub sat_agree : (R : ℕ) (ok : Name → Bool) (ρ σ : View → Env) → ((v : View) → Agree ok (ρ v) (σ v)) → (i : Interval) → T (only ok i)
    → (l : List View) → Sat R ρ i l → Sat R σ i l
sat_agree R ok ρ σ ag i c l h =
    transport R ok ρ σ (λ v. v) i c l (All-every _ (λ v. record { agree = ag v; still = λ y q. refl }) l)
    (subst (λ (z : List View). Sat R ρ i z) (sym (map_same l)) h)

-- from what each thread sees, what the assertions say
module _ (P : Program) (ok : Name → Bool) (w w' : World) (f : (u : ℕ) (i : Interval) → T (only ok i) → Seen P w u i → Seen P w' u i)
    (ag : Agree ok w.held w'.held) where
  pub keep_truth : (a : Assertion) → T (startless a) → T (only ok a) → Truth P w a → Truth P w' a
  keep_truth (sees u i) z c h = f u i c h
  keep_truth (both_a a b) z c h = (
    keep_truth a (search and_left) (search all_left) h.0,
    keep_truth b (search and_right) (search all_right) h.1,
  )
  keep_truth (either_a a b) z c (inl h) = inl (keep_truth a (search and_left) (search all_left) h)
  keep_truth (either_a a b) z c (inr h) = inr (keep_truth b (search and_right) (search all_right) h)
  keep_truth start z c h = absurd z
  keep_truth (holds e) z c h = subst T (test_agree P.range ag e c) h

pub keep : (P : Program) (ok : Name → Bool) (s s' : State) → ((u : ℕ) (i : Interval) → T (only ok i) → Sees P s u i → Sees P s' u i)
    → Agree ok (on_regs s.reg) (on_regs s'.reg) → (a : Assertion) → T (startless a) → T (only ok a) → True P s a → True P s' a
keep P ok s s' f ag a z c h = world_true P s' a (keep_truth P ok (world P s) (world P s') f ag a z c (true_world P s a h))

-- every name passes
pub only_any : (l : List Name) → T (all (λ n. true) l)
only_any [] = tt
only_any (n ∷ l) = only_any l
