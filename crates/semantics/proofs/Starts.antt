-- Which states are start states: one for each choice of a value for each register that starts anywhere, and no others.
use mathlib.Core.Path.{◌≡◌, refl, ap, sym, ◌∙◌, subst}
use mathlib.Core.Bool.{Bool, true, false, cond}
use Prim.Native.Nat.{ℕ, ◌%◌, ◌<◌}
use native.Mathlib.Nat.{mod-lt, mod-eq_of_lt}
use lib.Dec.{T}
use Rattle.semantics.specs.Machine.{State, Program, Start, begin}
use Rattle.semantics.proofs.Base.{holds_true}

-- every choice of values is a start
pub begins : (P : Program) → 0 < P.range → (given : ℕ → ℕ) → Start P (begin P given)
begins P pos given = record {
  one_write = λ x. refl;
  given_value = λ x. refl;
  not_releasing = λ x. refl;
  not_covered = λ x. refl;
  stored_views = λ x y. refl;
  views = λ t x. refl;
  registers = λ r c. ap (λ (b : Bool). cond b 0 (given r % P.range)) (holds_true (P.cleared r) c);
  values = λ r. below r (P.cleared r);
  points = λ t. refl;
}
  where
    below : (r : ℕ) (b : Bool) → cond b 0 (given r % P.range) < P.range
    below r true = pos
    below r false = mod-lt (given r) pos

-- two states agree: equal sizes, equal first writes, equal views, registers and points. A row has no meaning behind its last write
pub record SameStart (s t : State) : Type 0 where
  pub sizes : (x : ℕ) → s.size x ≡ t.size x
  pub values : (x : ℕ) → (s.row x 0).value ≡ (t.row x 0).value
  pub releasing : (x : ℕ) → (s.row x 0).releasing ≡ (t.row x 0).releasing
  pub covered : (x : ℕ) → (s.row x 0).covered ≡ (t.row x 0).covered
  pub stored : (x y : ℕ) → (s.row x 0).stored y ≡ (t.row x 0).stored y
  pub views : (u x : ℕ) → s.view u x ≡ t.view u x
  pub registers : (r : ℕ) → s.reg r ≡ t.reg r
  pub points : (u : ℕ) → s.point u ≡ t.point u

-- with the value chosen, where the register starts anywhere
pub chosen : (P : Program) (given : ℕ → ℕ) (r : ℕ) → P.cleared r ≡ false → given r < P.range → (begin P given).reg r ≡ given r
chosen P given r c h = ap (λ (b : Bool). cond b 0 (given r % P.range)) c ∙ mod-eq_of_lt h

-- the registers of every start are such a choice
pub chosen_so : (P : Program) (s : State) → Start P s → (r : ℕ) → (begin P s.reg).reg r ≡ s.reg r
chosen_so P s st r = go (P.cleared r) refl
  where
    go : (b : Bool) → P.cleared r ≡ b → cond b 0 (s.reg r % P.range) ≡ s.reg r
    go true e = sym (st.registers r (subst T (sym e) tt))
    go false e = mod-eq_of_lt (st.values r)

-- so every start is the one that its registers choose
pub start_is_begin : (P : Program) (s : State) → Start P s → SameStart s (begin P s.reg)
start_is_begin P s st = record {
  sizes = st.one_write;
  values = st.given_value;
  releasing = st.not_releasing;
  covered = st.not_covered;
  stored = st.stored_views;
  views = st.views;
  registers = λ r. sym (chosen_so P s st r);
  points = st.points;
}

-- and its registers are below the range, those that are cleared 0
pub start-values : (P : Program) (s : State) → Start P s → (r : ℕ) → s.reg r < P.range
start-values P s st = st.values

pub start_cleared : (P : Program) (s : State) → Start P s → (r : ℕ) → P.cleared r ≡ true → s.reg r ≡ 0
start_cleared P s st r e = st.registers r (subst T (sym e) tt)
