-- States whose views name writes that are there, whose writes' stored views name the write itself, and whose values are below the range.
use mathlib.Core.Path.{◌≡◌}
use mathlib.Core.Bool.{Bool, true, false}
use Prim.Native.Nat.{ℕ, ◌<◌}
use native.Mathlib.Omega.{arith}
use Rattle.semantics.proofs.Base.{by_word, upds}
use Rattle.semantics.proofs.Halves.{cover_if}
use Rattle.semantics.specs.Base.{Within}
use Rattle.semantics.specs.Machine.{State, View, Program, Start, with_view}

pub record Wf (P : Program) (s : State) : Type 0 where
  -- a word that is not there has its first write alone
  pub outer : (y : ℕ) → (Within P.words y → ⊥) → s.size y ≡ 1
  pub view_in : (t x : ℕ) → s.view t x < s.size x
  pub stored_in : (x i y : ℕ) → i < s.size x → (s.row x i).stored y < s.size y
  pub own : (x i : ℕ) → i < s.size x → (s.row x i).stored x ≡ i
  pub small : (x i : ℕ) → i < s.size x → (s.row x i).value < P.range
  pub reg_small : (r : ℕ) → s.reg r < P.range

pub start_wf : {P : Program} {s : State} → ((x : ℕ) → P.init x < P.range) → Start P s → Wf P s
start_wf {P} {s} h st = record {
  outer = λ y k. st.one_write y;
  view_in = λ t x. omega (arith, st.views t x, st.one_write x);
  stored_in = λ x i y k. let e : i ≡ 0 = omega (arith, st.one_write x) in rw e (omega (arith, st.stored_views x y, st.one_write y));
  own = λ x i k. let e : i ≡ 0 = omega (arith, st.one_write x) in rw e (st.stored_views x x);
  small = λ x i k. let e : i ≡ 0 = omega (arith, st.one_write x) in rw e (omega (arith, st.given_value x, h x));
  reg_small = λ r. omega (arith, st.values r);
}

module _ {P : Program} {s : State} (wf : Wf P s) where
  -- with another view for a thread
  pub view_wf : (t : ℕ) (w : View) → ((y : ℕ) → w y < s.size y) → Wf P (with_view s t w)
  view_wf t w h = record {
    outer = wf.outer;
    view_in = by_word t _ (λ y. simp upds (h y)) (λ u q y. simp upds (wf.view_in u y));
    stored_in = wf.stored_in;
    own = wf.own;
    small = wf.small;
    reg_small = wf.reg_small;
  }

  -- with a write covered
  pub cover_wf : (b : Bool) (x p : ℕ) → p < s.size x → Wf P (cover_if b x p s)
  cover_wf false x p inside = wf
  cover_wf true x p inside = record {
    outer = wf.outer;
    view_in = wf.view_in;
    stored_in = by_word x _ (by_word p _ (λ y k. simp upds (wf.stored_in x p y inside)) (λ i q y k. simp upds (wf.stored_in x i y k)))
        (λ z q i y k. simp upds (wf.stored_in z i y k));
    own = by_word x _ (by_word p _ (λ k. simp upds (wf.own x p inside)) (λ i q k. simp upds (wf.own x i k)))
        (λ z q i k. simp upds (wf.own z i k));
    small = by_word x _ (by_word p _ (λ k. simp upds (wf.small x p inside)) (λ i q k. simp upds (wf.small x i k)))
        (λ z q i k. simp upds (wf.small z i k));
    reg_small = wf.reg_small;
  }
