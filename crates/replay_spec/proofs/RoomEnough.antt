-- The writes of the state reached are no more than there is room for.
use mathlib.Core.Path.{◌≡◌, refl, ap, ap₂}
use mathlib.Core.Bool.{Bool, true, false, cond, ◌&&◌}
use mathlib.Core.List.{List, [], ◌∷◌}
use Prim.Native.Nat.{ℕ, zero, suc, ◌+◌, ◌-◌, ◌≤◌, ◌<◌, min}
use native.Mathlib.Omega.{arith}
use lib.Dec.{T, eqb, ltb, leb}
use borrow.Author.Tests.{eqb-true, leb-false}
use Rattle.semantics.specs.Base.{upd, within}
use Rattle.semantics.specs.Machine.{State, Program, Mode.store, Mode.swap, Mode.exchange, Mode.fetch_add, Access.none, Access.load, Access.write, Instr, Instr.act, Instr.branch, allowed, exec, instr_at, begin}
use Rattle.semantics.proofs.Base.{upd-case}
use Rattle.replay_machine.specs.RegistersStand.{adds}
use Rattle.replay_spec.specs.MachineReplay.{used, refusal, ReplayResult, replayed}

-- rows of the same sizes
used_same : (s q : State) (n : ℕ) → ((y : ℕ) → q.size y ≡ s.size y) → used q n ≡ used s n
unfolding used
used_same s q zero e = refl
used_same s q (suc n) e = ap₂ (λ (a b : ℕ). a + b) (used_same s q n e) (e (suc n))

-- one row has one write more, which counts if it is one of the first n
used_more : (s q : State) (x n : ℕ) → ((y : ℕ) → q.size y ≡ upd s.size x (suc (s.size x)) y) → used q n ≤ used s n + min 1 (n + 1 - x)
unfolding used
used_more s q x zero e = omega arith
used_more s q x (suc n) e =
    upd-case (λ (j : ℕ). q.size (suc n) ≡ j → used q n + q.size (suc n) ≤ used s n + s.size (suc n) + min 1 (suc n + 1 - x))
    s.size x (suc (s.size x)) (suc n)
    (λ i d. omega (arith, ap s.size i, used_more s q x n e)) (λ i d. omega (arith, used_more s q x n e)) (e (suc n))

module _ (P : Program) (s : State) (t p n room : ℕ) (before : used s n ≤ room) where
  fits_after : (i : Instr) → (T (adds i) → used s n < room) → used (exec P i t p s) n ≤ room
  fits_after (act none ns) h = omega (arith, used_same s (exec P (act none ns) t p s) n (λ y. refl))
  fits_after (act (load a r x) ns) h = omega (arith, used_same s (exec P (act (load a r x) ns) t p s) n (λ y. refl))
  fits_after (act (write (store d) x f) ns) h = omega
      (arith, used_more s (exec P (act (write (store d) x f) ns) t p s) x n (λ y. refl), h tt)
  fits_after (act (write swap x f) ns) h = omega (arith, used_more s (exec P (act (write swap x f) ns) t p s) x n (λ y. refl), h tt)
  fits_after (act (write (exchange r) x f) ns) h = omega
      (arith, used_more s (exec P (act (write (exchange r) x f) ns) t p s) x n (λ y. refl), h tt)
  fits_after (act (write (fetch_add r) x f) ns) h = omega
      (arith, used_more s (exec P (act (write (fetch_add r) x f) ns) t p s) x n (λ y. refl), h tt)
  fits_after (branch e a) h = omega (arith, used_same s (exec P (branch e a) t p s) n (λ y. refl))

-- a step that is taken and adds a write has room for it
room_left : (P : Program) (room : ℕ) (s : State) (t p : ℕ) → refusal P room s t p ≡ 0 → T (adds (instr_at P s t)) → used s P.words < room
unfolding refusal
room_left P room s t p e a =
    leb-false room (used s P.words)
    (go (within P.threads t && ltb (suc (s.point t)) (P.points t)) (allowed (instr_at P s t) t p s) (adds (instr_at P s t))
    (leb room (used s P.words)) e a)
  where
    go : (x y g d : Bool) → ◌≡◌ {A = ℕ} (cond x (cond y (cond (g && d) 29 0) 28) 27) 0 → T g → d ≡ false
    go false y g d q h = absurd (omega arith)
    go true false g d q h = absurd (omega arith)
    go true true false d q h = absurd h
    go true true true true q h = absurd (omega arith)
    go true true true false q h = refl

pub fits : (P : Program) (room : ℕ) (s : State) (k : ℕ) (l : List ℕ) → used s P.words ≤ room
    → used (replayed P room s k l).state P.words ≤ room
unfolding replayed
fits P room s k [] h = h
fits P room s k (t ∷ []) h = h
fits P room s k (t ∷ p ∷ l) h = go (eqb (refusal P room s t p) 0) refl (fits P room (exec P (instr_at P s t) t p s) (k + 1) l)
  where
    go : (b : Bool) → eqb (refusal P room s t p) 0 ≡ b
        → (used (exec P (instr_at P s t) t p s) P.words ≤ room
        → used (replayed P room (exec P (instr_at P s t) t p s) (k + 1) l).state P.words ≤ room)
        → used
        (elim b as (λ x. ReplayResult) [
          | true ↦ replayed P room (exec P (instr_at P s t) t p s)
              (k + 1) l
          | false ↦ record { code = refusal P room s t p; steps = k; state = s }
        ]).state
        P.words ≤ room
    go true e f = f (fits_after P s t p P.words room h (instr_at P s t) (room_left P room s t p (eqb-true (refusal P room s t p) 0 e)))
    go false e f = h

-- the start writes, one for each word
pub used_first : (P : Program) (given : ℕ → ℕ) (n : ℕ) → used (begin P given) n ≡ n
unfolding used
used_first P given zero = refl
used_first P given (suc n) = omega (arith, used_first P given n)
