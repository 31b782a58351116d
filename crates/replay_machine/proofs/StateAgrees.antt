-- What the code finds of a state is what the logic finds: positions that may be picked, values read, registers set.
use Prim.Native.Nat.{ℕ, zero, suc, ◌-◌, ◌≤◌, ◌<◌}
use mathlib.Core.Path.{◌≡◌, refl, ap, sym, ◌∙◌}
use mathlib.Core.Bool.{Bool, true, false, cond, not, ◌&&◌}
use mathlib.Core.Logic.{◌≢◌}
use native.Mathlib.Omega.{arith}
use native.Mathlib.Numerals.{sub-one}
use lib.Dec.{ltb, leb}
use lib.ListN.{set, length-set}
use lib.Seq.{get_or-set_same, get_or-set_other}
use borrow.Author.Tests.{le-ltb, ne_eqb, ltb-true}
use Rattle.semantics.specs.Base.{upd}
use Rattle.semantics.specs.Machine as Logic
use Rattle.semantics.specs.Machine.{State}
use Rattle.semantics.proofs.Base.{upd_same, upd_other, by_word}
use Rattle.limits.specs.Numbers.{nth}
use Rattle.replay_memory.specs.Memory.{write_at, size_at, view_of, seen_by}
use Rattle.replay_memory.specs.MemoryStands.{Stands}
use Rattle.replay_memory.specs.declared.memory.Memory.{Memory}
use Rattle.replay_memory.proofs.SameAsLogic.{position_same}
use Rattle.replay_machine.specs.Shared.{reachable_by, reachable, uncovered}
use Rattle.replay_machine.specs.Locals.{with_register}
use Rattle.replay_machine.specs.RegistersStand.{SameRegs}
use Rattle.replay_machine.specs.declared.locals.Registers.{Registers}

-- numbers that count from 1 and from 0
pub from_zero : (n : ℕ) (Q : ℕ → ℕ → Type 0) → ((k : ℕ) → k < n → Q k (suc k)) → (x : ℕ) → 1 ≤ x → x ≤ n → Q (x - 1) x
from_zero n Q f zero a b = absurd (omega arith)
from_zero n Q f (suc k) a b = rw (sub-one (suc k)) (f k (omega arith))

-- the registers with one set
pub regs_set : (h : Registers) (g : ℕ → ℕ) → SameRegs h g → (r v : ℕ) → 1 ≤ r → r ≤ 16 → SameRegs (with_register h r v) (upd g r v)
unfolding with_register nth
regs_set h g e r v a b =
    let n : r ≡ 0 → ⊥ = λ z. omega arith in
    rw (ne_eqb r 0 n, le-ltb 16 r b) (record { sixteen = length-set h.at (r - 1) v ∙ e.sixteen; same = by_word r _ here other })
  where
    here : nth (set h.at (r - 1) v) r 0 ≡ upd g r v r
    here = from_zero 16 (λ (k x : ℕ). nth (set h.at k v) x 0 ≡ upd g x v x)
        (λ k i. get_or-set_same h.at k v 0 (omega (arith, e.sixteen)) ∙ sym (upd_same g (suc k) v)) r a b

    other : (q : ℕ) → q ≢ r → nth (set h.at (r - 1) v) q 0 ≡ upd g r v q
    other zero n = e.same 0 ∙ sym (upd_other g r v 0 n)
    other (suc q) n =
        let d : q ≢ r - 1 = λ (z : q ≡ r - 1). n (omega arith) in
        get_or-set_other h.at (r - 1) q v 0 d ∙ e.same (suc q) ∙ sym (upd_other g r v (suc q) n)

module _ (m : Memory) (s : State) (st : Stands m s) (t k p : ℕ) (ht : t < 4) (hk : k < 8) where
  pub reach_same : reachable m t k p ≡ Logic.reachable s (suc t) (suc k) p
  unfolding reachable reachable_by seen_by size_at view_of
  reach_same = rw (st.size k hk, position_same (view_of m t) (s.view (suc t)) (st.views t ht) k hk) (go (ltb p (s.size (suc k))))
    where
      go : (b : Bool) → cond b (leb (s.view (suc t) (suc k)) p) false ≡ (b && leb (s.view (suc t) (suc k)) p)
      go true = refl
      go false = refl

  pub uncovered_same : uncovered m t k p ≡ (Logic.reachable s (suc t) (suc k) p && not (s.row (suc k) p).covered)
  unfolding uncovered
  uncovered_same = rw reach_same (go (ltb p (s.size (suc k))) refl (leb (s.view (suc t) (suc k)) p))
    where
      go : (b : Bool) → ltb p (s.size (suc k)) ≡ b → (c : Bool)
          → cond (b && c) (not (write_at m k p).covered) false ≡ ((b && c) && not (s.row (suc k) p).covered)
      go true e true = ap not (st.writes k p hk (ltb-true p (s.size (suc k)) e)).covered
      go true e false = refl
      go false e c = refl

  pub value_same : p < s.size (suc k) → (write_at m k p).value ≡ (s.row (suc k) p).value
  value_same h = (st.writes k p hk h).value
