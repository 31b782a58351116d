-- The registers after an instruction, by replacement: rules 1, 2, 3 for them; points.
use mathlib.Core.Path.{◌≡◌, refl, ap, sym, ◌∙◌}
use mathlib.Core.Bool.{Bool, true, not}
use mathlib.Core.List.{List, [], ◌∷◌}
use Prim.Native.Nat.{ℕ, ◌<◌}
use native.Mathlib.Omega.{arith}
use native.Mathlib.Nat.{mod-lt}
use lib.Dec.{T, eqb, ltb→lt}
use Rattle.logic.proofs.Agreement.{Same, Agree, value_agree, test_agree, sat_agree, keep_truth, only_any}
use Rattle.semantics.proofs.Base.{upd_other, upd-case, and_left, and_right, not_eqb}
use Rattle.semantics.proofs.Cuts.{All-map}
use Rattle.semantics.proofs.Halves.{worked_at, with_points, kept}
use Rattle.semantics.proofs.Invariant.{Wf}
use Rattle.logic.proofs.Replacement.{replaced, under}
use Rattle.semantics.specs.Base.{All}
use Rattle.semantics.specs.Eval.{Env, on_regs, value, test, bounded}
use Rattle.semantics.specs.Formula.{Value, Test, Assertion, Formula.const, Formula.reg, Formula.word, Formula.sum}
use Rattle.semantics.specs.Machine.{View, State, Program, at, with_regs}
use Rattle.semantics.specs.Names.{only, regs_in, is_reg, startless, Name, n_reg, n_word, n_unsync, n_cov, names}
use Rattle.semantics.specs.Replace.{Note, noted, notes, replace}
use Rattle.semantics.specs.Truth.{True}
use Rattle.semantics.proofs.World.{Truth, world, true_world, world_true}

-- meanings with the same registers
pub regs_same : {ρ σ : Env} → ρ.reg ≡ σ.reg → Agree is_reg ρ σ
regs_same {ρ} {σ} e = record { same = go }
  where
    go : (n : Name) → T (is_reg n) → Same ρ σ n
    go (n_reg r) h = ap (λ (g : ℕ → ℕ). g r) e
    go (n_word y) h = absurd h
    go (n_unsync y) h = absurd h
    go (n_cov y) h = absurd h

-- what holds of the values that registers are given, and of registers, holds of each register's value
pub noted_all : (Q : Value → Type 0) → ((r : ℕ) → Q (reg r)) → (ns : List Note) → All (λ (n : Note). Q n.by) ns → (r : ℕ)
    → Q (noted ns r)
noted_all Q f [] h r = f r
noted_all Q f (n ∷ ns) h r = upd-case Q (noted ns) n.to n.by r (λ e. h.0) (λ e. noted_all Q f ns h.1 r)

noted_kept : (ns : List Note) (r : ℕ) → T (kept ns r) → noted ns r ≡ reg r
noted_kept [] r h = refl
noted_kept (n ∷ ns) r h =
    upd_other (noted ns) n.to n.by r (not_eqb r n.to (and_left (not (eqb r n.to)) (kept ns r) h))
    ∙ noted_kept ns r (and_right (not (eqb r n.to)) (kept ns r) h)

-- other registers
abbrev with_reg : Env → (ℕ → ℕ) → Env
with_reg ρ g = record { reg = g; word = ρ.word; unsync = ρ.unsync; cov = ρ.cov }

reg_agree : (ok : Name → Bool) (ρ : Env) (g : ℕ → ℕ) → ((r : ℕ) → T (ok (n_reg r)) → ρ.reg r ≡ g r) → Agree ok ρ (with_reg ρ g)
reg_agree ok ρ g e = record { same = go }
  where
    go : (n : Name) → T (ok n) → Same ρ (with_reg ρ g) n
    go (n_reg r) h = e r h
    go (n_word y) h = refl
    go (n_unsync y) h = refl
    go (n_cov y) h = refl

-- registers and points change
module _ (P : Program) (s : State) (g pt : ℕ → ℕ) where
  abbrev after : State
  after = with_points (with_regs s g) pt

  -- from any world with the same views and prospects
  pub regs_true : (ok : Name → Bool) (ρ : View → Env) (held : Env) → ((v : View) → Agree ok (ρ v) (at P after v)) → Agree ok held (on_regs g)
      → (q : Assertion) → T (startless q) → T (only ok q) → Truth P (record { state = s; at = ρ; held = held }) q → True P after q
  regs_true ok ρ held f k q z c h =
      world_true P after q
      (keep_truth P ok (record { state = s; at = ρ; held = held }) (world P after)
      (λ u i d g l pr. sat_agree P.range ok ρ (at P after) f i d l (g l pr)) k q z c h)

  -- 1: registers that pass keep their value
  pub regs_kept : (ok : ℕ → Bool) → ((r : ℕ) → T (ok r) → s.reg r ≡ g r) → (q : Assertion) → T (startless q) → T (only (regs_in ok) q)
      → True P s q → True P after q
  regs_kept ok e q z c h =
      regs_true (regs_in ok) (at P s) (on_regs s.reg) (λ v. reg_agree (regs_in ok) (at P s v) g e)
      (reg_agree (regs_in ok) (on_regs s.reg) g e)
      q z c (true_world P s q h)

module _ (P : Program) (s : State) (t : ℕ) (ns : List Note) where
  abbrev given : ℕ → ℕ
  given r = worked_at P s t (noted ns r)

  pub given_kept : (r : ℕ) → T (kept ns r) → s.reg r ≡ given r
  given_kept r h = sym (ap (worked_at P s t) (noted_kept ns r h))

  -- 2: a formula with the registers replaced, before; the formula, after
  pub given_true : (pt : ℕ → ℕ) → All (λ (n : Note). T (only is_reg n.by)) ns → (q : Assertion) → T (startless q)
      → True P s (replace (notes ns) q)
      → True P (with_points (with_regs s given) pt) q
  given_true pt plain q z h =
      regs_true P s given pt (λ n. true) (λ v. under P.range (notes ns) (at P s v)) (under P.range (notes ns) (on_regs s.reg))
      (λ v. reg_agree (λ n. true) (under P.range (notes ns) (at P s v)) given (λ r k. anywhere (at P s v) refl r))
      (reg_agree (λ n. true) (under P.range (notes ns) (on_regs s.reg)) given (λ r k. anywhere (on_regs s.reg) refl r))
      q z (only_any (names q)) (replaced P (notes ns) q (world P s) (true_world P s (replace (notes ns) q) h))
    where
      anywhere : (ρ : Env) → ρ.reg ≡ s.reg → (r : ℕ) → value P.range ρ (noted ns r) ≡ given r
      anywhere ρ e r = value_agree P.range (regs_same {ρ = ρ} {σ = at P s (s.view t)} e) (noted ns r) (noted_all (λ f. T (only is_reg f)) (λ r. tt) ns plain r)

  -- 3: a test of registers after is the test with the registers replaced, where the thread is
  pub given_test : (e : Test) → T (only is_reg e) → test P.range (at P s (s.view t)) (replace (notes ns) e) ≡ test P.range
      (on_regs given) e
  given_test e c = replaced P (notes ns) e (at P s (s.view t)) ∙ test_agree P.range (regs_same refl) e c

  -- values stay below the range
  pub worked_small : Wf P s → (f : Value) → T (bounded P.range f) → worked_at P s t f < P.range
  worked_small wf (const n) k = ltb→lt n P.range k
  worked_small wf (reg r) k = wf.reg_small r
  worked_small wf (word x) k = wf.small x (s.view t x) (wf.view_in t x)
  worked_small wf (sum a b) k = mod-lt _ (omega (arith, wf.reg_small 0))

  pub given_small : Wf P s → All (λ (n : Note). T (bounded P.range n.by)) ns → (r : ℕ) → given r < P.range
  given_small wf h = noted_all (λ f. worked_at P s t f < P.range) wf.reg_small ns
      (All-map _ _ (λ (n : Note) k. worked_small wf n.by k) ns h)
