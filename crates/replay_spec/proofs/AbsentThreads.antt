-- Threads and registers that are not there: a run leaves their points and values as they are.
use mathlib.Core.Path.{◌≡◌, refl, ap, ◌∙◌}
use mathlib.Core.Bool.{Bool, true, false, cond, ◌&&◌}
use mathlib.Core.List.{List, [], ◌∷◌}
use mathlib.Core.Logic.{◌≢◌}
use Prim.Native.Nat.{ℕ, zero, suc, ◌+◌, ◌%◌, ◌≤◌, ◌<◌}
use native.Mathlib.Omega.{arith}
use lib.Dec.{T, eqb, leb, leb→le, ltb→lt}
use lib.ListN.{length, get_or, drop, length-take}
use borrow.Author.Tests.{lt-leb}
use Rattle.semantics.specs.Base.{upd, Within}
use Rattle.semantics.specs.Machine.{State, Program, Step, Mode.store, Mode.swap, Mode.exchange, Mode.fetch_add, Access.none, Access.load, Access.write, Instr, Instr.act, Instr.branch, exec, instr_at, permitted, step, run, begin}
use Rattle.semantics.proofs.Base.{is_true, upd_other, and_left, and_right}
use Rattle.limits.specs.Numbers.{nth, within}
use Rattle.image_frames.specs.Records.{bodies}
use Rattle.image_header.specs.declared.sizes.Sizes.{Sizes}
use Rattle.image_header.specs.declared.instruction.Half.{Half}
use Rattle.image_header.specs.declared.instruction.Instruction.{Instruction}
use Rattle.image_header.specs.Header.{word_count, register_count, marks, cleared}
use Rattle.image_header.specs.Instruction.{twofold, fields_of, ranged}
use Rattle.image_header.specs.Thread.{last_point}
use Rattle.image_bodies.specs.RecordPlaces.{instruction_of}
use Rattle.image.specs.Decode.{sizes_of}
use Rattle.image_meaning.specs.Program.{instr, program_of}
use Rattle.image_meaning.proofs.RecordsChecked.{Checks}
use Rattle.image_meaning.proofs.WellFormedProgram.{made, fields_in, ranged_both, none_above, body}
use Rattle.image_access.proofs.AccessAgree.{fields_there}
use Rattle.replay_machine.proofs.EffectAgrees.{second_register}

-- a step that is not refused
module _ (P : Program) (s : State) (m : Step) where
  pub there : T (permitted P m s) → Within P.threads m.thread × (suc (s.point m.thread) < P.points m.thread)
  there ok = (
    (leb→le 1 m.thread (search (and_left, and_right)), leb→le m.thread P.threads (search (and_left, and_right))),
    ltb→lt (suc (s.point m.thread)) (P.points m.thread) (search (and_left, and_right)),
  )

-- what each step keeps, a run keeps
module _ (P : Program) (Q : State → Type 0)
    (keeps : (s : State) (m : Step) → Within P.threads m.thread → suc (s.point m.thread) < P.points m.thread → Q s
    → Q (exec P (instr_at P s m.thread) m.thread m.position s)) where
  step_keeps : (s : State) (m : Step) → Q s → Q (step P s m)
  step_keeps s m q = go (permitted P m s) refl
    where
      go : (b : Bool) → permitted P m s ≡ b → Q (cond b (exec P (instr_at P s m.thread) m.thread m.position s) s)
      go true e = let h = there P s m (is_true e) in keeps s m h.0 h.1 q
      go false e = q

  pub run_keeps : (l : List Step) (s : State) → Q s → Q (run P s l)
  run_keeps [] s q = q
  run_keeps (m ∷ l) s q = run_keeps l (step P s m) (step_keeps s m q)

-- only the acting thread's point changes
module _ (P : Program) (s : State) (t p v : ℕ) (other : v ≢ t) where
  point_other : (i : Instr) → (exec P i t p s).point v ≡ s.point v
  point_other (act none ns) = upd_other s.point t (suc (s.point t)) v other
  point_other (act (load a r x) ns) = upd_other s.point t (suc (s.point t)) v other
  point_other (act (write (store d) x f) ns) = upd_other s.point t (suc (s.point t)) v other
  point_other (act (write swap x f) ns) = upd_other s.point t (suc (s.point t)) v other
  point_other (act (write (exchange r) x f) ns) = upd_other s.point t (suc (s.point t)) v other
  point_other (act (write (fetch_add r) x f) ns) = upd_other s.point t (suc (s.point t)) v other
  point_other (branch e a) = upd_other s.point t _ v other

pub absent_point : (P : Program) (v : ℕ) → P.threads < v → (l : List Step) (s : State) → s.point v ≡ 0 → (run P s l).point v ≡ 0
absent_point P v h = run_keeps P (λ (s : State). s.point v ≡ 0)
    (λ s m w more q. point_other P s m.thread m.position v (λ (e : v ≡ m.thread). omega (arith, w.1)) (instr_at P s m.thread) ∙ q)

module _ (b : List ℕ) (z : Sizes) (c : Checks z (bodies b)) (r : ℕ) (past : z.registers < r) where
  abbrev l : List (List ℕ)
  l = bodies b

  abbrev P : Program
  P = program_of z l

  module _ (s : State) (t p last : ℕ) where
    abbrev Kept : Instruction → Type 0
    Kept i = ranged last z i ≡ true → (exec P (instr l i) t p s).reg r ≡ s.reg r

    set_other : (g : ℕ → ℕ) (x v : ℕ) → x ≤ z.registers → upd g x v r ≡ g r
    set_other g x v h = upd_other g x v r (λ (e : r ≡ x). omega arith)

    noted : (i : Instruction) → twofold i.operation ≡ true → ranged last z i ≡ true → i.second.a ≤ z.registers
    noted i d e = (second_register z i d (ranged_both last z i e).1).1

    kept : (op a d f : ℕ) (n : Half) → Kept (made op a d f n)
    unfolding fields_of instr twofold
    kept zero a d f n e = let h = fields_in _ _ (ranged_both last z _ e).0 in set_other s.reg a _ h.0.1
    kept (suc zero) a d f n e = let h = fields_in _ _ (ranged_both last z _ e).0 in set_other s.reg a _ h.0.1
    kept (suc (suc zero)) a d f n e = let h = fields_in _ _ (ranged_both last z _ e).0 in set_other s.reg a _ h.0.1
    kept (suc (suc (suc zero))) a d f n e = refl
    kept (suc (suc (suc (suc zero)))) a d f n e = refl
    kept (suc (suc (suc (suc (suc zero))))) a d f n e = refl
    kept (suc (suc (suc (suc (suc (suc zero)))))) a d f n e = refl
    kept (suc (suc (suc (suc (suc (suc (suc zero))))))) a d f n e = let h = fields_in _ _ (ranged_both last z _ e).0 in set_other
        s.reg d _ h.1.1
    kept (suc (suc (suc (suc (suc (suc (suc (suc zero)))))))) a d f n e = let h = fields_in _ _ (ranged_both last z _ e).0 in set_other
        s.reg d _ h.1.1
    kept (suc (suc (suc (suc (suc (suc (suc (suc (suc zero))))))))) a d f n e = set_other s.reg n.a _ (noted (made 9 a d f n) refl e)
    kept (suc (suc (suc (suc (suc (suc (suc (suc (suc (suc zero)))))))))) a d f n e = set_other s.reg n.a _
        (noted (made 10 a d f n) refl e)
    kept (suc (suc (suc (suc (suc (suc (suc (suc (suc (suc (suc zero))))))))))) a d f n e = set_other s.reg n.a _
        (noted (made 11 a d f n) refl e)
    kept (suc (suc (suc (suc (suc (suc (suc (suc (suc (suc (suc (suc zero)))))))))))) a d f n e =
        let h = fields_in _ _ (ranged_both last z _ e).0 in
        set_other _ a _ h.0.1 ∙ set_other s.reg n.a _ (noted (made 12 a d f n) refl e)
    kept (suc (suc (suc (suc (suc (suc (suc (suc (suc (suc (suc (suc (suc op))))))))))))) a d f n e =
        absurd (none_above z l c last (made (suc (suc (suc (suc (suc (suc (suc (suc (suc (suc (suc (suc (suc op))))))))))))) a d f n)
        (omega arith) e)

  step_kept : (s : State) (m : Step) → Within P.threads m.thread → suc (s.point m.thread) < P.points m.thread → s.reg r ≡ 0
      → (exec P (instr_at P s m.thread) m.thread m.position s).reg r ≡ 0
  step_kept s m w more q =
      let i : Instruction = instruction_of z l m.thread (s.point m.thread) in
      kept s m.thread m.position (last_point (body z l c m.thread w.0 w.1)) i.operation i.a i.b i.formula
      i.second
      (fields_there b z c m.thread (s.point m.thread) w more).0 ∙ q

  -- at the start it holds 0, whatever is given
  cleared_past : cleared (get_or l 0 []) r ≡ true
  unfolding cleared within marks sizes_of
  cleared_past =
      let head : List ℕ = get_or l 0 [] in
      let n : z.registers ≡ register_count head = ap (λ (y : Sizes). y.registers) c.sizes in
      let q : length (marks head) < r = omega (
        arith,
        length-take (register_count head)
            (drop (4 + word_count head + register_count head) head),
      ) in
      go (leb 1 r) (leb r (length (marks head))) (lt-leb r (length (marks head)) q)
    where
      go : (x y : Bool) → y ≡ false → cond (x && y) (eqb (nth (marks (get_or l 0 [])) r 0) 1) true ≡ true
      go true y e = rw e
      go false y e = refl

  pub first_register : (given : ℕ → ℕ) → (begin P given).reg r ≡ 0
  first_register given = ap (λ (x : Bool). cond x 0 (given r % P.range)) cleared_past

  pub register_kept : (m : List Step) (s : State) → s.reg r ≡ 0 → (run P s m).reg r ≡ 0
  register_kept m s q = run_keeps P (λ (s : State). s.reg r ≡ 0) step_kept m s q

  pub absent_register : (given : ℕ → ℕ) (m : List Step) → (run P (begin P given) m).reg r ≡ 0
  absent_register given m = register_kept m (begin P given) (first_register given)
