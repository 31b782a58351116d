-- A step on numbers is refused as the logic refuses it, and what stands for a state stands for the next one.
use Prim.Native.Nat.{ℕ, zero, suc, ◌+◌, ◌-◌, ◌%◌, ◌≤◌, ◌<◌}
use mathlib.Core.Path.{◌≡◌, refl, ap, ap₂, sym, ◌∙◌, subst}
use mathlib.Core.Bool.{Bool, true, false, cond, ◌&&◌}
use mathlib.Core.List.{List}
use native.Mathlib.Omega.{arith}
use native.Mathlib.Nat.{mod-eq_of_lt}
use native.Mathlib.Numerals.{sub-one}
use lib.Dec.{T, eqb, ltb, leb, ltb→lt}
use lib.ListN.{length-set}
use borrow.Author.Tests.{lt-ltb, le-ltb, le-leb, eq-eqb, ne_eqb, ltb-true, ltb-false, eqb-true, leb-true, leb-false}
use Rattle.semantics.specs.Base.{Within, upd}
use Rattle.semantics.specs.Names.{only, is_reg}
use Rattle.semantics.specs.Eval.{test, on_regs}
use Rattle.semantics.specs.Machine.{State, Program, Mode.store, Mode.swap, Mode.exchange, Mode.fetch_add, Access.none, Access.load, Access.write, Instr, Instr.act, Instr.branch, allowed, exec}
use Rattle.logic.specs.WellFormed.{proper}
use Rattle.semantics.proofs.Base.{is_true, upd-case, and_right, upd_same}
use Rattle.semantics.proofs.Invariant.{Wf}
use Rattle.semantics.proofs.Halves.{touch, all_notes, pick}
use Rattle.logic.proofs.Arrived.{pick_moved}
use Rattle.logic.proofs.Steps.{may-pick, exec_halves}
use Rattle.logic.proofs.Sound.{good, finish_wf}
use Rattle.image_frames.specs.Records.{bodies}
use Rattle.image_header.specs.declared.sizes.Sizes.{Sizes}
use Rattle.image_header.specs.declared.instruction.Half.{Half}
use Rattle.image_header.specs.declared.instruction.Instruction.{Instruction}
use Rattle.image_header.specs.Instruction.{ranged}
use Rattle.image_header.specs.Thread.{last_point}
use Rattle.image.specs.Decode.{sizes_of}
use Rattle.image_bodies.specs.RecordPlaces.{thread_body, instruction_of}
use Rattle.image_access.specs.AccessPlaces.{register_first}
use Rattle.image_meaning.specs.Program.{instr, point_count, program_of}
use Rattle.image_meaning.proofs.RecordsChecked.{Checks}
use Rattle.image_meaning.proofs.WellFormedProgram.{made, none_above, body, points_few, well-formed}
use Rattle.image_access.proofs.AccessAgree.{fields_there}
use Rattle.replay_memory.specs.Memory.{first}
use Rattle.replay_memory.specs.MemoryStands.{Stands}
use Rattle.replay_memory.specs.declared.memory.Memory.{Memory}
use Rattle.replay_memory.proofs.SameAsLogic.{set_upd}
use Rattle.replay_memory.proofs.OrderPlaces.{first_none, first_next}
use Rattle.replay_memory.proofs.StandsAfterInsert.{size_is}
use Rattle.replay_machine.specs.Effect.{effect_of}
use Rattle.replay_machine.specs.Shared.{memory_after}
use Rattle.replay_machine.specs.Locals.{point_after}
use Rattle.replay_machine.specs.RegistersStand.{adds}
use Rattle.replay_machine.specs.declared.effect.Effect.{Effect}
use Rattle.replay_machine.specs.declared.locals.Registers.{Registers}
use Rattle.replay_machine.proofs.EffectAgrees.{Made}
use Rattle.replay_machine.proofs.InstructionEffect.{sizes_few, value_of, does_there}
use Rattle.replay_machine.specs.State.{point_of, performed}
use Rattle.replay_machine.specs.Refusal.{total, adding, pick_refusal}
use Rattle.replay_machine.specs.Step.{effect_at, last_of, refused, attempted, stepped}
use Rattle.replay_spec.specs.MachineReplay.{used, refusal}
use Rattle.replay_spec.specs.StateStands.{StandsFor}
use Rattle.replay_machine.specs.declared.state.Machine.{Machine}

-- the deed's operation is the instruction's
pub effect_operation : (i : Instruction) (v g : ℕ) → (effect_of i v g).operation ≡ i.operation
unfolding effect_of
effect_operation i v g = go (register_first i.operation)
  where
    go : (b : Bool)
        → (cond {A = Effect} b
        (record { operation = i.operation; word = i.b - 1; register = i.a; value = v; noted = i.second.a; note = g; target = i.a })
        (record { operation = i.operation; word = i.a - 1; register = i.b; value = v; noted = i.second.a; note = g; target = i.a })).operation ≡ i.operation
    go true = refl
    go false = refl

-- the rows' sizes
pub total_used : (m : Memory) (s : State) → Stands m s → (n : ℕ) → n ≤ 8 → total m n ≡ used s n
unfolding used
total_used m s st zero h = sym (first_none m.sizes)
total_used m s st (suc n) h =
    first_next m.sizes n ∙ ap₂ (λ (a b : ℕ). a + b) (total_used m s st n (omega arith)) (size_is m s st n (omega arith))

-- words that are not there have a write each
used_outer : (s : State) (words n : ℕ) → ((x : ℕ) → words < x → s.size x ≡ 1) → words ≤ n → used s n + words ≡ used s words + n
unfolding used
used_outer s words zero f h = let q : words ≡ 0 = omega arith in rw q
used_outer s words (suc n) f h = go (ltb n words) refl (used_outer s words n f)
  where
    go : (b : Bool) → ltb n words ≡ b → (words ≤ n → used s n + words ≡ used s words + n)
        → used s n + s.size (suc n) + words ≡ used s words + suc n
    go true e g = let q : words ≡ suc n = omega (arith, ltb-true n words e) in rw q
    go false e g = let q : words ≤ n = ltb-false n words e in omega (arith, g q, f (suc n) (omega arith))

-- room for a write, asked either way round
room_either : (a g : Bool) (x room : ℕ)
    → ◌≡◌ {A = ℕ} (cond a (cond g (cond (ltb x room) 0 29) 0) 28) (cond a (cond (g && leb room x) 29 0) 28)
room_either false g x room = refl
room_either true false x room = refl
room_either true true x room = go (leb room x) refl
  where
    go : (b : Bool) → leb room x ≡ b → ◌≡◌ {A = ℕ} (cond (ltb x room) 0 29) (cond b 29 0)
    go true e = let q : room ≤ x = leb-true room x e in rw (le-ltb x room q)
    go false e = let q : x < room = leb-false room x e in rw (lt-ltb x room q)

-- a step moves its own thread's point alone, to one that is there
module _ (P : Program) (s : State) (t p : ℕ) where
  moved : (y v : ℕ) → upd s.point t y v ≡ upd s.point t (upd s.point t y t) v
  moved y v = ap (λ (j : ℕ). upd s.point t j v) (sym (upd_same s.point t y))

  exec_point : (i : Instr) (v : ℕ) → (exec P i t p s).point v ≡ upd s.point t ((exec P i t p s).point t) v
  exec_point (act none ns) v = moved (suc (s.point t)) v
  exec_point (act (load a r x) ns) v = moved (suc (s.point t)) v
  exec_point (act (write (store d) x f) ns) v = moved (suc (s.point t)) v
  exec_point (act (write swap x f) ns) v = moved (suc (s.point t)) v
  exec_point (act (write (exchange r) x f) ns) v = moved (suc (s.point t)) v
  exec_point (act (write (fetch_add r) x f) ns) v = moved (suc (s.point t)) v
  exec_point (branch e a) v = moved (cond (test P.range (on_regs s.reg) e) a (suc (s.point t))) v

  point_in : (n : ℕ) (i : Instr) → T (proper P n i) → suc (s.point t) < n → (exec P i t p s).point t < n
  point_in n (act none ns) ok h = rw (upd_same s.point t (suc (s.point t))) h
  point_in n (act (load a r x) ns) ok h = rw (upd_same s.point t (suc (s.point t))) h
  point_in n (act (write (store d) x f) ns) ok h = rw (upd_same s.point t (suc (s.point t))) h
  point_in n (act (write swap x f) ns) ok h = rw (upd_same s.point t (suc (s.point t))) h
  point_in n (act (write (exchange r) x f) ns) ok h = rw (upd_same s.point t (suc (s.point t))) h
  point_in n (act (write (fetch_add r) x f) ns) ok h = rw (upd_same s.point t (suc (s.point t))) h
  point_in n (branch e a) ok h =
      rw (upd_same s.point t (cond (test P.range (on_regs s.reg) e) a (suc (s.point t))))
      (go (test P.range (on_regs s.reg) e))
    where
      go : (b : Bool) → cond b a (suc (s.point t)) < n
      go true = ltb→lt a n (and_right (only is_reg e) (ltb a n) ok)
      go false = h

module _ (b : List ℕ) (z : Sizes) (c : Checks z (bodies b)) where
  abbrev l : List (List ℕ)
  l = bodies b

  abbrev P : Program
  P = program_of z l

  pub range_is : z.range ≡ P.range
  unfolding sizes_of
  range_is = ap (λ (y : Sizes). y.range) c.sizes

  -- which operations add a write
  adding_is : (last op a d f : ℕ) (n : Half) → ranged last z (made op a d f n) ≡ true → adding op ≡ adds (instr l (made op a d f n))
  unfolding adding instr
  adding_is last zero a d f n e = refl
  adding_is last (suc zero) a d f n e = refl
  adding_is last (suc (suc zero)) a d f n e = refl
  adding_is last (suc (suc (suc zero))) a d f n e = refl
  adding_is last (suc (suc (suc (suc zero)))) a d f n e = refl
  adding_is last (suc (suc (suc (suc (suc zero))))) a d f n e = refl
  adding_is last (suc (suc (suc (suc (suc (suc zero)))))) a d f n e = refl
  adding_is last (suc (suc (suc (suc (suc (suc (suc zero))))))) a d f n e = refl
  adding_is last (suc (suc (suc (suc (suc (suc (suc (suc zero)))))))) a d f n e = refl
  adding_is last (suc (suc (suc (suc (suc (suc (suc (suc (suc zero))))))))) a d f n e = refl
  adding_is last (suc (suc (suc (suc (suc (suc (suc (suc (suc (suc zero)))))))))) a d f n e = refl
  adding_is last (suc (suc (suc (suc (suc (suc (suc (suc (suc (suc (suc zero))))))))))) a d f n e = refl
  adding_is last (suc (suc (suc (suc (suc (suc (suc (suc (suc (suc (suc (suc zero)))))))))))) a d f n e = refl
  adding_is last (suc (suc (suc (suc (suc (suc (suc (suc (suc (suc (suc (suc (suc op))))))))))))) a d f n e =
      absurd (none_above z l c last (made (suc (suc (suc (suc (suc (suc (suc (suc (suc (suc (suc (suc (suc op))))))))))))) a d f n)
      (omega arith) e)

  -- a step keeps the invariant
  exec_wf : (s : State) → Wf P s → (t p : ℕ) (i : Instr) → T (proper P (P.points t) i) → T (allowed i t p s) → Wf P (exec P i t p s)
  exec_wf s wf t p (act A ns) ok may =
      let k = pick_moved wf t p (touch A) (may-pick A ns t p s may) in
      subst (Wf P) (exec_halves P t p s wf ns (P.points t) A ok may)
      (finish_wf P t (touch A) (all_notes A ns) (good P (P.points t) A ns ok) (pick (touch A) t p s) k.wf p k.arrived)
  exec_wf s wf t p (branch e a) ok may =
      record {
        outer = wf.outer;
        view_in = wf.view_in;
        stored_in = wf.stored_in;
        own = wf.own;
        small = wf.small;
        reg_small = wf.reg_small;
      }

  -- what a run keeps
  pub record Ready (s : State) (n : Machine) : Type 0 where
    pub wf : Wf P s
    pub points : (t : ℕ) → Within P.threads t → s.point t < P.points t
    pub stands : StandsFor n s

  module _ (room : ℕ) (s : State) (n : Machine) (r : Ready s n) (u p : ℕ) (w : Within P.threads (suc u)) where
    abbrev m : Memory
    m = n.memory

    abbrev h : Registers
    h = n.registers

    abbrev k : ℕ
    k = s.point (suc u)

    abbrev i : Instruction
    i = instruction_of z l (suc u) k

    abbrev effect : Effect
    effect = effect_of i (value_of b z c h i.formula) (value_of b z c h i.second.formula)

    u_small : u < 4
    u_small = omega (arith, w.1, (sizes_few z l c).0)

    point_is : point_of n u ≡ k
    unfolding point_of
    point_is = rw (mod-eq_of_lt u_small) (r.stands.points u u_small)

    effect_is : effect_at b z h (suc u) (point_of n u) ≡ effect
    unfolding effect_at
    effect_is = rw (point_is, range_is)

    -- the thread is not at its last point
    last-is : ltb (point_of n u) (last_of b z (suc u)) ≡ ltb (suc k) (P.points (suc u))
    unfolding last_of point_count
    last-is = rw point_is (go (ltb k (last_point (thread_body z l (suc u)))) refl)
      where
        go : (a : Bool) → ltb k (last_point (thread_body z l (suc u))) ≡ a → a ≡ ltb (suc k) (last_point (thread_body z l (suc u)) + 1)
        go true e =
            let q = ltb-true k (last_point (thread_body z l (suc u))) e in
            let g : suc k < last_point (thread_body z l (suc u)) + 1 = omega arith in sym (lt-ltb _ _ g)
        go false e =
            let q = ltb-false k (last_point (thread_body z l (suc u))) e in
            let g : last_point (thread_body z l (suc u)) + 1 ≤ suc k = omega arith in sym (le-ltb _ _ g)

    module _ (more : suc k < P.points (suc u)) where
      does : Made z l c (sizes_few z l c).1 (sizes_few z l c).2 s r.wf m r.stands.memory h r.stands.registers u p u_small effect
          (P.code (suc u) k)
      does = does_there b z c s r.wf h r.stands.registers m r.stands.memory u p u_small w more

      adding_there : adding effect.operation ≡ adds (P.code (suc u) k)
      adding_there =
          ap adding (effect_operation i (value_of b z c h i.formula) (value_of b z c h i.second.formula))
          ∙ adding_is (last_point (body z l c (suc u) w.0 w.1)) i.operation i.a i.b i.formula i.second
          (fields_there b z c (suc u) k w more).0

      pick_is : pick_refusal m z.words room effect u p
          ≡ cond (allowed (P.code (suc u) k) (suc u) p s) (cond (adds (P.code (suc u) k) && leb room (used s P.words)) 29 0) 28
      unfolding pick_refusal
      pick_is =
          rw (does.picks, adding_there, total_used m s r.stands.memory z.words (sizes_few z l c).1)
          (room_either (allowed (P.code (suc u) k) (suc u) p s) (adds (P.code (suc u) k)) (used s P.words) room)

      -- the table has room for a write, with one of each word that is not there
      module _ (few : room ≤ 64) (may : T (allowed (P.code (suc u) k) (suc u) p s))
          (some : T (adds (P.code (suc u) k)) → used s P.words < room) where
        roomy : T (adds (P.code (suc u) k)) → first m.sizes 8 < 72
        roomy a =
            let outer : (x : ℕ) → P.words < x → s.size x ≡ 1 = λ x y. r.wf.outer x (λ v. omega (arith, v.1)) in
            omega (arith, total_used m s r.stands.memory 8 (omega arith), used_outer s P.words 8 outer (sizes_few z l c).1, some a)

        abbrev next : State
        next = exec P (P.code (suc u) k) (suc u) p s

        its_proper : T (proper P (P.points (suc u)) (P.code (suc u) k))
        its_proper = (well-formed z l c).instructions (suc u) k w more

        k_small : k < 255
        k_small = omega (arith, points_few z l c (suc u) w.0 w.1)

        performs : StandsFor (performed n z.range effect u p) next
        unfolding performed
        performs = record {
          memory = subst (λ (R : ℕ). Stands (memory_after m R effect u p) next) (sym range_is) (does.memory may roomy);
          registers = does.registers may;
          four = length-set n.points (u % 4) (point_after (point_of n u) effect) ∙ r.stands.four;
          points = λ t x. rw (mod-eq_of_lt u_small)
              (set_upd (λ (a d : ℕ). a ≡ d) n.points 0 s.point 4 u (point_after (point_of n u) effect) (next.point (suc u))
              (omega (arith, r.stands.four, u_small))
              (ap (λ (j : ℕ). point_after j effect) point_is ∙ does.point k_small) r.stands.points t x
              ∙ sym (exec_point P s (suc u) p (P.code (suc u) k) (suc t)));
        }

        pub taken : Ready next (performed n z.range effect u p)
        taken = record {
          wf = exec_wf s r.wf (suc u) p (P.code (suc u) k) its_proper may;
          points = λ t x. subst (λ (j : ℕ). j < P.points t) (sym (exec_point P s (suc u) p (P.code (suc u) k) t)) (there t x);
          stands = performs;
        }
          where
            there : (t : ℕ) → Within P.threads t → upd s.point (suc u) (next.point (suc u)) t < P.points t
            there t x =
                upd-case (λ (j : ℕ). j < P.points t) s.point (suc u) (next.point (suc u)) t
                (λ q. rw q (point_in P s (suc u) p (P.points (suc u)) (P.code (suc u) k) its_proper more)) (λ q. r.points t x)

    refusal_in : refusal P room s (suc u) p
        ≡ cond (ltb (suc k) (P.points (suc u)))
        (cond (allowed (P.code (suc u) k) (suc u) p s) (cond (adds (P.code (suc u) k) && leb room (used s P.words)) 29 0) 28) 27
    unfolding refusal
    refusal_in = rw (le-leb 1 (suc u) w.0, le-leb (suc u) P.threads w.1)

    stepped_in : stepped b z room n (suc u) p ≡ cond (ltb (suc k) (P.points (suc u))) (attempted z room n effect u p) (refused 27 n)
    unfolding stepped
    stepped_in =
        let q : suc u ≡ 0 → ⊥ = omega arith in
        rw (ne_eqb (suc u) 0 q, sub-one (suc u), le-ltb z.threads (suc u) w.1, last-is, effect_is)

    attempted_code : (attempted z room n effect u p).code ≡ pick_refusal m z.words room effect u p
    unfolding attempted
    attempted_code = go (eqb (pick_refusal m z.words room effect u p) 0) refl
      where
        go : (d : Bool) → eqb (pick_refusal m z.words room effect u p) 0 ≡ d
            → (cond d (record { code = 0; machine = performed n z.range effect u p })
            (refused (pick_refusal m z.words room effect u p) n)).code ≡ pick_refusal m z.words room effect u p
        go true e = sym (eqb-true (pick_refusal m z.words room effect u p) 0 e)
        go false e = refl

    attempted_machine : pick_refusal m z.words room effect u p ≡ 0 → (attempted z room n effect u p).machine ≡ performed n z.range effect u p
    unfolding attempted
    attempted_machine e = rw (eq-eqb _ _ e)

    -- what is not refused is allowed, and a write has room
    not_refused : (a g d : Bool) → ◌≡◌ {A = ℕ} (cond a (cond (g && d) 29 0) 28) 0 → (a ≡ true) × (T g → d ≡ false)
    not_refused false g d e = absurd (omega arith)
    not_refused true false d e = (refl, λ x. absurd x)
    not_refused true true false e = (refl, λ x. refl)
    not_refused true true true e = absurd (omega arith)

    pub step_is : room ≤ 64 → ((stepped b z room n (suc u) p).code ≡ refusal P room s (suc u) p)
        × (refusal P room s (suc u) p ≡ 0 → Ready (exec P (P.code (suc u) k) (suc u) p s) (stepped b z room n (suc u) p).machine)
    step_is few = rw (refusal_in, stepped_in) (go (ltb (suc k) (P.points (suc u))) refl)
      where
        a : Bool
        a = allowed (P.code (suc u) k) (suc u) p s

        g : Bool
        g = adds (P.code (suc u) k)

        go : (d : Bool) → ltb (suc k) (P.points (suc u)) ≡ d
            → (◌≡◌ {A = ℕ} (cond d (attempted z room n effect u p) (refused 27 n)).code
            (cond d (cond a (cond (g && leb room (used s P.words)) 29 0) 28) 27))
            × (◌≡◌ {A = ℕ} (cond d (cond a (cond (g && leb room (used s P.words)) 29 0) 28) 27) 0
            → Ready (exec P (P.code (suc u) k) (suc u) p s) (cond d (attempted z room n effect u p) (refused 27 n)).machine)
        go false e = (refl, λ x. absurd (omega arith))
        go true e =
            let more = ltb-true (suc k) (P.points (suc u)) e in (
              attempted_code ∙ pick_is more,
              λ x.
                  let q = not_refused a g (leb room (used s P.words)) x in
                  subst (Ready (exec P (P.code (suc u) k) (suc u) p s)) (sym (attempted_machine (pick_is more ∙ x)))
                  (taken more few (is_true q.0) (λ y. leb-false room (used s P.words) (q.1 y))),
            )
