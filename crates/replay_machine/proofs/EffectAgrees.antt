-- An instruction whose formulas are worked out does what the logic's instruction does: operation by operation.
use Prim.Native.Nat.{ℕ, zero, suc, ◌+◌, ◌-◌, ◌%◌, ◌≤◌, ◌<◌}
use mathlib.Core.Path.{◌≡◌, refl, ap₂, sym, ◌∙◌, subst}
use mathlib.Core.Bool.{Bool, true, false, cond, not, ◌&&◌}
use mathlib.Core.List.{List}
use native.Mathlib.Omega.{arith}
use native.Mathlib.Numerals.{add-one}
use lib.Dec.{T, eqb, ltb, leb, ltb→lt}
use borrow.Author.Tests.{lt-ltb}
use Rattle.semantics.specs.Base.{upd}
use Rattle.semantics.specs.Formula.{Sort}
use Rattle.semantics.specs.Eval.{test, on_regs}
use Rattle.logic.specs.Opcode as Opcode
use Rattle.semantics.specs.Machine as Logic
use Rattle.semantics.specs.Machine.{State, Program, Instr, Instr.branch, worked, allowed, exec}
use Rattle.semantics.proofs.Base.{upd_same, and_left}
use Rattle.semantics.proofs.Invariant.{Wf}
use Rattle.limits.specs.Numbers.{within}
use Rattle.limits.proofs.PassedTests.{and_true, within_true}
use Rattle.formula.specs.Codes as Codes
use Rattle.image_header.specs.declared.sizes.Sizes.{Sizes}
use Rattle.image_header.specs.declared.instruction.Half.{Half}
use Rattle.image_header.specs.declared.instruction.Instruction.{Instruction}
use Rattle.image_header.specs.Instruction.{twofold, fields_of, half_fits, differ, second_fits, ranged}
use Rattle.image_bodies.specs.ThreadBody.{wanted}
use Rattle.image_meaning.specs.Formulas.{formula}
use Rattle.image_access.specs.AccessPlaces.{register_first}
use Rattle.image_meaning.specs.Program.{instr, program_of}
use Rattle.image_meaning.proofs.RecordsChecked.{Checks}
use Rattle.image_meaning.proofs.WellFormedProgram.{made, fields_in, ranged_both, none_above}
use Rattle.tables_columns.specs.Combine.{sum_of}
use Rattle.tables_columns.proofs.CombineBranches.{sum_modulo}
use Rattle.replay_memory.specs.View.{next}
use Rattle.replay_memory.specs.Memory.{first, write_at}
use Rattle.replay_memory.specs.Access.{loaded, stored, swapped}
use Rattle.replay_memory.specs.MemoryStands.{Stands, Named}
use Rattle.replay_memory.specs.declared.memory.Memory.{Memory}
use Rattle.replay_memory.proofs.StandsAfterAccess.{stands_load, stands_store, stands_swap}
use Rattle.replay_machine.specs.Effect.{effect_of}
use Rattle.replay_machine.specs.Shared.{reachable, uncovered, may_pick, fetch_added, memory_after}
use Rattle.replay_machine.specs.Locals.{with_register, with_both, registers_after, point_after}
use Rattle.replay_machine.specs.RegistersStand.{SameRegs, adds}
use Rattle.replay_machine.specs.declared.effect.Effect.{Effect}
use Rattle.replay_machine.specs.declared.locals.Registers.{Registers}
use Rattle.replay_machine.proofs.StateAgrees.{from_zero, regs_set, reach_same, uncovered_same, value_same}

-- the memory does not speak of registers and points
pub stands_locals : (m : Memory) (s : State) → Stands m s → (g q : ℕ → ℕ)
    → Stands m (record { size = s.size; row = s.row; view = s.view; reg = g; point = q })
stands_locals m s st g q = record {
  rows = st.rows;
  places = st.places;
  threads = st.threads;
  size = st.size;
  few = st.few;
  writes = st.writes;
  views = st.views;
}

-- a second half that there is: its register is there
pub second_register : (z : Sizes) (i : Instruction) → twofold i.operation ≡ true → second_fits z i ≡ true
    → (1 ≤ i.second.a) × (i.second.a ≤ z.registers)
unfolding second_fits half_fits
second_register z i t e =
    let h : Half = i.second in
    let y : Bool = within 0 0 h.b && within 1 z.formulas h.formula in
    let w : Bool = within 1 z.registers h.a && y in
    let g = and_true (within Opcode.assign Opcode.assign h.operation && w) (differ i) (rw t at e) in
    within_true 1 z.registers h.a
    (and_true (within 1 z.registers h.a) y (and_true (within Opcode.assign Opcode.assign h.operation) w g.0).1).0

module _ (z : Sizes) (l : List (List ℕ)) (checks : Checks z l) (few_words : z.words ≤ 8) (few-registers : z.registers ≤ 16) where
  abbrev P : Program
  P = program_of z l

  module _ (s : State) (wf : Wf P s) (m : Memory) (st : Stands m s) (h : Registers) (same : SameRegs h s.reg) (t p : ℕ)
      (ht : t < 4) where
    -- the table has room for one more write
    abbrev Room : Type 0
    Room = first m.sizes 8 < 72

    -- the effect does what the instruction does
    pub record Made (d : Effect) (c : Instr) : Type 0 where
      pub picks : may_pick m d t p ≡ allowed c (suc t) p s
      pub memory : T (allowed c (suc t) p s) → (T (adds c) → Room) → Stands (memory_after m P.range d t p) (exec P c (suc t) p s)
      pub registers : T (allowed c (suc t) p s) → SameRegs (registers_after h (write_at m d.word p).value d) (exec P c (suc t) p s).reg
      pub point : s.point (suc t) < 255 → point_after (s.point (suc t)) d ≡ (exec P c (suc t) p s).point (suc t)

    names : Named s
    names = record { views = wf.view_in; stored = wf.stored_in }

    inside : (x : ℕ) → T (Logic.reachable s (suc t) x p) → p < s.size x
    inside x ok = ltb→lt p (s.size x) (and_left (ltb p (s.size x)) (leb (s.view (suc t) x) p) ok)

    point_next : s.point (suc t) < 255 → next (s.point (suc t)) ≡ upd s.point (suc t) (suc (s.point (suc t))) (suc t)
    unfolding next
    point_next b =
        rw (lt-ltb (s.point (suc t)) 255 b, add-one (s.point (suc t))) (sym (upd_same s.point (suc t) (suc (s.point (suc t)))))

    -- a register set to what the logic sets it to
    set_to : (q : Registers) (g : ℕ → ℕ) → SameRegs q g → (r v w : ℕ) → (1 ≤ r) × (r ≤ z.registers) → v ≡ w
        → SameRegs (with_register q r v) (upd g r w)
    set_to q g k r v w i e =
        subst (λ (u : ℕ). SameRegs (with_register q r v) (upd g r u)) e (regs_set q g k r v i.0 (omega (arith, i.1, few-registers)))

    module _ (x : ℕ) (w : (1 ≤ x) × (x ≤ z.words)) where
      word_in : x ≤ 8
      word_in = omega (arith, w.1, few_words)

      reads : reachable m t (x - 1) p ≡ Logic.reachable s (suc t) x p
      reads = from_zero 8 (λ (k x : ℕ). reachable m t k p ≡ Logic.reachable s (suc t) x p) (λ k hk. reach_same m s st t k p ht hk) x
          w.0 word_in

      covers_not : uncovered m t (x - 1) p ≡ (Logic.reachable s (suc t) x p && not (s.row x p).covered)
      covers_not =
          from_zero 8 (λ (k x : ℕ). uncovered m t k p ≡ (Logic.reachable s (suc t) x p && not (s.row x p).covered))
          (λ k hk. uncovered_same m s st t k p ht hk) x w.0 word_in

      old_value : p < s.size x → (write_at m (x - 1) p).value ≡ (s.row x p).value
      old_value =
          from_zero 8 (λ (k x : ℕ). p < s.size x → (write_at m k p).value ≡ (s.row x p).value) (λ k hk i. value_same m s st t k p ht hk i) x
          w.0 word_in

      after_load : (a : Bool) → p < s.size x → Stands (loaded m a t (x - 1) p) (Logic.with_view s (suc t) (Logic.read_view s a (suc t) x p))
      after_load a =
          from_zero 8 (λ (k x : ℕ). p < s.size x → Stands (loaded m a t k p) (Logic.with_view s (suc t) (Logic.read_view s a (suc t) x p)))
          (λ k hk i. stands_load m s st t k p ht hk i a) x w.0 word_in

      after_store : (b : Bool) (v n : ℕ) → v ≡ n → Room → p < s.size x
          → Stands (stored m b (x - 1) v t p) (Logic.insert b x n (suc t) p (s.view (suc t)) s)
      after_store b v n e room i =
          subst (λ (u : ℕ). Stands (stored m b (x - 1) u t p) (Logic.insert b x n (suc t) p (s.view (suc t)) s)) (sym e) (go i)
        where
          go : p < s.size x → Stands (stored m b (x - 1) n t p) (Logic.insert b x n (suc t) p (s.view (suc t)) s)
          go =
              from_zero 8 (λ (k x : ℕ). p < s.size x → Stands (stored m b k n t p) (Logic.insert b x n (suc t) p (s.view (suc t)) s))
              (λ k hk i. stands_store m s st t k p ht hk i names room b n) x w.0 word_in

      after_swap : (v n : ℕ) → v ≡ n → Room → p < s.size x → Stands (swapped m (x - 1) v t p) (Logic.swapped x n (suc t) p s)
      after_swap v n e room i = subst (λ (u : ℕ). Stands (swapped m (x - 1) u t p) (Logic.swapped x n (suc t) p s)) (sym e) (go i)
        where
          go : p < s.size x → Stands (swapped m (x - 1) n t p) (Logic.swapped x n (suc t) p s)
          go =
              from_zero 8 (λ (k x : ℕ). p < s.size x → Stands (swapped m k n t p) (Logic.swapped x n (suc t) p s))
              (λ k hk i. stands_swap m s st t k p ht hk i names room n) x w.0 word_in

      -- the picked write of a load, of a store or swap
      read_in : T (Logic.reachable s (suc t) x p) → p < s.size x
      read_in ok = inside x ok

      write-in : T (Logic.reachable s (suc t) x p && not (s.row x p).covered) → p < s.size x
      write-in ok = inside x (and_left (Logic.reachable s (suc t) x p) (not (s.row x p).covered) ok)

    module _ (last f : ℕ) (n : Half) (v u : ℕ) where
      -- v and u are the values of the formulas where the operation has them
      abbrev first_is : ℕ → Type 0
      first_is op = wanted op ≡ Codes.value → (1 ≤ f) × (f ≤ z.formulas) → (v ≡ worked P s (formula l Sort.value f)) × (v < P.range)

      abbrev second_is : ℕ → Type 0
      second_is op = twofold op ≡ true → u ≡ worked P s (formula l Sort.value n.formula)

      abbrev test_is : ℕ → Type 0
      test_is op = op ≡ Opcode.branch → eqb v 1 ≡ test P.range (on_regs s.reg) (formula l Sort.test f)

      abbrev Does : ℕ → ℕ → ℕ → Type 0
      Does op a b =
          ranged last z (made op a b f n) ≡ true → first_is op → second_is op → test_is op
          → Made (effect_of (made op a b f n) v u) (instr l (made op a b f n))

      module _ (op a b : ℕ) (e : ranged last z (made op a b f n) ≡ true) where
        abbrev fields : Type 0
        fields = (((fields_of op last z).a.low ≤ a) × (a ≤ (fields_of op last z).a.high)) ×
            (((fields_of op last z).b.low ≤ b) × (b ≤ (fields_of op last z).b.high)) ×
            (((fields_of op last z).formula.low ≤ f) × (f ≤ (fields_of op last z).formula.high))

        in_fields : fields
        in_fields = fields_in (made op a b f n) (fields_of op last z) (ranged_both last z (made op a b f n) e).0

        -- the register of the second half
        noted_in : twofold op ≡ true → (1 ≤ n.a) × (n.a ≤ z.registers)
        noted_in d = second_register z (made op a b f n) d (ranged_both last z (made op a b f n) e).1

      branch_point : (a : ℕ) → eqb v 1 ≡ test P.range (on_regs s.reg) (formula l Sort.test f) → s.point (suc t) < 255
          → cond (eqb v 1) a (next (s.point (suc t)))
          ≡ upd s.point (suc t) (cond (test P.range (on_regs s.reg) (formula l Sort.test f)) a (suc (s.point (suc t)))) (suc t)
      branch_point a e b = rw (e, point_next b, upd_same s.point (suc t) (suc (s.point (suc t)))) (sym (upd_same s.point (suc t) _))

      fetch_sum : (a : ℕ) → (1 ≤ a) × (a ≤ z.words) → (v ≡ worked P s (formula l Sort.value f)) × (v < P.range) → p < s.size a
          → sum_of P.range (write_at m (a - 1) p).value v ≡ ((s.row a p).value + worked P s (formula l Sort.value f)) % P.range
      fetch_sum a w e i =
          ap₂ (sum_of P.range) (old_value a w i) e.0
          ∙ sum_modulo P.range (s.row a p).value (worked P s (formula l Sort.value f)) (wf.small a p i)
          (subst (λ (k : ℕ). k < P.range) e.0 e.1)

      pub does : (op a b : ℕ) → Does op a b
      unfolding fields_of instr effect_of register_first may_pick memory_after fetch_added registers_after with_both point_after twofold wanted
      does zero a b e hv hu hb = let g = in_fields 0 a b e in record {
        picks = refl;
        memory = λ ok room. stands_locals m s st _ _;
        registers = λ ok. set_to h s.reg same a v _ g.0 (hv refl g.2).0;
        point = point_next;
      }
      does (suc zero) a b e hv hu hb = let g = in_fields 1 a b e in record {
        picks = reads b g.1;
        memory = λ ok room. stands_locals _ _ (after_load b g.1 false (read_in b g.1 ok)) _ _;
        registers = λ ok. set_to h s.reg same a _ _ g.0 (old_value b g.1 (read_in b g.1 ok));
        point = point_next;
      }
      does (suc (suc zero)) a b e hv hu hb = let g = in_fields 2 a b e in record {
        picks = reads b g.1;
        memory = λ ok room. stands_locals _ _ (after_load b g.1 true (read_in b g.1 ok)) _ _;
        registers = λ ok. set_to h s.reg same a _ _ g.0 (old_value b g.1 (read_in b g.1 ok));
        point = point_next;
      }
      does (suc (suc (suc zero))) a b e hv hu hb = let g = in_fields 3 a b e in record {
        picks = covers_not a g.0;
        memory = λ ok room. stands_locals _ _ (after_store a g.0 false v _ (hv refl g.2).0 (room tt) (write-in a g.0 ok)) _ _;
        registers = λ ok. same;
        point = point_next;
      }
      does (suc (suc (suc (suc zero)))) a b e hv hu hb = let g = in_fields 4 a b e in record {
        picks = covers_not a g.0;
        memory = λ ok room. stands_locals _ _ (after_store a g.0 true v _ (hv refl g.2).0 (room tt) (write-in a g.0 ok)) _ _;
        registers = λ ok. same;
        point = point_next;
      }
      does (suc (suc (suc (suc (suc zero))))) a b e hv hu hb = let g = in_fields 5 a b e in record {
        picks = covers_not a g.0;
        memory = λ ok room. stands_locals _ _ (after_swap a g.0 _ _ (hv refl g.2).0 (room tt) (write-in a g.0 ok)) _ _;
        registers = λ ok. same;
        point = point_next;
      }
      does (suc (suc (suc (suc (suc (suc zero)))))) a b e hv hu hb = let g = in_fields 6 a b e in record {
        picks = refl;
        memory = λ ok room. stands_locals m s st _ _;
        registers = λ ok. same;
        point = branch_point a (hb refl);
      }
      does (suc (suc (suc (suc (suc (suc (suc zero))))))) a b e hv hu hb = let g = in_fields 7 a b e in record {
        picks = covers_not a g.0;
        memory = λ ok room. stands_locals _ _ (after_swap a g.0 _ _ (hv refl g.2).0 (room tt) (write-in a g.0 ok)) _ _;
        registers = λ ok. set_to h s.reg same b _ _ g.1 (old_value a g.0 (write-in a g.0 ok));
        point = point_next;
      }
      does (suc (suc (suc (suc (suc (suc (suc (suc zero)))))))) a b e hv hu hb = let g = in_fields 8 a b e in record {
        picks = covers_not a g.0;
        memory = λ ok room. stands_locals _ _
            (after_swap a g.0 _ _ (fetch_sum a g.0 (hv refl g.2) (write-in a g.0 ok)) (room tt) (write-in a g.0 ok)) _ _;
        registers = λ ok. set_to h s.reg same b _ _ g.1 (old_value a g.0 (write-in a g.0 ok));
        point = point_next;
      }
      does (suc (suc (suc (suc (suc (suc (suc (suc (suc zero))))))))) a b e hv hu hb = let g = in_fields 9 a b e in record {
        picks = covers_not a g.0;
        memory = λ ok room. stands_locals _ _ (after_store a g.0 false v _ (hv refl g.2).0 (room tt) (write-in a g.0 ok)) _ _;
        registers = λ ok. set_to h s.reg same n.a u _ (noted_in 9 a b e refl) (hu refl);
        point = point_next;
      }
      does (suc (suc (suc (suc (suc (suc (suc (suc (suc (suc zero)))))))))) a b e hv hu hb = let g = in_fields 10 a b e in record {
        picks = covers_not a g.0;
        memory = λ ok room. stands_locals _ _ (after_store a g.0 true v _ (hv refl g.2).0 (room tt) (write-in a g.0 ok)) _ _;
        registers = λ ok. set_to h s.reg same n.a u _ (noted_in 10 a b e refl) (hu refl);
        point = point_next;
      }
      does (suc (suc (suc (suc (suc (suc (suc (suc (suc (suc (suc zero))))))))))) a b e hv hu hb = let g = in_fields 11 a b e in record {
        picks = covers_not a g.0;
        memory = λ ok room. stands_locals _ _ (after_swap a g.0 _ _ (hv refl g.2).0 (room tt) (write-in a g.0 ok)) _ _;
        registers = λ ok. set_to h s.reg same n.a u _ (noted_in 11 a b e refl) (hu refl);
        point = point_next;
      }
      does (suc (suc (suc (suc (suc (suc (suc (suc (suc (suc (suc (suc zero)))))))))))) a b e hv hu hb =
          let g = in_fields 12 a b e in record {
            picks = refl;
            memory = λ ok room. stands_locals m s st _ _;
            registers =
                λ ok. set_to (with_register h n.a u) _ (set_to h s.reg same n.a u _ (noted_in 12 a b e refl) (hu refl)) a v _ g.0
                (hv refl g.2).0;
            point = point_next;
          }
      does (suc (suc (suc (suc (suc (suc (suc (suc (suc (suc (suc (suc (suc op))))))))))))) a b e hv hu hb =
          absurd (none_above z l checks last (made (suc (suc (suc (suc (suc (suc (suc (suc (suc (suc (suc (suc (suc op))))))))))))) a b f n)
          (omega arith) e)
