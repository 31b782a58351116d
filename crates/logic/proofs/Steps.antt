-- A step of the machine is its two halves, in every well-formed state and for every position that is allowed.
use mathlib.Core.Path.{◌≡◌, refl, ap, ap₂, sym, ◌∙◌, fun_ext}
use mathlib.Core.Bool.{Bool, true, false, cond}
use mathlib.Core.List.{List, [], ◌∷◌}
use Prim.Native.Nat.{ℕ, suc, ◌+◌, ◌%◌}
use lib.Dec.{T}
use Rattle.semantics.specs.Base.{upd, all}
use Rattle.semantics.specs.Formula.{Value, Formula.word, Formula.sum}
use Rattle.semantics.specs.Names.{only, is_reg}
use Rattle.semantics.specs.Replace.{Note, noted}
use Rattle.semantics.specs.Eval.{on_regs}
use Rattle.semantics.specs.Machine.{View, State, Program, Mode.store, Mode.swap, Mode.exchange, Mode.fetch_add, Access, Access.none, Access.load, Access.write, Instr.act, at, join, worked, swapped, shared, given, returned, with_view, with_regs, move_to, up_view, inserted, insert, cover, read_view, swap_view, exec, allowed}
use Rattle.logic.specs.WellFormed.{proper_value, proper_access, proper}
use Rattle.semantics.proofs.Base.{upds, upd_same, upd_other, by_word, and_left, and_right}
use Rattle.logic.proofs.Agreement.{value_agree}
use Rattle.semantics.proofs.Halves
use Rattle.semantics.proofs.Halves.{touch, into, all_notes, with_points, worked_at, put, pick, may_pick, memory, finish}
use Rattle.semantics.proofs.Invariant.{Wf}
use Rattle.logic.proofs.Registers.{regs_same}
use Rattle.logic.proofs.Arrived.{pick_moved}

abbrev next : State → ℕ → State
next s t = with_points s (upd s.point t (suc (s.point t)))

-- the position that is allowed may be picked
pub may-pick : (A : Access) (ns : List Note) (t p : ℕ) (s : State) → T (allowed (act A ns) t p s) → T (may_pick (touch A) t p s)
may-pick none ns t p s h = h
may-pick (load a r x) ns t p s h = h
may-pick (write m x f) ns t p s h = h

module _ (P : Program) (t p : ℕ) where
  -- over registers alone a formula is worked out the same at every view
  worked_same : (f : Value) → T (only is_reg f) → (s s' : State) → s'.reg ≡ s.reg → worked_at P s' t f ≡ worked P s f
  worked_same f plain s s' e = value_agree P.range (regs_same {ρ = at P s' (s'.view t)} {σ = on_regs s.reg} e) f plain

  -- an insertion after the view has moved, from a view that comes to the same
  moved_first : (x : ℕ) (releasing : Bool) (m n : ℕ) (v w : View) (s : State) → m ≡ n → move_to x p v ≡ move_to x p w
      → put releasing x m t p (with_view s t v) ≡ insert releasing x n t p w s
  moved_first x releasing m n v w s q e = λ i. record {
    size = upd s.size x (suc (s.size x));
    row = inserted s.row x p (record { value = q i; releasing = releasing; covered = false; stored = to_new i });
    view = views i;
    reg = s.reg;
    point = s.point;
  }
    where
      to_new : move_to x p (upd s.view t v t) ≡ move_to x p w
      to_new = ap (move_to x p) (upd_same s.view t v) ∙ e

      views : upd (λ u. up_view x p (upd s.view t v u)) t (move_to x p (upd s.view t v t)) ≡ upd (λ u. up_view x p (s.view u)) t
          (move_to x p w)
      views = fun_ext (by_word t _ (simp upds e) (λ u n. simp upds))

  -- the new write's place is not the picked one's: whether the view moved to the picked write first makes no difference
  move_over : (x : ℕ) (v : View) → move_to x p (upd v x p) ≡ move_to x p v
  move_over x v = fun_ext (by_word x _ (simp upds) (λ y q. simp upds))

  swap_over : (x : ℕ) (s : State) → move_to x p (read_view s true t x p) ≡ move_to x p (swap_view s t x p)
  swap_over x s = go (s.row x p).releasing
    where
      go : (b : Bool) → move_to x p (cond b (join (s.view t) (s.row x p).stored) (upd (s.view t) x p)) ≡ move_to x p
          (cond b (join (s.view t) (s.row x p).stored) (s.view t))
      go true = refl
      go false = move_over x (s.view t)

  -- what the notes give the registers
  notes_halves : (ns : List Note) → T (all (λ (n : Note). proper_value P n.by) ns) → (s s' : State) → s'.reg ≡ s.reg
      → (q : ℕ) → worked_at P s' t (noted ns q) ≡ given P s ns s.reg q
  notes_halves [] ok s s' e = λ q. ap (λ (g : ℕ → ℕ). g q) e
  notes_halves (n ∷ ns) ok s s' e =
      by_word n.to _ (simp upds (worked_same n.by (search (and_left, and_right)) s s' e))
      (λ q d. simp upds (notes_halves ns (search (and_left, and_right)) s s' e q))

  module _ (s : State) (wf : Wf P s) (ns : List Note) where
    -- the shared words
    operand : (f : Value) → T (only is_reg f) → (v : View) → worked_at P (with_view s t v) t f ≡ worked P s f
    operand f plain v = worked_same f plain s (with_view s t v) refl

    swap_halves : (x : ℕ) (f : Value) (n : ℕ) → worked_at P (with_view s t (read_view s true t x p)) t f ≡ n
        → memory P (Halves.write true true x f) t p (with_view s t (read_view s true t x p)) ≡ swapped x n t p s
    swap_halves x f n e = moved_first x true (worked_at P (with_view s t (read_view s true t x p)) t f) n (read_view s true t x p)
        (swap_view s t x p) (cover x p s) e (swap_over x s)

    memory_halves : (A : Access) → T (proper_access P A) → T (allowed (act A ns) t p s)
        → memory P (touch A) t p (pick (touch A) t p s) ≡ shared P A t p s
    memory_halves none ok may = refl
    memory_halves (load a r x) ok may = refl
    memory_halves (write (store releasing) x f) ok may =
        moved_first x releasing (worked_at P (with_view s t (upd (s.view t) x p)) t f) (worked P s f) (upd (s.view t) x p) (s.view t) s
        (operand f (search (and_left, and_right)) (upd (s.view t) x p)) (move_over x (s.view t))
    memory_halves (write swap x f) ok may = swap_halves x f (worked P s f)
        (operand f (search (and_left, and_right)) (read_view s true t x p))
    memory_halves (write (exchange r) x f) ok may =
        swap_halves x f (worked P s f) (operand f (search (and_left, and_right)) (read_view s true t x p))
    memory_halves (write (fetch_add r) x f) ok may =
        swap_halves x (sum (word x) f) (((s.row x p).value + worked P s f) % P.range)
        (ap₂ (λ m n. (m + n) % P.range) (ap (λ i. (s.row x i).value)
        (pick_moved wf t p (Halves.write true true x f) may).arrived.0.here)
        (operand f (search (and_left, and_right)) (read_view s true t x p)))

    -- the registers
    into_halves : T (all (λ (n : Note). proper_value P n.by) ns) → (r x : ℕ) (v : View) → (with_view s t v).view t x ≡ p
        → (q : ℕ) → worked_at P (with_view s t v) t (noted (into r x ns) q) ≡ upd (given P s ns s.reg) r (s.row x p).value q
    into_halves ok r x v here =
        by_word r _
        (ap (worked_at P (with_view s t v) t) (upd_same (noted ns) r (word x)) ∙ ap (λ i. (s.row x i).value) here
        ∙ sym (upd_same (given P s ns s.reg) r (s.row x p).value))
        (λ q n. ap (worked_at P (with_view s t v) t) (upd_other (noted ns) r (word x) q n)
        ∙ notes_halves ns ok s (with_view s t v) refl q ∙ sym (upd_other (given P s ns s.reg) r (s.row x p).value q n))

    regs_halves : (A : Access) → T (all (λ (n : Note). proper_value P n.by) ns) → T (allowed (act A ns) t p s)
        → (q : ℕ) → worked_at P (pick (touch A) t p s) t (noted (all_notes A ns) q) ≡ returned A p s (given P s ns s.reg) q
    regs_halves none ok may = notes_halves ns ok s s refl
    regs_halves (load a r x) ok may = into_halves ok r x (read_view s a t x p) (pick_moved wf t p (Halves.load a x) may).arrived.here
    regs_halves (write (store b) x f) ok may = notes_halves ns ok s (pick (touch (write (store b) x f)) t p s) refl
    regs_halves (write swap x f) ok may = notes_halves ns ok s (pick (touch (write swap x f)) t p s) refl
    regs_halves (write (exchange r) x f) ok may = into_halves ok r x (read_view s true t x p)
        (pick_moved wf t p (Halves.write true true x f) may).arrived.0.here
    regs_halves (write (fetch_add r) x f) ok may = into_halves ok r x (read_view s true t x p)
        (pick_moved wf t p (Halves.write true true x f) may).arrived.0.here

    pub exec_halves : (n : ℕ) (A : Access) → T (proper P n (act A ns)) → T (allowed (act A ns) t p s)
        → finish P (touch A) (all_notes A ns) t p (pick (touch A) t p s) ≡ exec P (act A ns) t p s
    exec_halves n A ok may = go A (memory_halves A (search (and_left, and_right)) may)
        (fun_ext (regs_halves A (search (and_left, and_right)) may))
      where
        go : (A : Access) → memory P (touch A) t p (pick (touch A) t p s) ≡ shared P A t p s
            → (λ (q : ℕ). worked_at P (pick (touch A) t p s) t (noted (all_notes A ns) q)) ≡ returned A p s (given P s ns s.reg)
            → finish P (touch A) (all_notes A ns) t p (pick (touch A) t p s) ≡ exec P (act A ns) t p s
        go none e g = ap₂ (λ (z : State) (g : ℕ → ℕ). next (with_regs z g) t) e g
        go (load a r x) e g = ap₂ (λ (z : State) (g : ℕ → ℕ). next (with_regs z g) t) e g
        go (write (store releasing) x f) e g = ap₂ (λ (z : State) (g : ℕ → ℕ). next (with_regs z g) t) e g
        go (write swap x f) e g = ap₂ (λ (z : State) (g : ℕ → ℕ). next (with_regs z g) t) e g
        go (write (exchange r) x f) e g = ap₂ (λ (z : State) (g : ℕ → ℕ). next (with_regs z g) t) e g
        go (write (fetch_add r) x f) e g = ap₂ (λ (z : State) (g : ℕ → ℕ). next (with_regs z g) t) e g
