-- The ways through the functions, one law for each that is not a chain of tests.
use Prim.Native.Nat.{ℕ, ◌+◌, ◌-◌, ◌%◌, ◌≤◌, ◌<◌}
use mathlib.Core.Path.{◌≡◌, refl, ap, ap₂, sym, ◌∙◌}
use mathlib.Core.Bool.{Bool, true, false, cond, true≢false}
use mathlib.Core.List.{List, []}
use lib.Dec.{eqb, ltb}
use lib.ListN.{get_or, set}
use borrow.Author.Tests.{lt-ltb, le-ltb, eq-eqb, ne_eqb}
use Rattle.std.specs.declared.result.Result.{Result}
use Rattle.std.specs.declared.result.Result.TheVariants.{Ok, Err}
use Rattle.limits.specs.Limits.{nesting}
use Rattle.image_frames.specs.Records.{bodies}
use Rattle.formula.specs.Tree.{parse_tree}
use Rattle.image_header.specs.declared.sizes.Sizes.{Sizes}
use Rattle.image_header.specs.declared.instruction.Instruction.{Instruction}
use Rattle.image_header.specs.Thread.{last_point}
use Rattle.image_bodies.specs.RecordPlaces.{thread_body, instruction_of}
use Rattle.image_access.specs.AccessPlaces.{formula_at}
use Rattle.replay_machine.specs.Evaluate.{worked_t}
use Rattle.replay_memory.specs.Memory.{first, write_at, memory_of}
use Rattle.replay_memory.specs.declared.memory.Memory.{Memory}
use Rattle.replay_memory.specs.declared.memory.MemoryShape.{MemoryShape}
use Rattle.replay_memory.specs.declared.write.Write.{Write}
use Rattle.replay_machine.specs.Effect.{effect_of}
use Rattle.replay_machine.specs.Shared.{may_pick, memory_after, reachable, uncovered}
use Rattle.replay_machine.specs.Locals.{registers_after, point_after}
use Rattle.replay_machine.specs.declared.effect.Effect.{Effect}
use Rattle.replay_machine.specs.declared.locals.Registers.{Registers}
use Rattle.replay_machine.specs.State.{point_of, performed, machine_of}
use Rattle.replay_machine.specs.Refusal.{unnamed, number, code_of, total, adding, pick_refusal}
use Rattle.replay_machine.specs.Pick.{uncovered_by, may_pick_by, refusal_by}
use Rattle.replay_machine.specs.Step.{Stepped, value_at, effect_at, last_of, refused, attempted, stepped, taken_of}
use Rattle.replay_machine.specs.declared.state.Machine.{Machine}
use Rattle.replay_machine.specs.declared.state.Threads.{Threads}
use Rattle.replay_machine.specs.declared.pick.Refusal.{Refusal}
use Rattle.replay_machine.specs.declared.pick.Refusal.TheVariants.{Declined, Thread, Pick, Room, Unlike, OutOfRange, Unserved, Other}
use Rattle.replay_machine.proofs.RefusalNumbers.{some_unnamed}

module _ (g : MemoryShape) (w : Write) (words room t p : ℕ) (d : Effect) (b : Bool) (e : b ≡ may_pick_by g w d t p) where
  pub pick_not : b ≡ false → code_of (Err Pick) ≡ refusal_by g w words room d t p
  unfolding refusal_by
  pick_not h = rw (← e, h)

  module _ (a : Bool) (h : b ≡ true) (q : a ≡ adding d.operation) where
    pub pick_plain : a ≡ false → code_of (Ok tt) ≡ refusal_by g w words room d t p
    unfolding refusal_by
    pick_plain i = rw (← e, h, ← q, i)

    module _ (n : ℕ) (i : a ≡ true) (f : n ≡ first g.sizes words) where
      pub pick_room : n < room → code_of (Ok tt) ≡ refusal_by g w words room d t p
      unfolding refusal_by
      pick_room j = rw (← e, h, ← q, i, ← f, lt-ltb _ _ j)

      pub pick_full : room ≤ n → code_of (Err Room) ≡ refusal_by g w words room d t p
      unfolding refusal_by
      pick_full j = rw (← e, h, ← q, i, ← f, le-ltb _ _ j)

pub ruleset pick_refusal_branches = (pick_not, pick_plain, pick_room, pick_full)

pub perform_made : (n : Threads) (b c : List Write) (R t p k : ℕ) (d : Effect) (old : Write) (g : MemoryShape) (h : Registers)
    → old ≡ write_at (memory_of n.shape b) d.word p → k ≡ point_after (get_or n.points (t % 4) 0) d
    → memory_of g c ≡ memory_after (memory_of n.shape b) R d t p → h ≡ registers_after n.registers old.value d
    → machine_of (record { shape = g; registers = h; points = set n.points (t % 4) k }) c ≡ performed (machine_of n b) R d t p
unfolding performed point_of machine_of
perform_made n b c R t p k d old g h eo ek em eh = rw (em, eh, eo, ek)

pub machine_made : (h : Threads) (b : List Write) (m : Memory) → m ≡ memory_of h.shape b
    → record { memory = m; registers = h.registers; points = h.points } ≡ machine_of h b
unfolding machine_of
machine_made h b m e = rw e

module _ (s : List ℕ) (z : Sizes) (h : Registers) where
  pub value_made : (k a v : ℕ) → a ≡ formula_at s k → v ≡ worked_t z.range h.at (parse_tree s nesting a).tree → v ≡ value_at s z h k
  value_made k a v e d = rw (← e) d

  pub effect_made : (t k v g : ℕ) (i : Instruction) (d : Effect) → i ≡ instruction_of z (bodies s) t k → v ≡ value_at s z h i.formula
      → g ≡ value_at s z h i.second.formula
      → d ≡ effect_of i v g → d ≡ effect_at s z h t k
  unfolding effect_at
  effect_made t k v g i d ei ev eg ed = rw (← ei, ← ev, ← eg) ed

pub last_made : (s : List ℕ) (z : Sizes) (t r : ℕ) (b : List ℕ) → b ≡ get_or (bodies s) (z.formulas + t) [] → r ≡ last_point b
    → r ≡ last_of s z t
unfolding last_of thread_body
last_made s z t r b e d = rw (← e) d

module _ (n : Threads) (b : List Write) where
  point_is : (t : ℕ) → get_or n.points (t % 4) 0 ≡ point_of (machine_of n b) t
  unfolding point_of machine_of
  point_is t = refl

  registers_are : n.registers ≡ (machine_of n b).registers
  unfolding machine_of
  registers_are = refl

module _ (s : List ℕ) (z : Sizes) (room : ℕ) (n : Threads) (b : List Write) (t p : ℕ) where
  pub step_none : t ≡ 0 → taken_of (Err Thread) n b ≡ stepped s z room (machine_of n b) t p
  unfolding stepped taken_of
  step_none h = rw (eq-eqb _ _ h)

  module _ (a : t ≡ 0 → ⊥) where
    pub step_absent : z.threads < t → taken_of (Err Thread) n b ≡ stepped s z room (machine_of n b) t p
    unfolding stepped taken_of
    step_absent h = rw (ne_eqb _ _ a, lt-ltb _ _ h)

    module _ (c : t ≤ z.threads) (u k last : ℕ) (eu : u ≡ t - 1) (ek : k ≡ get_or n.points (u % 4) 0) (el : last ≡ last_of s z t) where
      pub step_last : last ≤ k → taken_of (Err Thread) n b ≡ stepped s z room (machine_of n b) t p
      unfolding stepped taken_of
      step_last h = rw (ne_eqb _ _ a, le-ltb _ _ c, ← eu, ← point_is n b u, ← ek, ← el, le-ltb _ _ h)

      pub step_tried : (d : Effect) (r : Result Threads Refusal) (f : List Write) → k < last → d ≡ effect_at s z n.registers t k
          → taken_of r n f ≡ attempted z room (machine_of n b) d u p → taken_of r n f ≡ stepped s z room (machine_of n b) t p
      unfolding stepped
      step_tried d r f h ed er =
          let q : d ≡ effect_at s z (machine_of n b).registers t k = ed ∙ ap (λ (x : Registers). effect_at s z x t k) (registers_are n b) in
          rw (ne_eqb _ _ a, le-ltb _ _ c, ← eu, ← point_is n b u, ← ek, ← el, lt-ltb _ _ h, ← q) er

pub refused_some : (x : Refusal) → eqb (number x) 0 ≡ false
refused_some Declined = refl
refused_some Thread = refl
refused_some Pick = refl
refused_some Room = refl
refused_some Unlike = refl
refused_some OutOfRange = refl
refused_some Unserved = refl
refused_some (Other n) = ne_eqb (unnamed n) 0 (some_unnamed n)

-- the picked write is that of the memory
refusal_same : (g : MemoryShape) (l : List Write) (words room t p : ℕ) (d : Effect)
    → refusal_by g (write_at (memory_of g l) d.word p) words room d t p ≡ pick_refusal (memory_of g l) words room d t p
unfolding refusal_by may_pick_by uncovered_by pick_refusal may_pick uncovered reachable memory_of
refusal_same g l words room t p d = refl

-- so what is said from the picked write is said of the memory
module _ (g : MemoryShape) (l : List Write) (t p : ℕ) (d : Effect) (w : Write) (e : w ≡ write_at (memory_of g l) d.word p) where
  pub picked_may : (b : Bool) → b ≡ may_pick_by g w d t p → b ≡ may_pick (memory_of g l) d t p
  unfolding may_pick_by uncovered_by may_pick uncovered reachable memory_of
  picked_may b h = h ∙ rw e

  pub picked_code : (words room : ℕ) (c : Result (Unit {0}) Refusal) → code_of c ≡ refusal_by g w words room d t p
      → code_of c ≡ pick_refusal (memory_of g l) words room d t p
  picked_code words room c h = h ∙ ap (λ (x : Write). refusal_by g x words room d t p) e ∙ refusal_same g l words room t p d

pub ruleset pick_by_memory = (picked_may, picked_code)

module _ (z : Sizes) (room : ℕ) (n : Threads) (b : List Write) (d : Effect) (t p : ℕ) (w : Write) (c : Result (Unit {0}) Refusal)
    (ew : w ≡ write_at (memory_of n.shape b) d.word p) (e : code_of c ≡ refusal_by n.shape w z.words room d t p) where
  refusal_is : code_of c ≡ pick_refusal (machine_of n b).memory z.words room d t p
  unfolding machine_of
  refusal_is = e ∙ ap (λ (x : Write). refusal_by n.shape x z.words room d t p) ew ∙ refusal_same n.shape b z.words room t p d

  pub attempt_taken : (r : Threads) (f : List Write) → c ≡ Ok tt → machine_of r f ≡ performed (machine_of n b) z.range d t p
      → taken_of (Ok r) n f ≡ attempted z room (machine_of n b) d t p
  unfolding attempted taken_of
  attempt_taken r f g er = rw (← refusal_is, g, er)

  pub attempt_refused : (x : Refusal) → c ≡ Err x → taken_of (Err x) n b ≡ attempted z room (machine_of n b) d t p
  unfolding attempted taken_of
  attempt_refused x g = rw (← refusal_is, g, refused_some x)

pub ruleset attempt_branches = (attempt_taken, attempt_refused)

pub ruleset step_branches = (step_none, step_absent, step_last, step_tried)

-- A STEP THAT IS REFUSED CHANGES NOTHING

module _ (s : List ℕ) (z : Sizes) (room : ℕ) (n : Machine) where
  attempt_stays : (d : Effect) (t p : ℕ) → ((attempted z room n d t p).code ≡ 0 → ⊥) → (attempted z room n d t p).machine ≡ n
  unfolding attempted
  attempt_stays d t p = go (eqb code 0)
    where
      code : ℕ
      code = pick_refusal n.memory z.words room d t p

      out : Bool → Stepped
      out x = cond x (record { code = 0; machine = performed n z.range d t p }) (refused code n)

      go : (x : Bool) → ((out x).code ≡ 0 → ⊥) → (out x).machine ≡ n
      go true h = absurd (h refl)
      go false h = refl

  pub step_stays : (t p : ℕ) → ((stepped s z room n t p).code ≡ 0 → ⊥) → (stepped s z room n t p).machine ≡ n
  unfolding stepped
  step_stays t p = go (eqb t 0) (ltb z.threads t) (ltb (point_of n (t - 1)) (last_of s z t))
    where
      tried : Stepped
      tried = attempted z room n (effect_at s z n.registers t (point_of n (t - 1))) (t - 1) p

      out : Bool → Bool → Bool → Stepped
      out a b c = cond a (refused 27 n) (cond b (refused 27 n) (cond c tried (refused 27 n)))

      go : (a b c : Bool) → ((out a b c).code ≡ 0 → ⊥) → (out a b c).machine ≡ n
      go true b c h = refl
      go false true c h = refl
      go false false true h = attempt_stays (effect_at s z n.registers t (point_of n (t - 1))) (t - 1) p h
      go false false false h = refl

  -- so a caller that keeps what it had, where a step is refused, has what the step says
  pub step_refused : (h : Threads) (l w : List Write) (t p : ℕ) (e : Refusal) → n ≡ machine_of h l
      → taken_of (Err e) h w ≡ stepped s z room n t p → taken_of (Err e) h l ≡ stepped s z room n t p
  unfolding taken_of
  step_refused h l w t p e en d =
      let code : number e ≡ (stepped s z room n t p).code = ap (λ (x : Stepped). x.code) d in
      let stays : (stepped s z room n t p).machine ≡ n = step_stays t p
      (λ q. true≢false (sym (eq-eqb (number e) 0 (code ∙ q)) ∙ refused_some e)) in
      ap₂ (λ (x : ℕ) (m : Machine). record { code = x; machine = m }) code (sym (stays ∙ en))
