-- A step from the write that was read is the step on the whole memory: refused alike, or taken alike, and then the first entries of the
-- table are the memory's again.
use Prim.Native.Nat.{ℕ, zero, suc, ◌+◌, ◌-◌, ◌≤◌, ◌<◌}
use mathlib.Core.Path.{◌≡◌, refl, ap, sym, ◌∙◌, subst}
use mathlib.Core.Bool.{Bool, true, false, cond, true≢false}
use mathlib.Core.List.{List, [], ◌∷◌}
use native.Mathlib.Omega.{arith}
use native.Mathlib.Numerals.{sub-one}
use lib.Dec.{eqb, ltb}
use lib.ListN.{length, get_or}
use borrow.Author.Tests.{ne_eqb, eqb-true, eqb-false, ltb-true, ltb-false}
use Rattle.semantics.specs.Base.{Within}
use Rattle.semantics.specs.Machine.{State, Program}
use Rattle.image_frames.specs.Records.{bodies}
use Rattle.image_header.specs.declared.sizes.Sizes.{Sizes}
use Rattle.image_header.specs.declared.instruction.Instruction.{Instruction}
use Rattle.image_header.specs.Thread.{last_point}
use Rattle.image_bodies.specs.RecordPlaces.{instruction_of}
use Rattle.image_meaning.specs.Program.{point_count, program_of}
use Rattle.image_meaning.proofs.RecordsChecked.{Checks}
use Rattle.image_meaning.proofs.WellFormedProgram.{body}
use Rattle.image_access.proofs.AccessAgree.{fields_there}
use Rattle.replay_memory.specs.Write.{no_write, start_write}
use Rattle.replay_memory.specs.Memory.{first, index_of, write_at}
use Rattle.replay_memory.specs.declared.write.Write.{Write}
use Rattle.replay_memory.specs.declared.memory.Memory.{Memory}
use Rattle.replay_table.specs.Sweep.{swept_of}
use Rattle.replay_table.specs.declared.access.Change.{Change}
use Rattle.replay_machine.specs.Shared.{reachable, may_pick, memory_after}
use Rattle.replay_machine.specs.Refusal.{adding, pick_refusal}
use Rattle.replay_machine.specs.Locals.{registers_after}
use Rattle.replay_machine.specs.State.{point_of, performed, threads_of}
use Rattle.replay_machine.specs.Step.{Stepped, value_at, effect_at, last_of, refused, attempted, stepped}
use Rattle.replay_machine.specs.declared.effect.Effect.{Effect}
use Rattle.replay_machine.specs.declared.state.Machine.{Machine}
use Rattle.replay_machine.specs.declared.state.Threads.{Threads}
use Rattle.replay_machine.proofs.InstructionEffect.{sizes_few}
use Rattle.replay_spec.proofs.StepFollows.{Ready, effect_operation}
use Rattle.replay_machine.specs.Pick.{refusal_by}
use Rattle.replay_run.specs.Shared.{change_of}
use Rattle.replay_run.specs.NextTurn.{entry_of, try_turn, step_turn}
use Rattle.replay_run.specs.Turn.{counted, stopped, threads_after, change_by, performed_by, code_by, attempted_by, turn_by}
use Rattle.replay_run.specs.Course.{Course}
use Rattle.replay_run.specs.declared.next_turn.StepTurn.{StepTurn}
use Rattle.replay_run.specs.declared.next_turn.NextTurn.{NextTurn}
use Rattle.replay_run.specs.declared.next_turn.NextTurn.TheVariants.{Step, Refused}
use Rattle.replay_run.proofs.TableLies.{Lies, index_is, picks_in}
use Rattle.replay_run.proofs.ChangeAgrees.{shape_of, touching, refusal_is, reach_in, picked_in, registers_same, Agrees, change_agrees}
use Rattle.replay_run.proofs.WordThere.{word_there}

-- an entry that is there does not depend on the default
pub entry_any : (l : List Write) (i : ℕ) (a b : Write) → i < length l → get_or l i a ≡ get_or l i b
entry_any [] i a b h = absurd (omega arith)
entry_any (x ∷ l) zero a b h = refl
entry_any (x ∷ l) (suc i) a b h = entry_any l i a b (omega arith)

-- what is not refused may be picked, and a write has room
not_refused : (a g d : Bool) → ◌≡◌ {A = ℕ} (cond a (cond g (cond d 0 29) 0) 28) 0 → (a ≡ true) × (g ≡ true → d ≡ true)
not_refused false g d e = absurd (omega arith)
not_refused true false d e = (refl, λ x. absurd (true≢false (sym x)))
not_refused true true true e = (refl, λ x. refl)
not_refused true true false e = absurd (omega arith)

module _ (b : List ℕ) (z : Sizes) (c : Checks z (bodies b)) (room : ℕ) (few : room ≤ 64) where
  abbrev P : Program
  P = program_of z (bodies b)

  -- the table l and the course a stand for the machine n
  pub record Holding (l : List Write) (a : Course) (s : State) (n : Machine) : Type 0 where
    pub sizes : a.sizes ≡ z
    pub limit : a.room ≡ room
    pub code : a.code ≡ 0
    pub threads : a.threads ≡ threads_of n
    pub begun : z.words ≤ a.begun
    pub ready : Ready b z c s n
    pub lies : Lies z.words l n.memory
    pub full : first n.memory.sizes z.words ≤ room
    pub fits : room ≤ length l

  module _ (l : List Write) (s : State) (n : Machine) (r : Ready b z c s n) (lies : Lies z.words l n.memory)
      (full : first n.memory.sizes z.words ≤ room) (fits : room ≤ length l) where
    abbrev m : Memory
    m = n.memory

    abbrev words : ℕ
    words = z.words

    pub eight : words ≤ 8
    eight = (sizes_few z (bodies b) c).1

    -- the write that is read is the memory's
    read_right : (k p : ℕ) → k < words → p < get_or m.sizes k 0 → get_or l (index_of m.sizes k p) (start_write 0) ≡ write_at m k p
    unfolding write_at
    read_right k p there picked =
        let st = r.stands.memory in
        let i = index_is words eight m st.rows st.places st.few k p there picked in
        let g = picks_in words eight m st.rows st.places st.few k p there picked in
        rw i (entry_any l (first m.sizes k + p) (start_write 0) no_write (omega (arith, g, full, fits)) ∙ lies.same _ g)

    module _ (u p : ℕ) (w : Within P.threads (suc u)) (more : point_of n u < last_of b z (suc u)) where
      abbrev d : Effect
      d = effect_at b z n.registers (suc u) (point_of n u)

      abbrev i : Instruction
      i = instruction_of z (bodies b) (suc u) (point_of n u)

      not_last : suc (point_of n u) < P.points (suc u)
      unfolding last_of point_count
      not_last = omega (arith, more)

      word_in : touching d.operation ≡ true → d.word < words
      unfolding effect_at
      word_in h =
          word_there z (bodies b) c (last_point (body z (bodies b) c (suc u) w.0 w.1)) i.formula
          i.second first_value second_value
          i.operation i.a i.b (fields_there b z c (suc u) (point_of n u) w not_last).0
          (subst (λ (o : ℕ). touching o ≡ true) (effect_operation i first_value second_value) h)
        where
          first_value : ℕ
          first_value = value_at b z n.registers i.formula

          second_value : ℕ
          second_value = value_at b z n.registers i.second.formula

      abbrev picked : Write
      picked = get_or l (index_of m.sizes d.word p) (start_write 0)

      right : touching d.operation ≡ true → reachable m u d.word p ≡ true → picked ≡ write_at m d.word p
      right h g =
          let k = word_in h in
          read_right d.word p k (reach_in m u d.word p (omega (arith, k, eight)) g)

      code_is : refusal_by (shape_of m) picked words room d u p ≡ pick_refusal m words room d u p
      code_is = refusal_is m picked d u p right words room

      module _ (taken : pick_refusal m words room d u p ≡ 0) where
        may_room : (may_pick m d u p ≡ true) × (adding d.operation ≡ true → ltb (first m.sizes words) room ≡ true)
        unfolding pick_refusal
        may_room = not_refused (may_pick m d u p) (adding d.operation) (ltb (first m.sizes words) room) taken

        there : touching d.operation ≡ true
            → (d.word < words) × ((p < get_or m.sizes d.word 0) × (picked ≡ write_at m d.word p))
        there h =
            let k = word_in h in
            let g = picked_in m d u p (omega (arith, k, eight)) h may_room.0 in (k, (g.1, right h g.0))

        roomy : adding d.operation ≡ true → first m.sizes words < room
        roomy h = ltb-true (first m.sizes words) room (may_room.1 h)

        pub agrees : Agrees words eight l m r.stands.memory.rows r.stands.memory.places r.stands.memory.few lies
            room few fits full (change_of (shape_of m) words z.range picked d u p) (memory_after m z.range d u p)
        agrees = change_agrees words eight l m r.stands.memory.rows r.stands.memory.places r.stands.memory.few lies
            room few fits full z.range picked d u p there roomy

        registers_are : registers_after n.registers picked.value d ≡ registers_after n.registers (write_at m d.word p).value d
        registers_are = go (touching d.operation) refl
          where
            go : (x : Bool) → touching d.operation ≡ x
                → registers_after n.registers picked.value d ≡ registers_after n.registers (write_at m d.word p).value d
            go true e = ap (λ (y : Write). registers_after n.registers y.value d) (there e).1.1
            go false e = registers_same n.registers picked.value (write_at m d.word p).value d e

        pub threads_are : threads_after (threads_of n)
            (try_turn (threads_of n) d u p) picked (change_of (shape_of m) words z.range picked d u p)
            ≡ threads_of (performed n z.range d u p)
        unfolding threads_after threads_of try_turn performed point_of
        threads_are = rw (agrees.shape, registers_are)

  -- THE TURN

  module _ (l : List Write) (a : Course) (s : State) (n : Machine) (h : Holding l a s n) where
    -- the step is taken: the course q and the table stand for the machine n'
    pub record Taken (q : Course) (n' : Machine) : Type 0 where
      pub sizes : q.sizes ≡ a.sizes
      pub limit : q.room ≡ a.room
      pub code : q.code ≡ a.code
      pub begun : q.begun ≡ a.begun
      pub left : q.left ≡ a.left - 2
      pub steps : q.steps ≡ counted a.steps
      pub threads : q.threads ≡ threads_of n'
      pub lies : Lies z.words (swept_of q.order l) n'.memory
      pub grows : first n.memory.sizes z.words ≤ first n'.memory.sizes z.words
      pub full : first n'.memory.sizes z.words ≤ room
      pub stays : (e : ℕ) → first n'.memory.sizes z.words ≤ e → get_or (swept_of q.order l) e no_write ≡ get_or l e no_write

    -- taken or refused, as the step on the memory is
    pub record Goes (q : Course) (y : Stepped) : Type 0 where
      pub taken : y.code ≡ 0 → Taken q y.machine
      pub stops : (y.code ≡ 0 → ⊥) → q ≡ stopped a y.code

    abbrev turns : NextTurn → Course
    turns x = turn_by a x (get_or l (entry_of x) (start_write 0))

    none_goes : Goes (turns Refused) (refused 27 n)
    unfolding turn_by
    none_goes = record { taken = λ e. absurd (omega (arith, e)); stops = λ e. refl }

    module _ (u p : ℕ) (w : Within P.threads (suc u)) (more : point_of n u < last_of b z (suc u)) where
      abbrev effect : Effect
      effect = effect_at b z n.registers (suc u) (point_of n u)

      abbrev x : StepTurn
      x = try_turn (threads_of n) effect u p

      abbrev found : Write
      found = get_or l (index_of n.memory.sizes effect.word p) (start_write 0)

      code_eq : code_by a x found ≡ pick_refusal n.memory z.words room effect u p
      unfolding try_turn threads_of
      code_eq = rw (h.threads, h.sizes, h.limit) (code_is l s n h.ready h.lies h.full h.fits u p w more)

      change_eq : change_by a x found ≡ change_of (shape_of n.memory) z.words z.range found effect u p
      unfolding try_turn threads_of
      change_eq = rw (h.threads, h.sizes)

      taken_by : pick_refusal n.memory z.words room effect u p ≡ 0 → Taken (performed_by a x found)
          (performed n z.range effect u p)
      unfolding performed_by performed
      taken_by e =
          let g = agrees l s n h.ready h.lies h.full h.fits u p w more e in record {
            sizes = refl;
            limit = refl;
            code = refl;
            begun = refl;
            left = refl;
            steps = refl;
            threads = ap (λ (y : Threads). threads_after y x found (change_by a x found)) h.threads
                ∙ ap (threads_after (threads_of n) x found) change_eq ∙ threads_are l s n h.ready h.lies h.full
                h.fits u p w more e;
            lies = subst (λ (y : Change). Lies z.words (swept_of y.order l) (memory_after n.memory z.range effect u p))
                (sym change_eq)
                g.lies;
            grows = g.grows;
            full = g.full;
            stays = subst (λ (y : Change). (e : ℕ) → first (memory_after n.memory z.range effect u p).sizes z.words ≤ e
                → get_or (swept_of y.order l) e no_write ≡ get_or l e no_write) (sym change_eq) g.stays;
          }

      attempted_goes : Goes (attempted_by a x found) (attempted z room n effect u p)
      unfolding attempted_by attempted
      attempted_goes = rw code_eq (go (eqb code 0) refl)
        where
          code : ℕ
          code = pick_refusal n.memory z.words room effect u p

          go : (v : Bool) → eqb code 0 ≡ v
              → Goes (cond v (performed_by a x found) (stopped a code))
              (cond v (record { code = 0; machine = performed n z.range effect u p }) (refused code n))
          go true e = record { taken = λ _. taken_by (eqb-true code 0 e); stops = λ f. absurd (f refl) }
          go false e = record { taken = λ f. absurd (eqb-false code 0 e f); stops = λ _. refl }

      try_goes : Goes (turns (Step x)) (attempted z room n effect u p)
      unfolding turn_by try_turn threads_of
      try_goes = attempted_goes

    by_threads : (t p : ℕ) → Goes (turns (step_turn b z (threads_of n) t p)) (stepped b z room n t p)
    unfolding step_turn stepped point_of threads_of
    by_threads zero p = none_goes
    by_threads (suc u) p =
        let q : suc u ≡ 0 → ⊥ = omega arith in
        rw (ne_eqb (suc u) 0 q, sub-one (suc u)) (go (ltb z.threads (suc u)) (ltb (point_of n u) (last_of b z (suc u))) refl refl)
      where
        its : Effect
        its = effect_at b z n.registers (suc u) (point_of n u)

        turn : Bool → Bool → NextTurn
        turn f g = cond f Refused (cond g (Step (try_turn (threads_of n) its u p)) Refused)

        out : Bool → Bool → Stepped
        out f g = cond f (refused 27 n) (cond g (attempted z room n its u p) (refused 27 n))

        go : (f g : Bool) → ltb z.threads (suc u) ≡ f → ltb (point_of n u) (last_of b z (suc u)) ≡ g → Goes (turns (turn f g)) (out f g)
        go true g e k = none_goes
        go false false e k = none_goes
        go false true e k =
            try_goes u p (omega arith, ltb-false z.threads (suc u) e) (ltb-true (point_of n u) (last_of b z (suc u)) k)

    pub step_goes : (t p : ℕ) → Goes (turns (step_turn b z a.threads t p)) (stepped b z room n t p)
    step_goes t p = subst (λ (y : Threads). Goes (turns (step_turn b z y t p)) (stepped b z room n t p)) (sym h.threads)
        (by_threads t p)
