-- A run over a table is the run on the whole memory: the same code, steps and threads, and the first entries of the table are the memory's.
use Prim.Native.Nat.{ℕ, zero, suc, ◌+◌, ◌-◌, ◌≤◌, ◌<◌}
use mathlib.Core.Path.{◌≡◌, refl, ap, sym, ◌∙◌, subst}
use mathlib.Core.Bool.{Bool, true, false}
use mathlib.Core.List.{List, [], ◌∷◌}
use native.Mathlib.Omega.{arith}
use lib.Dec.{eqb}
use lib.ListN.{length, get_or, drop}
use lib.Seq.{get_or-drop, drop-drop}
use borrow.Author.Tests.{lt-ltb, le-ltb, eqb-true, eqb-false}
use Rattle.semantics.specs.Machine.{State, Program, exec, instr_at}
use Rattle.image_frames.specs.Records.{bodies}
use Rattle.image_header.specs.declared.sizes.Sizes.{Sizes}
use Rattle.image_meaning.specs.Program.{program_of}
use Rattle.image_meaning.proofs.RecordsChecked.{Checks}
use Rattle.replay_memory.specs.Write.{no_write, start_write}
use Rattle.replay_memory.specs.Memory.{first}
use Rattle.replay_memory.specs.declared.write.Write.{Write}
use Rattle.replay_table.specs.Sweep.{no_order, swept_of}
use Rattle.replay_table.proofs.SweepBranches.{swept_length}
use Rattle.replay_machine.specs.State.{threads_of}
use Rattle.replay_machine.specs.Step.{Stepped, stepped}
use Rattle.replay_machine.specs.Run.{ran}
use Rattle.replay_machine.specs.declared.state.Machine.{Machine}
use Rattle.replay_machine.specs.Run.{Run}
use Rattle.replay_spec.proofs.RunFollows.{any_step}
use Rattle.replay_run.specs.NextTurn.{entry_of, step_turn, next_turn}
use Rattle.replay_run.specs.Turn.{counted, stopped, turn_by}
use Rattle.replay_run.specs.RunIn.{turned, run_to}
use Rattle.replay_run.specs.Course.{Course}
use Rattle.replay_run.specs.declared.next_turn.NextTurn.{NextTurn}
use Rattle.replay_run.specs.declared.next_turn.NextTurn.TheVariants.{Refused}
use Rattle.replay_run.proofs.TableLies.{Lies, swept_none}
use Rattle.replay_run.proofs.RunTurns.{run_done, run_next}
use Rattle.replay_run.proofs.TurnAgrees.{Holding, Taken, Goes, step_goes}

module _ (s trace : List ℕ) where
  -- a turn that ends the run
  pub run_stops : (f code : ℕ) (l : List Write) (a : Course) → (a.left ≡ 0 → ⊥) → turned s trace l a ≡ stopped a code
      → run_to s trace (suc f) (l, a) ≡ (l, stopped a code)
  unfolding stopped
  run_stops f code l a e q =
      run_next s trace f (l, a) e ∙ ap (λ (c : Course). run_to s trace f (swept_of c.order l, c)) q
      ∙ run_done s trace f (swept_of no_order l, stopped a code) refl ∙ ap (λ (k : List Write). (k, stopped a code)) (swept_none l)

counted_is : (n : ℕ) → n < 18446744073709551615 → counted n ≡ n + 1
unfolding counted
counted_is n h = rw (lt-ltb n 18446744073709551615 h)

module _ (b : List ℕ) (z : Sizes) (c : Checks z (bodies b)) (room : ℕ) (few : room ≤ 64) (trace : List ℕ) where
  abbrev P : Program
  P = program_of z (bodies b)

  -- the run on the table l that ends with y is the run r from the machine n on
  pub record Ended (l : List Write) (n : Machine) (r : Run) (y : List Write × Course) : Type 0 where
    pub code : y.1.code ≡ r.code
    pub steps : y.1.steps ≡ r.steps
    pub threads : y.1.threads ≡ threads_of r.machine
    pub lies : Lies z.words y.0 r.machine.memory
    pub full : first r.machine.memory.sizes z.words ≤ room
    pub stays : (e : ℕ) → first r.machine.memory.sizes z.words ≤ e → get_or y.0 e no_write ≡ get_or l e no_write
    pub long : length y.0 ≡ length l
    pub grows : first n.memory.sizes z.words ≤ first r.machine.memory.sizes z.words

  -- the next turn is the next step of the trace
  next_is : (a : Course) (t p : ℕ) (rest : List ℕ) → a.sizes ≡ z → z.words ≤ a.begun → 2 ≤ a.left → a.left ≤ length trace
      → drop (length trace - a.left) trace ≡ t ∷ p ∷ rest → next_turn b trace a ≡ step_turn b z a.threads t p
  unfolding next_turn
  next_is a t p rest ez eb two few e =
      let i : length trace - a.left ≡ length trace - a.left + 0 = omega arith in
      let j : length trace - (a.left - 1) ≡ length trace - a.left + 1 = omega (arith, two, few) in
      let et : get_or trace (length trace - a.left) 0 ≡ t
      = ap (λ (o : ℕ). get_or trace o 0) i ∙ sym (get_or-drop (length trace - a.left) trace 0 0) ∙ ap (λ (k : List ℕ). get_or k 0 0) e in
      let ep : get_or trace (length trace - (a.left - 1)) 0 ≡ p
      = ap (λ (o : ℕ). get_or trace o 0) j ∙ sym (get_or-drop (length trace - a.left) trace 1 0) ∙ ap (λ (k : List ℕ). get_or k 1 0) e in
      rw (ez, le-ltb a.begun z.words eb, le-ltb a.left 2 two, et, ep)

  next_half : (a : Course) → a.sizes ≡ z → z.words ≤ a.begun → a.left < 2 → next_turn b trace a ≡ Refused
  unfolding next_turn
  next_half a ez eb one = rw (ez, le-ltb a.begun z.words eb, lt-ltb a.left 2 one)

  turn_none : (a : Course) (w : Write) → turn_by a Refused w ≡ stopped a 27
  unfolding turn_by
  turn_none a w = refl

  -- what is claimed of the rest of a trace
  abbrev pub Claim : List ℕ → Type 0
  Claim rest = (f : ℕ) (l : List Write) (a : Course) (s : State) (n : Machine) → Holding b z c room few l a s n → a.left ≡ length rest
      → length rest ≤ length trace → length rest ≤ f → drop (length trace - a.left) trace ≡ rest
      → a.steps + length rest ≤ 18446744073709551615
      → Ended l n (ran b z room n a.steps rest) (run_to b trace f (l, a))

  -- nothing is left
  none : Claim []
  unfolding ran
  none f l a s n h e _ _ _ _ = subst (Ended l n (record { code = 0; steps = a.steps; machine = n })) (sym (run_done b trace f (l, a) e))
      (record {
        code = h.code;
        steps = refl;
        threads = h.threads;
        lies = h.lies;
        full = h.full;
        stays = λ _ _. refl;
        long = refl;
        grows = omega arith;
      })

  -- the run ends here
  ends : (l : List Write) (a : Course) (s : State) (n : Machine) (code : ℕ) → Holding b z c room few l a s n
      → Ended l n (record { code = code; steps = a.steps; machine = n }) (l, stopped a code)
  unfolding stopped
  ends l a s n code h = record {
    code = refl;
    steps = refl;
    threads = h.threads;
    lies = h.lies;
    full = h.full;
    stays = λ _ _. refl;
    long = refl;
    grows = omega arith;
  }

  -- half a step
  half : (t : ℕ) → Claim (t ∷ [])
  unfolding ran
  half t zero l a s n h e _ g _ _ = absurd (omega (arith, g))
  half t (suc f) l a s n h e _ _ _ _ =
      let q : turned b trace l a ≡ stopped a 27
      = ap (λ (x : NextTurn). turn_by a x (get_or l (entry_of x) (start_write 0))) (next_half a h.sizes h.begun (omega (arith, e)))
      ∙ turn_none a (get_or l 0 (start_write 0)) in
      subst (Ended l n (record { code = 27; steps = a.steps; machine = n }))
      (sym (run_stops b trace f 27 l a (λ (y : a.left ≡ 0). omega (arith, e, y)) q)) (ends l a s n 27 h)

  module _ (l : List Write) (a : Course) (s : State) (n : Machine) (h : Holding b z c room few l a s n) (t p : ℕ) where
    abbrev y : Stepped
    y = stepped b z room n t p

    abbrev q : Course
    q = turn_by a (step_turn b z a.threads t p) (get_or l (entry_of (step_turn b z a.threads t p)) (start_write 0))

    abbrev next : State
    next = exec P (instr_at P s t) t p s

    -- the table and the course after a step that is taken
    holding : y.code ≡ 0 → Taken b z c room few l a s n h q y.machine → Holding b z c room few (swept_of q.order l) q next y.machine
    holding e k = record {
      sizes = k.sizes ∙ h.sizes;
      limit = k.limit ∙ h.limit;
      code = k.code ∙ h.code;
      threads = k.threads;
      begun = omega (arith, k.begun, h.begun);
      ready = let g = any_step b z c room few s n h.ready t p in g.1 (sym g.0 ∙ e);
      lies = k.lies;
      full = k.full;
      fits = omega (arith, h.fits, swept_length q.order l);
    }

    -- a run after it
    ended_on : Taken b z c room few l a s n h q y.machine → (r : Run) (u : List Write × Course)
        → Ended (swept_of q.order l) y.machine r u → Ended l n r u
    ended_on k r u g = record {
      code = g.code;
      steps = g.steps;
      threads = g.threads;
      lies = g.lies;
      full = g.full;
      stays = λ e i. g.stays e i ∙ k.stays e (omega (arith, g.grows, i));
      long = g.long ∙ swept_length q.order l;
      grows = omega (arith, g.grows, k.grows);
    }

  -- a whole step
  more : (t p : ℕ) (rest : List ℕ) → Claim rest → Claim (t ∷ p ∷ rest)
  unfolding ran
  more t p rest on zero l a s n h e _ g _ _ = absurd (omega (arith, g))
  more t p rest on (suc f) l a s n h e i g d m = go (eqb (y l a s n h t p).code 0) refl
    where
      x : NextTurn
      x = step_turn b z a.threads t p

      same : turned b trace l a ≡ q l a s n h t p
      same = ap (λ (v : NextTurn). turn_by a v (get_or l (entry_of v) (start_write 0)))
          (next_is a t p rest h.sizes h.begun (omega (arith, e)) (omega (arith, e, i)) d)

      some : a.left ≡ 0 → ⊥
      some v = omega (arith, e, v)

      goes : Goes b z c room few l a s n h (q l a s n h t p) (y l a s n h t p)
      goes = step_goes b z c room few l a s n h t p

      on_step : (y l a s n h t p).code ≡ 0
          → Ended l n (ran b z room (y l a s n h t p).machine (a.steps + 1) rest) (run_to b trace (suc f) (l, a))
      on_step v =
          let k = goes.taken v in
          let w : (q l a s n h t p).left ≡ length rest = omega (arith, k.left, e) in
          let j : length trace - (q l a s n h t p).left ≡ length trace - a.left + 2 = omega (arith, w, e, i) in
          let more_steps : (q l a s n h t p).steps ≡ a.steps + 1 = k.steps ∙ counted_is a.steps (omega (arith, m)) in
          let after : drop (length trace - (q l a s n h t p).left) trace ≡ rest
          = ap (λ (o : ℕ). drop o trace) j ∙ sym (drop-drop 2 (length trace - a.left) trace) ∙ ap (drop 2) d in
          subst (Ended l n (ran b z room (y l a s n h t p).machine (a.steps + 1) rest))
          (sym (run_next b trace f (l, a) some ∙ ap (λ (o : Course). run_to b trace f (swept_of o.order l, o)) same))
          (ended_on l a s n h t p k _ _
          (subst (λ (o : ℕ). Ended (swept_of (q l a s n h t p).order l) (y l a s n h t p).machine
          (ran b z room (y l a s n h t p).machine o rest)
          (run_to b trace f (swept_of (q l a s n h t p).order l, q l a s n h t p))) more_steps
          (on f (swept_of (q l a s n h t p).order l) (q l a s n h t p) (next l a s n h t p) (y l a s n h t p).machine
          (holding l a s n h t p v k)
          w (omega (arith, i)) (omega (arith, g)) after (omega (arith, m, more_steps)))))

      go : (v : Bool) → eqb (y l a s n h t p).code 0 ≡ v
          → Ended l n
          (elim v as (λ _. Run) [
            | true ↦ ran b z room (y l a s n h t p).machine (a.steps + 1) rest
            | false ↦ record { code = (y l a s n h t p).code; steps = a.steps; machine = n }
          ])
          (run_to b trace (suc f) (l, a))
      go true v = on_step (eqb-true (y l a s n h t p).code 0 v)
      go false v =
          let k = goes.stops (eqb-false (y l a s n h t p).code 0 v) in
          subst (Ended l n (record { code = (y l a s n h t p).code; steps = a.steps; machine = n }))
          (sym (run_stops b trace f (y l a s n h t p).code l a some (same ∙ k))) (ends l a s n (y l a s n h t p).code h)

  pub runs : (rest : List ℕ) → Claim rest
  runs [] = none
  runs (t ∷ []) = half t
  runs (t ∷ p ∷ rest) = more t p rest (runs rest)
