-- What a replay across a handover promises: answer and table stand for the state that the logic's machine reaches, the old outline is true
-- on the way under the old code, the new one from the handover on.
use mathlib.Core.Path.{◌≡◌, refl, ap, ap₂, sym, ◌∙◌, subst, fun_ext}
use mathlib.Core.Bool.{Bool, true, false, cond}
use mathlib.Core.List.{List, [], ◌∷◌, ◌++◌}
use Prim.Native.Nat.{ℕ, zero, suc, ◌+◌, ◌-◌, ◌*◌, ◌≤◌, ◌<◌}
use native.Mathlib.Omega.{arith}
use lib.Dec.{T, eqb, ltb}
use lib.ListN.{length, get_or, take, drop}
use borrow.Author.Tests.{eqb-true, eqb-false, eq-eqb, ne_eqb, ltb-false, lt-ltb, le-ltb}
use Rattle.std.specs.declared.option.Option.{Option}
use Rattle.std.specs.declared.option.Option.TheVariants.{None, Some}
use Rattle.semantics.specs.Base.{Within}
use Rattle.semantics.specs.Machine.{State, Program, Step, Start, begin, run}
use Rattle.semantics.specs.EveryRun.{Outline, Holds}
use Rattle.logic.proofs.Runs.{every_run}
use Rattle.semantics.proofs.Starts.{begins}
use Rattle.handover_spec.specs.Handover.{NewPoint, Handover, handed}
use Rattle.handover_spec.proofs.RunsAcross.{wf_handed}
use Rattle.limits.specs.Numbers.{nth}
use Rattle.limits.proofs.Numbers.{byte_past}
use Rattle.image_frames.specs.Records.{bodies}
use Rattle.image_header.specs.declared.sizes.Sizes.{Sizes}
use Rattle.image_header.specs.Header.{register_count}
use Rattle.image.specs.Decode.{sizes_of}
use Rattle.image_meaning.specs.Program.{program_of, outline_of}
use Rattle.image_meaning.specs.Image.{image_of}
use Rattle.image_meaning.proofs.RecordsChecked.{Checks, sound_checks}
use Rattle.image_meaning.proofs.WellFormedProgram.{range_two, well-formed}
use Rattle.checker_spec.specs.Acceptance.{acceptance}
use Rattle.checker_spec.proofs.AcceptedHolds.{granted_holds}
use Rattle.tables_columns.specs.Column.{column}
use Rattle.replay_memory.specs.declared.write.Write.{Write}
use Rattle.replay_machine.proofs.InstructionEffect.{sizes_few}
use Rattle.handover_spec.specs.Table.{entry_size, point_named, points_to, new_point}
use Rattle.handover_spec.specs.Code as Code
use Rattle.handover_spec.specs.Code.{header_of, code_of, handover_code}
use Rattle.handover_spec.specs.Promise.{Fits}
use Rattle.handover_spec.proofs.PermittedRuns.{accepted_proved, permitted_so, zero_so, across_holds}
use Rattle.replay_machine.specs.Start.{start_register, start_values_to, start_registers, started}
use Rattle.replay_machine.specs.Run.{ran}
use Rattle.replay_spec.specs.MachineReplay.{ReplayResult, used, replayed, steps_in}
use Rattle.replay_spec.specs.StateStands.{StandsFor}
use Rattle.replay_machine.specs.Replayed.{room_of, of_run, replay_on}
use Rattle.replay_spec.specs.ReplayNumbers.{replay_of}
use Rattle.replay_machine.specs.declared.state.Machine.{Machine}
use Rattle.replay_machine.specs.Run.{Run}
use Rattle.replay_machine.specs.Replayed.{Replayed}
use Rattle.replay_spec.proofs.StepFollows.{Ready, range_is}
use Rattle.replay_spec.proofs.RunFollows.{reached, Matches, follows}
use Rattle.replay_spec.proofs.StartStands.{begun}
use Rattle.replay_machine.specs.declared.answer.Answer.{Answer}
use Rattle.replay_machine.specs.Answer as Answered
use Rattle.replay_machine.specs.Answer.{size, answer_of, numbers_of, numbers_for}
use Rattle.replay_machine.specs.declared.output.Shown.{Shown}
use Rattle.replay_machine.specs.OutputTable.{shown_in, shown_of, shown_by, entries_in, laid, table_for}
use Rattle.replay_spec.specs.Plain.{of_regs, plain_true}
use Rattle.replay_spec.specs.AnswerStands.{AnswerStands, TableStands}
use Rattle.replay_spec.proofs.AbsentThreads.{absent_point, absent_register, register_kept}
use Rattle.replay_spec.proofs.PlainWorked.{plain-true}
use Rattle.replay_spec.proofs.RoomEnough.{fits, used_first}
use Rattle.replay_machine.proofs.OutputBranches.{room_least, shown_are}
use Rattle.replay_spec.proofs.ReplayPromised as Replay
use Rattle.replay_spec.proofs.ReplayPromised.{table_is}
use Rattle.handover_replay.specs.JoinedRun.{mapped_point, handed_over, behind, went_on}
use Rattle.handover_replay.specs.ReplayAcross.{across_on, refused_by, across_by, by_acceptance, across_of}
use Rattle.handover_replay.specs.Promise.{unpermitted, Across, Promise, Written}
use Rattle.handover_replay.proofs.JoinedBranches.{went_refused}

-- more threads have more points
points_rise : (P : Program) (n m : ℕ) → n ≤ m → points_to P n ≤ points_to P m
unfolding points_to
points_rise P n zero h = let q : n ≡ 0 = omega arith in subst (λ (j : ℕ). points_to P j ≤ 0) (sym q) (omega arith)
points_rise P n (suc m) h = go (eqb n (suc m)) refl (points_rise P n m)
  where
    go : (b : Bool) → eqb n (suc m) ≡ b → (n ≤ m → points_to P n ≤ points_to P m) → points_to P n ≤ points_to P m + P.points (suc m)
    go true e ih = subst (λ (j : ℕ). points_to P j ≤ points_to P m + P.points (suc m)) (sym (eqb-true n (suc m) e)) (omega arith)
    go false e ih = let g = ih (let q = eqb-false n (suc m) e in omega arith) in omega arith

-- a thread that is not there has no entry
past_table : (P : Program) (points : List ℕ) → length points ≡ entry_size * points_to P P.threads → (t k : ℕ) → P.threads ≤ t
    → new_point P points (suc t) k ≡ 0
unfolding point_named
past_table P points e t k h =
    let r = points_rise P P.threads (suc t - 1) (omega arith) in
    sym (byte_past points (entry_size * (points_to P (suc t - 1) + k)) (omega arith))

-- the rows' sizes stay
used_handed : (to : NewPoint) (s : State) (n : ℕ) → used (handed to s) n ≡ used s n
unfolding used
used_handed to s zero = refl
used_handed to s (suc n) = ap (λ (k : ℕ). k + s.size (suc n)) (used_handed to s n)

module _ (old : List ℕ) (z : Sizes) (new : List ℕ) (y : Sizes) (points : List ℕ) (a : acceptance old ≡ Some z)
    (b : acceptance new ≡ Some y)
    (e : code_of old z new y points ≡ 0) (first second given : List ℕ) (lent : ℕ) where
  abbrev P : Program
  P = program_of z (bodies old)

  abbrev Q : Program
  Q = program_of y (bodies new)

  abbrev O : Outline
  O = outline_of z (bodies old)

  abbrev N : Outline
  N = outline_of y (bodies new)

  abbrev to : NewPoint
  to = new_point P points

  abbrev room : ℕ
  room = room_of lent

  abbrev start : State
  start = begin P (λ r. nth given r 0)

  abbrev machine : Machine
  machine = started (header_of old) z.range given

  abbrev before : ReplayResult
  before = replayed P room start 0 first

  abbrev after : ReplayResult
  after = replayed Q room (handed to before.state) 0 second

  c : Checks z (bodies old)
  c = sound_checks old z (granted_holds old z a).sound

  d : Checks y (bodies new)
  d = sound_checks new y (granted_holds new y b).sound

  fit_table : Fits (image_of z (bodies old)) (image_of y (bodies new)) points
  fit_table = (zero_so old z new y points a b e).1

  permit : Handover P Q O N to
  permit = let h = zero_so old z new y points a b e in permitted_so old z new y points a b h.0 h.1 h.2

  few : room ≤ 64
  few = omega (arith, room_least lent)

  starts : Start P start
  starts = begins P (omega (arith, range_two z (bodies old) c)) (λ r. nth given r 0)

  -- the first run
  abbrev old_run : Run
  old_run = ran old z room machine 0 first

  old_matches : Matches old z c room few (ran old z room machine 0 first) before
  old_matches = follows old z c room few start machine
      (subst (λ (R : ℕ). Ready old z c start (started (header_of old) R given)) (sym (range_is old z c)) (begun old z c given)) 0 first

  abbrev reached_machine : Machine
  reached_machine = (ran old z room machine 0 first).machine

  old_in : (t : ℕ) → Within Q.threads t → Within P.threads t
  old_in t w = subst (λ (n : ℕ). Within n t) (sym permit.alike.threads) w

  mapped_is : (t : ℕ) → t < 4 → mapped_point old z points t (get_or reached_machine.points t 0) ≡ to (suc t) (before.state.point (suc t))
  unfolding mapped_point
  mapped_is t h = go (ltb t z.threads) refl
    where
      go : (x : Bool) → ltb t z.threads ≡ x
          → cond x (new_point P points (suc t) (get_or reached_machine.points t 0)) 0 ≡ to (suc t) (before.state.point (suc t))
      go true q = ap (λ (k : ℕ). new_point P points (suc t) k) (old_matches.ready.stands.points t h)
      go false q = sym (past_table P points fit_table.size t (before.state.point (suc t)) (ltb-false t z.threads q))

  -- what stands for the state reached stands, with mapped points, for the state that is handed over
  handed_stands : StandsFor (handed_over old z points reached_machine) (handed to before.state)
  unfolding handed_over
  handed_stands =
      let m = old_matches.ready.stands.memory in
      record {
        memory = record {
          rows = m.rows;
          places = m.places;
          threads = m.threads;
          size = m.size;
          few = m.few;
          writes = m.writes;
          views = m.views;
        };
        registers = old_matches.ready.stands.registers;
        four = refl;
        points = four_points;
      }
    where
      four_points : (t : ℕ) → t < 4
          → get_or (mapped_point old z points 0 (get_or reached_machine.points 0 0) ∷ mapped_point old z points 1
          (get_or reached_machine.points 1 0) ∷ mapped_point old z points 2
          (get_or reached_machine.points 2 0) ∷ mapped_point old z points 3 (get_or reached_machine.points 3 0) ∷ []) t 0
          ≡ to (suc t) (before.state.point (suc t))
      four_points zero h = mapped_is 0 h
      four_points (suc zero) h = mapped_is 1 h
      four_points (suc (suc zero)) h = mapped_is 2 h
      four_points (suc (suc (suc zero))) h = mapped_is 3 h
      four_points (suc (suc (suc (suc t)))) h = absurd (omega arith)

  handed_ready : Ready new y d (handed to before.state) (handed_over old z points reached_machine)
  handed_ready = record {
    wf = wf_handed permit.alike to before.state old_matches.ready.wf;
    points = λ t w. permit.there t (before.state.point t) (old_in t w) (old_matches.ready.points t (old_in t w));
    stands = handed_stands;
  }

  abbrev new_run : Run
  new_run = ran new y room (handed_over old z points reached_machine) 0 second

  new_matches : Matches new y d room few new_run after
  new_matches = follows new y d room few (handed to before.state) (handed_over old z points reached_machine) handed_ready 0 second

  -- the states are those of runs over the steps taken
  before_state : before.state ≡ run P start (take before.steps (steps_in first))
  before_state =
      let q = reached P room start 0 first in
      let n : q.taken ≡ before.steps = omega (arith, q.counted) in
      q.state ∙ ap (λ (j : ℕ). run P start (take j (steps_in first))) n

  after_state : after.state ≡ run Q (handed to before.state) (take after.steps (steps_in second))
  after_state =
      let q = reached Q room (handed to before.state) 0 second in
      let n : q.taken ≡ after.steps = omega (arith, q.counted) in
      q.state ∙ ap (λ (j : ℕ). run Q (handed to before.state) (take j (steps_in second))) n

  new_way : (l : List Step) → Holds Q N (run Q (handed to before.state) l)
  new_way l =
      subst (λ (s : State). Holds Q N (run Q (handed to s) l)) (sym before_state)
      ((across_holds old z new y points a b e).holds start starts (take before.steps (steps_in first)) l)

  -- threads and registers that are not there
  same_registers : z.registers ≡ y.registers
  unfolding sizes_of
  same_registers =
      ap (λ (x : Sizes). x.registers) c.sizes ∙ ap (λ (l : List ℕ). register_count l) (zero_so old z new y points a b e).0 ∙ sym
      (ap (λ (x : Sizes). x.registers) d.sizes)

  no-thread : (t : ℕ) → y.threads ≤ t → after.state.point (suc t) ≡ 0
  no-thread t h =
      let s : z.threads ≡ y.threads = permit.alike.threads in
      ap (λ (q : State). q.point (suc t)) after_state
      ∙ absent_point Q (suc t) (omega arith) (take after.steps (steps_in second)) (handed to before.state)
      (past_table P points fit_table.size t (before.state.point (suc t)) (omega arith))

  no_register : (r : ℕ) → y.registers < r → after.state.reg r ≡ 0
  no_register r h =
      let s = same_registers in
      ap (λ (q : State). q.reg r) after_state
      ∙ register_kept new y d r h (take after.steps (steps_in second)) (handed to before.state)
      (ap (λ (q : State). q.reg r) before_state ∙ absent_register old z c r (omega arith) (λ r. nth given r 0)
      (take before.steps (steps_in first)))

  module _ (fit : z.words ≤ room) where
    full : used after.state y.words ≤ room
    full =
        let w : z.words ≡ y.words = permit.alike.words in
        fits Q room (handed to before.state) 0 second
        (let g = fits P room start 0 first (omega (arith, used_first P (λ r. nth given r 0) z.words)) in
        subst (λ (n : ℕ). used (handed to before.state) n ≤ room) w (omega (arith, used_handed to before.state z.words)))

    module _ (taken : before.code ≡ 0) where
      abbrev r : Replayed
      r = across_on old z new y points first second given room

      on_is : r ≡ of_run z (behind old_run new_run)
      unfolding across_on went_on
      on_is = rw (le-ltb room z.words fit, eq-eqb (ran old z room machine 0 first).code 0 (old_matches.code ∙ taken))

      table : TableStands y.words (shown_of (of_run z (behind old_run new_run)) lent) after.state
      unfolding shown_of
      table =
          subst (λ (n : ℕ). TableStands y.words (shown_in new_run.machine.memory n lent) after.state) (sym permit.alike.words)
          (table_is Q new_run.machine.memory after.state new_matches.ready.stands.memory new_matches.ready.wf
          (sizes_few y (bodies new) d).1 lent full)

      answer : AnswerStands y.threads y.registers (answer_of (of_run z (behind old_run new_run))) after.state
      unfolding answer_of
      answer = record {
        points = new_matches.ready.stands.points;
        registers = new_matches.ready.stands.registers.same;
        no-thread = λ t h g. new_matches.ready.stands.points t g ∙ no-thread t h;
        no_register = λ x h. new_matches.ready.stands.registers.same x ∙ no_register x h;
      }

      plain : (t : ℕ) → t < y.threads → T (of_regs (N (suc t) (get_or new_run.machine.points t 0)))
          → plain_true Q.range (λ x. nth new_run.machine.registers.at x 0) (N (suc t) (get_or new_run.machine.points t 0)) ≡ true
      plain t h k =
          let four = (sizes_few y (bodies new) d).0 in
          let g : get_or new_run.machine.points t 0 ≡ after.state.point (suc t) = new_matches.ready.stands.points t (omega arith) in
          let w : Within Q.threads (suc t) = (omega arith, omega arith) in
          let s : Holds Q N after.state = subst (Holds Q N) (sym after_state) (new_way (take after.steps (steps_in second))) in
          subst (λ (f : ℕ → ℕ). plain_true Q.range f (N (suc t) (get_or new_run.machine.points t 0)) ≡ true)
          (sym (fun_ext new_matches.ready.stands.registers.same))
          (subst (λ (j : ℕ). T (of_regs (N (suc t) j)) → plain_true Q.range after.state.reg (N (suc t) j) ≡ true) (sym g)
          (λ i. plain-true Q after.state (N (suc t) (after.state.point (suc t))) i (s (suc t) w)) k)

      whole : Across old z new y points first second given room (answer_of (of_run z (behind old_run new_run)))
          (shown_of (of_run z (behind old_run new_run)) lent)
      unfolding answer_of
      whole = record {
        code = new_matches.code;
        steps = ap₂ (λ (i j : ℕ). i + j) old_matches.steps new_matches.steps;
        state = after_state ∙ ap (λ (s : State). run Q (handed to s) (take after.steps (steps_in second))) before_state;
        answer = answer;
        table = table;
        fits = omega (arith, table.many, full);
        old_way = λ k h. (every_run P O (well-formed z (bodies old) c) (accepted_proved old z a)).holds start starts
            (take k (steps_in first));
        new_way = λ k h. new_way (take k (steps_in second));
        holds = subst (Holds Q N) (sym after_state) (new_way (take after.steps (steps_in second)));
        plain = plain;
      }

      goes_on : Across old z new y points first second given room (answer_of r) (shown_of r lent)
      goes_on = subst (λ (x : Replayed). Across old z new y points first second given room (answer_of x) (shown_of x lent)) (sym on_is) whole

    -- a step refused in the first trace: the replay of that trace
    stopped_is : (before.code ≡ 0 → ⊥) → across_on old z new y points first second given room ≡ replay_on old z first given room
    unfolding across_on replay_on
    stopped_is h =
        rw (le-ltb room z.words fit)
        (ap (of_run z) (sym (went_refused old z new y points room old_run second
        (λ (q : old_run.code ≡ 0). h (sym old_matches.code ∙ q)))))

  unfit_is : room < z.words → across_on old z new y points first second given room ≡ replay_on old z first given room
  unfolding across_on replay_on
  unfit_is h = rw (lt-ltb room z.words h)

module _ (old new points first second given : List ℕ) (lent : ℕ) where
  abbrev all : Replayed
  all = across_of old new points first second given lent

  abbrev code : ℕ
  code = handover_code old new points

  -- not permitted
  refused_is : (code ≡ 0 → ⊥) → all ≡ refused_by code
  unfolding across_of across_by handover_code
  refused_is h = go (acceptance old) (acceptance new) h
    where
      go : (x w : Option Sizes) → (Code.by_acceptance old new points x w ≡ 0 → ⊥)
          → by_acceptance old new points first second given (room_of lent) x w ≡ refused_by (Code.by_acceptance old new points x w)
      go None w g = refl
      go (Some z) None g = refl
      go (Some z) (Some y) g = rw (ne_eqb (code_of old z new y points) 0 g)

  refused_answer : (n : ℕ) → (answer_of (refused_by n) ≡ unpermitted n) × (shown_of (refused_by n) lent ≡ [])
  unfolding refused_by answer_of shown_of started start_registers start_values_to start_register column
  refused_answer n = (refl, refl)

  module _ (z y : Sizes) (a : acceptance old ≡ Some z) (b : acceptance new ≡ Some y) where
    code_is : code ≡ code_of old z new y points
    unfolding handover_code
    code_is = ap₂ (Code.by_acceptance old new points) a b

    permitted_is : code ≡ 0 → all ≡ across_on old z new y points first second given (room_of lent)
    unfolding across_of across_by
    permitted_is h = rw (a, b, eq-eqb (code_of old z new y points) 0 (sym code_is ∙ h))

    replay_is : replay_of old first given lent ≡ replay_on old z first given (room_of lent)
    unfolding replay_of
    replay_is = rw a

  -- of every input
  promised : (a : Answer) (shown : List Write) → a ≡ answer_of all → shown ≡ shown_of all lent
      → Promise old new points first second given lent a shown
  promised a shown ea es = record {
    answer = ea;
    table = es;
    refused = λ h. (
      ea ∙ ap answer_of (refused_is h) ∙ (refused_answer code).0,
      es ∙ ap (λ (r : Replayed). shown_of r lent) (refused_is h)
          ∙ (refused_answer code).1,
    );
    unfit = λ z y p q h f. (Replay.promised old first given lent a shown
        (ea ∙ ap answer_of (as_replay z y p q h (unfit_is old z new y points p q (sym (code_is z y p q) ∙ h) first second given lent f)))
        (es ∙ ap (λ (r : Replayed). shown_of r lent)
        (as_replay z y p q h (unfit_is old z new y points p q (sym (code_is z y p q) ∙ h) first second given lent f)))
        ).unfit z p f;
    stopped = λ z y p q h f g. (Replay.promised old first given lent a shown
        (ea ∙ ap answer_of (as_replay z y p q h (stopped_is old z new y points p q (sym (code_is z y p q) ∙ h) first second given lent f g)))
        (es ∙ ap (λ (r : Replayed). shown_of r lent)
        (as_replay z y p q h (stopped_is old z new y points p q (sym (code_is z y p q) ∙ h) first second given lent f g)))
        ).replays z p f;
    goes_on = λ z y p q h f g. rw (ea, es, permitted_is z y p q h)
        (goes_on old z new y points p q (sym (code_is z y p q) ∙ h) first second given lent f g);
  }
    where
      as_replay : (z y : Sizes) → (p : acceptance old ≡ Some z) → (q : acceptance new ≡ Some y) → code ≡ 0
          → across_on old z new y points first second given (room_of lent) ≡ replay_on old z first given (room_of lent)
          → all ≡ replay_of old first given lent
      as_replay z y p q h s = permitted_is z y p q h ∙ s ∙ sym (replay_is z y p q)

-- the entry point
module _ (old new points first second given table room : List ℕ) where
  abbrev lent : ℕ
  lent = entries_in table

  abbrev replayed_all : Replayed
  replayed_all = across_of old new points first second given lent

  shown_right : (y : Shown) → y ≡ shown_by replayed_all lent
      → Promise old new points first second given lent y.answer (take y.count y.writes)
  unfolding shown_by
  shown_right y e =
      promised old new points first second given lent y.answer (take y.count y.writes) (ap (λ (x : Shown). x.answer) e)
      (ap (λ (x : Shown). take x.count x.writes) e ∙ shown_are replayed_all lent)

  pub written_short : length room < size → Written old new points first second given table room 1 table room
  unfolding Answered.code_for numbers_for table_for
  written_short h = record {
    answer = answer_of replayed_all;
    shown = shown_of replayed_all lent;
    right = promised old new points first second given lent (answer_of replayed_all) (shown_of replayed_all lent) refl refl;
    returned = rw (lt-ltb _ _ h);
    numbers = rw (lt-ltb _ _ h);
    bytes = rw (lt-ltb _ _ h);
  }

  pub written_whole : (y : Shown) (after told : List ℕ) → size ≤ length room → y ≡ shown_by replayed_all lent
      → told ≡ numbers_of y.answer ++ drop size room
      → after ≡ laid (take y.count y.writes) table → Written old new points first second given table room y.answer.code after told
  unfolding Answered.code_for numbers_for table_for
  written_whole y after told h e et es = record {
    answer = y.answer;
    shown = take y.count y.writes;
    right = shown_right y e;
    returned = rw (le-ltb _ _ h);
    numbers = rw (le-ltb _ _ h) et;
    bytes = rw (le-ltb _ _ h) es;
  }

pub ruleset written_branches = (written_short, written_whole)
