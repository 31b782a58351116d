-- What a replay promises: the answer and the table stand for the state that the logic's machine reaches, and its outline is true on the
-- way and there.
use mathlib.Core.Path.{◌≡◌, refl, ap, sym, ◌∙◌, subst, fun_ext}
use mathlib.Core.Bool.{true, false}
use mathlib.Core.List.{List, [], ◌++◌}
use Prim.Native.Nat.{ℕ, suc, ◌+◌, ◌≤◌, ◌<◌, min}
use native.Mathlib.Omega.{arith}
use lib.Dec.{T}
use lib.ListN.{length, get_or, take, drop}
use lib.Seq.{take_all}
use borrow.Author.Tests.{lt-ltb, le-ltb}
use Rattle.std.specs.declared.option.Option.TheVariants.{None, Some}
use Rattle.semantics.specs.Base.{Within}
use Rattle.semantics.specs.Machine.{State, Program, Step, Start, run}
use Rattle.semantics.specs.EveryRun.{Outline}
use Rattle.semantics.proofs.Invariant.{Wf}
use Rattle.semantics.proofs.Starts.{begins}
use Rattle.limits.specs.Numbers.{nth}
use Rattle.image_frames.specs.Records.{bodies}
use Rattle.image_header.specs.declared.sizes.Sizes.{Sizes}
use Rattle.image_meaning.specs.Program.{program_of, outline_of}
use Rattle.image_meaning.proofs.RecordsChecked.{Checks, sound_checks}
use Rattle.image_meaning.proofs.WellFormedProgram.{range_two}
use Rattle.checker_spec.specs.Acceptance.{acceptance}
use Rattle.checker_spec.proofs.AcceptedHolds.{granted_holds}
use Rattle.tables_columns.specs.Column.{column}
use Rattle.replay_memory.specs.Write.{start_write}
use Rattle.replay_memory.specs.MemoryStands.{SameWrite, Stands}
use Rattle.replay_memory.specs.declared.write.Write.{Write}
use Rattle.replay_memory.specs.declared.memory.Memory.{Memory}
use Rattle.replay_machine.proofs.InstructionEffect.{sizes_few}
use Rattle.replay_machine.specs.Refusal.{total}
use Rattle.replay_machine.specs.Start.{start_register, start_values_to, start_registers, started}
use Rattle.replay_spec.specs.MachineReplay.{ReplayResult, used, steps_in}
use Rattle.replay_machine.specs.ShownTable.{entries}
use Rattle.replay_spec.specs.StateStands.{StandsFor}
use Rattle.replay_machine.specs.Replayed.{room_of, replay_on}
use Rattle.replay_spec.specs.ReplayNumbers.{replay_of}
use Rattle.replay_spec.specs.Follows as Replay
use Rattle.replay_machine.specs.Replayed.{Replayed}
use Rattle.replay_spec.proofs.StepFollows.{Ready, range_is, total_used}
use Rattle.replay_spec.proofs.RunFollows.{follows}
use Rattle.replay_spec.proofs.StartStands.{begun}
use Rattle.replay_machine.proofs.ShownTableBranches.{entries_length, table_stands}
use Rattle.replay_spec.proofs.ReplayFollows.{every, follows_run}
use Rattle.replay_machine.specs.Answer as Answered
use Rattle.replay_machine.specs.Answer.{size, answer_of, numbers_of, numbers_for}
use Rattle.replay_machine.specs.OutputTable.{shown_in, shown_of, shown_by, put_to, entries_in, laid, table_for}
use Rattle.replay_spec.specs.Plain.{of_regs, plain_true}
use Rattle.replay_spec.specs.AnswerStands.{AnswerStands, TableStands}
use Rattle.replay_spec.specs.Promise.{declined, Unfit, Replays, Promise, Into, Written}
use Rattle.replay_machine.specs.declared.answer.Answer.{Answer}
use Rattle.replay_machine.specs.declared.output.Shown.{Shown}
use Rattle.replay_spec.proofs.AbsentThreads.{absent_point, absent_register}
use Rattle.replay_spec.proofs.PlainWorked.{plain-true}
use Rattle.replay_spec.proofs.RoomEnough.{fits, used_first}
use Rattle.replay_machine.proofs.OutputBranches.{room_least, shown_are, put_placed}

-- the writes of a state, all of them shown
pub table_is : (P : Program) (m : Memory) (s : State) → Stands m s → Wf P s → P.words ≤ 8 → (lent : ℕ) → used s P.words ≤ room_of lent
    → TableStands P.words (shown_in m P.words lent) s
unfolding shown_in
table_is P m s st wf few lent room =
    let n : total m P.words ≡ used s P.words = total_used m s st P.words few in
    let all : take (room_of lent) (entries m P.words) ≡ entries m P.words = take_all (room_of lent) (entries m P.words)
    (omega (arith, entries_length m P.words)) in
    subst (λ (l : List Write). TableStands P.words l s) (sym all) (record {
      many = entries_length m P.words ∙ n;
      entry = entry;
      no_word = λ k i y h g a b.
          let q : (Within P.words (suc y) → ⊥) = λ w. omega (arith, w.1) in
          omega (arith, (entry k i h g).stored.same y b, wf.stored_in (suc k) i (suc y) g, wf.outer (suc y) q);
    })
  where
    entry : (k i : ℕ) → k < P.words → i < s.size (suc k)
        → SameWrite (get_or (entries m P.words) (used s k + i) (start_write 0)) (s.row (suc k) i)
    entry k i h g =
        subst (λ (j : ℕ). SameWrite (get_or (entries m P.words) (j + i) (start_write 0)) (s.row (suc k) i))
        (total_used m s st k (omega arith))
        (table_stands m s st P.words k i h (omega arith) g)

module _ (s : List ℕ) (z : Sizes) (e : acceptance s ≡ Some z) (trace given : List ℕ) (lent : ℕ) where
  abbrev P : Program
  P = program_of z (bodies s)

  abbrev O : Outline
  O = outline_of z (bodies s)

  abbrev room : ℕ
  room = room_of lent

  abbrev first : State
  first = Replay.first s z trace given room

  abbrev outcome : ReplayResult
  outcome = Replay.outcome s z trace given room

  c : Checks z (bodies s)
  c = sound_checks s z (granted_holds s z e).sound

  starts : Start P first
  starts = begins P (omega (arith, range_two z (bodies s) c)) (λ r. nth given r 0)

  ready : Ready s z c first (started (get_or (bodies s) 0 []) z.range given)
  ready = subst (λ (R : ℕ). Ready s z c first (started (get_or (bodies s) 0 []) R given)) (sym (range_is s z c)) (begun s z c given)

  -- points and registers of a state of a run
  answer_is : (r : Replayed) (q : State) (l : List Step) → StandsFor r.machine q → q ≡ run P first l
      → AnswerStands z.threads z.registers (answer_of r) q
  unfolding answer_of
  answer_is r q l st is = record {
    points = st.points;
    registers = st.registers.same;
    no-thread = λ t h g. st.points t g ∙ ap (λ (x : State). x.point (suc t)) is ∙ absent_point P (suc t) (omega arith) l first refl;
    no_register = λ x h. st.registers.same x ∙ ap (λ (y : State). y.reg x) is ∙ absent_register s z c x h (λ r. nth given r 0) l;
  }

  unfit : room < z.words → Unfit s z trace given room (answer_of (replay_on s z trace given room))
      (shown_of (replay_on s z trace given room) lent)
  unfolding replay_on shown_of answer_of
  unfit h = rw (lt-ltb room z.words h) (record {
    code = refl;
    steps = refl;
    answer = answer_is (record {
      code = 29;
      steps = 0;
      held = false;
      words = z.words;
      machine = started (get_or (bodies s) 0 [])
          z.range given;
    }) first [] ready.stands refl;
    table = refl;
  })

  module _ (fit : z.words ≤ room) where
    abbrev r : Replayed
    r = replay_on s z trace given room

    f : Replay.Follows s z trace given room r
    f = follows_run s z trace given room e (omega (arith, room_least lent)) fit

    wf : Wf P outcome.state
    wf = (follows s z c room (omega (arith, room_least lent)) first
        (started (get_or (bodies s) 0 []) z.range given) ready 0 trace).ready.wf

    words_are : r.words ≡ z.words
    unfolding replay_on
    words_are = rw (le-ltb room z.words fit)

    full : used outcome.state z.words ≤ room
    full = fits P room first 0 trace (omega (arith, used_first P (λ r. nth given r 0) z.words))

    table : TableStands z.words (shown_of r lent) outcome.state
    unfolding shown_of
    table = rw (f.held, words_are) (table_is P r.machine.memory outcome.state f.stands.memory wf
        (sizes_few z (bodies s) c).1 lent full)

    answer : AnswerStands z.threads z.registers (answer_of r) outcome.state
    answer = answer_is r outcome.state (take r.steps (steps_in trace)) f.stands f.state

    replays : Replays s z trace given room (answer_of r) (shown_of r lent)
    unfolding answer_of
    replays = record {
      code = f.code;
      steps = f.steps;
      state = f.state;
      answer = answer;
      table = table;
      fits = omega (arith, table.many, full);
      on_the_way = λ k h. (every s z e).holds first starts (take k (steps_in trace));
      holds = f.holds;
      plain = plain;
    }
      where
        plain : (t : ℕ) → t < z.threads → T (of_regs (O (suc t) (get_or r.machine.points t 0)))
            → plain_true P.range (λ x. nth r.machine.registers.at x 0) (O (suc t) (get_or r.machine.points t 0)) ≡ true
        plain t h k =
            let four = (sizes_few z (bodies s) c).0 in
            let d : get_or r.machine.points t 0 ≡ outcome.state.point (suc t) = answer.points t (omega arith) in
            let w : Within P.threads (suc t) = (omega arith, omega arith) in
            subst (λ (g : ℕ → ℕ). plain_true P.range g (O (suc t) (get_or r.machine.points t 0)) ≡ true)
            (sym (fun_ext answer.registers))
            (subst (λ (j : ℕ). T (of_regs (O (suc t) j)) → plain_true P.range outcome.state.reg (O (suc t) j) ≡ true) (sym d)
            (λ i. plain-true P outcome.state (O (suc t) (outcome.state.point (suc t))) i (f.holds (suc t) w)) k)

-- an image that is not accepted
module _ (s trace given : List ℕ) (lent : ℕ) where
  abbrev all : Replayed
  all = replay_of s trace given lent

  declined_is : acceptance s ≡ None → (answer_of all ≡ declined) × (shown_of all lent ≡ [])
  unfolding replay_of answer_of shown_of started start_registers start_values_to start_register column
  declined_is d = rw d (refl, refl)

  granted_is : (z : Sizes) → acceptance s ≡ Some z → all ≡ replay_on s z trace given (room_of lent)
  unfolding replay_of
  granted_is z e = rw e

  -- of every input
  pub promised : (a : Answer) (shown : List Write) → a ≡ answer_of (replay_of s trace given lent)
      → shown ≡ shown_of (replay_of s trace given lent) lent
      → Promise s trace given lent a shown
  promised a shown ea es = record {
    answer = ea;
    table = es;
    refused = λ d. (ea ∙ (declined_is d).0, es ∙ (declined_is d).1);
    unfit = λ z e h. rw (ea, es, granted_is z e) (unfit s z e trace given lent h);
    replays = λ z e h. rw (ea, es, granted_is z e) (replays s z e trace given lent h);
  }

-- what is shown
shown_right : (s trace given : List ℕ) (lent : ℕ) (y : Shown) → y ≡ shown_by (replay_of s trace given lent) lent
    → Promise s trace given lent y.answer (take y.count y.writes)
unfolding shown_by
shown_right s trace given lent y e =
    promised s trace given lent y.answer (take y.count y.writes) (ap (λ (x : Shown). x.answer) e)
    (ap (λ (x : Shown). take x.count x.writes) e ∙ shown_are (replay_of s trace given lent) lent)

-- THE ENTRY POINTS

module _ (s trace given table room : List ℕ) where
  abbrev lent : ℕ
  lent = entries_in table

  pub written_short : length room < size → Written s trace given table room 1 table room
  unfolding Answered.code_for numbers_for table_for
  written_short h = record {
    answer = answer_of (replay_of s trace given lent);
    shown = shown_of (replay_of s trace given lent) lent;
    right = promised s trace given lent (answer_of (replay_of s trace given lent)) (shown_of (replay_of s trace given lent) lent) refl refl;
    returned = rw (lt-ltb _ _ h);
    numbers = rw (lt-ltb _ _ h);
    bytes = rw (lt-ltb _ _ h);
  }

  pub written_whole : (y : Shown) (after told : List ℕ) → size ≤ length room → y ≡ shown_by (replay_of s trace given lent) lent
      → told ≡ numbers_of y.answer ++ drop size room → after ≡ laid (take y.count y.writes) table
      → Written s trace given table room y.answer.code after told
  unfolding Answered.code_for numbers_for table_for
  written_whole y after told h e et es = record {
    answer = y.answer;
    shown = take y.count y.writes;
    right = shown_right s trace given lent y e;
    returned = rw (le-ltb _ _ h);
    numbers = rw (le-ltb _ _ h) et;
    bytes = rw (le-ltb _ _ h) es;
  }

pub ruleset written_branches = (written_short, written_whole)

pub put_into : (s trace given : List ℕ) (table : List Write) (y : Shown) (a : Answer) (after : List Write)
    → y ≡ shown_by (replay_of s trace given (length table)) (length table)
    → y.count ≤ min (length table) 64 → length y.writes ≡ 64 → a ≡ y.answer → after ≡ put_to y y.count table
    → Into s trace given table a after
put_into s trace given table y a after e few whole ea es = record {
  shown = take y.count y.writes;
  right = subst (λ (x : Answer). Promise s trace given (length table) x (take y.count y.writes)) (sym ea)
      (shown_right s trace given (length table) y e);
  writes = es ∙ put_placed y table whole y.count (omega arith) (omega arith);
}
