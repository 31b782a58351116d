-- The run over the caller's table, from its start to its end, is the replay: the answer is the replay's, and the table has the writes that
-- the replay shows, with the other entries as they were.
use Prim.Native.Nat.{ℕ, ◌+◌, ◌-◌, ◌≤◌, ◌<◌}
use mathlib.Core.Path.{◌≡◌, refl, ap, sym, ◌∙◌, subst}
use mathlib.Core.Bool.{Bool, true, false}
use mathlib.Core.List.{List, [], ◌++◌}
use native.Mathlib.Omega.{arith}
use lib.Dec.{ltb}
use lib.ListN.{length, get_or, drop, get_or-append}
use lib.Seq.{take_all, length-take-le, length_front, get_or-append-add, get_or-drop, ext_get_or}
use borrow.Author.Tests.{lt-ltb, le-ltb, ltb-true, ltb-false}
use Rattle.std.specs.declared.option.Option.{Option}
use Rattle.std.specs.declared.option.Option.TheVariants.{None, Some}
use Rattle.semantics.specs.Machine.{State, begin}
use Rattle.limits.specs.Numbers.{nth}
use Rattle.image_frames.specs.Records.{bodies}
use Rattle.image_header.specs.declared.sizes.Sizes.{Sizes}
use Rattle.image_meaning.specs.Program.{program_of}
use Rattle.image_meaning.proofs.RecordsChecked.{Checks, sound_checks}
use Rattle.checker_spec.specs.Acceptance.{acceptance}
use Rattle.checker_spec.proofs.AcceptedHolds.{granted_holds}
use Rattle.tables_columns.proofs.ColumnLists.{column_get_d}
use Rattle.replay_memory.specs.Write.{no_write}
use Rattle.replay_memory.specs.Memory.{first}
use Rattle.replay_memory.specs.declared.write.Write.{Write}
use Rattle.replay_memory.specs.declared.memory.Memory.{Memory}
use Rattle.replay_machine.specs.Start.{start_memory, started}
use Rattle.replay_machine.specs.State.{threads_of}
use Rattle.replay_machine.specs.Run.{ran}
use Rattle.replay_machine.specs.Replayed.{room_of, of_run, replay_on}
use Rattle.replay_machine.specs.Answer.{answer_of}
use Rattle.replay_machine.specs.ShownTable.{entries}
use Rattle.replay_machine.specs.OutputTable.{shown_in, shown_of, placed}
use Rattle.replay_machine.specs.declared.answer.Answer.{Answer}
use Rattle.replay_machine.specs.Run.{Run}
use Rattle.replay_machine.specs.declared.state.Machine.{Machine}
use Rattle.replay_machine.specs.Replayed.{Replayed}
use Rattle.replay_machine.proofs.InstructionEffect.{sizes_few}
use Rattle.replay_machine.proofs.OutputBranches.{room_least}
use Rattle.replay_machine.proofs.ShownTableBranches.{entries_length}
use Rattle.replay_spec.specs.ReplayNumbers.{by_acceptance, replay_of}
use Rattle.replay_spec.specs.Promise.{Into}
use Rattle.replay_spec.proofs.StepFollows.{Ready, range_is}
use Rattle.replay_spec.proofs.StartStands.{begun}
use Rattle.replay_spec.proofs.ReplayPromised.{promised}
use Rattle.replay_run.specs.Course.{Course, start_threads, no_sizes, ended_with, opened_on, opened_by, answer_by}
use Rattle.replay_run.specs.RunIn.{run_to}
use Rattle.replay_run.proofs.TableLies.{Lies}
use Rattle.replay_run.proofs.TurnAgrees.{Holding}
use Rattle.replay_run.proofs.RunTurns.{run_done}
use Rattle.replay_run.proofs.RunAgrees.{Ended, runs}
use Rattle.replay_run.proofs.StartAgrees.{Started, starts, start_many, start_lies}

entry_is : (m : Memory) (words i : ℕ) → i < first m.sizes words → get_or (entries m words) i no_write ≡ get_or m.writes i no_write
unfolding entries
entry_is m words i h = column_get_d (λ e. get_or m.writes e no_write) no_write (first m.sizes words) i h

-- the table that has the memory's first writes in front is the one with these placed in it
placed_is : (m : Memory) (words : ℕ) (l table : List Write) → Lies words l m → first m.sizes words ≤ length table → length l ≡ length
    table
    → ((e : ℕ) → first m.sizes words ≤ e → get_or l e no_write ≡ get_or table e no_write) → l ≡ placed (entries m words) table
unfolding placed
placed_is m words l table lies fits long stays =
    ext_get_or no_write l (entries m words ++ drop (length (entries m words)) table) (long ∙ sym whole) (λ i h. go i (ltb i many) refl)
  where
    many : ℕ
    many = first m.sizes words

    is : length (entries m words) ≡ many
    is = entries_length m words

    whole : length (entries m words ++ drop (length (entries m words)) table) ≡ length table
    whole = length_front table (entries m words) (length (entries m words))
        (sym (length-take-le (length (entries m words)) table (omega (arith, is, fits))))

    go : (i : ℕ) (b : Bool) → ltb i many ≡ b
        → get_or l i no_write ≡ get_or (entries m words ++ drop (length (entries m words)) table) i no_write
    go i true e =
        let h = ltb-true i many e in
        lies.same i h ∙ sym (entry_is m words i h)
        ∙ sym (get_or-append (entries m words) (drop (length (entries m words)) table) no_write i (omega (arith, is, h)))
    go i false e =
        let h = ltb-false i many e in
        let j : length (entries m words) + (i - many) ≡ i = omega (arith, is, h) in
        stays i h ∙ ap (λ (k : ℕ). get_or table k no_write) (sym j)
        ∙ sym (get_or-drop (length (entries m words)) table (i - many) no_write)
        ∙ sym (get_or-append-add (entries m words) (drop (length (entries m words)) table) (i - many) no_write)
        ∙ ap (λ (k : ℕ). get_or (entries m words ++ drop (length (entries m words)) table) k no_write) j

-- what is shown fits, and is shown whole
shown_whole : (m : Memory) (words lent : ℕ) → first m.sizes words ≤ room_of lent → shown_in m words lent ≡ entries m words
unfolding shown_in
shown_whole m words lent h = take_all (room_of lent) (entries m words) (omega (arith, entries_length m words))

module _ (s : List ℕ) (z : Sizes) (accepted : acceptance s ≡ Some z) (trace given : List ℕ) (table : List Write)
    (fit : z.words ≤ room_of (length table)) (short : length trace ≤ 18446744073709551615) where
  c : Checks z (bodies s)
  c = sound_checks s z (granted_holds s z accepted).sound

  abbrev room : ℕ
  room = room_of (length table)

  few : room ≤ 64
  few = omega (arith, room_least (length table))

  room_fits : room ≤ length table
  room_fits = omega (arith, room_least (length table))

  abbrev head : List ℕ
  head = get_or (bodies s) 0 []

  abbrev n : Machine
  n = started head z.range given

  abbrev state : State
  state = begin (program_of z (bodies s)) (λ r. nth given r 0)

  ready : Ready s z c state n
  ready = subst (λ (R : ℕ). Ready s z c state (started head R given)) (sym (range_is s z c)) (begun s z c given)

  abbrev first_course : Course
  first_course = opened_on s z (length trace) given room

  abbrev r : Run
  r = ran s z room n 0 trace

  course_is : (first_course.sizes ≡ z) × ((first_course.room ≡ room) × ((first_course.code ≡ 0) × ((first_course.steps ≡ 0)
      × ((first_course.left ≡ z.words + length trace) × ((first_course.begun ≡ 0) × (first_course.threads ≡ threads_of n))))))
  unfolding opened_on start_threads threads_of started start_memory
  course_is = rw (le-ltb room z.words fit) (refl, (refl, (refl, (refl, (refl, (refl, refl))))))

  started_at : Started s z trace (sizes_few z (bodies s) c).1 table first_course first_course.left
  started_at =
      starts s z trace (sizes_few z (bodies s) c).1 z.words first_course.left table first_course
      (omega (arith, course_is.1.1.1.1.1.0)) course_is.0 course_is.1.1.1.1.0 (omega arith)
      (λ e h. absurd (omega (arith, h, course_is.1.1.1.1.1.0))) (omega (arith, fit, room_fits))

  memory_is : n.memory ≡ start_memory head
  unfolding started
  memory_is = refl

  holding : Holding s z c room few started_at.table started_at.course state n
  holding = record {
    sizes = started_at.sizes;
    limit = started_at.room ∙ course_is.1.0;
    code = started_at.code ∙ course_is.1.1.0;
    threads = started_at.threads ∙ course_is.1.1.1.1.1.1;
    begun = omega (arith, started_at.begun);
    ready = ready;
    lies = subst (Lies z.words started_at.table) (sym memory_is)
        (start_lies head z.words started_at.table (sizes_few z (bodies s) c).1 started_at.writes);
    full = subst (λ (m : Memory). first m.sizes z.words ≤ room) (sym memory_is)
        (omega (arith, start_many head z.words (sizes_few z (bodies s) c).1, fit));
    fits = omega (arith, room_fits, started_at.long);
  }

  steps_none : started_at.course.steps ≡ 0
  steps_none = started_at.steps ∙ course_is.1.1.1.0

  ended : Ended s z c room few trace started_at.table n (ran s z room n started_at.course.steps trace)
      (run_to s trace started_at.fuel (started_at.table, started_at.course))
  ended =
      runs s z c room few trace trace started_at.fuel started_at.table started_at.course state n holding started_at.left
      (omega arith) started_at.enough whole (omega (arith, steps_none, short))
    where
      nothing_before : length trace - started_at.course.left ≡ 0
      nothing_before = omega (arith, started_at.left)

      whole : drop (length trace - started_at.course.left) trace ≡ trace
      whole = ap (λ (k : ℕ). drop k trace) nothing_before

  -- where the run ends
  abbrev out : List Write × Course
  out = run_to s trace first_course.left (table, first_course)

  ends : Ended s z c room few trace started_at.table n r out
  ends =
      subst (λ (k : ℕ). Ended s z c room few trace started_at.table n (ran s z room n k trace) out) steps_none
      (subst (Ended s z c room few trace started_at.table n (ran s z room n started_at.course.steps trace))
      (sym started_at.goes_on) ended)

  answer_is : answer_by out.1 ≡ answer_of (of_run z r)
  unfolding answer_by answer_of threads_of
  answer_is = rw (ends.code, ends.steps, ends.threads)

  table_is : out.0 ≡ placed (shown_in r.machine.memory z.words (length table)) table
  table_is =
      placed_is r.machine.memory z.words out.0 table ends.lies (omega (arith, ends.full, room_fits))
      (ends.long ∙ started_at.long)
      (λ e h. ends.stays e h ∙ started_at.stays e (omega (arith, h, ends.grows, many_first)))
      ∙ ap (λ (l : List Write). placed l table) (sym (shown_whole r.machine.memory z.words (length table) ends.full))
    where
      many_first : first n.memory.sizes z.words ≡ z.words
      many_first = subst (λ (m : Memory). first m.sizes z.words ≡ z.words) (sym memory_is)
          (start_many head z.words (sizes_few z (bodies s) c).1)

  replay_is : replay_of s trace given (length table) ≡ of_run z r
  unfolding replay_of replay_on
  replay_is = rw (accepted, le-ltb room z.words fit)

  pub granted_into : (answer_by out.1 ≡ answer_of (replay_of s trace given (length table)))
      × (out.0 ≡ placed (shown_of (replay_of s trace given (length table)) (length table)) table)
  unfolding shown_of
  granted_into = rw replay_is (answer_is, table_is)

-- a replay that shows nothing leaves the table
shown_none : (q : Replayed) (table : List Write) → q.held ≡ false → placed (shown_of q (length table)) table ≡ table
unfolding shown_of placed
shown_none q table h = rw h

-- a run that has ended before any step
ended_into : (s trace given : List ℕ) (table : List Write) (o : Course) (q : Replayed) → o.left ≡ 0 → q.held ≡ false
    → answer_by o ≡ answer_of q → replay_of s trace given (length table) ≡ q
    → (answer_by (run_to s trace o.left (table, o)).1 ≡ answer_of (replay_of s trace given (length table)))
    × ((run_to s trace o.left (table, o)).0 ≡ placed (shown_of (replay_of s trace given (length table)) (length table)) table)
ended_into s trace given table o q e h a f =
    let d : run_to s trace o.left (table, o) ≡ (table, o) = run_done s trace o.left (table, o) e in (
      ap (λ (y : List Write × Course). answer_by y.1) d ∙ a ∙ ap answer_of (sym f),
      ap (λ (y : List Write × Course). y.0) d ∙ sym (shown_none q table h)
          ∙ ap (λ (x : Replayed). placed (shown_of x (length table)) table) (sym f),
    )

-- THE WHOLE RUN, BY THE ACCEPTANCE OF THE IMAGE

opened_declined : (s : List ℕ) (k : ℕ) (given : List ℕ) (lent : ℕ) → acceptance s ≡ None
    → opened_by s k given lent ≡ ended_with no_sizes (room_of lent) 24 (start_threads [] 0 [])
unfolding opened_by
opened_declined s k given lent e = rw e

opened_granted : (s : List ℕ) (z : Sizes) (k : ℕ) (given : List ℕ) (lent : ℕ) → acceptance s ≡ Some z
    → opened_by s k given lent ≡ opened_on s z k given (room_of lent)
unfolding opened_by
opened_granted s z k given lent e = rw e

opened_unfit : (s : List ℕ) (z : Sizes) (k : ℕ) (given : List ℕ) (room : ℕ) → room < z.words
    → opened_on s z k given room ≡ ended_with z room 29 (start_threads (get_or (bodies s) 0 []) z.range given)
unfolding opened_on
opened_unfit s z k given room h = rw (lt-ltb room z.words h)

replay_declined : (s trace given : List ℕ) (lent : ℕ) → acceptance s ≡ None
    → replay_of s trace given lent ≡ by_acceptance s trace given (room_of lent) None
unfolding replay_of
replay_declined s trace given lent e = rw e

abbrev unfit : List ℕ → Sizes → List ℕ → Replayed
unfit s z given =
    record { code = 29; steps = 0; held = false; words = z.words; machine = started (get_or (bodies s) 0 []) z.range given }

replay_unfit : (s : List ℕ) (z : Sizes) (trace given : List ℕ) (lent : ℕ) → acceptance s ≡ Some z → room_of lent < z.words
    → replay_of s trace given lent ≡ unfit s z given
unfolding replay_of replay_on
replay_unfit s z trace given lent e h = rw (e, lt-ltb (room_of lent) z.words h)

-- a course that has ended answers as the replay that has
ended_answer : (z : Sizes) (room code words : ℕ) (b : List ℕ) (R : ℕ) (given : List ℕ)
    → answer_by (ended_with z room code (start_threads b R given))
    ≡ answer_of (record { code = code; steps = 0; held = false; words = words; machine = started b R given })
unfolding answer_by answer_of start_threads started
ended_answer z _ code words b R given = refl

module _ (s trace given : List ℕ) (table : List Write) (short : length trace ≤ 18446744073709551615) where
  abbrev lent : ℕ
  lent = length table

  -- the run from the course o on gives the replay's answer and table
  abbrev Right : Course → Type 0
  Right o = (answer_by (run_to s trace o.left (table, o)).1 ≡ answer_of (replay_of s trace given lent))
      × ((run_to s trace o.left (table, o)).0 ≡ placed (shown_of (replay_of s trace given lent) lent) table)

  granted_right : (z : Sizes) → acceptance s ≡ Some z → Right (opened_on s z (length trace) given (room_of lent))
  granted_right z e = go (ltb (room_of lent) z.words) refl
    where
      go : (b : Bool) → ltb (room_of lent) z.words ≡ b → Right (opened_on s z (length trace) given (room_of lent))
      go true q =
          let h = ltb-true (room_of lent) z.words q in
          subst Right (sym (opened_unfit s z (length trace) given (room_of lent) h))
          (ended_into s trace given table (ended_with z (room_of lent) 29 (start_threads (get_or (bodies s) 0 []) z.range given))
          (unfit s z given)
          refl refl (ended_answer z (room_of lent) 29 z.words (get_or (bodies s) 0 []) z.range given)
          (replay_unfit s z trace given lent e h))
      go false q = granted_into s z e trace given table (ltb-false (room_of lent) z.words q) short

  right : (a : Option Sizes) → acceptance s ≡ a → Right (opened_by s (length trace) given lent)
  right None e =
      subst Right (sym (opened_declined s (length trace) given lent e))
      (ended_into s trace given table (ended_with no_sizes (room_of lent) 24 (start_threads [] 0 []))
      (by_acceptance s trace given (room_of lent) None) refl refl
      (ended_answer no_sizes (room_of lent) 24 0 [] 0 []) (replay_declined s trace given lent e))
  right (Some z) e = subst Right (sym (opened_granted s z (length trace) given lent e)) (granted_right z e)

  pub run_into : (o q : Course) (a : Answer) (after : List Write) → o ≡ opened_by s (length trace) given lent
      → (after, q) ≡ run_to s trace o.left (table, o) → a ≡ answer_by q → Into s trace given table a after
  run_into o q a after eo er ea =
      let h : Right o = subst Right (sym eo) (right (acceptance s) refl) in
      let ends : answer_by q ≡ answer_of (replay_of s trace given lent)
      = ap (λ (y : List Write × Course). answer_by y.1) er ∙ h.0 in record {
        shown = shown_of (replay_of s trace given lent) lent;
        right = promised s trace given lent a (shown_of (replay_of s trace given lent) lent) (ea ∙ ends) refl;
        writes = ap (λ (y : List Write × Course). y.0) er ∙ h.1;
      }
