-- WHAT A CALLER OF `replay_handover` MAY CONCLUDE, from its promise alone, in the order and the words of Change 12.
use mathlib.Core.Path.{◌≡◌, ap, ◌∙◌}
use mathlib.Core.Bool.{true}
use mathlib.Core.List.{List, [], ◌∷◌, ◌++◌}
use Prim.Native.Nat.{ℕ, suc, ◌+◌, ◌*◌, ◌≤◌, ◌<◌}
use lib.Dec.{T}
use lib.ListN.{length, get_or, take, drop, replicate}
use Rattle.std.specs.declared.option.Option.TheVariants.{Some}
use Rattle.semantics.specs.Base.{Within}
use Rattle.semantics.specs.Machine.{State, Program, begin, run}
use Rattle.semantics.specs.Truth.{True}
use Rattle.semantics.specs.EveryRun.{Outline}
use Rattle.limits.specs.Numbers.{nth}
use Rattle.image_frames.specs.Records.{bodies}
use Rattle.image_header.specs.declared.sizes.Sizes.{Sizes}
use Rattle.image_meaning.specs.Program.{program_of, outline_of}
use Rattle.checker_spec.specs.Acceptance.{acceptance}
use Rattle.tables_columns.specs.Column.{column}
use Rattle.replay_memory.specs.Write.{start_write}
use Rattle.replay_memory.specs.declared.write.Write.{Write}
use Rattle.replay_machine.specs.Replayed.{room_of}
use Rattle.replay_machine.specs.declared.answer.Answer.{Answer}
use Rattle.replay_machine.specs.Answer.{answer_of}
use Rattle.replay_machine.specs.OutputTable.{entry_bytes, table_bytes, entries_in, shown_of}
use Rattle.replay_spec.specs.MachineReplay.{ReplayResult, replayed, steps_in}
use Rattle.replay_spec.specs.Plain.{of_regs, plain_true}
use Rattle.replay_spec.specs.AnswerStands.{AnswerStands, TableStands}
use Rattle.replay_spec.specs.Promise.{Unfit, Replays}
use Rattle.replay_spec.proofs.ToldNumbers.{short_code, short_numbers, short_table, own_code, told_steps, told_points, told_registers, told_behind, own_table, entry_at, none_laid}
use Rattle.handover_spec.specs.Handover.{NewPoint, handed, across}
use Rattle.handover_spec.specs.Table.{new_point}
use Rattle.handover_spec.specs.Code.{handover_code}
use Rattle.handover_replay.specs.ReplayAcross.{across_of}
use Rattle.handover_replay.specs.Promise.{Across, Promise, Written}

-- two accepted images with sizes z and y and a permitted handover, where no step of the first trace is refused
module _ (old : List ℕ) (z : Sizes) (new : List ℕ) (y : Sizes) (points first second given : List ℕ) (room : ℕ) (a : Answer)
    (shown : List Write) (p : Across old z new y points first second given room a shown) where
  abbrev pub P : Program
  P = program_of z (bodies old)

  abbrev pub Q : Program
  Q = program_of y (bodies new)

  abbrev pub O : Outline
  O = outline_of z (bodies old)

  abbrev pub N : Outline
  N = outline_of y (bodies new)

  abbrev pub to : NewPoint
  to = new_point P points

  abbrev pub begun : State
  begun = begin P (λ r. nth given r 0)

  -- the first trace under the old code
  abbrev pub before : ReplayResult
  before = replayed P room begun 0 first

  -- "after the first trace it goes on with the same memory, views, registers and mapped points"
  abbrev pub behind : ReplayResult
  behind = replayed Q room (handed to before.state) 0 second

  pub across_code : a.code ≡ behind.code
  across_code = p.code

  -- "Its steps are those of both traces"
  pub across_steps : a.steps ≡ before.steps + behind.steps
  across_steps = p.steps

  pub across_state : behind.state
      ≡ across P Q to begun (take before.steps (steps_in first)) (take behind.steps (steps_in second))
  across_state = p.state

  pub across_answer : AnswerStands y.threads y.registers a behind.state
  across_answer = p.answer

  pub across-table : TableStands y.words shown behind.state
  across-table = p.table

  pub across_fits : length shown ≤ room
  across_fits = p.fits

  -- the old assertions in each state under the old code
  pub each_old_state : (k : ℕ) → k ≤ before.steps → (t : ℕ) → Within z.threads t
      → True P (run P begun (take k (steps_in first))) (O t ((run P begun (take k (steps_in first))).point t))
  each_old_state = p.old_way

  -- "all later states satisfy the new assertions, though the run began under the old code"
  pub each_new_state : (k : ℕ) → k ≤ behind.steps → (t : ℕ) → Within y.threads t
      → True Q (run Q (handed to before.state) (take k (steps_in second)))
      (N t ((run Q (handed to before.state) (take k (steps_in second))).point t))
  each_new_state = p.new_way

  pub last_state : (t : ℕ) → Within y.threads t → True Q behind.state (N t (behind.state.point t))
  last_state = p.holds

  pub plain_told : (t : ℕ) → t < y.threads → T (of_regs (N (suc t) (get_or a.points t 0)))
      → plain_true Q.range (λ r. nth a.registers r 0) (N (suc t) (get_or a.points t 0)) ≡ true
  plain_told = p.plain

-- every two byte strings
module _ (old new points first second given : List ℕ) (lent : ℕ) (a : Answer) (shown : List Write)
    (p : Promise old new points first second given lent a shown) where
  -- answer and table are the ones defined for these bytes: every correct program gives them
  pub answer_defined : a ≡ answer_of (across_of old new points first second given lent)
  answer_defined = p.answer

  pub table_defined : shown ≡ shown_of (across_of old new points first second given lent) lent
  table_defined = p.table

  -- "In the replay call these three take the place of 24, with its effects": 32, 33, 34
  pub not_permitted : (handover_code old new points ≡ 0 → ⊥)
      → a ≡ record { code = handover_code old new points; steps = 0; points = replicate 4 0; registers = replicate 16 0 }
  not_permitted h = (p.refused h).0

  pub not_permitted_table : (handover_code old new points ≡ 0 → ⊥) → shown ≡ []
  not_permitted_table h = (p.refused h).1

  module _ (z y : Sizes) (granted : acceptance old ≡ Some z) (granted₂ : acceptance new ≡ Some y)
      (permitted : handover_code old new points ≡ 0) where
    -- "If the start writes don't fit, 29 comes before any step"
    pub start_unfit : room_of lent < z.words → Unfit old z first given (room_of lent) a shown
    start_unfit = p.unfit z y granted granted₂ permitted

    abbrev pub first_trace : ReplayResult
    first_trace = replayed (program_of z (bodies old)) (room_of lent) (begin (program_of z (bodies old)) (λ r. nth given r 0)) 0 first

    -- "a step refused in the first ends the run under the old code"
    pub ends_under_old : z.words ≤ room_of lent → (first_trace.code ≡ 0 → ⊥) → Replays old z first given (room_of lent) a shown
    ends_under_old = p.stopped z y granted granted₂ permitted

    pub goes_on_under_new : z.words ≤ room_of lent → first_trace.code ≡ 0
        → Across old z new y points first second given (room_of lent) a shown
    goes_on_under_new = p.goes_on z y granted granted₂ permitted

-- the entry point
module _ (old new points first second given table room : List ℕ) (code : ℕ) (after told : List ℕ)
    (p : Written old new points first second given table room code after told) where
  abbrev a : Answer
  a = p.answer

  abbrev shown : List Write
  shown = p.shown

  pub written_right : Promise old new points first second given (entries_in table) a shown
  written_right = p.right

  -- a buffer of less than 21 numbers: 1, and nothing is written
  pub too_short : length room < 21 → code ≡ 1
  too_short h = p.returned ∙ short_code a shown room table h

  pub too_short_numbers : length room < 21 → told ≡ room
  too_short_numbers h = p.numbers ∙ short_numbers a shown room table h

  pub too_short_table : length room < 21 → after ≡ table
  too_short_table h = p.bytes ∙ short_table a shown room table h

  module _ (enough : 21 ≤ length room) where
    -- the answer in the caller's numbers: the steps, all points and registers; "other entries stay", and numbers behind them too
    pub steps_told : get_or told 0 0 ≡ a.steps
    steps_told = ap (λ (n : List ℕ). get_or n 0 0) p.numbers ∙ told_steps a shown room table enough

    pub points_told : take 4 (drop 1 told)
        ≡ get_or a.points 0 0 ∷ get_or a.points 1 0 ∷ get_or a.points 2 0 ∷ get_or a.points 3 0 ∷ []
    points_told = ap (λ (n : List ℕ). take 4 (drop 1 n)) p.numbers ∙ told_points a shown room table enough

    pub registers_told : take 16 (drop 5 told) ≡ column (λ r. get_or a.registers r 0) 16
    registers_told = ap (λ (n : List ℕ). take 16 (drop 5 n)) p.numbers ∙ told_registers a shown room table enough

    pub behind_told : drop 21 told ≡ drop 21 room
    behind_told = ap (λ (n : List ℕ). drop 21 n) p.numbers ∙ told_behind a shown room table enough

    pub code_told : code ≡ a.code
    code_told = p.returned ∙ own_code a shown room table enough

    whole_table : after ≡ table_bytes shown ++ drop (length shown * 11) table
    whole_table = p.bytes ∙ own_table a shown room table enough

    -- eleven bytes for each write: value, releasing, covered, a position for each of eight words
    pub entry_told : (e : ℕ) → e < length shown → take 11 (drop (11 * e) after) ≡ entry_bytes (get_or shown e (start_write 0))
    entry_told e h =
        ap (λ (n : List ℕ). take 11 (drop (11 * e) n)) whole_table ∙ entry_at shown (drop (length shown * 11) table) e h

    -- no write is shown: the table is untouched
    untouched : shown ≡ [] → after ≡ table
    untouched e = whole_table ∙ ap (λ (l : List Write). table_bytes l ++ drop (length l * 11) table) e ∙ none_laid table

    -- 32, 33, 34: the table is untouched
    pub refused_untouched : (handover_code old new points ≡ 0 → ⊥) → after ≡ table
    refused_untouched h = untouched (not_permitted_table old new points first second given (entries_in table) a shown p.right h)

    pub refused_code : (handover_code old new points ≡ 0 → ⊥) → code ≡ handover_code old new points
    refused_code h =
        code_told ∙ ap (λ (x : Answer). x.code) (not_permitted old new points first second given (entries_in table) a shown p.right h)
