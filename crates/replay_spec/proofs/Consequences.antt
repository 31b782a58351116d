-- WHAT A CALLER OF A REPLAY MAY CONCLUDE, from its promise alone, in the order and the words of Change 7.
use mathlib.Core.Path.{◌≡◌, ap, ◌∙◌}
use mathlib.Core.Bool.{true}
use mathlib.Core.List.{List, [], ◌∷◌, ◌++◌}
use Prim.Native.Nat.{ℕ, suc, ◌+◌, ◌*◌, ◌≤◌, ◌<◌}
use lib.Dec.{T}
use lib.ListN.{length, get_or, take, drop, replicate}
use Rattle.std.specs.declared.option.Option.TheVariants.{None, Some}
use Rattle.semantics.specs.Base.{Within}
use Rattle.semantics.specs.Formula.{Formula, Formula.both_a, Formula.either_a, Formula.holds}
use Rattle.semantics.specs.Machine.{State, Program, begin, run}
use Rattle.semantics.specs.Truth.{True}
use Rattle.semantics.specs.EveryRun.{Outline}
use Rattle.limits.specs.Numbers.{nth}
use Rattle.image_frames.specs.Records.{bodies}
use Rattle.image_header.specs.declared.sizes.Sizes.{Sizes}
use Rattle.image_meaning.specs.Program.{program_of, outline_of}
use Rattle.checker_spec.specs.Acceptance.{acceptance}
use Rattle.tables_columns.specs.Column.{column}
use Rattle.replay_memory.specs.Write.{start_write}
use Rattle.replay_memory.specs.declared.write.Write.{Write}
use Rattle.replay_machine.specs.Replayed.{room_of}
use Rattle.replay_machine.specs.declared.answer.Answer.{Answer}
use Rattle.replay_machine.specs.Answer.{answer_of}
use Rattle.replay_machine.specs.OutputTable.{entry_bytes, table_bytes, entries_in, placed, shown_of}
use Rattle.replay_spec.specs.MachineReplay.{ReplayResult, used, replayed, steps_in}
use Rattle.replay_spec.specs.ReplayNumbers.{replay_of}
use Rattle.replay_spec.specs.Plain.{of_regs, plain_true}
use Rattle.replay_spec.specs.AnswerStands.{AnswerStands, TableStands}
use Rattle.replay_spec.specs.Promise.{Unfit, Replays, Promise, Into, Written}
use Rattle.replay_spec.proofs.ToldNumbers.{short_code, short_numbers, short_table, own_code, told_steps, told_points, told_registers, told_behind, own_table, entry_at, none_laid}

-- assertions "made of 25, 26 and 28 alone" are those that are evaluated
plain_all : T (of_regs (both_a (holds Formula.false) (either_a (holds (Formula.not Formula.false)) (holds Formula.false))))
plain_all = tt

-- T, R: how many threads and registers there are; what an answer tells of the state s
module _ (T R : ℕ) (a : Answer) (s : State) (q : AnswerStands T R a s) where
  -- "The answer has all points and registers, 0 for those not there"
  pub point_told : (t : ℕ) → t < 4 → get_or a.points t 0 ≡ s.point (suc t)
  point_told = q.points

  pub register_told : (r : ℕ) → nth a.registers r 0 ≡ s.reg r
  register_told = q.registers

  pub no_thread_told : (t : ℕ) → T ≤ t → t < 4 → get_or a.points t 0 ≡ 0
  no_thread_told = q.no-thread

  pub no_register_told : (r : ℕ) → R < r → nth a.registers r 0 ≡ 0
  no_register_told = q.no_register

-- what a table of writes tells of the state s
module _ (words : ℕ) (l : List Write) (s : State) (q : TableStands words l s) where
  -- "the writes word by word in row order"
  pub all_told : length l ≡ used s words
  all_told = q.many

  module _ (k i : ℕ) (word : k < words) (position : i < s.size (suc k)) where
    -- entry of position i of word k + 1
    abbrev pub entry : Write
    entry = get_or l (used s k + i) (start_write 0)

    -- "each with value, marks and stored view"
    pub value_told : entry.value ≡ (s.row (suc k) i).value
    value_told = (q.entry k i word position).value

    pub releasing_told : entry.releasing ≡ (s.row (suc k) i).releasing
    releasing_told = (q.entry k i word position).releasing

    pub covered_told : entry.covered ≡ (s.row (suc k) i).covered
    covered_told = (q.entry k i word position).covered

    -- "views naming row positions, 0 for words not there"
    pub view_told : (y : ℕ) → y < 8 → get_or entry.stored.at y 0 ≡ (s.row (suc k) i).stored (suc y)
    view_told = (q.entry k i word position).stored.same

    pub no_word_told : (y : ℕ) → words ≤ y → y < 8 → get_or entry.stored.at y 0 ≡ 0
    no_word_told y = q.no_word k i y word position

-- an accepted image s with sizes z whose start writes fit
module _ (s : List ℕ) (z : Sizes) (trace given : List ℕ) (room : ℕ) (a : Answer) (shown : List Write)
    (p : Replays s z trace given room a shown) where
  abbrev pub P : Program
  P = program_of z (bodies s)

  abbrev pub O : Outline
  O = outline_of z (bodies s)

  -- the start, with the registers that the caller gives
  abbrev pub first : State
  first = begin P (λ r. nth given r 0)

  -- "run the machine": each step in turn, until one is refused
  abbrev pub outcome : ReplayResult
  outcome = replayed P room first 0 trace

  pub machine_code : a.code ≡ outcome.code
  machine_code = p.code

  pub machine_steps : a.steps ≡ outcome.steps
  machine_steps = p.steps

  -- "a refused step changes nothing and ends the run": the state is that of the machine's run over the steps taken
  pub machine_state : outcome.state ≡ run P first (take a.steps (steps_in trace))
  machine_state = p.state

  pub answer_tells : AnswerStands z.threads z.registers a outcome.state
  answer_tells = p.answer

  pub table_tells : TableStands z.words shown outcome.state
  table_tells = p.table

  pub table_fits : length shown ≤ room
  table_fits = p.fits

  -- "Every state reached is one of the machine's, so each thread's assertion at its point there .. is true": in each state on the way
  pub each_state : (k : ℕ) → k ≤ a.steps → (t : ℕ) → Within z.threads t
      → True P (run P first (take k (steps_in trace))) (O t ((run P first (take k (steps_in trace))).point t))
  each_state = p.on_the_way

  -- and in the one reached
  pub last_state : (t : ℕ) → Within z.threads t → True P outcome.state (O t (outcome.state.point t))
  last_state = p.holds

  -- "if made of 25, 26 and 28 alone": by the answer's points and registers
  pub plain_told : (t : ℕ) → t < z.threads → T (of_regs (O (suc t) (get_or a.points t 0)))
      → plain_true P.range (λ r. nth a.registers r 0) (O (suc t) (get_or a.points t 0)) ≡ true
  plain_told = p.plain

-- every byte string
module _ (image trace given : List ℕ) (lent : ℕ) (a : Answer) (shown : List Write) (p : Promise image trace given lent a shown) where
  -- answer and table are the ones defined for these bytes: every correct program gives them
  pub answer_defined : a ≡ answer_of (replay_of image trace given lent)
  answer_defined = p.answer

  pub table_defined : shown ≡ shown_of (replay_of image trace given lent) lent
  table_defined = p.table

  -- "24 as before, first, table untouched, answer all 0"
  pub not-accepted : acceptance image ≡ None → a ≡ record { code = 24; steps = 0; points = replicate 4 0; registers = replicate 16 0 }
  not-accepted h = (p.refused h).0

  pub not_accepted_table : acceptance image ≡ None → shown ≡ []
  not_accepted_table h = (p.refused h).1

  module _ (z : Sizes) (granted : acceptance image ≡ Some z) where
    -- "If the start writes don't fit, 29 comes before any step: no entry is written, points and registers are as at the start and the
    -- steps are 0"
    module _ (few : room_of lent < z.words) where
      unfit : Unfit image z trace given (room_of lent) a shown
      unfit = p.unfit z granted few

      pub unfit_code : a.code ≡ 29
      unfit_code = unfit.code

      pub unfit_steps : a.steps ≡ 0
      unfit_steps = unfit.steps

      pub unfit_answer : AnswerStands z.threads z.registers a (begin (program_of z (bodies image)) (λ r. nth given r 0))
      unfit_answer = unfit.answer

      pub unfit_table : shown ≡ []
      unfit_table = unfit.table

    -- they fit: all of the above
    pub fits_replays : z.words ≤ room_of lent → Replays image z trace given (room_of lent) a shown
    fits_replays = p.replays z granted

-- the entry point over a table of structs: the writes in front, "other entries stay"
module _ (image trace given : List ℕ) (table : List Write) (a : Answer) (after : List Write) (p : Into image trace given table a after) where
  pub into_right : Promise image trace given (length table) a p.shown
  into_right = p.right

  pub into_writes : after ≡ p.shown ++ drop (length p.shown) table
  unfolding placed
  into_writes = p.writes

-- the entry point over bytes
module _ (image trace given table room : List ℕ) (code : ℕ) (after told : List ℕ)
    (p : Written image trace given table room code after told) where
  abbrev a : Answer
  a = p.answer

  abbrev shown : List Write
  shown = p.shown

  -- the table has room for a write in each whole eleven bytes
  pub written_right : Promise image trace given (entries_in table) a shown
  written_right = p.right

  -- a buffer of less than 21 numbers: 1, and nothing is written
  pub too_short : length room < 21 → code ≡ 1
  too_short h = p.returned ∙ short_code a shown room table h

  pub too_short_numbers : length room < 21 → told ≡ room
  too_short_numbers h = p.numbers ∙ short_numbers a shown room table h

  pub too_short_table : length room < 21 → after ≡ table
  too_short_table h = p.bytes ∙ short_table a shown room table h

  module _ (enough : 21 ≤ length room) where
    -- the answer in the caller's numbers: the steps, all points and registers; "other entries stay", and numbers behind them too
    pub steps_told : get_or told 0 0 ≡ a.steps
    steps_told = ap (λ (n : List ℕ). get_or n 0 0) p.numbers ∙ told_steps a shown room table enough

    pub points_told : take 4 (drop 1 told)
        ≡ get_or a.points 0 0 ∷ get_or a.points 1 0 ∷ get_or a.points 2 0 ∷ get_or a.points 3 0 ∷ []
    points_told = ap (λ (n : List ℕ). take 4 (drop 1 n)) p.numbers ∙ told_points a shown room table enough

    pub registers_told : take 16 (drop 5 told) ≡ column (λ r. get_or a.registers r 0) 16
    registers_told = ap (λ (n : List ℕ). take 16 (drop 5 n)) p.numbers ∙ told_registers a shown room table enough

    pub behind_told : drop 21 told ≡ drop 21 room
    behind_told = ap (λ (n : List ℕ). drop 21 n) p.numbers ∙ told_behind a shown room table enough

    pub code_told : code ≡ a.code
    code_told = p.returned ∙ own_code a shown room table enough

    whole_table : after ≡ table_bytes shown ++ drop (length shown * 11) table
    whole_table = p.bytes ∙ own_table a shown room table enough

    -- eleven bytes for each write: value, releasing, covered, a position for each of eight words
    pub entry_told : (e : ℕ) → e < length shown → take 11 (drop (11 * e) after) ≡ entry_bytes (get_or shown e (start_write 0))
    entry_told e h =
        ap (λ (n : List ℕ). take 11 (drop (11 * e) n)) whole_table ∙ entry_at shown (drop (length shown * 11) table) e h

    -- no write is shown: the table is untouched
    untouched : shown ≡ [] → after ≡ table
    untouched e = whole_table ∙ ap (λ (l : List Write). table_bytes l ++ drop (length l * 11) table) e ∙ none_laid table

    -- 24: the table is untouched
    pub refused_untouched : acceptance image ≡ None → after ≡ table
    refused_untouched h = untouched (not_accepted_table image trace given (entries_in table) a shown p.right h)

    pub refused_code : acceptance image ≡ None → code ≡ 24
    refused_code h = code_told ∙ ap (λ (x : Answer). x.code) (not-accepted image trace given (entries_in table) a shown p.right h)
