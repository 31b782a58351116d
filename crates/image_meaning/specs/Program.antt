-- The program of an image and its outline.
use Rattle.std.specs.Prelude.{true, false, cond, List, [], ◌∷◌, ℕ, ◌+◌, ◌-◌, eqb, ltb, get_or}
use Rattle.semantics.specs.Formula.{Sort, Value, Formula.const}
use Rattle.logic.specs.Opcode as Opcode
use Rattle.semantics.specs.Machine.{Program, Mode.store, Mode.swap, Mode.exchange, Mode.fetch_add, Access.none, Access.load, Access.write, Instr, Instr.act, Instr.branch}
use Rattle.semantics.specs.Replace.{Note}
use Rattle.semantics.specs.EveryRun.{Outline}
use Rattle.limits.specs.Numbers.{nth, numbers}
use Rattle.image_header.specs.declared.sizes.Sizes.{Sizes}
use Rattle.image_header.specs.declared.instruction.Half.{Half}
use Rattle.image_header.specs.declared.instruction.Instruction.{Instruction}
use Rattle.image_header.specs.Header.{start_values, cleared, value_range}
use Rattle.image_header.specs.Thread.{last_point}
use Rattle.image_bodies.specs.RecordPlaces.{thread_body, instruction_of}
use Rattle.image_bodies.specs.PointCounts.{point_counts_to, point_counts}
use Rattle.image_meaning.specs.Formulas.{formula}

-- the assignment of f to the register r
abbrev pub gives : ℕ → Value → Note
gives r f = record { to = r; by = f }

-- the instruction for an unknown operation; a well-formed image has none
abbrev pub idle : Instr
idle = act none (gives 0 (const 0) ∷ [])

module _ (l : List (List ℕ)) where
  -- the assignment of a second half: a note, which the field calls an auxiliary assignment
  abbrev pub note_of : Half → Note
  note_of h = gives h.a (formula l Sort.value h.formula)

  -- an instruction by its operation. An assignment is a note without an access; 9 to 11 are an access with a note, 12 is two notes
  unfoldable pub instr : Instruction → Instr
  instr i =
      cond (eqb i.operation Opcode.assign) (act none (gives i.a (formula l Sort.value i.formula) ∷ []))
      (cond (eqb i.operation Opcode.load) (act (load false i.a i.b) [])
      (cond (eqb i.operation Opcode.acquire) (act (load true i.a i.b) [])
      (cond (eqb i.operation Opcode.store) (act (write (store false) i.a (formula l Sort.value i.formula)) [])
      (cond (eqb i.operation Opcode.release) (act (write (store true) i.a (formula l Sort.value i.formula)) [])
      (cond (eqb i.operation Opcode.swap) (act (write swap i.a (formula l Sort.value i.formula)) [])
      (cond (eqb i.operation Opcode.branch) (branch (formula l Sort.test i.formula) i.a)
      (cond (eqb i.operation Opcode.exchange) (act (write (exchange i.b) i.a (formula l Sort.value i.formula)) [])
      (cond (eqb i.operation Opcode.fetch_add) (act (write (fetch_add i.b) i.a (formula l Sort.value i.formula)) [])
      (cond (eqb i.operation Opcode.pair_store) (act (write (store false) i.a (formula l Sort.value i.formula))
      (note_of i.second ∷ []))
      (cond (eqb i.operation Opcode.pair_release) (act (write (store true) i.a (formula l Sort.value i.formula))
      (note_of i.second ∷ []))
      (cond (eqb i.operation Opcode.pair_swap) (act (write swap i.a (formula l Sort.value i.formula)) (note_of i.second ∷ []))
      (cond (eqb i.operation Opcode.assign_two) (act none (gives i.a (formula l Sort.value i.formula) ∷ note_of i.second ∷ []))
      idle))))))))))))

module _ (z : Sizes) (l : List (List ℕ)) where
  -- the number of points of thread t
  unfoldable pub point_count : ℕ → ℕ
  point_count t = last_point (thread_body z l t) + 1

  -- the program; words that are not there start with 0
  abbrev pub program_of : Program
  program_of = record {
    threads = z.threads;
    words = z.words;
    range = value_range (get_or l 0 []);
    init = λ x. nth (start_values (get_or l 0 [])) x 0;
    cleared = cleared (get_or l 0 []);
    points = point_count;
    code = λ t k. instr l (instruction_of z l t k);
  }

  -- the outline's record, after the threads
  abbrev pub outline_body : List ℕ
  outline_body = get_or l (z.formulas + z.threads + 1) []

  -- the number of the formula at point k of thread t: "a formula per point, threads in order"; 0 where there is none
  unfoldable pub outline_number : ℕ → ℕ → ℕ
  outline_number t k =
      cond (eqb t 0) 0
      (cond (ltb z.threads t) 0
      (get_or (numbers (point_counts z l).points outline_body) ((point_counts_to z l (t - 1)).points + k) 0))

  -- the assertion at point k of thread t
  abbrev pub outline_of : Outline
  outline_of t k = formula l Sort.assertion (outline_number t k)
