-- The source of a document whose records pass their checks.
use Rattle.std.specs.Prelude.{List, [], ◌∷◌, map, ℕ, zero, suc, ◌+◌, eqb, length, get_or, drop}
use Rattle.limits.specs.Limits.{nesting as most}
use Rattle.formula.specs.Reader.{sort_of}
use Rattle.formula_trees.specs.Place.{sort_at, formula_at}
use Rattle.image_header.specs.Header.{value_range, start_values, owners, marks}
use Rattle.image_header.specs.declared.instruction.Half.{Half}
use Rattle.image_header.specs.declared.instruction.Instruction.{Instruction as Coded}
use Rattle.trim_spec.specs.Document.{Document, LineRecord, ClaimRecord}
use Rattle.source.specs.Source.{Listed, Register, Assignment, Instruction, Instruction.assign, Instruction.load, Instruction.acquire, Instruction.store, Instruction.release, Instruction.swap, Instruction.branch, Instruction.exchange, Instruction.fetch_add, Instruction.store_note, Instruction.release_note, Instruction.swap_note, Instruction.assign_two, Point, Thread, Line, Claimed, Source}

-- the formula with these bytes, and its sort
unfoldable pub listed_of : List ℕ → Listed
listed_of b = record { sort = sort_at (sort_of b); formula = formula_at b most (sort_of b) 0 }

-- register r := formula f
abbrev pub assigned : ℕ → ℕ → Assignment
assigned r f = record { to = r; by = f }

-- the second half of an instruction, which is an assignment
abbrev pub second_of : Half → Assignment
second_of h = assigned h.a h.formula

-- the instruction with this operation, fields a and b, formula f and second half h; an operation above 12, which no record has, is read as
-- 12
unfoldable pub typed : ℕ → ℕ → ℕ → ℕ → Half → Instruction
typed zero a b f h = assign (assigned a f)
typed (suc zero) a b f h = load a b
typed (suc (suc zero)) a b f h = acquire a b
typed (suc (suc (suc zero))) a b f h = store a f
typed (suc (suc (suc (suc zero)))) a b f h = release a f
typed (suc (suc (suc (suc (suc zero))))) a b f h = swap a f
typed (suc (suc (suc (suc (suc (suc zero)))))) a b f h = branch a f
typed (suc (suc (suc (suc (suc (suc (suc zero))))))) a b f h = exchange a b f
typed (suc (suc (suc (suc (suc (suc (suc (suc zero)))))))) a b f h = fetch_add a b f
typed (suc (suc (suc (suc (suc (suc (suc (suc (suc zero))))))))) a b f h = store_note a f (second_of h)
typed (suc (suc (suc (suc (suc (suc (suc (suc (suc (suc zero)))))))))) a b f h = release_note a f (second_of h)
typed (suc (suc (suc (suc (suc (suc (suc (suc (suc (suc (suc zero))))))))))) a b f h = swap_note a f (second_of h)
typed (suc (suc (suc (suc (suc (suc (suc (suc (suc (suc (suc (suc n)))))))))))) a b f h = assign_two (assigned a f) (second_of h)

-- the instruction of the source, by its record
abbrev pub typed_of : Coded → Instruction
typed_of i = typed i.operation i.a i.b i.formula i.second

-- the points of a thread, by its instructions and, in front of os, its part of the outline
unfoldable pub points_of : List Coded → List ℕ → List Point
points_of [] os = []
points_of (i ∷ is) os = record { assertion = get_or os 0 0; instruction = typed_of i } ∷ points_of is (drop 1 os)

-- the threads, by their instructions and the outline
unfoldable pub threads_of : List (List Coded) → List ℕ → List Thread
threads_of [] os = []
threads_of (is ∷ r) os = record { points = points_of is os; last = get_or os (length is) 0 } ∷ threads_of r (drop (length is + 1) os)

-- the registers, by their owners and their start marks
unfoldable pub registers_of : List ℕ → List ℕ → List Register
registers_of [] ms = []
registers_of (o ∷ os) ms = record { owner = o; cleared = eqb (get_or ms 0 0) 1 } ∷ registers_of os (drop 1 ms)

-- the line of the source, by its record
abbrev pub line_of : LineRecord → Line
line_of v = record { rule = v.rule; thread = v.thread; point = v.point; left = v.left; right = v.right; premises = v.premises }

-- the claim of the source, by its record
abbrev pub claim_of : ClaimRecord → Claimed
claim_of c = record {
  claim = record { thread = c.thread; point = c.point; other = c.other; other_point = c.other_point };
  line = c.line;
}

-- the source of a document
unfoldable pub source_of : Document → Source
source_of D = record {
  range = value_range D.header;
  start_values = start_values D.header;
  registers = registers_of (owners D.header) (marks D.header);
  formulas = map listed_of D.formulas;
  threads = threads_of D.threads D.outline;
  lines = map line_of D.lines;
  named = D.obligations;
  claims = map claim_of D.claims;
}
