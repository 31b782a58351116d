-- A thread's record: codes 5 to 9 and 23.
use Rattle.std.specs.Prelude.{Bool, true, not, ◌&&◌, cond, List, [], ℕ, eqb, ltb, leb, get_or}
use Rattle.logic.specs.Opcode as Opcode
use Rattle.limits.specs.Numbers.{nth, every}
use Rattle.image_frames.specs.Fault.{unless, also, Checked, passed}
use Rattle.image_frames.specs.declared.fault.Fault.TheVariants.{Sort, Owner, Operand}
use Rattle.formula.specs.Codes as Codes
use Rattle.formula_compare.specs.Occurs.{occurs, register, foreign}
use Rattle.image_header.specs.declared.sizes.Sizes.{Sizes}
use Rattle.image_header.specs.declared.instruction.Instruction.{Instruction}
use Rattle.image_header.specs.Header.{owners}
use Rattle.image_header.specs.Thread.{instructions, thread_numbers}
use Rattle.image_bodies.specs.FormulaUse.{tree_of, plain_of}

-- "instruction formulas are values, for a branch a test"
unfoldable pub wanted : ℕ → ℕ
wanted op = cond (eqb op Opcode.branch) Codes.test Codes.value

-- code 8: formula k, which is body k of the image, is of the sort, "without 2, 14, 15"; 0 is no formula
unfoldable pub formula_sorted : List (List ℕ) → ℕ → ℕ → Bool
formula_sorted l sort k = cond (eqb k 0) true (plain_of sort (get_or l k []))

-- the formulas of both halves are of their sorts
unfoldable pub sorted : List (List ℕ) → Instruction → Bool
sorted l i = formula_sorted l (wanted i.operation) i.formula && formula_sorted l Codes.value i.second.formula

-- the register that an instruction sets by itself, not by its second half: of assignments and loads, of exchange and fetch-add; 0 for
-- none
unfoldable pub target : Instruction → ℕ
target i =
    cond (leb i.operation Opcode.acquire) i.a
    (cond (leb i.operation Opcode.branch) 0
    (cond (leb i.operation Opcode.fetch_add) i.b
    (cond (leb i.operation Opcode.pair_swap) 0 i.a)))

-- code 9: thread t owns register r; 0 is no register
unfoldable pub register_owned : List (List ℕ) → ℕ → ℕ → Bool
register_owned l t r = cond (eqb r 0) true (eqb (nth (owners (get_or l 0 [])) r 0) t)

-- code 9: formula k is "over own registers"; 0 is no formula
unfoldable pub formula_owned : List (List ℕ) → ℕ → ℕ → Bool
formula_owned l t k = cond (eqb k 0) true (not (occurs (foreign t) (owners (get_or l 0 [])) (tree_of (get_or l k []))))

-- thread t owns the registers of both halves
unfoldable pub owned : List (List ℕ) → ℕ → Instruction → Bool
owned l t i =
    register_owned l t (target i)
    && (formula_owned l t i.formula && (register_owned l t i.second.a && formula_owned l t i.second.formula))

-- code 23: not "operand names the result register", of an exchange or a fetch-add
unfoldable pub result_absent : List (List ℕ) → Instruction → Bool
result_absent l i =
    cond (leb i.operation Opcode.branch) true
    (cond (ltb Opcode.fetch_add i.operation) true
    (not (occurs (register i.b) [] (tree_of (get_or l i.formula [])))))

-- code 9, then code 23
unfoldable pub thread_registers : List (List ℕ) → ℕ → List ℕ → Checked
thread_registers l t b = unless (every (owned l t) (instructions b)) Owner (unless (every (result_absent l) (instructions b)) Operand passed)

-- the record of thread t: codes 5 and 6, then 8, then 9 and 23
unfoldable pub thread : Sizes → List (List ℕ) → ℕ → List ℕ → Checked
thread z l t b = also (thread_numbers z b) (unless (every (sorted l) (instructions b)) Sort (thread_registers l t b))
