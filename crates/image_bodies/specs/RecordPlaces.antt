-- The place of a record among the bodies of an image: header, formulas, threads, outline, lines, obligations, claims.
use Rattle.std.specs.Prelude.{cond, List, [], ℕ, ◌+◌, eqb, ltb, get_or}
use Rattle.image_header.specs.declared.sizes.Sizes.{Sizes}
use Rattle.image_header.specs.declared.instruction.Instruction.{Instruction}
use Rattle.image_header.specs.Thread.{instructions, nothing}

-- the body of thread t
unfoldable pub thread_body : Sizes → List (List ℕ) → ℕ → List ℕ
thread_body z l t = get_or l (z.formulas + t) []

-- the instruction of thread t at point p; a branch to point 0 where there is none
unfoldable pub instruction_of : Sizes → List (List ℕ) → ℕ → ℕ → Instruction
instruction_of z l t p = cond (eqb t 0) nothing (cond (ltb z.threads t) nothing (get_or (instructions (thread_body z l t)) p nothing))
