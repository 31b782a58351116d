-- A thread's record: points n, then n - 1 instructions, each of five or ten bytes.
use Rattle.std.specs.Prelude.{Bool, ◌&&◌, List, [], ◌∷◌, ℕ, zero, suc, ◌+◌, ◌-◌, eqb, length, get_or, drop}
use Rattle.logic.specs.Opcode as Opcode
use Rattle.limits.specs.Limits as Limits
use Rattle.limits.specs.Numbers.{has, within, every}
use Rattle.image_frames.specs.Fault.{Checked, passed, unless}
use Rattle.image_frames.specs.declared.fault.Fault.TheVariants.{Body, Number}
use Rattle.image_header.specs.declared.sizes.Sizes.{Sizes}
use Rattle.image_header.specs.declared.instruction.Instruction.{Instruction}
use Rattle.image_header.specs.Instruction.{instruction_size, no_half, instruction, ranged}

-- points are 0 to n - 1; "0 points as 1", since 0 - 1 is 0
unfoldable pub last_point : List ℕ → ℕ
last_point b = get_or b 0 0 - 1

-- the first n instructions in the bytes
unfoldable pub cut : ℕ → List ℕ → List Instruction
cut zero l = []
cut (suc n) l = instruction l ∷ cut n (drop (instruction_size (get_or l 0 0)) l)

-- the position at which instruction p begins: after those before it
unfoldable pub begins : List ℕ → ℕ → ℕ
begins l zero = 0
begins l (suc p) = begins l p + instruction_size (get_or l (begins l p) 0)

-- an instruction for each point but the last
unfoldable pub instructions : List ℕ → List Instruction
instructions b = cut (last_point b) (drop 1 b)

-- the instruction at a point that has none: a branch to point 0
abbrev pub nothing : Instruction
nothing = record { operation = Opcode.branch; a = 0; b = 0; formula = 0; second = no_half }

-- the length "by the counts as written"
unfoldable pub thread_size : List ℕ → ℕ
thread_size b = 1 + begins (drop 1 b) (last_point b)

-- the point count and every field of an instruction are in range
unfoldable pub numbered : Sizes → List ℕ → Bool
numbered z b = within 1 Limits.points (get_or b 0 0) && every (ranged (last_point b) z) (instructions b)

-- code 5, then code 6
unfoldable pub thread_numbers : Sizes → List ℕ → Checked
thread_numbers z b = unless (has 1 b) Body (unless (eqb (length b) (thread_size b)) Body (unless (numbered z b) Number passed))
