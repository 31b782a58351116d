-- What codes 5 to 9 and 23 leave of programs and outlines: what soundness may take for granted.
use Rattle.std.specs.Prelude.{Bool, true, ◌&&◌, ℕ, suc, ◌<◌, T, ltb}
use Rattle.semantics.specs.Base.{all, Within, within}
use Rattle.semantics.specs.Formula.{Value}
use Rattle.semantics.specs.Names.{only, is_reg, not_reg, startless}
use Rattle.semantics.specs.Replace.{Note}
use Rattle.semantics.specs.Eval.{bounded}
use Rattle.semantics.specs.Machine.{Program, Mode, Mode.store, Mode.swap, Mode.exchange, Mode.fetch_add, Access, Access.none, Access.load, Access.write, Instr, Instr.act, Instr.branch}
use Rattle.semantics.specs.EveryRun.{Outline}

-- an instruction's formula as an image may have it: over registers alone (8), its constants below the range (6)
abbrev pub proper_value : Program → Value → Bool
proper_value P f = only is_reg f && bounded P.range f

-- the operand does not name the result register (23)
abbrev pub lacks_result : Mode → Value → Bool
lacks_result (store releasing) f = true
lacks_result swap f = true
lacks_result (exchange r) f = only (not_reg r) f
lacks_result (fetch_add r) f = only (not_reg r) f

-- an access as an image may have it: its word is there (6), its formula proper
abbrev pub proper_access : Program → Access → Bool
proper_access P none = true
proper_access P (load acquires r x) = within P.words x
proper_access P (write m x f) = within P.words x && (proper_value P f && lacks_result m f)

-- an instruction as an image may have it, in a thread of n points
abbrev pub proper : Program → ℕ → Instr → Bool
proper P n (act A ns) = proper_access P A && all (λ (n : Note). proper_value P n.by) ns
proper P n (branch e a) = only is_reg e && ltb a n

-- the program and the outline are as an image may have them
pub record WellFormed (P : Program) (O : Outline) : Type 0 where
  pub some_value : 0 < P.range
  pub start-values : (x : ℕ) → P.init x < P.range
  pub some_point : (t : ℕ) → Within P.threads t → 0 < P.points t
  pub instructions : (t k : ℕ) → Within P.threads t → suc k < P.points t → T (proper P (P.points t) (P.code t k))
  pub no_start : (t k : ℕ) → Within P.threads t → k < P.points t → T (startless (O t k))
