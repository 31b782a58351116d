-- The ways to the line that is written, one law for each.
use mathlib.Core.Path.{◌≡◌, refl}
use mathlib.Core.List.{List}
use Prim.Native.Nat.{ℕ}
use lib.ListN.{take, drop}
use Rattle.std.specs.declared.io.Error.{Error}
use Rattle.limits.specs.Limits as Limits
use Rattle.input.specs.declared.Filled.{Filled}
use Rattle.input.specs.declared.Filled.TheVariants.{Full, Ended}
use Rattle.verdict_record.specs.Fields.{fields_of}
use Rattle.verdict_record.specs.Text.{text_of}
use Rattle.verdict_record.specs.declared.verdict.Fields.{Fields}
use Rattle.verdict_record.specs.declared.verdict.Verdict.{Verdict}
use Rattle.checker_spec.specs.ImageVerdict.{verdict_within}
use Rattle.std.specs.Prelude.{Result, Ok, Err}
use Rattle.input.specs.Filled.{Fits}
use Rattle.verdict_record.specs.declared.text.Text.{Text}
use Rattle.verdict.specs.Line.{line_of, line_for, Answers, Holds, Told, Answered}

pub line_judged : (s x : List ℕ) (v : Verdict) (f : Fields) → v ≡ verdict_within Limits.program_bytes s → f ≡ fields_of v → x ≡ text_of f
    → x ≡ line_of s
unfolding line_of
line_judged s x v f e d q = rw (q, d, e)

module _ (how : Filled) (s x : List ℕ) where
  pub line_full : how ≡ Full → x ≡ line_of s → x ≡ line_for how s
  unfolding line_for
  line_full e q = rw e q

  pub line_ended : (n : ℕ) (p : List ℕ) → how ≡ Ended n → p ≡ take n (drop 0 s) → x ≡ line_of p → x ≡ line_for how s
  unfolding line_for
  line_ended n p e d q = rw (e, ← d) q

pub told_failed : (how : Result Filled Error) (s : List ℕ) (x : Error) (answer : Result Text Error) → Fits how s → how ≡ Err x
    → answer ≡ Err x → Answered answer s
unfolding Told
told_failed how s x answer f e q = record { filled = how; fits = f; told = rw e q }

pub told_line : (how : Result Filled Error) (s : List ℕ) (filled : Filled) (text : Text) → Fits how s → how ≡ Ok filled
    → Holds text (line_for filled s) → Answered (Ok text) s
unfolding Told
told_line how s filled text f e h = record { filled = how; fits = f; told = rw e (text, refl, h) }

pub line_told : (how : Result Filled Error) (s : List ℕ) (filled : Filled) (x : List ℕ) → Fits how s → how ≡ Ok filled
    → x ≡ line_for filled s → Answers s x
line_told how s filled x f e q = record { filled = filled; fits = rw e at f; is = q }

pub ruleset line_branches = (line_judged, line_full, line_ended)
