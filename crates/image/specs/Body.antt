-- The body of one record, by its place: header, formulas, threads, outline, lines, obligations, claims.
use Rattle.std.specs.Prelude.{cond, List, ℕ, ◌+◌, ◌-◌, eqb, leb}
use Rattle.image_frames.specs.Fault.{Checked}
use Rattle.image_header.specs.declared.sizes.Sizes.{Sizes}
use Rattle.image_header.specs.Header.{header}
use Rattle.image_bodies.specs.Claim as Claims
use Rattle.image_bodies.specs.FormulaBody as Formulas
use Rattle.image_bodies.specs.ThreadBody as Threads
use Rattle.image_bodies.specs.ListBody as Lists
use Rattle.image_bodies.specs.LineBody as Lines
use Rattle.image.specs.declared.body.Place.{Place}
use Rattle.image.specs.declared.body.Place.TheVariants.{Header, Formula, Thread, Outline, Line, Obligations, Claim}

-- the number of the last formula's record
abbrev pub formulas_end : Sizes → ℕ
formulas_end z = 1 + z.formulas

-- the number of the last thread's record
abbrev pub threads_end : Sizes → ℕ
threads_end z = formulas_end z + z.threads

-- the number of the outline's record
abbrev pub outline_at : Sizes → ℕ
outline_at z = threads_end z + 1

-- the number of the last line's record
abbrev pub lines_end : Sizes → ℕ
lines_end z = outline_at z + z.lines

-- what record i is, counted from 1: a thread by its number, a line by the number of lines before it
unfoldable pub place_of : Sizes → ℕ → Place
place_of z i =
    cond (eqb i 1) Header
    (cond (leb i (formulas_end z)) Formula
    (cond (leb i (threads_end z)) (Thread (i - formulas_end z))
    (cond (leb i (outline_at z)) Outline
    (cond (leb i (lines_end z)) (Line (i - outline_at z - 1))
    (cond (leb i (lines_end z + 1)) Obligations
    Claim)))))

-- the check of a body, in an image with the bodies l whose frames counted t thread records
unfoldable pub check : ℕ → Sizes → List (List ℕ) → Place → List ℕ → Checked
check t z l Header b = header t b
check t z l Formula b = Formulas.formula z b
check t z l (Thread u) b = Threads.thread z l u b
check t z l Outline b = Lists.outline z l b
check t z l (Line lower) b = Lines.line z l lower b
check t z l Obligations b = Lists.obligations z l b
check t z l Claim b = Claims.claim z l b
