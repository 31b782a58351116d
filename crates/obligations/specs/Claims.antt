-- Claims in order, each against the line that it names. s: the image; z: its sizes; m: the marks of justified lines.
use Rattle.std.specs.Prelude.{cond, Option, None, Some, List, ℕ, zero, suc}
use Rattle.image_header.specs.declared.sizes.Sizes.{Sizes}
use Rattle.rules_justified.specs.declared.marks.Marks.{Marks}
use Rattle.obligations.specs.Concludes.{sustained_at}

module _ (s : List ℕ) (z : Sizes) (m : Marks) where
  -- the first of n claims from claim i on that its line does not prove
  unfoldable pub first_denied : ℕ → ℕ → Option ℕ
  first_denied zero i = None
  first_denied (suc n) i = cond (sustained_at s z m i) (first_denied n (suc i)) (Some i)
