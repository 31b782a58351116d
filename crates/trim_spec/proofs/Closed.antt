-- Marks closed under reference: what is named by something that stays is marked.
use mathlib.Core.Path.{◌≡◌}
use mathlib.Core.Bool.{Bool, true, false}
use mathlib.Core.List.{List, []}
use Prim.Native.Nat.{ℕ, ◌≤◌, ◌<◌}
use lib.ListN.{length, get_or}
use Rattle.limits.specs.Numbers.{nth}
use Rattle.image_header.specs.Thread.{nothing}
use Rattle.trim_spec.specs.Document.{Document}
use Rattle.trim_spec.specs.Canonical.{no_line, no_claim}

-- number n has a mark, or is 0 and names nothing
abbrev pub Stays : List Bool → ℕ → Type 0
Stays m n = (n ≡ 0 → ⊥) → get_or m n false ≡ true

-- u marks formulas and k lines: all that the program, the outline, obligations, claims and marked lines name is marked
pub record Closed (u k : List Bool) (D : Document) : Type 0 where
  -- there is a mark for every formula, and one for 0
  pub formulas : length D.formulas < length u
  -- there is a mark for every line, and one for 0
  pub lines : length D.lines < length k
  pub instruction : (t p : ℕ) → t < length D.threads → p < length (get_or D.threads t [])
      → Stays u (get_or (get_or D.threads t []) p nothing).formula
  pub second : (t p : ℕ) → t < length D.threads → p < length (get_or D.threads t [])
      → Stays u (get_or (get_or D.threads t []) p nothing).second.formula
  pub outline : (i : ℕ) → i < length D.outline → Stays u (get_or D.outline i 0)
  pub left : (n : ℕ) → 1 ≤ n → n ≤ length D.lines → get_or k n false ≡ true → Stays u (nth D.lines n no_line).left
  pub right : (n : ℕ) → 1 ≤ n → n ≤ length D.lines → get_or k n false ≡ true → Stays u (nth D.lines n no_line).right
  pub premise : (n i : ℕ) → 1 ≤ n → n ≤ length D.lines → get_or k n false ≡ true → i < length (nth D.lines n no_line).premises
      → Stays k (get_or (nth D.lines n no_line).premises i 0)
  pub obligation : (i : ℕ) → i < length D.obligations → Stays k (get_or D.obligations i 0)
  pub claim : (i : ℕ) → i < length D.claims → Stays k (get_or D.claims i no_claim).line
