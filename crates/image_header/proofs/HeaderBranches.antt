-- The header.
use Prim.Native.Nat.{ℕ, ◌+◌, ◌-◌, ◌≤◌}
use mathlib.Core.Path.{◌≡◌, sym, ◌∙◌}
use mathlib.Core.List.{List}
use mathlib.Core.Bool.{Bool, true, false, ◌&&◌}
use native.Mathlib.Omega.{arith}
use lib.Dec.{eqb}
use lib.ListN.{length, get_or, take, drop}
use Rattle.limits.specs.Limits as Limits
use Rattle.limits.specs.Numbers.{within, every, nth}
use Rattle.limits.proofs.PassedTests.{and_true, within_true}
use Rattle.image_header.specs.Header.{thread_count, word_count, register_count, value_range, counted, header_size, start_values, owners, marks, cleared}
use Rattle.limits.proofs.BranchTests.{tests}
use Rattle.limits.proofs.Numbers.{given}
use Rattle.image_frames.proofs.Branches.Checks.{joining}

pub size_is : (b : List ℕ) (w g : ℕ) → w ≡ get_or b 1 0 → g ≡ get_or b 2 0 → 4 + w + g + g ≡ header_size b
unfolding header_size
size_is b w g e d = rw (e, d)

pub values_are : (b r : List ℕ) (w : ℕ) → w ≡ get_or b 1 0 → r ≡ take w (drop 4 b) → r ≡ start_values b
unfolding start_values
values_are b r w e d = rw (← e) d

pub owners_are : (b r : List ℕ) (w g : ℕ) → w ≡ get_or b 1 0 → g ≡ get_or b 2 0 → r ≡ take g (drop (4 + w) b) → r ≡ owners b
unfolding owners
owners_are b r w g e d h = rw (← e, ← d) h

pub marks_are : (b r : List ℕ) (w g : ℕ) → w ≡ get_or b 1 0 → g ≡ get_or b 2 0 → r ≡ take g (drop (4 + w + g) b) → r ≡ marks b
unfolding marks
marks_are b r w g e d h = rw (← e, ← d) h

-- a register's mark
module _ (b l : List ℕ) (r : ℕ) (c : Bool) (e : l ≡ marks b) (h : c ≡ within 1 (length l) r) where
  pub cleared_there : (m : ℕ) → c ≡ true → m ≡ nth l r 0 → eqb m 1 ≡ cleared b r
  unfolding cleared
  cleared_there m t d = rw (← e, ← h, t, d)

  pub cleared_absent : c ≡ false → true ≡ cleared b r
  unfolding cleared
  cleared_absent f = rw (← e, ← h, f)

pub owned_of : (t hi : ℕ) (l m : List ℕ) (u : Bool) → t ≡ hi → l ≡ m → u ≡ every (within 1 t) l → u ≡ every (within 1 hi) m
owned_of t hi l m u e d h = rw (← e, ← d) h

-- what the counts of a header that passes are
pub record Counted (t : ℕ) (b : List ℕ) : Type 0 where
  pub threads : (1 ≤ thread_count b) × (thread_count b ≤ Limits.threads)
  pub words : (1 ≤ word_count b) × (word_count b ≤ Limits.words)
  pub registers : register_count b ≤ Limits.registers
  pub range : (Limits.fewest_values ≤ value_range b) × (value_range b ≤ Limits.most_values)

pub counted_in : (t : ℕ) (b : List ℕ) → counted t b ≡ true → Counted t b
unfolding counted
counted_in t b e =
    let v : Bool = within Limits.fewest_values Limits.most_values (value_range b) in
    let r : Bool = within 0 Limits.registers (register_count b) in
    let w : Bool = within 1 Limits.words (word_count b) in
    let n : Bool = within 1 Limits.threads (thread_count b) in
    let h = and_true n (w && (r && v)) (and_true (within t t (thread_count b)) (n && (w && (r && v))) e).1 in
    let g = and_true w (r && v) h.1 in
    let f = and_true r v g.1 in
    record {
      threads = within_true 1 Limits.threads (thread_count b) h.0;
      words = within_true 1 Limits.words (word_count b) g.0;
      registers = (within_true 0 Limits.registers (register_count b) f.0).1;
      range = within_true Limits.fewest_values Limits.most_values (value_range b) f.1;
    }

pub range_some : (t : ℕ) (b : List ℕ) (c : Bool) (r : ℕ) → c ≡ counted t b → c ≡ true → r ≡ get_or b 3 0 → 1 ≤ r
range_some t b c r e h d = let i = counted_in t b (sym e ∙ h) in omega (arith, i.range.0)

pub values_within : (b l : List ℕ) (r : ℕ) (u : Bool) → r ≡ get_or b 3 0 → l ≡ start_values b → u ≡ every (within 0 (r - 1)) l
    → u ≡ every (within 0 (get_or b 3 0 - 1)) (start_values b)
values_within b l r u e d h = rw (← e, ← d) h

pub ruleset header_branches = (size_is, values_are, owners_are, marks_are, cleared_there, cleared_absent, owned_of, range_some, values_within)

pub ruleset header_search = (header_branches, given, tests)

pub ruleset headed_search = (header_search, joining)
