-- The table of writes: stored views raised, writes moved up by one.
use Prim.Native.Nat.{ℕ, ◌+◌, ◌-◌, ◌%◌, ◌≤◌, ◌<◌}
use mathlib.Core.Path.{◌≡◌, refl, ap, sym, ◌∙◌}
use mathlib.Core.Bool.{Bool, true, false}
use mathlib.Core.List.{List, ◌++◌}
use native.Mathlib.Omega.{arith}
use lib.Dec.{ltb}
use lib.ListN.{length, get_or, set, take, drop}
use Rattle.limits.proofs.BranchTests.{tests}
use Rattle.std.proofs.lemmas.List.{ext_get_or, length-append, length-drop, length-take-le, get_or_append_left, get_or-append_right, get_or-take, get_or-drop}
use borrow.Author.Tests.{ltb-true, ltb-false}
use Rattle.semantics.specs.Machine.{down}
use Rattle.semantics.proofs.Base.{down_is}
use Rattle.tables_columns.specs.Column.{column}
use Rattle.tables_columns.proofs.ColumnLists.{column_length, column_get_d}
use Rattle.replay_memory.specs.View.{up, position_in, with_position, up_view}
use Rattle.replay_memory.specs.Write.{no_write, up_write}
use Rattle.replay_memory.specs.WriteTable.{raised_all, moved_up}
use Rattle.replay_memory.specs.declared.write.Write.{Write}
use Rattle.replay_memory.proofs.ViewBranches.{walked, walk_begin, walk_read, walk_more, walk_end}

module _ (l : List Write) (k p : ℕ) where
  abbrev raise : ℕ → Write
  raise j = up_write k p (get_or l j no_write)

  -- the writes, of which the first j are raised
  abbrev pub raise_to : ℕ → List Write
  raise_to j = walked raise l j

  pub raise_begin : l ≡ raise_to 0
  raise_begin = walk_begin raise l

  raised_is : (w : Write) (c u : ℕ) → c ≡ k % 8 → u ≡ up p (get_or w.stored.at c 0)
      → record { value = w.value; releasing = w.releasing; covered = w.covered; stored = record { at = set w.stored.at c u } } ≡ up_write k p w
  unfolding up_write up_view with_position position_in
  raised_is w c u ec eu = rw (eu, ec)

  pub raise_more : (a : List Write) (j c u : ℕ) → j < 72 → length l ≡ 72 → a ≡ raise_to j → c ≡ k % 8
      → u ≡ up p (get_or (get_or a j no_write).stored.at c 0)
      → set a j (record {
        value = (get_or a j no_write).value;
        releasing = (get_or a j no_write).releasing;
        covered = (get_or a j no_write).covered;
        stored = record { at = set (get_or a j no_write).stored.at c u };
      }) ≡ raise_to (j + 1)
  raise_more a j c u h n e ec eu =
      let same : get_or a j no_write ≡ get_or l j no_write = ap (λ (b : List Write). get_or b j no_write) e ∙ walk_read raise l j no_write in
      ap (set a j) (raised_is (get_or a j no_write) c u ec eu)
      ∙ ap (λ (b : List Write). set b j (up_write k p (get_or a j no_write))) e
      ∙ walk_more raise l j (up_write k p (get_or a j no_write)) (omega (arith, n)) (ap (up_write k p) same)

  pub raise_end : (a : List Write) (j : ℕ) → a ≡ raise_to j → length l ≡ 72 → j ≤ 72 → 72 ≤ j → a ≡ raised_all l k p
  unfolding raised_all
  raise_end a j e n x y = e ∙ ap raise_to (omega arith) ∙ walk_end raise l 72 n

pub ruleset raise_branches = (raise_begin, raise_more, raise_end)

-- the writes from q on but the last, put behind q
module _ (l : List Write) (q : ℕ) (h : q < 72) (n : length l ≡ 72) where
  abbrev front : List Write
  front = take (q + 1) l

  abbrev back : List Write
  back = take (71 - q) (drop q l) ++ drop (72 - (q + 1)) (drop (q + 1) l)

  front_long : length front ≡ q + 1
  front_long = length-take-le (q + 1) l (omega (arith, n))

  part_long : length (take (71 - q) (drop q l)) ≡ 71 - q
  part_long = length-take-le (71 - q) (drop q l) (omega (arith, n, length-drop q l))

  back_long : length back ≡ 71 - q
  back_long = omega (
    arith,
    n,
    part_long,
    length-append (take (71 - q) (drop q l)) (drop (72 - (q + 1)) (drop (q + 1) l)),
    length-drop (72 - (q + 1)) (drop (q + 1) l),
    length-drop (q + 1) l,
  )

  each : (j : ℕ) → j < 72 → get_or (front ++ back) j no_write ≡ get_or l (down q j) no_write
  each j x = go (ltb j (q + 1)) refl
    where
      go : (b : Bool) → ltb j (q + 1) ≡ b → get_or (front ++ back) j no_write ≡ get_or l (down q j) no_write
      go true e =
          let y : j < q + 1 = ltb-true j (q + 1) e in
          get_or_append_left front back no_write j (omega (arith, front_long)) ∙ get_or-take (q + 1) l j no_write y
          ∙ ap (λ (i : ℕ). get_or l i no_write) (omega (arith, down_is q j))
      go false e =
          let y : q + 1 ≤ j = ltb-false j (q + 1) e in
          get_or-append_right front back (q + 1) j no_write front_long y
          ∙ get_or_append_left (take (71 - q) (drop q l)) (drop (72 - (q + 1)) (drop (q + 1) l)) no_write (j - (q + 1)) (omega (arith, part_long))
          ∙ get_or-take (71 - q) (drop q l) (j - (q + 1)) no_write (omega arith) ∙ get_or-drop q l (j - (q + 1)) no_write
          ∙ ap (λ (i : ℕ). get_or l i no_write) (omega (arith, down_is q j))

  pub move_made : front ++ back ≡ moved_up l q
  unfolding moved_up
  move_made =
      let long : length (front ++ back) ≡ 72 = omega (arith, length-append front back, front_long, back_long) in
      ext_get_or no_write (front ++ back) (column moves 72) (long ∙ sym (column_length moves 72))
      (λ j x. each j (omega (arith, long)) ∙ sym (column_get_d moves no_write 72 j (omega (arith, long))))
    where
      moves : ℕ → Write
      moves j = get_or l (down q j) no_write

pub move_up_made : (l v : List Write) (q : ℕ) → q < 72 → length l ≡ 72 → v ≡ take (71 - q) (drop q l)
    → take (q + 1) l ++ (v ++ drop (72 - (q + 1)) (drop (q + 1) l)) ≡ moved_up l q
move_up_made l v q h n e =
    ap (λ (x : List Write). take (q + 1) l ++ (x ++ drop (72 - (q + 1)) (drop (q + 1) l))) e ∙ move_made l q h n

pub ruleset places = (raise_branches, move_up_made, tests)
