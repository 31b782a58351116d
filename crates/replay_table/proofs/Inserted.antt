-- What an insertion leaves, entry by entry: those before the place keep theirs, the place has the write, those behind it have the one
-- before, and what is past the count stays; every stored view that moved or stayed within the count is raised.
use mathlib.Core.Path.{◌≡◌, refl, sym, ap, ◌∙◌}
use Prim.Native.Nat.{ℕ, zero, suc, ◌+◌, ◌-◌, ◌≤◌, ◌<◌}
use native.Mathlib.Omega.{arith}
use mathlib.Core.List.{List}
use lib.ListN.{length, get_or}
use lib.Seq.{get_or-set_same, get_or-set_other}
use Rattle.replay_memory.specs.Write.{no_write, up_write}
use Rattle.replay_memory.specs.declared.write.Write.{Write}
use Rattle.replay_table.specs.Sweep.{cover_at, turn_of, visits, sweep_to, swept_of}
use Rattle.replay_table.specs.declared.order.Order.{Order}
use Rattle.replay_table.specs.declared.order.Turn.{Turn}
use Rattle.replay_table.proofs.SweepBranches.{turn_before, turn_from, sweep_none, sweep_more, sweep_length, swept, visits_all}

module _ (o : Order) (l : List Write) where
  abbrev up : Write → Write
  up w = up_write o.word o.behind w

  abbrev entry : List Write → ℕ → Write
  entry m j = get_or m j no_write

  untouched : (n j : ℕ) → n ≤ j → entry (sweep_to o n l).0 j ≡ entry l j
  untouched zero j h = ap (λ (s : List Write × Write). entry s.0 j) (sweep_none o l)
  untouched (suc n) j h =
      ap (λ (s : List Write × Write). entry s.0 j) (sweep_more o n l) ∙
      get_or-set_other (sweep_to o n l).0 n j _ no_write (λ (e : j ≡ n). omega (arith, e, h)) ∙ untouched n j (omega (arith, h))

  settled : (k j : ℕ) → entry (sweep_to o (k + suc j) l).0 j ≡ entry (sweep_to o (suc j) l).0 j
  settled zero j = ap (λ (n : ℕ). entry (sweep_to o n l).0 j) (omega arith)
  settled (suc k) j =
      let d : suc k + suc j ≡ suc (k + suc j) = omega arith in
      ap (λ (n : ℕ). entry (sweep_to o n l).0 j) d ∙
      ap (λ (s : List Write × Write). entry s.0 j) (sweep_more o (k + suc j) l) ∙
      get_or-set_other (sweep_to o (k + suc j) l).0 (k + suc j) j _ no_write (λ (e : j ≡ k + suc j). omega (arith, e)) ∙ settled k j

  put_there : (j : ℕ) → j < length l → entry (sweep_to o (suc j) l).0 j ≡ (turn_of o j (sweep_to o j l).1 (entry l j)).put
  put_there j h =
      ap (λ (s : List Write × Write). entry s.0 j) (sweep_more o j l) ∙
      get_or-set_same (sweep_to o j l).0 j _ no_write (omega (arith, h, sweep_length o j l)) ∙
      ap (λ (w : Write). (turn_of o j (sweep_to o j l).1 w).put) (untouched j j (omega arith))

  swept_to : (n : ℕ) → n ≡ visits o (length l) → (sweep_to o n l).0 ≡ swept_of o l
  swept_to n e = swept o l n (sweep_to o n l) e refl

  -- the entries in use afterwards are there
  module _ (fits : o.count ≤ length l) where
    -- an entry in use, when all are swept, is what its turn put
    turned : (j : ℕ) → j < o.count → entry (swept_of o l) j ≡ (turn_of o j (sweep_to o j l).1 (entry l j)).put
    turned j h =
        let e : o.count - suc j + suc j ≡ o.count = omega (arith, h) in
        ap (λ (m : List Write). entry m j) (sym (swept_to (o.count - suc j + suc j) (e ∙ sym (visits_all o (length l) fits)))) ∙
        settled (o.count - suc j) j ∙ put_there j (omega (arith, h, fits))

    -- the write carried on: the new one up to its place, and then the entry before
    carried_first : (n : ℕ) → n ≤ o.at → (sweep_to o n l).1 ≡ o.write
    carried_first zero h = ap (λ (s : List Write × Write). s.1) (sweep_none o l)
    carried_first (suc n) h =
        ap (λ (s : List Write × Write). s.1) (sweep_more o n l) ∙
        ap (λ (t : Turn). t.next) (sym (turn_before o n (sweep_to o n l).1 _ _ _ refl refl (omega (arith, h)))) ∙
        carried_first n (omega (arith, h))

    carried_later : (n : ℕ) → o.at ≤ n → (sweep_to o (suc n) l).1 ≡ up (entry l n)
    carried_later n h =
        ap (λ (s : List Write × Write). s.1) (sweep_more o n l) ∙
        ap (λ (t : Turn). t.next) (sym (turn_from o n (sweep_to o n l).1 _ _ refl h)) ∙ ap up (untouched n n (omega arith))

    -- THE FOUR KINDS OF ENTRIES

    pub before_stays : (j : ℕ) → j < o.at → j < o.count → entry (swept_of o l) j ≡ up (cover_at o j (entry l j))
    before_stays j h g =
        turned j g ∙ ap (λ (t : Turn). t.put) (sym (turn_before o j (sweep_to o j l).1 (entry l j) _ _ refl refl h))

    pub write_there : o.at < o.count → entry (swept_of o l) o.at ≡ o.write
    write_there g =
        turned o.at g ∙
        ap (λ (t : Turn). t.put) (sym (turn_from o o.at (sweep_to o o.at l).1 (entry l o.at) _ refl (omega arith))) ∙
        carried_first o.at (omega arith)

    pub behind_moves : (j : ℕ) → o.at ≤ j → suc j < o.count → entry (swept_of o l) (suc j) ≡ up (entry l j)
    behind_moves j h g =
        turned (suc j) g ∙
        ap (λ (t : Turn). t.put) (sym (turn_from o (suc j) (sweep_to o (suc j) l).1 (entry l (suc j)) _ refl (omega (arith, h)))) ∙
        carried_later j h

    pub past_stays : (j : ℕ) → o.count ≤ j → entry (swept_of o l) j ≡ entry l j
    past_stays j h =
        ap (λ (m : List Write). entry m j) (sym (swept_to o.count (sym (visits_all o (length l) fits)))) ∙ untouched o.count j h
