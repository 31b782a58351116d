-- What a table of writes stands for: its first entries are the memory's, those of the words that are there. A word that is not there has
-- its start write in the memory and none in the table. An insertion into both keeps that.
use Prim.Native.Nat.{ℕ, suc, ◌+◌, ◌-◌, ◌≤◌, ◌<◌}
use mathlib.Core.Path.{◌≡◌, refl, ap, sym, ◌∙◌, subst}
use mathlib.Core.Bool.{Bool, true, false, cond}
use mathlib.Core.List.{List}
use mathlib.Core.Logic.{◌≢◌}
use native.Mathlib.Omega.{arith}
use native.Mathlib.Nat.{mod-eq_of_lt}
use native.Mathlib.Numerals.{add-one}
use lib.Dec.{eqb, ltb}
use lib.ListN.{length, get_or, set}
use lib.Seq.{get_or-set_same, get_or-set_other}
use borrow.Author.Tests.{lt-ltb, eq-eqb, ne_eqb, ltb-true, ltb-false, eqb-true, eqb-false}
use Rattle.semantics.specs.Machine.{down}
use Rattle.semantics.proofs.Base.{down_is}
use Rattle.tables_columns.proofs.ColumnLists.{column_length, column_get_d}
use Rattle.replay_memory.specs.View.{next}
use Rattle.replay_memory.specs.Write.{no_write, up_write, covered_write}
use Rattle.replay_memory.specs.Memory.{first, index_of, write_at, size_at, covering}
use Rattle.replay_memory.specs.Insert.{moved_to, inserted}
use Rattle.replay_memory.specs.declared.view.View.{View}
use Rattle.replay_memory.specs.declared.write.Write.{Write}
use Rattle.replay_memory.specs.declared.memory.Memory.{Memory}
use Rattle.replay_memory.proofs.OrderPlaces.{row_ends, place, begins_later}
use Rattle.replay_table.specs.Sweep.{no_order, cover_at, visits, sweep_to, swept_of}
use Rattle.replay_table.specs.Change.{insertion}
use Rattle.replay_table.specs.declared.order.Order.{Order}
use Rattle.replay_table.proofs.Inserted.{before_stays, write_there, behind_moves, past_stays}
use Rattle.replay_table.proofs.SweepBranches.{sweep_none}

-- the first entries of l are the memory's
pub record Lies (words : ℕ) (l : List Write) (m : Memory) : Type 0 where
  pub same : (e : ℕ) → e < first m.sizes words → get_or l e no_write ≡ get_or m.writes e no_write

-- nothing inserted
pub swept_none : (l : List Write) → swept_of no_order l ≡ l
unfolding swept_of visits
swept_none l = go (ltb 0 (length l)) refl
  where
    go : (b : Bool) → ltb 0 (length l) ≡ b → (sweep_to no_order (cond b 0 (length l)) l).0 ≡ l
    go true e = ap (λ (s : List Write × Write). s.0) (sweep_none no_order l)
    go false e =
        let q : length l ≡ 0 = omega (arith, ltb-false 0 (length l) e) in
        ap (λ (n : ℕ). (sweep_to no_order n l).0) q ∙ ap (λ (s : List Write × Write). s.0) (sweep_none no_order l)

-- the covered mark is set in no entry from the place on, and in none where that is not ordered
pub cover_behind : (o : Order) (e : ℕ) (w : Write) → o.at ≤ e → cover_at o e w ≡ w
unfolding cover_at
cover_behind o e w h = rw (ne_eqb o.at (suc e) (λ (z : o.at ≡ suc e). omega arith)) (go o.covers)
  where
    go : (b : Bool) → cond b w w ≡ w
    go true = refl
    go false = refl

pub cover_off : (o : Order) (e : ℕ) (w : Write) → o.covers ≡ false → cover_at o e w ≡ w
unfolding cover_at
cover_off o e w h = rw h

cover_else : (o : Order) (e : ℕ) (w : Write) → (o.at ≡ suc e → ⊥) → cover_at o e w ≡ w
unfolding cover_at
cover_else o e w h = rw (ne_eqb o.at (suc e) h) (go o.covers)
  where
    go : (b : Bool) → cond b w w ≡ w
    go true = refl
    go false = refl

cover_there : (o : Order) (e : ℕ) (w : Write) → o.covers ≡ true → o.at ≡ suc e → cover_at o e w ≡ covered_write w
unfolding cover_at
cover_there o e w h g = rw (h, eq-eqb o.at (suc e) g)

next_is : (n : ℕ) → n < 255 → next n ≡ suc n
unfolding next
next_is n h = rw (lt-ltb n 255 h, add-one n)

-- AN INSERTION BEHIND POSITION p OF WORD k, WHICH IS THERE

module _ (words : ℕ) (eight : words ≤ 8) (m : Memory) (rows : length m.sizes ≡ 8) (places : length m.writes ≡ 72)
    (few : first m.sizes 8 ≤ 72) (k p : ℕ) (there : k < words) (picked : p < get_or m.sizes k 0) where
  -- how many writes there are, and the place of the picked one
  abbrev pub many : ℕ
  many = first m.sizes words

  abbrev pub picks : ℕ
  picks = first m.sizes k + p

  k_few : k < 8
  k_few = omega arith

  pub picks_in : picks < many
  picks_in = omega (arith, row_ends m.sizes words k there)

  pub index_is : index_of m.sizes k p ≡ picks
  index_is = place m.sizes few k p k_few picked

  module _ (some : many < 64) where
    next_index : index_of m.sizes k (next p) ≡ suc picks
    unfolding index_of
    next_index =
        let q : first m.sizes k + suc p < 72 = omega (arith, picks_in, some) in
        let d : first m.sizes k + suc p ≡ suc picks = omega arith in
        rw (mod-eq_of_lt k_few, next_is p (omega (arith, picks_in, some))) (mod-eq_of_lt q ∙ d)

    pub total_after : (w : Write) → first (inserted m k p w).sizes words ≡ suc many
    unfolding inserted size_at
    total_after w =
        let n : get_or m.sizes k 0 < 255 = omega (arith, row_ends m.sizes words k there, some) in
        rw (mod-eq_of_lt k_few, next_is (get_or m.sizes k 0) n)
        (omega (arith, begins_later m.sizes k (suc (get_or m.sizes k 0)) words there (omega (arith, rows))))

    -- the memory's writes afterwards
    abbrev comes : ℕ → Write
    comes j = up_write k p (get_or m.writes (down (index_of m.sizes k p) j) no_write)

    moved : (e : ℕ) → e < 72 → get_or (moved_to m k p 72) e no_write ≡ up_write k p (get_or m.writes (down picks e) no_write)
    unfolding moved_to
    moved e h = column_get_d comes no_write 72 e h ∙ ap (λ (x : ℕ). up_write k p (get_or m.writes (down x e) no_write)) index_is

    moved_length : length (moved_to m k p 72) ≡ 72
    unfolding moved_to
    moved_length = column_length comes 72

    down_before : (e : ℕ) → e ≤ picks → down picks e ≡ e
    down_before e h = down_is picks e ∙ omega arith

    down_behind : (j : ℕ) → picks ≤ j → down picks (suc j) ≡ j
    down_behind j h = down_is picks (suc j) ∙ omega arith

    module _ (w : Write) where
      abbrev after : ℕ → Write
      after e = get_or (inserted m k p w).writes e no_write

      after_before : (e : ℕ) → e ≤ picks → after e ≡ up_write k p (get_or m.writes e no_write)
      unfolding inserted
      after_before e h =
          rw next_index
          (get_or-set_other (moved_to m k p 72) (suc picks) e w no_write (λ (z : e ≡ suc picks). omega arith)
          ∙ moved e (omega (arith, picks_in, some)) ∙ ap (λ (x : ℕ). up_write k p (get_or m.writes x no_write)) (down_before e h))

      after_at : after (suc picks) ≡ w
      unfolding inserted
      after_at =
          rw next_index (get_or-set_same (moved_to m k p 72) (suc picks) w no_write (omega (arith, moved_length, picks_in, some)))

      after_behind : (j : ℕ) → suc picks ≤ j → j < 71 → after (suc j) ≡ up_write k p (get_or m.writes j no_write)
      unfolding inserted
      after_behind j h g =
          rw next_index
          (get_or-set_other (moved_to m k p 72) (suc picks) (suc j) w no_write (λ (z : suc j ≡ suc picks). omega arith)
          ∙ moved (suc j) (omega arith) ∙ ap (λ (x : ℕ). up_write k p (get_or m.writes x no_write)) (down_behind j (omega arith)))

      module _ (vs : List View) (covers : Bool) where
        abbrev o : Order
        o = insertion (record { sizes = m.sizes; views = vs }) words k p covers w

        o_count : o.count ≡ many + 1
        unfolding insertion
        o_count = refl

        pub o_at : o.at ≡ suc picks
        unfolding insertion
        o_at = next_index

        pub o_covers : o.covers ≡ covers
        unfolding insertion
        o_covers = refl

        o_write : o.write ≡ w
        unfolding insertion
        o_write = refl

        raise_is : (x : Write) → up_write o.word o.behind x ≡ up_write k p x
        unfolding insertion
        raise_is x = refl

        module _ (l : List Write) (fits : many < length l) where
          count_fits : o.count ≤ length l
          count_fits = omega (arith, o_count)

          -- entries behind stay
          pub insert_stays : (e : ℕ) → suc many ≤ e → get_or (swept_of o l) e no_write ≡ get_or l e no_write
          insert_stays e h = past_stays o l count_fits e (omega (arith, o_count))

          module _ (old : (e : ℕ) → e < many → cover_at o e (get_or l e no_write) ≡ get_or m.writes e no_write) where
            same_before : (e : ℕ) → e ≤ picks → get_or (swept_of o l) e no_write ≡ after e
            same_before e h =
                before_stays o l count_fits e (omega (arith, o_at))
                (omega (arith, o_count, picks_in)) ∙ raise_is (cover_at o e (get_or l e no_write))
                ∙ ap (up_write k p) (old e (omega (arith, picks_in))) ∙ sym (after_before e h)

            same_at : get_or (swept_of o l) (suc picks) no_write ≡ after (suc picks)
            same_at =
                ap (λ (x : ℕ). get_or (swept_of o l) x no_write) (sym o_at)
                ∙ write_there o l count_fits (omega (arith, o_at, o_count, picks_in)) ∙ o_write ∙ sym after_at

            same_behind : (j : ℕ) → suc picks ≤ j → j < many → get_or (swept_of o l) (suc j) no_write ≡ after (suc j)
            same_behind j h g =
                behind_moves o l count_fits j (omega (arith, o_at)) (omega (arith, o_count)) ∙ raise_is (get_or l j no_write)
                ∙ ap (up_write k p) (sym (cover_behind o j (get_or l j no_write) (omega (arith, o_at))) ∙ old j g)
                ∙ sym (after_behind j h (omega (arith, some)))

            pub insert_lies : Lies words (swept_of o l) (inserted m k p w)
            insert_lies = record {
              same = λ e h. go e (omega (arith, total_after w, h)) (ltb e (suc picks))
                  (eqb e (suc picks)) refl refl;
            }
              where
                go : (e : ℕ) → e < suc many → (a b : Bool) → ltb e (suc picks) ≡ a → eqb e (suc picks) ≡ b
                    → get_or (swept_of o l) e no_write ≡ after e
                go e h true b ea eb = same_before e (omega (arith, ltb-true e (suc picks) ea))
                go e h false true ea eb =
                    let d : e ≡ suc picks = eqb-true e (suc picks) eb in
                    subst (λ (x : ℕ). get_or (swept_of o l) x no_write ≡ after x) (sym d) same_at
                go e h false false ea eb =
                    let f : suc picks ≤ e = ltb-false e (suc picks) ea in
                    let n : e ≢ suc picks = eqb-false e (suc picks) eb in
                    let d : suc (e - 1) ≡ e = omega arith in
                    let g : suc picks ≤ e - 1 = omega arith in
                    subst (λ (x : ℕ). get_or (swept_of o l) x no_write ≡ after x) d (same_behind (e - 1) g (omega arith))

-- the picked write covered in the memory, and by the sweep
module _ (words : ℕ) (eight : words ≤ 8) (m : Memory) (rows : length m.sizes ≡ 8) (places : length m.writes ≡ 72)
    (few : first m.sizes 8 ≤ 72) (k p : ℕ) (there : k < words) (picked : p < get_or m.sizes k 0) (l : List Write)
    (lies : Lies words l m) where
  pub cover_old : (o : Order) → o.covers ≡ true → o.at ≡ suc (first m.sizes k + p) → (e : ℕ) → e < first m.sizes words
      → cover_at o e (get_or l e no_write) ≡ get_or (covering m k p).writes e no_write
  unfolding covering write_at
  cover_old o c a e h = go (eqb e i) refl
    where
      i : ℕ
      i = first m.sizes k + p

      is : index_of m.sizes k p ≡ i
      is = index_is words eight m rows places few k p there picked

      i_in : i < length m.writes
      i_in = omega (arith, places, row_ends m.sizes 8 k (omega arith), few)

      go : (b : Bool) → eqb e i ≡ b
          → cover_at o e (get_or l e no_write)
          ≡ get_or (set m.writes (index_of m.sizes k p) (covered_write (get_or m.writes (index_of m.sizes k p) no_write))) e no_write
      go true q =
          let d : e ≡ i = eqb-true e i q in
          cover_there o e (get_or l e no_write) c (a ∙ ap suc (sym d)) ∙ ap covered_write (lies.same e h)
          ∙ rw (is, d) (sym (get_or-set_same m.writes i (covered_write (get_or m.writes i no_write)) no_write i_in))
      go false q =
          let n : e ≡ i → ⊥ = eqb-false e i q in
          cover_else o e (get_or l e no_write) (λ (z : o.at ≡ suc e). n (omega (arith, z, a))) ∙ lies.same e h
          ∙ rw is (sym (get_or-set_other m.writes i e (covered_write (get_or m.writes i no_write)) no_write n))
