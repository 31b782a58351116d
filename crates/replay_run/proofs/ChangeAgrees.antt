-- What a step does from the write that it picks is what it does to the memory: sizes and views are the memory's, and the first entries of
-- the table are, after the insertion.
use Prim.Native.Nat.{ℕ, suc, ◌%◌, ◌≤◌, ◌<◌}
use mathlib.Core.Path.{◌≡◌, refl, ap, sym, ◌∙◌, subst}
use mathlib.Core.Bool.{Bool, true, false, not, cond, true≢false}
use mathlib.Core.List.{List}
use native.Mathlib.Omega.{arith}
use native.Mathlib.Nat.{mod-eq_of_lt}
use lib.Dec.{eqb, ltb}
use lib.ListN.{length, get_or, length-set}
use borrow.Author.Tests.{eqb-true, ltb-true}
use Rattle.logic.specs.Opcode as Opcode
use Rattle.tables_columns.specs.Combine.{sum_of}
use Rattle.replay_memory.specs.Write.{no_write, covered_write}
use Rattle.replay_memory.specs.Memory.{first, index_of, write_at, size_at, view_of, with_view, covering, seen_by, with_seen}
use Rattle.replay_memory.specs.Insert.{grown, inserted}
use Rattle.replay_memory.specs.Access.{read_from, read_view, loaded, put, stored, swap_view, swap_from, swapped}
use Rattle.replay_memory.specs.declared.write.Write.{Write}
use Rattle.replay_memory.specs.declared.memory.Memory.{Memory}
use Rattle.replay_memory.specs.declared.memory.MemoryShape.{MemoryShape}
use Rattle.replay_table.specs.Sweep.{swept_of}
use Rattle.replay_table.specs.Change.{unchanged, loaded_by, new_write, insertion, grown_by, stored_by, swapped_by}
use Rattle.replay_table.specs.declared.access.Change.{Change}
use Rattle.replay_machine.specs.Shared.{reachable_by, reachable, uncovered, may_pick, fetch_added, memory_after}
use Rattle.replay_machine.specs.Refusal.{adding, pick_refusal}
use Rattle.replay_machine.specs.Locals.{registers_after}
use Rattle.replay_machine.specs.declared.effect.Effect.{Effect}
use Rattle.replay_machine.specs.declared.locals.Registers.{Registers}
use Rattle.replay_machine.specs.Pick.{uncovered_by, may_pick_by, refusal_by}
use Rattle.replay_run.specs.Shared.{fetch_added_by, change_of}
use Rattle.replay_run.proofs.TableLies.{Lies, swept_none, cover_off, cover_old, insert_lies, insert_stays, total_after, o_at, o_covers}

-- sizes and views of a memory
abbrev pub shape_of : Memory → MemoryShape
shape_of m = record { sizes = m.sizes; views = m.views }

-- the operation picks a write of a word
unfoldable pub touching : ℕ → Bool
touching op = cond (eqb op Opcode.assign) false (cond (eqb op Opcode.branch) false (not (eqb op Opcode.assign_two)))

touch_by : (op : ℕ) (a b c : Bool) → eqb op Opcode.assign ≡ a → eqb op Opcode.branch ≡ b → eqb op Opcode.assign_two ≡ c
    → touching op ≡ cond a false (cond b false (not c))
unfolding touching
touch_by op a b c ea eb ec = rw (ea, eb, ec)

-- WHETHER IT MAY BE TAKEN

module _ (m : Memory) (w : Write) (d : Effect) (t p : ℕ)
    (right : touching d.operation ≡ true → reachable m t d.word p ≡ true → w ≡ write_at m d.word p) where
  reach_is : reachable_by (shape_of m) t d.word p ≡ reachable m t d.word p
  unfolding reachable
  reach_is = refl

  uncovered_is : touching d.operation ≡ true → uncovered_by (shape_of m) w t d.word p ≡ uncovered m t d.word p
  unfolding uncovered_by uncovered
  uncovered_is h = rw reach_is (go (reachable m t d.word p) refl)
    where
      go : (b : Bool) → reachable m t d.word p ≡ b → cond b (not w.covered) false ≡ cond b (not (write_at m d.word p).covered)
          false
      go true e = ap (λ (x : Write). not x.covered) (right h e)
      go false e = refl

  may_is : may_pick_by (shape_of m) w d t p ≡ may_pick m d t p
  unfolding may_pick_by may_pick
  may_is = go (eqb d.operation Opcode.assign) (eqb d.operation Opcode.branch) (eqb d.operation Opcode.assign_two) refl refl refl
    where
      low : Bool → Bool
      low x = cond (eqb d.operation Opcode.load) (reachable m t d.word p)
          (cond (eqb d.operation Opcode.acquire) (reachable m t d.word p) x)

      touched : (a b c : Bool) → eqb d.operation Opcode.assign ≡ a → eqb d.operation Opcode.branch ≡ b
          → eqb d.operation Opcode.assign_two ≡ c → touching d.operation ≡ cond a false (cond b false (not c))
      touched a b c ea eb ec = touch_by d.operation a b c ea eb ec

      go : (a b c : Bool) → eqb d.operation Opcode.assign ≡ a → eqb d.operation Opcode.branch ≡ b
          → eqb d.operation Opcode.assign_two ≡ c
          → cond a (eqb p 0) (cond b (eqb p 0) (cond c (eqb p 0)
          (cond (eqb d.operation Opcode.load) (reachable_by (shape_of m) t d.word p)
          (cond (eqb d.operation Opcode.acquire) (reachable_by (shape_of m) t d.word p) (uncovered_by (shape_of m) w t d.word p)))))
          ≡ cond a (eqb p 0) (cond b (eqb p 0) (cond c (eqb p 0) (low (uncovered m t d.word p))))
      go true b c ea eb ec = refl
      go false true c ea eb ec = refl
      go false false true ea eb ec = refl
      go false false false ea eb ec = rw reach_is (ap low (uncovered_is (touched false false false ea eb ec)))

  pub refusal_is : (words room : ℕ) → refusal_by (shape_of m) w words room d t p ≡ pick_refusal m words room d t p
  unfolding refusal_by pick_refusal
  refusal_is words room = rw may_is

true_first : (a b : Bool) → cond a b false ≡ true → a ≡ true
true_first true b e = refl
true_first false b e = e

-- a position that is reachable is in its row
pub reach_in : (m : Memory) (t k p : ℕ) → k < 8 → reachable m t k p ≡ true → p < get_or m.sizes k 0
unfolding reachable reachable_by
reach_in m t k p few r =
    let q : ltb p (get_or m.sizes (k % 8) 0) ≡ true = true_first (ltb p (get_or m.sizes (k % 8) 0)) _ r in
    ltb-true p (get_or m.sizes k 0) (rw (mod-eq_of_lt few) at q)

-- a step that may be taken picks a position in its row
may_reach : (m : Memory) (d : Effect) (t p : ℕ) → touching d.operation ≡ true → may_pick m d t p ≡ true
    → reachable m t d.word p ≡ true
unfolding may_pick uncovered touching
may_reach m d t p h may =
    go (eqb d.operation Opcode.assign) (eqb d.operation Opcode.branch) (eqb d.operation Opcode.assign_two)
    (eqb d.operation Opcode.load) (eqb d.operation Opcode.acquire) h may
  where
    go : (a b c e f : Bool) → cond a false (cond b false (not c)) ≡ true
        → cond a (eqb p 0) (cond b (eqb p 0) (cond c (eqb p 0) (cond e (reachable m t d.word p) (cond f (reachable m t d.word p)
        (cond (reachable m t d.word p) (not (write_at m d.word p).covered) false))))) ≡ true
        → reachable m t d.word p ≡ true
    go true b c e f x y = absurd (true≢false (sym x))
    go false true c e f x y = absurd (true≢false (sym x))
    go false false true e f x y = absurd (true≢false (sym x))
    go false false false true f x y = y
    go false false false false true x y = y
    go false false false false false x y = true_first (reachable m t d.word p) (not (write_at m d.word p).covered) y

pub picked_in : (m : Memory) (d : Effect) (t p : ℕ) → d.word < 8 → touching d.operation ≡ true → may_pick m d t p ≡ true
    → (reachable m t d.word p ≡ true) × (p < get_or m.sizes d.word 0)
picked_in m d t p few h may = let r = may_reach m d t p h may in (r, reach_in m t d.word p few r)

-- REGISTERS

-- an operation that picks no write does not use its value
pub registers_same : (h : Registers) (a b : ℕ)
    (d : Effect) → touching d.operation ≡ false → registers_after h a d ≡ registers_after h b d
unfolding registers_after touching
registers_same h a b d e =
    go (eqb d.operation Opcode.assign) (eqb d.operation Opcode.branch) (eqb d.operation Opcode.assign_two) refl refl refl e
  where
    go : (x y z : Bool) → eqb d.operation Opcode.assign ≡ x → eqb d.operation Opcode.branch ≡ y
        → eqb d.operation Opcode.assign_two ≡ z → cond x false (cond y false (not z)) ≡ false
        → registers_after h a d ≡ registers_after h b d
    go true y z ex ey ez q = rw (eqb-true d.operation Opcode.assign ex)
    go false true z ex ey ez q = rw (eqb-true d.operation Opcode.branch ey)
    go false false true ex ey ez q = rw (eqb-true d.operation Opcode.assign_two ez)
    go false false false ex ey ez q = absurd (true≢false q)

-- WHAT IT DOES

-- sizes and views, given the write that is picked
load_shape : (m : Memory) (w : Write) (a : Bool) (t k p : ℕ) → w ≡ write_at m k p
    → with_seen (shape_of m) t (read_from w (seen_by (shape_of m) t) a k p) ≡ shape_of (loaded m a t k p)
unfolding loaded read_view with_view with_seen seen_by view_of
load_shape m w a t k p e = rw e

store_shape : (m : Memory) (words : ℕ) (x : Bool)
    (k n t p : ℕ) → (stored_by (shape_of m) words x k n t p).shape ≡ shape_of (stored m x k n t p)
unfolding stored_by grown_by new_write stored put with_seen with_view seen_by view_of grown inserted size_at
store_shape m words x k n t p = refl

swap_shape : (m : Memory) (words : ℕ) (k n t p : ℕ)
    → (swapped_by (shape_of m) words (write_at m k p) k n t p).shape ≡ shape_of (swapped m k n t p)
unfolding swapped_by grown_by new_write swapped put swap_view with_seen with_view seen_by view_of grown inserted size_at covering
swap_shape m words k n t p = refl

load_rest : (m : Memory) (a : Bool) (t k p : ℕ) → ((loaded m a t k p).sizes ≡ m.sizes) × ((loaded m a t k p).writes ≡ m.writes)
unfolding loaded with_view
load_rest m a t k p = (refl, refl)

cover_rest : (m : Memory) (k p : ℕ) → length m.writes ≡ 72 → length (covering m k p).writes ≡ 72
unfolding covering
cover_rest m k p h = length-set m.writes (index_of m.sizes k p) (covered_write (write_at m k p)) ∙ h

module _ (words : ℕ) (eight : words ≤ 8) (l : List Write) (m : Memory) (rows : length m.sizes ≡ 8) (places : length m.writes ≡ 72)
    (few : first m.sizes 8 ≤ 72) (held : Lies words l m) (room : ℕ) (room_few : room ≤ 64) (room_fits : room ≤ length l)
    (within-room : first m.sizes words ≤ room) where
  abbrev many : ℕ
  many = first m.sizes words

  -- sizes and views are the memory's afterwards, the first entries of the table are, and those behind stay; all writes have room
  pub record Agrees (c : Change) (n : Memory) : Type 0 where
    pub shape : c.shape ≡ shape_of n
    pub lies : Lies words (swept_of c.order l) n
    pub grows : many ≤ first n.sizes words
    pub full : first n.sizes words ≤ room
    pub stays : (e : ℕ) → first n.sizes words ≤ e → get_or (swept_of c.order l) e no_write ≡ get_or l e no_write

  none_by : (g : MemoryShape) (n : Memory) → g ≡ shape_of n → n.sizes ≡ m.sizes → n.writes ≡ m.writes → Agrees (unchanged g) n
  none_by g n eg es ew = record {
    shape = eg;
    lies = record {
      same = λ e h. ap (λ (k : List Write). get_or k e no_write) (swept_none l)
          ∙ held.same e (subst (λ (y : List ℕ). e < first y words) es h) ∙ ap (λ (k : List Write). get_or k e no_write) (sym ew);
    };
    grows = subst (λ (y : List ℕ). many ≤ first y words) (sym es) (omega arith);
    full = subst (λ (y : List ℕ). first y words ≤ room) (sym es) within-room;
    stays = λ e h. ap (λ (k : List Write). get_or k e no_write) (swept_none l);
  }

  load_agrees : (w : Write) (a : Bool) (t k p : ℕ) → w ≡ write_at m k p → Agrees (loaded_by (shape_of m) w a t k p) (loaded m a t k p)
  unfolding loaded_by
  load_agrees w a t k p e =
      none_by (with_seen (shape_of m) t (read_from w (seen_by (shape_of m) t) a k p)) (loaded m a t k p) (load_shape m w a t k p e)
      (load_rest m a t k p).0 (load_rest m a t k p).1

  module _ (k p : ℕ) (there : k < words) (picked : p < get_or m.sizes k 0) (more : many < room) where
    some : many < 64
    some = omega arith

    fits : many < length l
    fits = omega arith

    store_agrees : (x : Bool) (n t : ℕ) → Agrees (stored_by (shape_of m) words x k n t p) (stored m x k n t p)
    unfolding stored_by grown_by stored put with_view new_write seen_by view_of
    store_agrees x n t = record {
      shape = store_shape m words x k n t p;
      lies = record {
        same = (insert_lies words eight m rows places few k p there picked some w m.views false l fits
            (λ e h. cover_off _ e (get_or l e no_write) (o_covers words eight m rows places few k p there picked some w m.views false)
            ∙ held.same e h)).same;
      };
      grows = omega (arith, after);
      full = omega (arith, after);
      stays = λ e h. insert_stays words eight m rows places few k p there picked some w m.views false l fits e (omega (
        arith,
        after,
        h,
      ));
    }
      where
        w : Write
        w = new_write x n (view_of m t) k p

        after : first (inserted m k p w).sizes words ≡ suc many
        after = total_after words eight m rows places few k p there picked some w

    swap_by : (n t : ℕ) → Agrees (swapped_by (shape_of m) words (write_at m k p) k n t p) (swapped m k n t p)
    unfolding swapped_by grown_by swapped put swap_view with_view new_write seen_by view_of covering
    swap_by n t = record {
      shape = swap_shape m words k n t p;
      lies = record {
        same = (insert_lies words eight (covering m k p) rows (cover_rest m k p places) few k p there picked some w m.views true l fits
            (cover_old words eight m rows places few k p there picked l held (insertion (shape_of m) words k p true w)
            (o_covers words eight m rows places few k p there picked some w m.views true)
            (o_at words eight m rows places few k p there picked some w m.views true))).same;
      };
      grows = omega (arith, after);
      full = omega (arith, after);
      stays = λ e h. insert_stays words eight m rows places few k p there picked some w m.views true l fits e (omega (
        arith,
        after,
        h,
      ));
    }
      where
        w : Write
        w = new_write true n (swap_from (write_at m k p) (view_of m t)) k p

        after : first (inserted (covering m k p) k p w).sizes words ≡ suc many
        after = total_after words eight (covering m k p) rows (cover_rest m k p places) few k p there picked some w

    swap_agrees : (x : Write) (n t : ℕ) → x ≡ write_at m k p → Agrees (swapped_by (shape_of m) words x k n t p) (swapped m k n t p)
    swap_agrees x n t e = subst (λ (y : Write). Agrees (swapped_by (shape_of m) words y k n t p) (swapped m k n t p)) (sym e) (swap_by n t)

  both : (b : Bool) (c e : Change) (n q : Memory) → (b ≡ true → Agrees c n) → (b ≡ false → Agrees e q) → Agrees (cond b c e) (cond b n q)
  both true c e n q f g = f refl
  both false c e n q f g = g refl

  module _ (R : ℕ) (w : Write) (d : Effect) (t p : ℕ)
      (right : touching d.operation ≡ true
      → (d.word < words) × ((p < get_or m.sizes d.word 0) × (w ≡ write_at m d.word p)))
      (roomy : adding d.operation ≡ true → many < room) where
    touched : (j : ℕ) → eqb d.operation j ≡ true → touching j ≡ true
        → (d.word < words) × ((p < get_or m.sizes d.word 0) × (w ≡ write_at m d.word p))
    touched j e h = right (ap touching (eqb-true d.operation j e) ∙ h)

    added : (j : ℕ) → eqb d.operation j ≡ true → adding j ≡ true → many < room
    added j e h = roomy (ap adding (eqb-true d.operation j e) ∙ h)

    loads : (j : ℕ) (a : Bool) → touching j ≡ true → eqb d.operation j ≡ true
        → Agrees (loaded_by (shape_of m) w a t d.word p) (loaded m a t d.word p)
    loads j a h e = load_agrees w a t d.word p (touched j e h).1.1

    stores : (j : ℕ) (x : Bool) → touching j ≡ true → adding j ≡ true → eqb d.operation j ≡ true
        → Agrees (stored_by (shape_of m) words x d.word d.value t p) (stored m x d.word d.value t p)
    stores j x h g e =
        store_agrees d.word p (touched j e h).0 (touched j e h).1.0 (added j e g) x d.value t

    swaps : (j n q : ℕ) → n ≡ q → touching j ≡ true → adding j ≡ true → eqb d.operation j ≡ true
        → Agrees (swapped_by (shape_of m) words w d.word n t p) (swapped m d.word q t p)
    swaps j n q f h g e =
        subst (λ (y : ℕ). Agrees (swapped_by (shape_of m) words w d.word n t p) (swapped m d.word y t p)) f
        (swap_agrees d.word p (touched j e h).0 (touched j e h).1.0 (added j e g) w n t (touched j e h).1.1)

    pub change_agrees : Agrees (change_of (shape_of m) words R w d t p) (memory_after m R d t p)
    unfolding change_of memory_after fetch_added_by fetch_added touching adding
    change_agrees =
        both (eqb d.operation Opcode.load) _ _ _ _ (loads Opcode.load false refl)
        (λ _. both (eqb d.operation Opcode.acquire) _ _ _ _ (loads Opcode.acquire true refl)
        (λ _. both (eqb d.operation Opcode.store) _ _ _ _ (stores Opcode.store false refl refl)
        (λ _. both (eqb d.operation Opcode.release) _ _ _ _ (stores Opcode.release true refl refl)
        (λ _. both (eqb d.operation Opcode.swap) _ _ _ _ (swaps Opcode.swap d.value d.value refl refl refl)
        (λ _. both (eqb d.operation Opcode.exchange) _ _ _ _ (swaps Opcode.exchange d.value d.value refl refl refl)
        (λ _. both (eqb d.operation Opcode.fetch_add) _ _ _ _
        (λ e. swaps Opcode.fetch_add _ _
        (ap (λ (y : Write). sum_of R y.value d.value) (touched Opcode.fetch_add e refl).1.1) refl refl e)
        (λ _. both (eqb d.operation Opcode.pair_store) _ _ _ _ (stores Opcode.pair_store false refl refl)
        (λ _. both (eqb d.operation Opcode.pair_release) _ _ _ _ (stores Opcode.pair_release true refl refl)
        (λ _. both (eqb d.operation Opcode.pair_swap) _ _ _ _ (swaps Opcode.pair_swap d.value d.value refl refl refl)
        (λ _. none_by (shape_of m) m refl refl refl))))))))))
