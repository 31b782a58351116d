-- The start writes, inserted one after another, are those of the memory at the start.
use Prim.Native.Nat.{ℕ, zero, suc, ◌+◌, ◌-◌, ◌%◌, ◌≤◌, ◌<◌}
use mathlib.Core.Path.{◌≡◌, refl, ap, sym, ◌∙◌, subst}
use mathlib.Core.Bool.{Bool, true, false}
use mathlib.Core.List.{List, []}
use native.Mathlib.Omega.{arith}
use native.Mathlib.Nat.{mod-eq_of_lt}
use native.Mathlib.Numerals.{add-one}
use lib.Dec.{ltb}
use lib.ListN.{length, get_or, set, replicate, get_or-replicate}
use lib.Seq.{set-get_or}
use borrow.Author.Tests.{lt-ltb, ltb-true, ltb-false}
use Rattle.limits.specs.Numbers.{nth}
use Rattle.image_frames.specs.Records.{bodies}
use Rattle.image_header.specs.Header.{start_values}
use Rattle.image_header.specs.declared.sizes.Sizes.{Sizes}
use Rattle.tables_columns.proofs.ColumnLists.{column_get_d}
use Rattle.replay_memory.specs.View.{start_view, next, up, position_in, with_position, up_view}
use Rattle.replay_memory.specs.Write.{no_write, start_write, up_write}
use Rattle.replay_memory.specs.Memory.{first}
use Rattle.replay_memory.specs.declared.write.Write.{Write}
use Rattle.replay_memory.proofs.OrderPlaces.{first_none, first_next}
use Rattle.replay_table.specs.Sweep.{start_order, swept_of}
use Rattle.replay_table.specs.declared.order.Order.{Order}
use Rattle.replay_table.proofs.Inserted.{before_stays, write_there, past_stays}
use Rattle.replay_table.proofs.SweepBranches.{swept_length}
use Rattle.replay_machine.specs.Start.{start_writes, start_memory}
use Rattle.replay_run.specs.NextTurn.{next_turn}
use Rattle.replay_run.specs.Turn.{begun_by, turn_by}
use Rattle.replay_run.specs.RunIn.{turned, run_to}
use Rattle.replay_run.specs.Course.{Course}
use Rattle.replay_run.proofs.TableLies.{Lies, cover_off}
use Rattle.replay_run.proofs.RunTurns.{run_next}

-- a start write keeps its view: no position is behind 255
raise_start : (k a : ℕ) → k < 8 → up_write k 255 (start_write a) ≡ start_write a
unfolding up_write up_view with_position position_in up next
raise_start k a h =
    let e : get_or start_view.at (k % 8) 0 ≡ 0 = rw (mod-eq_of_lt h) (get_or-replicate {A = ℕ} 8 k 0 0 h) in
    let same : set start_view.at (k % 8) 0 ≡ start_view.at
    = ap (λ (j : ℕ). set start_view.at (k % 8) j) (sym e) ∙ set-get_or start_view.at (k % 8) 0 in
    rw (e, same)

-- the value that word k starts with; b: the header's body
abbrev pub start_of : List ℕ → ℕ → ℕ
start_of b k = nth (start_values b) (k + 1) 0

-- the first k entries are start writes
abbrev pub StartsTo : List ℕ → ℕ → List Write → Type 0
StartsTo b k l = (e : ℕ) → e < k → get_or l e no_write ≡ start_write (start_of b e)

module _ (b : List ℕ) (k : ℕ) (l : List Write) (h : k < 8) (fits : k < length l) (old : StartsTo b k l) where
  count_fits : k + 1 ≤ length l
  count_fits = omega arith

  one_more : StartsTo b (suc k) (swept_of (start_order k (start_of b k)) l)
  one_more e g = go (ltb e k) refl
    where
      go : (x : Bool) → ltb e k ≡ x → get_or (swept_of (start_order k (start_of b k)) l) e no_write ≡ start_write (start_of b e)
      go true q =
          let i = ltb-true e k q in
          before_stays (start_order k (start_of b k)) l count_fits e i (omega (arith, i))
          ∙ ap (up_write k 255) (cover_off (start_order k (start_of b k)) e (get_or l e no_write) refl ∙ old e i) ∙ raise_start k (start_of b
          e) h
      go false q =
          let d : e ≡ k = omega (arith, ltb-false e k q, g) in
          subst (λ (j : ℕ). get_or (swept_of (start_order k (start_of b k)) l) j no_write ≡ start_write (start_of b j)) (sym d)
          (write_there (start_order k (start_of b k)) l count_fits (omega arith))

  behind_stays : (e : ℕ) → suc k ≤ e → get_or (swept_of (start_order k (start_of b k)) l) e no_write ≡ get_or l e no_write
  behind_stays e g = past_stays (start_order k (start_of b k)) l count_fits e (omega arith)

-- the memory at the start
first_ones : (k : ℕ) → k ≤ 8 → first (replicate 8 1) k ≡ k
first_ones zero h = sym (first_none (replicate 8 1))
first_ones (suc k) h = omega (
  arith,
  first_next (replicate 8 1) k,
  first_ones k (omega arith),
  get_or-replicate {A = ℕ} 8 k 1 0 (omega
      arith),
)

pub start_many : (b : List ℕ) (words : ℕ) → words ≤ 8 → first (start_memory b).sizes words ≡ words
unfolding start_memory
start_many b words h = first_ones words h

pub start_lies : (b : List ℕ) (words : ℕ) (l : List Write) → words ≤ 8 → StartsTo b words l → Lies words l (start_memory b)
unfolding start_memory start_writes
start_lies b words l h old = record {
  same = λ e g.
      let i : e < words = omega (arith, first_ones words h, g) in
      old e i ∙ sym (column_get_d (λ j. start_write (nth (start_values b) (j + 1) 0)) no_write 72 e (omega arith));
}

module _ (s : List ℕ) (z : Sizes) (trace : List ℕ) (eight : z.words ≤ 8) where
  abbrev head : List ℕ
  head = get_or (bodies s) 0 []

  -- the run from (l, a) on goes on from (table, course), where all start writes are in the table
  pub record Started (l : List Write) (a : Course) (f : ℕ) : Type 0 where
    pub table : List Write
    pub course : Course
    pub fuel : ℕ
    pub goes_on : run_to s trace f (l, a) ≡ run_to s trace fuel (table, course)
    pub enough : length trace ≤ fuel
    pub sizes : course.sizes ≡ z
    pub room : course.room ≡ a.room
    pub code : course.code ≡ a.code
    pub steps : course.steps ≡ a.steps
    pub left : course.left ≡ length trace
    pub begun : course.begun ≡ z.words
    pub threads : course.threads ≡ a.threads
    pub writes : StartsTo head z.words table
    pub stays : (e : ℕ) → z.words ≤ e → get_or table e no_write ≡ get_or l e no_write
    pub long : length table ≡ length l

  start_turned : (l : List Write) (a : Course) → a.sizes ≡ z → a.begun < z.words
      → turned s trace l a ≡ begun_by a (start_of head a.begun)
  unfolding next_turn turn_by
  start_turned l a e h = rw (e, lt-ltb a.begun z.words h)

  begun_next : (a : Course) (v : ℕ) → a.begun < 8 → (begun_by a v).begun ≡ suc a.begun
  unfolding begun_by next
  begun_next a v h = let q : a.begun < 255 = omega arith in rw (lt-ltb a.begun 255 q, add-one a.begun)

  -- the course after a start write: the rest is as before
  begun_rest : (a : Course) (v : ℕ)
      → ((begun_by a v).sizes ≡ a.sizes) × (((begun_by a v).room ≡ a.room) × (((begun_by a v).code ≡ a.code) × (((begun_by a v).steps ≡ a.steps)
      × (((begun_by a v).left ≡ a.left - 1) × (((begun_by a v).threads ≡ a.threads) × ((begun_by a v).order ≡ start_order a.begun v))))))
  unfolding begun_by
  begun_rest a v = (refl, (refl, (refl, (refl, (refl, (refl, refl))))))

  pub starts : (r f : ℕ) (l : List Write) (a : Course) → a.begun + r ≡ z.words → a.sizes ≡ z → a.left ≡ r + length trace → a.left ≤ f
      → StartsTo head a.begun l → z.words ≤ length l → Started l a f
  starts zero f l a e ez el ef old fits = record {
    table = l;
    course = a;
    fuel = f;
    goes_on = refl;
    enough = omega (arith, el, ef);
    sizes = ez;
    room = refl;
    code = refl;
    steps = refl;
    left = omega (arith, el);
    begun = omega (arith, e);
    threads = refl;
    writes = subst (λ (k : ℕ). StartsTo head k l) (omega (arith, e)) old;
    stays = λ _ _. refl;
    long = refl;
  }
  starts (suc r) zero l a e ez el ef old fits = absurd (omega (arith, el, ef))
  starts (suc r) (suc f) l a e ez el ef old fits =
      go (starts r f (swept_of (start_order a.begun (start_of head a.begun)) l) (begun_by a (start_of head a.begun))
      (omega (arith, e, begun_next a (start_of head a.begun) (omega (arith, e, eight)))) (rest.0 ∙ ez)
      (omega (arith, el, rest.1.1.1.1.0)) (omega (arith, el, ef, rest.1.1.1.1.0))
      (subst (λ (k : ℕ). StartsTo head k (swept_of (start_order a.begun (start_of head a.begun)) l))
      (sym (begun_next a (start_of head a.begun) (omega (arith, e, eight))))
      (one_more head a.begun l (omega (arith, e, eight)) (omega (arith, e, fits)) old))
      (omega (arith, fits, swept_length (start_order a.begun (start_of head a.begun)) l)))
    where
      v : ℕ
      v = start_of head a.begun

      rest : ((begun_by a v).sizes ≡ a.sizes) × (((begun_by a v).room ≡ a.room) × (((begun_by a v).code ≡ a.code)
          × (((begun_by a v).steps ≡ a.steps) × (((begun_by a v).left ≡ a.left - 1)
          × (((begun_by a v).threads ≡ a.threads) × ((begun_by a v).order ≡ start_order a.begun v))))))
      rest = begun_rest a v

      small : a.begun < z.words
      small = omega (arith, e)

      turn : run_to s trace (suc f) (l, a) ≡ run_to s trace f (swept_of (start_order a.begun v) l, begun_by a v)
      turn = run_next s trace f (l, a) (λ (q : a.left ≡ 0). omega (arith, q, el))
          ∙ ap (λ (c : Course). run_to s trace f (swept_of c.order l, c)) (start_turned l a ez small)
          ∙ ap (λ (o : Order). run_to s trace f (swept_of o l, begun_by a v)) rest.1.1.1.1.1.1

      go : Started (swept_of (start_order a.begun v) l) (begun_by a v) f → Started l a (suc f)
      go g = record {
        table = g.table;
        course = g.course;
        fuel = g.fuel;
        goes_on = turn ∙ g.goes_on;
        enough = g.enough;
        sizes = g.sizes;
        room = g.room ∙ rest.1.0;
        code = g.code ∙ rest.1.1.0;
        steps = g.steps ∙ rest.1.1.1.0;
        left = g.left;
        begun = g.begun;
        threads = g.threads ∙ rest.1.1.1.1.1.0;
        writes = g.writes;
        stays = λ i h. g.stays i h
            ∙ behind_stays head a.begun l (omega (arith, e, eight)) (omega (arith, e, fits)) old i (omega (arith, h, small));
        long = g.long ∙ swept_length (start_order a.begun v) l;
      }
