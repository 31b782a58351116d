-- The start on numbers stands for the logic's start with the given registers.
use Prim.Native.Nat.{ℕ, zero, suc, ◌+◌, ◌%◌, ◌≤◌, ◌<◌}
use mathlib.Core.Path.{◌≡◌, refl, ap, sym, ◌∙◌, subst}
use mathlib.Core.Bool.{Bool, true, false, cond, ◌&&◌}
use mathlib.Core.List.{List, []}
use native.Mathlib.Omega.{arith}
use native.Mathlib.Nat.{mod-eq_of_lt}
use native.Mathlib.Numerals.{add-one}
use lib.Dec.{eqb, ltb, leb}
use lib.ListN.{length, get_or, drop, replicate, length-take, length-replicate, get_or-replicate, get_or-eq_default}
use borrow.Author.Tests.{ne_eqb, le-ltb, lt-leb, ltb-true, ltb-false}
use Rattle.semantics.specs.Machine.{State, Program, begin}
use Rattle.semantics.proofs.Invariant.{start_wf}
use Rattle.semantics.proofs.Starts.{begins}
use Rattle.limits.specs.Numbers.{nth, within}
use Rattle.image_frames.specs.Records.{bodies}
use Rattle.image_header.specs.declared.sizes.Sizes.{Sizes}
use Rattle.image_header.specs.Header.{word_count, register_count, start_values, marks, cleared}
use Rattle.image.specs.Decode.{sizes_of}
use Rattle.image_meaning.specs.Program.{program_of}
use Rattle.image_meaning.proofs.RecordsChecked.{Checks}
use Rattle.image_meaning.proofs.WellFormedProgram.{range_two, well-formed}
use Rattle.tables_columns.proofs.ColumnLists.{column_length, column_get_d}
use Rattle.replay_memory.specs.View.{start_view}
use Rattle.replay_memory.specs.Write.{no_view, no_write, start_write}
use Rattle.replay_memory.specs.Memory.{first as row_first, index_of, write_at, size_at, view_of}
use Rattle.replay_memory.specs.MemoryStands.{SameView, SameWrite, Stands}
use Rattle.replay_memory.specs.declared.view.View.{View}
use Rattle.replay_memory.specs.declared.write.Write.{Write}
use Rattle.replay_memory.proofs.OrderPlaces.{first_none, first_next, place}
use Rattle.replay_machine.specs.Start.{start_writes, start_memory, start_register, start_values_to, start_registers, started}
use Rattle.replay_machine.proofs.InstructionEffect.{sizes_few}
use Rattle.replay_spec.proofs.StepFollows.{Ready}

-- a write in each row
first_ones : (k : ℕ) → k ≤ 8 → row_first (replicate 8 1) k ≡ k
first_ones zero h = sym (first_none (replicate 8 1))
first_ones (suc k) h = omega (arith, first_next (replicate 8 1) k, first_ones k (omega arith), get_or-replicate {A = ℕ} 8 k 1 0 (omega arith))

start_few : row_first (replicate 8 1) 8 ≤ 72
start_few = omega (arith, first_ones 8 (omega arith))

first_view : SameView start_view (λ y. 0)
first_view = record { eight = length-replicate {A = ℕ} 8 0; same = λ k h. get_or-replicate {A = ℕ} 8 k 0 0 h }

module _ (b : List ℕ) (z : Sizes) (c : Checks z (bodies b)) (given : List ℕ) where
  abbrev P : Program
  P = program_of z (bodies b)

  abbrev head : List ℕ
  head = get_or (bodies b) 0 []

  -- registers count from 1
  abbrev pub first : State
  first = begin P (λ r. nth given r 0)

  abbrev write_of : ℕ → Write
  write_of j = start_write (nth (start_values head) (j + 1) 0)

  write_is : (k : ℕ) → k < 8 → write_at (start_memory head) k 0 ≡ start_write (nth (start_values head) (suc k) 0)
  unfolding write_at start_memory start_writes
  write_is k h =
      let e : index_of (replicate 8 1) k 0 ≡ k = place (replicate 8 1) start_few k 0 h (omega (arith, get_or-replicate {A = ℕ} 8 k 1 0 h))
      ∙ omega (arith, first_ones k (omega arith)) in
      ap (λ (j : ℕ). get_or (start_writes head 72) j no_write) e ∙ column_get_d write_of no_write 72 k (omega arith)
      ∙ ap (λ (j : ℕ). start_write (nth (start_values head) j 0)) (add-one k)

  stands_start : Stands (start_memory head) first
  unfolding start_memory start_writes size_at view_of
  stands_start = record {
    rows = length-replicate {A = ℕ} 8 1;
    places = column_length write_of 72;
    threads = length-replicate {A = View} 4 start_view;
    size = λ k h. rw (mod-eq_of_lt h) (get_or-replicate {A = ℕ} 8 k 1 0 h);
    few = start_few;
    writes = λ k p h g. let e : p ≡ 0 = omega arith in
        rw e (subst (λ (w : Write). SameWrite w (first.row (suc k) 0)) (sym (write_is k h))
        (record { value = refl; releasing = refl; covered = refl; stored = first_view }));
    views = λ t h. rw (mod-eq_of_lt h)
        (subst (λ (v : View). SameView v (λ y. 0)) (sym (get_or-replicate {A = View} 4 t start_view no_view h)) first_view);
  }

  counts : z.registers ≡ register_count head
  unfolding sizes_of
  counts = ap (λ (y : Sizes). y.registers) c.sizes

  -- registers that are not there start at 0
  cleared_past : (r : ℕ) → 16 < r → cleared head r ≡ true
  unfolding cleared within marks
  cleared_past r h =
      let q : length (marks head) < r = omega (
        arith,
        length-take (register_count head) (drop (4 + word_count head + register_count head) head),
        (sizes_few z (bodies b) c).2,
        counts,
      ) in
      go (leb 1 r) (leb r (length (marks head))) (lt-leb r (length (marks head)) q)
    where
      go : (x y : Bool) → y ≡ false → cond (x && y) (eqb (nth (marks head) r 0) 1) true ≡ true
      go true y e = rw e
      go false y e = refl

  register_in : (i : ℕ) → i < 16 → start_register head P.range given i ≡ first.reg (suc i)
  unfolding start_register nth
  register_in i h =
      let q : P.range ≡ 0 → ⊥ = λ e. omega (arith, range_two z (bodies b) c) in
      let g : i ≤ 255 = omega arith in
      rw (ne_eqb P.range 0 q, le-ltb 255 i g, add-one i)

  register_is : (r : ℕ) → nth (start_values_to head P.range given 16) r 0 ≡ first.reg r
  unfolding start_values_to nth cleared within
  register_is zero = refl
  register_is (suc i) = go (ltb i 16) refl
    where
      go : (d : Bool) → ltb i 16 ≡ d → get_or (start_values_to head P.range given 16) i 0 ≡ first.reg (suc i)
      go true e = let h = ltb-true i 16 e in column_get_d (start_register head P.range given) 0 16 i h ∙ register_in i h
      go false e =
          let h = ltb-false i 16 e in
          get_or-eq_default (start_values_to head P.range given 16) 0
          (omega (arith, column_length (start_register head P.range given) 16))
          ∙ sym (ap (λ (x : Bool). cond x 0 (nth given (suc i) 0 % P.range)) (cleared_past (suc i) (omega arith)))

  pub begun : Ready b z c first (started head P.range given)
  unfolding started start_registers start_values_to
  begun = record {
    wf = start_wf (well-formed z (bodies b) c).start-values (begins P (omega (arith, range_two z (bodies b) c)) (λ r. nth given r 0));
    points = λ t w. (well-formed z (bodies b) c).some_point t w;
    stands = record {
      memory = stands_start;
      registers = record { sixteen = column_length (start_register head P.range given) 16; same = register_is };
      four = length-replicate {A = ℕ} 4 0;
      points = λ t h. get_or-replicate {A = ℕ} 4 t 0 0 h;
    };
  }
