-- A whole body is read as a formula exactly if it is the bytes of one within the counts and the nesting.
use mathlib.Core.Path.{◌≡◌, refl, ap, sym, ◌∙◌, subst}
use mathlib.Core.Bool.{Bool, true, false, cond}
use mathlib.Core.List.{List, []}
use Prim.Native.Nat.{ℕ, zero, suc, ◌+◌, ◌/◌, ◌≤◌, ◌<◌}
use native.Mathlib.Omega.{arith}
use lib.ListN.{length, get_or}
use lib.Seq.{drop-length}
use lib.Dec.{T, eqb}
use borrow.Author.Tests.{eqb-true, eq-eqb, ne_eqb}
use Rattle.semantics.specs.Formula.{Sort, Formula, encode, nesting}
use Rattle.limits.specs.Limits.{nesting as most}
use Rattle.formula.specs.Tree.{parse_tree}
use Rattle.std.specs.Prelude.{Ok, Err}
use Rattle.formula.specs.Reader.{fault_named, fault_at, sort_of, reading_of}
use Rattle.formula.specs.declared.reader.Counts.{Counts}
use Rattle.formula.specs.declared.reader.Fault.{Fault}
use Rattle.formula.specs.declared.reader.Fault.TheVariants.{Malformed}
use Rattle.formula_trees.specs.ToTree.{Sorted}
use Rattle.formula_trees.specs.Place.{sort_at, place, formula_at, over_regs, alone, in_counts, Readable}
use Rattle.formula_trees.proofs.Constructors.{by_shape}
use Rattle.formula_trees.proofs.NodeBytes.{by_place, head, head_fine}
use Rattle.formula_trees.proofs.ReadFormula.{Passed, passed, is_formula, reads_sorted}
use Rattle.formula_trees.proofs.ReadWithin.{reads_counts, reads_nesting, reads_alone}
use Rattle.formula_trees.proofs.EncodedTree.{size, parse_encode}
use Rattle.formula_trees.proofs.ReaderAccepts.{passes}

other : (f : Fault) (p : ℕ) → Err f ≡ Ok p → ⊥
other f p e = let z : ◌≡◌ {A = ℕ} 0 1 = cc in omega arith

module _ (b : List ℕ) (n : Counts) (p : ℕ) (r : reading_of b n ≡ Ok p) where
  read : (p ≡ sort_of b) × (fault_at b n most p 0 ≡ 0) × ((parse_tree b most 0).end ≡ length b)
  unfolding reading_of
  read = go (eqb (fault_at b n most (sort_of b) 0) 0) (eqb (parse_tree b most 0).end (length b)) refl refl r
    where
      go : (c d : Bool) → eqb (fault_at b n most (sort_of b) 0) 0 ≡ c → eqb (parse_tree b most 0).end (length b) ≡ d
          → cond c (cond d (Ok (sort_of b)) (Err Malformed)) (Err (fault_named (fault_at b n most (sort_of b) 0))) ≡ Ok p
          → (p ≡ sort_of b) × (fault_at b n most p 0 ≡ 0) × ((parse_tree b most 0).end ≡ length b)
      go true true e f h = let q : sort_of b ≡ p = cc in
          (sym q, rw (← q) (eqb-true (fault_at b n most (sort_of b) 0) 0 e), eqb-true (parse_tree b most 0).end (length b) f)
      go true false e f h = absurd (other Malformed p h)
      go false d e f h = absurd (other (fault_named (fault_at b n most (sort_of b) 0)) p h)

  pub reading_fault : fault_at b n most p 0 ≡ 0
  reading_fault = read.1

  pub reading_end : (parse_tree b most 0).end ≡ length b
  reading_end = read.2

  -- its sort is the first code's eighth: no place over registers alone
  pub reading_place : p < 4
  reading_place = by_place (λ q c. q ≡ c / 8 → q < 4) p (get_or b 0 0) (omega arith) (omega arith) (omega arith) (omega arith) (omega arith)
      (omega arith) (head b n p 0 (head_fine b n most p 0 reading_fault)).1 read.0

  pub reading_sorted : Sorted (sort_at p) (parse_tree b most 0).tree
  reading_sorted = reads_sorted b n most p 0 reading_fault

  -- the formula: its bytes are the body
  pub reading_bytes : b ≡ encode (formula_at b most p 0) []
  reading_bytes = go (passed b n most p 0 reading_fault)
    where
      go : Passed b n most p 0 → b ≡ encode (formula_at b most p 0) []
      go q = rw (is_formula b n most p 0 q) (q.bytes ∙ ap (encode q.formula) (rw reading_end (drop-length b)))

  pub reading_counts : T (in_counts n (formula_at b most p 0))
  reading_counts = reads_counts b n most 0 p reading_fault

  pub reading_nesting : nesting (formula_at b most p 0) ≤ most
  reading_nesting = reads_nesting b n most 0 p reading_fault

  pub reading_alone : T (alone false (formula_at b most p 0))
  reading_alone = subst (λ (r : Bool). T (alone r (formula_at b most p 0))) low (reads_alone b n most 0 p reading_fault)
    where
      low : over_regs p ≡ false
      low = let h = reading_place in rw (ne_eqb p 4 (λ (e : p ≡ 4). omega arith), ne_eqb p 5 (λ (e : p ≡ 5). omega arith))

  pub readable : Readable b n p
  readable = record {
    sort = reading_place;
    formula = formula_at b most p 0;
    bytes = reading_bytes;
    counted = reading_counts;
    lone = reading_alone;
    deep = reading_nesting;
  }

-- the first code's eighth is the sort
sort_first : {s : Sort} (f : Formula s) → sort_of (encode f []) ≡ place false s
sort_first = by_shape (λ s f. sort_of (encode f []) ≡ place false s) (λ c p t o. rw (t.bytes o []) t.eighth)
    (λ c p q t o f h. rw (t.bytes o f []) t.eighth)
    (λ c p q t f g h k. rw (t.bytes 0 f g []) t.eighth)

pub reading_encode : {s : Sort} (f : Formula s) (n : Counts) → T (in_counts n f) → T (alone false f) → nesting f ≤ most
    → reading_of (encode f []) n ≡ Ok (place false s)
unfolding reading_of
reading_encode f n i a h = rw (
  sort_first f,
  passes n f false (encode f []) most 0 [] refl h i a,
  parse_encode f (encode f []) most 0 [] refl h,
  eq-eqb (0 + size f) (size f) (omega arith),
)

place_sort : (p : ℕ) → p < 4 → place false (sort_at p) ≡ p
place_sort zero h = refl
place_sort (suc zero) h = refl
place_sort (suc (suc zero)) h = refl
place_sort (suc (suc (suc zero))) h = refl
place_sort (suc (suc (suc (suc p)))) h = absurd (omega arith)

pub readable_read : (b : List ℕ) (n : Counts) (p : ℕ) → Readable b n p → reading_of b n ≡ Ok p
readable_read b n p q = rw q.bytes (reading_encode q.formula n q.counted q.lone q.deep ∙ ap Ok (place_sort p q.sort))
