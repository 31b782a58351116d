-- Each rule is sound against the machine: where its premises are valid, what it says is valid.
use mathlib.Core.Path.{◌≡◌, refl, ap, ap₂, sym, ◌∙◌, subst}
use mathlib.Core.Bool.{Bool, true, false, not, ◌&&◌}
use mathlib.Core.List.{List, [], ◌∷◌, map}
use mathlib.Core.Logic.{◌⊎◌, inl, inr}
use Prim.Native.Nat.{ℕ, suc, ◌+◌, ◌%◌, ◌<◌}
use native.Mathlib.Omega.{arith}
use lib.Dec.{T, eqb, ltb→lt, leb→le}
use borrow.Author.Tests.{eq-eqb}
use lib.ListN.{take, drop}
use Rattle.semantics.specs.Base.{All, all, Within, within}
use Rattle.semantics.specs.Formula.{Value, Test, Interval, Assertion, Formula.const, Formula.reg, Formula.word, Formula.sum, Formula.and, Formula.unsync, Formula.cov, Formula.box, Formula.chop, Formula.sees, Formula.both_a, Formula.either_a, Formula.holds}
use Rattle.semantics.specs.Names.{Name, n_reg, n_word, n_unsync, n_cov, names, only, is_reg, regs_in, not_reg, not_word, not_flag, startless, plain}
use Rattle.semantics.specs.Eval.{Env, value, test, on_regs, bounded}
use Rattle.semantics.specs.Replace.{Note, replace, notes, reg_by, word_by}
use Rattle.logic.specs.Table.{Imp}
use Rattle.semantics.specs.Machine
use Rattle.semantics.specs.Machine.{View, State, Program, Mode, Mode.store, Mode.swap, Mode.exchange, Mode.fetch_add, covers, returns, result_of, Access, Instr, Instr.act, Instr.branch, Start, at}
use Rattle.semantics.specs.Truth.{Sat, True, Prospect, Sees, Names}
use Rattle.logic.specs.Statement.{Statement, inside, implies, triple, pair, is_pair, first, half, admitted_at, admitted, is_imp, imp_of}
use Rattle.logic.specs.Rule.{Rule}
use Rattle.logic.specs.Inference.{Inference, newest, fresh_value, C, apart, keeps}
use Rattle.logic.specs.WellFormed.{proper_value, lacks_result, proper_access, proper}
use Rattle.semantics.proofs.Base.{upd_same, upd_other, not_eqb, and_left, and_right, and_both, is_true, all_All, map_or}
use Rattle.semantics.proofs.Cuts.{All-take, All-drop, All-map}
use Rattle.logic.proofs.Intervals.{rule_33, rule_34, rule_35, rule_36, rule_37, rule_38}
use Rattle.semantics.proofs.Prospects.{from_all}
use Rattle.logic.proofs.Agreement.{Same, value_agree, test_agree}
use Rattle.logic.proofs.Rows.{Small, by_rows}
use Rattle.logic.proofs.Tables.{by_table}
use Rattle.logic.proofs.Rule20.{rule_20}
use Rattle.logic.proofs.Registers.{regs_same, given_small}
use Rattle.semantics.proofs.Invariant.{Wf}
use Rattle.semantics.proofs.Halves
use Rattle.semantics.proofs.Halves.{Touch, Touch.none, Touch.load, Touch.write, releases, new_value, touch, into, all_notes, Good, worked_at, memory, finish, untouched}
use Rattle.logic.proofs.Arrived.{Arrived, Triple}
use Rattle.logic.proofs.Actions.{write_wf, all_weaken, rule_1, rule_2, rule_3, rule_4, rule_5_load, rule_5_swap, rule_6, rule_7, rule_8, rule_9, rule_10, rule_11, rule_12, rule_13, with_notes, rule_48, rule_49, rule_50}

-- a triple: of every well-formed state in which the thread has arrived at its pick
abbrev pub ValidTriple : Program → ℕ → Instr → Assertion → Assertion → Type 0
ValidTriple P t (act A ns) a b = Triple P t (touch A) (all_notes A ns) a b
ValidTriple P t (branch e k) a b = Unit {0}

-- an inclusion: of every list of views whose values are below the range; an implication: of every well-formed state
abbrev pub Valid : Program → Statement → Type 0
Valid P (inside i j) = (ρ : View → Env) (l : List View) → All (λ v. Small P.range (ρ v)) l → Sat P.range ρ i l → Sat P.range ρ j l
Valid P (implies a b) = (s : State) → Wf P s → True P s a → True P s b
Valid P (triple t k a b) = ValidTriple P t (half P t k) a b
Valid P (pair t k a b) = ValidTriple P t (P.code t k) a b

-- THE SECOND HALF keeps the invariant
module _ (P : Program) (t : ℕ) where
  given_in : (A : Touch) (ns : List Note) → Good P A ns → (s : State) → Wf P s → (r : ℕ) → (finish P A ns t 0 s).reg r < P.range
  given_in none ns g s wf = given_small P s t ns wf (all_All _ ns g)
  given_in (load a x) ns g s wf = given_small P s t ns wf (all_All _ ns g)
  given_in (write rel swaps x f) ns g s wf = given_small P s t ns wf (all_All _ ns g.2)

  memory_wf : (A : Touch) (ns : List Note) → Good P A ns → (s : State) → Wf P s → (p : ℕ) → Arrived A t p s → Wf P (memory P A t p s)
  memory_wf none ns g s wf p arr = wf
  memory_wf (load a x) ns g s wf p arr = wf
  memory_wf (write rel swaps x f) ns g s wf p arr = write_wf rel swaps x f ns g wf p arr

  pub finish_wf : (A : Touch) (ns : List Note) → Good P A ns → (s : State) → Wf P s → (p : ℕ) → Arrived A t p s → Wf P (finish P A ns t p s)
  finish_wf A ns g s wf p arr =
      let k = memory_wf A ns g s wf p arr in
      record {
        outer = k.outer;
        view_in = k.view_in;
        stored_in = k.stored_in;
        own = k.own;
        small = k.small;
        reg_small = given_in A ns g s wf;
      }

-- a proper instruction, as the halves ask for it
bounded_notes : (P : Program) (ns : List Note) → T (all (λ (n : Note). proper_value P n.by) ns)
    → T (all (λ (n : Note). bounded P.range n.by) ns)
bounded_notes P [] h = tt
bounded_notes P (n ∷ ns) h =
    and_both (bounded P.range n.by) (all (λ (n : Note). bounded P.range n.by) ns) (search (and_left, and_right))
    (bounded_notes P ns (search (and_left, and_right)))

is-in : (n k : ℕ) → T (within n k) → Within n k
is-in n k h = (leb→le 1 k (search and_left), leb→le k n (search and_right))

pub good : (P : Program) (n : ℕ) (A : Access) (ns : List Note) → T (proper P n (act A ns)) → Good P (touch A) (all_notes A ns)
good P n Machine.none ns h = bounded_notes P ns (search (and_left, and_right))
good P n (Machine.load a r x) ns h = bounded_notes P ns (search (and_left, and_right))
good P n (Machine.write m x f) ns h = go m (search (and_left, and_right)) (bounded_notes P ns (search (and_left, and_right)))
  where
    go : (m : Mode) → T (within P.words x && (proper_value P f && lacks_result m f))
        → T (all (λ (n : Note). bounded P.range n.by) ns)
        → Good P (touch (Machine.write m x f)) (all_notes (Machine.write m x f) ns)
    go (store b) h k = (is-in P.words x (search (and_left, and_right)), search (and_left, and_right), k)
    go swap h k = (is-in P.words x (search (and_left, and_right)), search (and_left, and_right), k)
    go (exchange r) h k = (is-in P.words x (search (and_left, and_right)), search (and_left, and_right), k)
    go (fetch_add r) h k = (is-in P.words x (search (and_left, and_right)), search (and_left, and_right), k)

-- so is its first half
pub first_proper : (P : Program) (n : ℕ) (c : Instr) → T (proper P n c) → T (proper P n (first c))
first_proper P n (act Machine.none ns) h = h
first_proper P n (act (Machine.load a r x) ns) h = and_both (within P.words x) true (search (and_left, and_right)) tt
first_proper P n (act (Machine.write m x f) ns) h = and_both (proper_access P (Machine.write m x f)) true (search (and_left, and_right)) tt
first_proper P n (branch e a) h = h

-- an instruction that is no pair is its first half
pub first_alone : (c : Instr) → T (not (is_pair c)) → first c ≡ c
first_alone (act Machine.none ns) h = refl
first_alone (act (Machine.load a r x) []) h = refl
first_alone (act (Machine.load a r x) (n ∷ ns)) h = absurd h
first_alone (act (Machine.write m x f) []) h = refl
first_alone (act (Machine.write m x f) (n ∷ ns)) h = absurd h
first_alone (branch e a) h = refl

-- WHAT VALUES VIEWS HAVE
module _ {P : Program} {s : State} (wf : Wf P s) where
  pub small_at : (v : View) → Names s.size v → Small P.range (at P s v)
  small_at v h = record { reg = wf.reg_small; word = λ x. wf.small x (v x) (h x) }

  small_held : Small P.range (on_regs s.reg)
  small_held = record { reg = wf.reg_small; word = λ x. omega (arith, wf.reg_small 0) }

  small_all : (t : ℕ) (l : List View) → Prospect s.size (s.view t) l → All (λ v. Small P.range (at P s v)) l
  small_all t [] pr = elim pr [ ]
  small_all t (v ∷ l) pr = All-map _ _ (λ w h. small_at w h.0) (v ∷ l) (from_all s.size (s.view t) (v ∷ l) pr)

  -- a test of registers is the same at every view
  pub at_held : (v : View) (e : Test) → T (only is_reg e) → test P.range (at P s v) e ≡ test P.range (on_regs s.reg) e
  at_held v e c = test_agree P.range (regs_same refl) e c

-- INTERVALS: 30, 45
module _ (R : ℕ) (ρ : View → Env) where
  rule_30 : (e f : Test) → ((v : View) → Small R (ρ v) → T (test R (ρ v) e) → T (test R (ρ v) f))
      → (l : List View) → All (λ v. Small R (ρ v)) l → All (λ v. T (test R (ρ v) e)) l → All (λ v. T (test R (ρ v) f)) l
  rule_30 e f g [] s h = tt
  rule_30 e f g (v ∷ l) s h = (g v s.0 h.0, rule_30 e f g l s.1 h.1)

  rule_45 : (e f : Test) (l : List View) → All (λ v. T (test R (ρ v) e)) l → All (λ v. T (test R (ρ v) f)) l
      → All (λ v. T (test R (ρ v) (and e f))) l
  rule_45 e f [] h g = tt
  rule_45 e f (v ∷ l) h g = (and_both (test R (ρ v) e) (test R (ρ v) f) h.0 g.0, rule_45 e f l h.1 g.1)

one_of : {A B C : Type 0} → (A → C) → (B → C) → A ⊎ B → C
one_of f g (inl h) = f h
one_of f g (inr h) = g h

both_join : (a b : Name → Bool) (l : List Name) → T (all a l) → T (all b l) → T (all (λ n. a n && b n) l)
both_join a b [] h g = tt
both_join a b (n ∷ l) h g =
    and_both (a n && b n) (all (λ n. a n && b n) l) (and_both (a n) (b n) (search and_left) (search and_left))
    (both_join a b l (search and_right) (search and_right))

-- rule 1's side condition, as the halves ask for it
load_keeps : (a : Bool) (r x : ℕ) (n : Name) → T (not_reg r n) → T (untouched (load a x) (all_notes (Machine.load a r x) []) n)
load_keeps a r x (n_reg q) h = and_both (not (eqb q r)) true h tt
load_keeps a r x (n_word q) h = tt
load_keeps a r x (n_unsync q) h = tt
load_keeps a r x (n_cov q) h = tt

-- of a name: x in no role, and r absent
abbrev Apart : ℕ → ℕ → Name → Type 0
Apart r x n = T (not_word x n && not_reg r n)

word_keeps : (rel swaps : Bool) (x : ℕ) (f : Value) (n : Name) → T (not_word x n) → T (untouched (write rel swaps x f) [] n)
word_keeps rel swaps x f (n_reg q) h = tt
word_keeps rel swaps x f (n_word q) h = h
word_keeps rel swaps x f (n_unsync q) h = h
word_keeps rel swaps x f (n_cov q) h = h

into_keeps : (r x : ℕ) (f : Value) (n : Name) → Apart r x n → T (untouched (write true true x f) (into r x []) n)
into_keeps r x f (n_reg q) h = and_both (not (eqb q r) && true) true (and_both (not (eqb q r)) true h tt) tt
into_keeps r x f (n_word q) h = and_left (not (eqb q x)) true h
into_keeps r x f (n_unsync q) h = and_left (not (eqb q x)) true h
into_keeps r x f (n_cov q) h = and_left (not (eqb q x)) true h

write_keeps : (m : Mode) (x : ℕ) (f : Value) (n : Name) → T (apart m x n)
    → T (untouched (touch (Machine.write m x f)) (all_notes (Machine.write m x f) []) n)
write_keeps (store b) x f = word_keeps b false x f
write_keeps swap x f = word_keeps true true x f
write_keeps (exchange r) x f = into_keeps r x f
write_keeps (fetch_add r) x f = into_keeps r x (new_value (fetch_add r) x f)

module _ (P : Program) where
  kept : (t n : ℕ) (c : Instr) (a : Assertion) → T (proper P n (first c)) → T (startless a) → T (keeps (first c) a)
      → ValidTriple P t (first c) a a
  kept t n (act Machine.none ns) a ok z h = absurd h
  kept t n (act (Machine.load q r x) ns) a ok z h =
      rule_1 P t (load q x) (all_notes (Machine.load q r x) []) tt a z (all_weaken _ _ (load_keeps q r x) (names a) h)
  kept t n (act (Machine.write m x f) ns) a ok z h =
      rule_1 P t (touch (Machine.write m x f)) (all_notes (Machine.write m x f) []) (good P n (Machine.write m x f) [] ok) a z
      (all_weaken _ _ (write_keeps m x f) (names a) h)
  kept t n (branch e k) a ok z h = absurd h

  -- 14 to 16, of any instruction
  both_triples : (t : ℕ) (c : Instr) (a b q r : Assertion) → ValidTriple P t c a q → ValidTriple P t c b r
      → ValidTriple P t c (both_a a b) (both_a q r)
  both_triples t (act A ns) a b q r d e = λ s wf p arr h. (d s wf p arr h.0, e s wf p arr h.1)
  both_triples t (branch e k) a b q r d _ = tt

  either_triples : (t : ℕ) (c : Instr) (a b q r : Assertion) → ValidTriple P t c a q → ValidTriple P t c b r
      → ValidTriple P t c (either_a a b) (either_a q r)
  either_triples t (act A ns) a b q r d e = λ s wf p arr h. map_or (d s wf p arr) (e s wf p arr) h
  either_triples t (branch e k) a b q r d _ = tt

  weakened : (t n : ℕ) (c : Instr) (a b q r : Assertion) → T (proper P n c) → Valid P (implies a b) → ValidTriple P t c b q
      → Valid P (implies q r) → ValidTriple P t c a r
  weakened t n (act A ns) a b q r ok i d j = λ s wf p arr h. j _ (finish_wf P t (touch A) (all_notes A ns) (good P n A ns ok) s wf p arr)
      (d s wf p arr (i s wf h))
  weakened t n (branch e k) a b q r ok i d j = tt

  -- 5, 9, 13, 47: by the way the word is written
  synced : (t x : ℕ) (m : Mode) (f : Value) (i : Interval) (q : Assertion) → T (covers m)
      → ValidTriple P t (act (Machine.write m x f) []) (sees t i) q
      → ValidTriple P t (act (Machine.write m x f) []) (sees t (chop (box (unsync x)) i)) q
  synced t x (store b) f i q c = absurd c
  synced t x swap f i q c = rule_5_swap P t x [] i q f
  synced t x (exchange r) f i q c = rule_5_swap P t x (into r x []) i q f
  synced t x (fetch_add r) f i q c = rule_5_swap P t x (into r x []) i q (sum (word x) f)

  nine : (t x u : ℕ) (m : Mode) (f : Value) (e : Test) → T (not (returns m))
      → Good P (touch (Machine.write m x f)) (all_notes (Machine.write m x f) [])
      → T (only is_reg f) → T (only (not_flag x) e)
      → ValidTriple P t (act (Machine.write m x f) []) (both_a (sees u (box e)) (sees u (box (replace (word_by x f) e)))) (sees u (box e))
  nine t x u (store b) f e c g p = rule_9 P t x f b false g p u e
  nine t x u swap f e c g p = rule_9 P t x f true true g p u e
  nine t x u (exchange r) f e c g p = absurd c
  nine t x u (fetch_add r) f e c g p = absurd c

  -- what is apart from the name lacks the word; and the register
  apart_word : (r x : ℕ) (n : Name) → Apart r x n → T (not_word x n)
  apart_word r x n = and_left (not_word x n) (not_reg r n)

  apart_reg : (r x : ℕ) (n : Name) → Apart r x n → T (regs_in (Halves.kept (into r x [])) n)
  apart_reg r x (n_reg q) h = and_both (not (eqb q r)) true h tt
  apart_reg r x (n_word q) h = tt
  apart_reg r x (n_unsync q) h = tt
  apart_reg r x (n_cov q) h = tt

  thirteen_into : (t r x u : ℕ) (f : Value) (j : Interval) → Good P (write true true x f) (into r x [])
      → T (all (λ n. not_word x n && not_reg r n) (names j))
      → Triple P t (write true true x f) (into r x []) (both_a (sees t (C x)) (both_a (sees u (C x)) (sees t j)))
      (sees u (chop (box (cov x)) (chop (box (unsync x)) j)))
  thirteen_into t r x u f j g c =
      with_notes P t (write true true x f) (into r x []) (both_a (sees t (C x)) (both_a (sees u (C x)) (sees t j)))
      (sees u (chop (box (cov x)) (chop (box (unsync x)) j))) tt (all_weaken _ _ (apart_reg r x) (names j) c)
      (rule_13 P t x f (g.0, g.1, tt) u j (all_weaken _ _ (apart_word r x) (names j) c))

  thirteen : (t x u : ℕ) (m : Mode) (f : Value) (j : Interval) → T (covers m)
      → Good P (touch (Machine.write m x f)) (all_notes (Machine.write m x f) [])
      → T (only (apart m x) j) → ValidTriple P t (act (Machine.write m x f) []) (both_a (sees t (C x)) (both_a (sees u (C x)) (sees t j)))
      (sees u (chop (box (cov x)) (chop (box (unsync x)) j)))
  thirteen t x u (store b) f j d g c = absurd d
  thirteen t x u swap f j d g c = rule_13 P t x f g u j c
  thirteen t x u (exchange r) f j d g c = thirteen_into t r x u f j g c
  thirteen t x u (fetch_add r) f j d g c = thirteen_into t r x u (sum (word x) f) j g c

  forty_seven : (t x : ℕ) (m : Mode) (f : Value) (e : Test) → T (returns m) → T (only is_reg e)
      → ValidTriple P t (act (Machine.write m x f) []) (sees t (box (replace (reg_by (result_of m) (word x)) e))) (holds e)
  forty_seven t x (store b) f e c = absurd c
  forty_seven t x swap f e c = absurd c
  forty_seven t x (exchange r) f e c = rule_3 P t (write true true x f) (into r x []) e
  forty_seven t x (fetch_add r) f e c = rule_3 P t (write true true x (sum (word x) f)) (into r x []) e

  -- 50
  paired : (t x : ℕ) (m : Mode) (f : Value) (ns : List Note) (p q : Assertion) → T (not (returns m)) → T (startless q)
      → T (all (λ (n : Note). only is_reg n.by) ns)
      → ValidTriple P t (act (Machine.write m x f) []) p (replace (notes ns) q) → ValidTriple P t (act (Machine.write m x f) ns) p q
  paired t x (store b) f ns p q c z k = rule_50 P t (write b false x f) ns p q z k
  paired t x swap f ns p q c z k = rule_50 P t (write true true x f) ns p q z k
  paired t x (exchange r) f ns p q c z k = absurd c
  paired t x (fetch_add r) f ns p q c z k = absurd c

  -- 48, 49: the operand f has after the step the value that it was worked out to; g is what was stored
  operand : (t r x : ℕ) (g f : Value) → T (only is_reg f) → T (only (not_reg r) f) → (s : State) (p : ℕ) (v : View)
      → value P.range (at P (finish P (write true true x g) (into r x []) t p s) v) f ≡ worked_at P s t f
  operand t r x g f plain lacks s p v = value_agree P.range (record { same = rest }) f (both_join is_reg (not_reg r) (names f) plain lacks)
    where
      rest : (n : Name) → T (is_reg n && not_reg r n) → Same (at P (finish P (write true true x g) (into r x []) t p s) v)
          (at P s (s.view t)) n
      rest (n_reg q) h = ap (worked_at P s t) (upd_other reg r (word x) q (not_eqb q r h))
      rest (n_word q) h = absurd h
      rest (n_unsync q) h = absurd h
      rest (n_cov q) h = absurd h

  -- fetch-add: the result register is the old value
  added : (t r x : ℕ) (f : Value) → T (only is_reg f) → T (only (not_reg r) f) → (s : State) (p : ℕ) (v : View)
      → value P.range (at P (finish P (write true true x (sum (word x) f)) (into r x []) t p s) v) (sum (reg r) f) ≡ worked_at P s t
      (sum (word x) f)
  added t r x f plain lacks s p v =
      ap₂ (λ m n. (m + n) % P.range) (ap (worked_at P s t) (upd_same reg r (word x))) (operand t r x (sum (word x) f) f plain lacks s p v)

  forty_eight : (t x : ℕ) (m : Mode) (f : Value) → T (returns m) → Good P (touch (Machine.write m x f)) (all_notes (Machine.write m x f) [])
      → T (only is_reg f) → T (lacks_result m f) → ValidTriple P t (act (Machine.write m x f) []) (sees t (C x))
      (sees t (newest x (fresh_value m f)))
  forty_eight t x (store b) f z g plain lacks = absurd z
  forty_eight t x swap f z g plain lacks = absurd z
  forty_eight t x (exchange r) f z g plain lacks = rule_48 P t x f f (into r x []) g (operand t r x f f plain lacks)
  forty_eight t x (fetch_add r) f z g plain lacks =
      rule_48 P t x (sum (word x) f) (sum (reg r) f) (into r x []) g (added t r x f plain lacks)

  forty_nine : (t x u : ℕ) (m : Mode) (f : Value) → T (returns m) → Good P (touch (Machine.write m x f)) (all_notes (Machine.write m x f) [])
      → T (only is_reg f) → T (lacks_result m f)
      → ValidTriple P t (act (Machine.write m x f) []) (both_a (sees t (C x)) (sees u (C x)))
      (sees u (chop (box (cov x)) (newest x (fresh_value m f))))
  forty_nine t x u (store b) f z g plain lacks = absurd z
  forty_nine t x u swap f z g plain lacks = absurd z
  forty_nine t x u (exchange r) f z g plain lacks = rule_49 P t x f f (into r x []) g (operand t r x f f plain lacks) u
  forty_nine t x u (fetch_add r) f z g plain lacks =
      rule_49 P t x (sum (word x) f) (sum (reg r) f) (into r x []) g (added t r x f plain lacks) u

  -- 26
  start_sees : (s : State) → Start P s → (t x : ℕ) → Sees P s t (newest x (const (P.init x)))
  start_sees s st t x [] pr = elim pr [ ]
  start_sees s st t x (v ∷ l) pr =
      let zeros : All (λ (w : View). w x ≡ 0) (v ∷ l) =
      All-map _ _ (λ w h. omega (arith, h.0 x, st.one_write x)) (v ∷ l) (from_all s.size (s.view t) (v ∷ l) pr) in (
        (0, zeros),
        All-map _ _ (λ (w : View) e. is_true
            (eq-eqb (s.row x (w x)).value (P.init x) (ap (λ i. (s.row x i).value) e ∙ st.given_value x))) (v ∷ l) zeros,
      )

  -- 20: the implications among the premises
  implications : (ps : List Statement) → T (all is_imp ps) → All (Valid P) ps → (s : State) → Wf P s
      → All (λ (p : Imp). True P s p.left → True P s p.right) (map imp_of ps)
  implications [] h vs s wf = tt
  implications (inside i j ∷ ps) h vs s wf = absurd h
  implications (implies a b ∷ ps) h vs s wf = (vs.0 s wf, implications ps h vs.1 s wf)
  implications (triple t k a b ∷ ps) h vs s wf = absurd h
  implications (pair t k a b ∷ ps) h vs s wf = absurd h

  -- every instruction is proper
  module _ (ok : (t k : ℕ) → Within P.threads t → suc k < P.points t → T (proper P (P.points t) (P.code t k))) where
    -- the instruction of an admitted triple
    abbrev pub Proper : Statement → Type 0
    Proper (inside i j) = Unit {0}
    Proper (implies a b) = Unit {0}
    Proper (triple t k a b) = T (proper P (P.points t) (half P t k))
    Proper (pair t k a b) = T (proper P (P.points t) (P.code t k))

    at_proper : (t k : ℕ) (a b : Assertion) → T (admitted_at P t k a b) → T (proper P (P.points t) (P.code t k))
    at_proper t k a b h =
        ok t k (leb→le 1 t (search (and_left, and_right)), leb→le t P.threads (search (and_left, and_right)))
        (ltb→lt (suc k) (P.points t) (search (and_left, and_right)))

    pub its_proper : (s : Statement) → T (admitted P s) → Proper s
    its_proper (inside i j) h = tt
    its_proper (implies a b) h = tt
    its_proper (triple t k a b) h = first_proper P (P.points t) (P.code t k) (at_proper t k a b h)
    its_proper (pair t k a b) h = at_proper t k a b h

    pub its_good : (t k : ℕ) (A : Access) (ns : List Note) → half P t k ≡ act A ns → T (proper P (P.points t) (half P t k))
        → Good P (touch A) (all_notes A ns)
    its_good t k A ns e h = good P (P.points t) A ns (subst (λ (z : Instr). T (proper P (P.points t) z)) e h)

    -- its formula is over registers
    pub written : (t k : ℕ) (m : Mode) (x : ℕ) (f : Value) → half P t k ≡ act (Machine.write m x f) []
        → T (proper P (P.points t) (half P t k)) → T (only is_reg f)
    written t k m x f e h =
        let g : T (proper_access P (Machine.write m x f)) =
        and_left (proper_access P (Machine.write m x f)) true (subst (λ (z : Instr). T (proper P (P.points t) z)) e h) in
        search (and_left, and_right)

    -- it lacks the result register
    pub unnamed : (t k : ℕ) (m : Mode) (x : ℕ) (f : Value) → half P t k ≡ act (Machine.write m x f) []
        → T (proper P (P.points t) (half P t k)) → T (lacks_result m f)
    unnamed t k m x f e h =
        let g : T (proper_access P (Machine.write m x f)) =
        and_left (proper_access P (Machine.write m x f)) true (subst (λ (z : Instr). T (proper P (P.points t) z)) e h) in
        search (and_left, and_right)

    -- its notes are
    noted_plain : (t k : ℕ) (A : Access) (ns : List Note) → P.code t k ≡ act A ns → T (proper P (P.points t) (P.code t k))
        → T (all (λ (n : Note). only is_reg n.by) ns)
    noted_plain t k A ns e h = go ns (and_right (proper_access P A) (all (λ (n : Note). proper_value P n.by) ns)
        (subst (λ (z : Instr). T (proper P (P.points t) z)) e h))
      where
        go : (ns : List Note) → T (all (λ (n : Note). proper_value P n.by) ns) → T (all (λ (n : Note). only is_reg n.by) ns)
        go [] h = tt
        go (n ∷ ns) h = and_both (only is_reg n.by) (all (λ (n : Note). only is_reg n.by) ns) (search (and_left, and_right))
            (go ns (search (and_left, and_right)))

    pub sound : (n : Rule) (s : Statement) (ps : List Statement) → Inference P n ps s → T (admitted P s) → All (Valid P) ps → Valid P s
    sound n s ps (Inference.i1 {t = t} {k = k} {p = p} c) h vs =
        kept t (P.points t) (P.code t k) p (its_proper s h) (search (and_left, and_right)) c
    sound n s ps (Inference.i2 {t = t} {k = k} {ns = ns} {q = q} e) h vs =
        rw e (rule_2 P t ns q (search (and_left, and_right)) (noted_plain t k Machine.none ns e (at_proper t k (replace (notes ns) q) q h)))
    sound n s ps (Inference.i3 {t = t} {r = r} {x = x} {acq = acq} {e = e} c) h vs =
        rw c (rule_3 P t (load acq x) (all_notes (Machine.load acq r x) []) e (search (and_left, and_right)))
    sound n s ps (Inference.i4 {t = t} {r = r} {x = x} {acq = acq} {e = e} {i = i} {q = q} c) h vs =
        rw c (rule_4 P t (load acq x) (all_notes (Machine.load acq r x) []) e (search (and_left, and_right)) i q (rw c at vs.0))
    sound n s ps (Inference.i5_load {t = t} {r = r} {x = x} {i = i} {q = q} e) h vs =
        rw e (rule_5_load P t x (all_notes (Machine.load true r x) []) i q (rw e at vs.0))
    sound n s ps (Inference.i5_swap {t = t} {x = x} {m = m} {f = f} {i = i} {q = q} e c) h vs =
        rw e (synced t x m f i q c (rw e at vs.0))
    sound n s ps (Inference.i6 {t = t} {k = k} {x = x} {rel = rel} {f = f} e) h vs =
        rw e (rule_6 P t x f rel (its_good t k (Machine.write (store rel) x f) [] e (its_proper s h))
        (written t k (store rel) x f e (its_proper s h)))
    sound n s ps (Inference.i7 {t = t} {k = k} {x = x} {u = u} {rel = rel} {f = f} {i = i} e) h vs =
        rw e (rule_7 P t x f rel (its_good t k (Machine.write (store rel) x f) [] e (its_proper s h))
        (written t k (store rel) x f e (its_proper s h)) u i)
    sound n s ps (Inference.i8 {t = t} {k = k} {x = x} {u = u} {f = f} {i = i} {j = j} e c) h vs =
        rw e (rule_8 P t x f (its_good t k (Machine.write (store true) x f) [] e (its_proper s h)) u i j c)
    sound n s ps (Inference.i9 {t = t} {k = k} {x = x} {u = u} {m = m} {f = f} {e = e} q d c) h vs =
        rw q (nine t x u m f e d (its_good t k (Machine.write m x f) [] q (its_proper s h)) (written t k m x f q (its_proper s h)) c)
    sound n s ps (Inference.i10 {t = t} {x = x} {m = m} {f = f} {i = i} {q = q} e) h vs =
        rw e (rule_10 P t x (all_notes (Machine.write m x f) []) i q (releases m) (covers m) (new_value m x f) (rw e at vs.0))
    sound n s ps (Inference.i11 {t = t} {k = k} {x = x} {f = f} e) h vs =
        rw e (rule_11 P t x f (its_good t k (Machine.write swap x f) [] e (its_proper s h)) (written t k swap x f e (its_proper s h)))
    sound n s ps (Inference.i12 {t = t} {k = k} {x = x} {u = u} {f = f} e) h vs =
        rw e (rule_12 P t x f (its_good t k (Machine.write swap x f) [] e (its_proper s h)) (written t k swap x f e (its_proper s h)) u)
    sound n s ps (Inference.i13 {t = t} {k = k} {x = x} {u = u} {m = m} {f = f} {j = j} e d c) h vs =
        rw e (thirteen t x u m f j d (its_good t k (Machine.write m x f) [] e (its_proper s h)) c)
    sound n s ps (Inference.i47 {t = t} {x = x} {m = m} {f = f} {e = e} q c) h vs =
        rw q (forty_seven t x m f e c (search (and_left, and_right)))
    sound n s ps (Inference.i48 {t = t} {k = k} {x = x} {m = m} {f = f} e z) h vs =
        rw e (forty_eight t x m f z (its_good t k (Machine.write m x f) [] e (its_proper s h)) (written t k m x f e (its_proper s h))
        (unnamed t k m x f e (its_proper s h)))
    sound n s ps (Inference.i49 {t = t} {k = k} {x = x} {u = u} {m = m} {f = f} e z) h vs =
        rw e (forty_nine t x u m f z (its_good t k (Machine.write m x f) [] e (its_proper s h)) (written t k m x f e (its_proper s h))
        (unnamed t k m x f e (its_proper s h)))
    sound n s ps (Inference.i50 {t = t} {k = k} {x = x} {m = m} {f = f} {n = r} {ns = ns} {p = p} {q = q} e c) h vs =
        rw e (paired t x m f (r ∷ ns) p q c (search (and_left, and_right))
        (noted_plain t k (Machine.write m x f) (r ∷ ns) e (its_proper s h)) (rw e at vs.0))
    sound n s ps (Inference.i14 {t = t} {k = k} {a = a} {b = b} {q = q} {r = r} z) h vs =
        both_triples t (half P t k) a b q r vs.0 vs.1.0
    sound n s ps (Inference.i15 {t = t} {k = k} {a = a} {b = b} {q = q} {r = r} z) h vs =
        either_triples t (half P t k) a b q r vs.0 vs.1.0
    sound n s ps (Inference.i16 {t = t} {k = k} {a = a} {b = b} {q = q} {r = r} z) h vs =
        weakened t (P.points t) (half P t k) a b q r (its_proper s h) vs.0 vs.1.0 vs.1.1.0
    sound n s ps (Inference.i20 {a = a} {b = b} l i c) h vs = λ s wf g.
        rule_20 P s (map imp_of ps) (record { left = a; right = b }) (by_table (map imp_of ps) (record { left = a; right = b }) c)
        (implications ps i vs s wf) g
    sound n s ps (Inference.i21 {e = e} {f = f} c) h vs = λ s wf g. by_rows P.range e f c (on_regs s.reg) (small_held wf) g
    sound n s ps (Inference.i22 {t = t}) h vs = λ s wf g l pr. vs.0 (at P s) l (small_all wf t l pr) (g l pr)
    sound n s ps (Inference.i23 {t = t} {e = e} {f = f} c) h vs = λ s wf g.
        subst T (at_held wf (s.view t) f h)
        (by_rows P.range e f c (at P s (s.view t)) (small_at wf (s.view t) (wf.view_in t))
        (g (s.view t ∷ []) (wf.view_in t, (λ y. omega arith), tt)).0)
    sound n s ps (Inference.i24 {t = t} {e = e} {f = f} c) h vs = λ s wf g l pr.
        All-map _ _ (λ v k. by_rows P.range e f c (at P s v) k (subst T (sym (at_held wf v e (and_left (only is_reg e) true h))) g)) l
        (small_all wf t l pr)
    sound n s ps Inference.i25 h vs = λ s wf g l pr. (g.0 l pr, g.1 l pr)
    sound n s ps (Inference.i26 {t = t} {x = x}) h vs = λ s wf g. start_sees s g t x
    sound n s ps (Inference.i27 {r = r} c) h vs = λ s wf g. is_true (eq-eqb (s.reg r) 0 (g.registers r c))
    sound n s ps (Inference.i30 {e = e} {f = f} c) h vs =
        λ ρ l small g. rule_30 P.range ρ e f (λ v. by_rows P.range e f c (ρ v)) l small g
    sound n s ps Inference.i31 h vs = λ ρ l small g. vs.1.0 ρ l small (vs.0 ρ l small g)
    sound n s ps Inference.i32 h vs = λ ρ l small g.
        (g.0, vs.0 ρ (take g.0 l) (All-take _ g.0 l small) g.1, vs.1.0 ρ (drop g.0 l) (All-drop _ g.0 l small) g.2)
    sound n s ps (Inference.i33 {a = a} {b = b} {d = d}) h vs = λ ρ l small g. rule_33 P.range ρ a b d l g
    sound n s ps (Inference.i34 {a = a} {b = b} {d = d}) h vs = λ ρ l small g. rule_34 P.range ρ a b d l g
    sound n s ps (Inference.i35 {a = a} {b = b}) h vs = λ ρ l small g. rule_35 P.range ρ a b l g
    sound n s ps (Inference.i36 {a = a} {b = b}) h vs = λ ρ l small g. rule_36 P.range ρ a b l g
    sound n s ps (Inference.i37 {e = e}) h vs = λ ρ l small g. rule_37 P.range ρ e l g
    sound n s ps (Inference.i38 {k = k} {a = a} {b = b}) h vs = λ ρ l small g. rule_38 P.range ρ k a b l g
    sound n s ps Inference.i39 h vs = λ ρ l small g. g.0
    sound n s ps Inference.i40 h vs = λ ρ l small g. g.1
    sound n s ps Inference.i41 h vs = λ ρ l small g. (vs.0 ρ l small g, vs.1.0 ρ l small g)
    sound n s ps Inference.i42 h vs = λ ρ l small g. inl g
    sound n s ps Inference.i43 h vs = λ ρ l small g. inr g
    sound n s ps Inference.i44 h vs = λ ρ l small g. one_of (vs.0 ρ l small) (vs.1.0 ρ l small) g
    sound n s ps (Inference.i45 {e = e} {f = f}) h vs = λ ρ l small g. rule_45 P.range ρ e f l g.0 g.1
    sound n s ps Inference.i46 h vs = λ ρ l small g. g
