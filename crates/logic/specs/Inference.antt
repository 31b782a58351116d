-- The rules: what follows from which premises. One constructor for each rule number; rule 5 has one for loads and one for swaps. The table
-- of schemas says the same (crate logic_schemas, proofs/Rules.antt). t is the acting thread, k its point, x the word, f the formula.
use Rattle.std.specs.Prelude.{◌≡◌, Bool, true, false, not, ◌&&◌, List, [], ◌∷◌, map, ℕ, ◌≤◌, T, length}
use Rattle.semantics.specs.Base.{all}
use Rattle.semantics.specs.Limits
use Rattle.semantics.specs.Formula.{Value, Test, Interval, Assertion, Formula.const, Formula.reg, Formula.word, Formula.sum, Formula.equal, Formula.and, Formula.unsync, Formula.cov, Formula.box, Formula.one, Formula.chop, Formula.both, Formula.either, Formula.sees, Formula.both_a, Formula.either_a, Formula.start, Formula.holds}
use Rattle.semantics.specs.Names.{Name, only, not_word, not_flag, not_reg}
use Rattle.semantics.specs.Replace.{Note, replace, notes, reg_by, word_by}
use Rattle.logic.specs.Rows.{entailed_by_rows}
use Rattle.logic.specs.Table.{entailed_by_table}
use Rattle.semantics.specs.Machine.{Program, Mode, Mode.store, Mode.swap, Mode.exchange, Mode.fetch_add, covers, returns, result_of, Access.none, Access.load, Access.write, Instr, Instr.act, Instr.branch}
use Rattle.logic.specs.Statement.{Statement, inside, implies, triple, pair, is_branch, half, is_imp, imp_of}
use Rattle.logic.specs.Rule.{Rule, r1, r2, r3, r4, r5, r6, r7, r8, r9, r10, r11, r12, r13, r14, r15, r16, r20, r21, r22, r23, r24, r25, r26, r27, r30, r31, r32, r33, r34, r35, r36, r37, r38, r39, r40, r41, r42, r43, r44, r45, r46, r47, r48, r49, r50}

-- both(one x, [x = f]): all views name one write of x, with the value f
abbrev pub newest : ℕ → Value → Interval
newest x f = both (one x) (box (equal (word x) f))

-- the new write's value, as it reads after the step: f; for fetch-add the result register plus f
abbrev pub fresh_value : Mode → Value → Value
fresh_value (store releasing) f = f
fresh_value swap f = f
fresh_value (exchange r) f = f
fresh_value (fetch_add r) f = sum (reg r) f

-- rules 11 to 13, 48 and 49: "C = [cov x];one x"
abbrev pub C : ℕ → Interval
C x = chop (box (cov x)) (one x)

-- the name is neither the word x, in any role, nor the result register
abbrev pub apart : Mode → ℕ → Name → Bool
apart (store releasing) x n = not_word x n
apart swap x n = not_word x n
apart (exchange r) x n = not_word x n && not_reg r n
apart (fetch_add r) x n = not_word x n && not_reg r n

-- rule 1: "load: r absent; others: x absent in any role", and the result register of an exchange or a fetch-add too
abbrev pub keeps : Instr → Assertion → Bool
keeps (act none ns) a = false
keeps (act (load acquires r x) ns) a = only (not_reg r) a
keeps (act (write m x f) ns) a = only (apart m x) a
keeps (branch e k) a = false

-- the rule gives the statement from the premises
pub data Inference (P : Program) : Rule → List Statement → Statement → Type 0 where
  i1 : {t k : ℕ} {p : Assertion} → T (keeps (half P t k) p) → Inference P r1 [] (triple t k p p)
  i2 : {t k : ℕ} {ns : List Note} {q : Assertion} → P.code t k ≡ act none ns → Inference P r2 [] (triple t k (replace (notes ns) q) q)
  i3 : {t k r x : ℕ} {acq : Bool} {e : Test} → half P t k ≡ act (load acq r x) []
      → Inference P r3 [] (triple t k (sees t (box (replace (reg_by r (word x)) e))) (holds e))
  i4 : {t k r x : ℕ} {acq : Bool} {e : Test} {i : Interval} {q : Assertion} → half P t k ≡ act (load acq r x) []
      → Inference P r4 (triple t k (sees t i) q ∷ [])
      (triple t k (sees t (chop (box (replace (reg_by r (word x)) e)) i)) (either_a (holds e) q))
  i5_load : {t k r x : ℕ} {i : Interval} {q : Assertion} → half P t k ≡ act (load true r x) []
      → Inference P r5 (triple t k (sees t i) q ∷ []) (triple t k (sees t (chop (box (unsync x)) i)) q)
  i5_swap : {t k x : ℕ} {m : Mode} {f : Value} {i : Interval} {q : Assertion} → half P t k ≡ act (write m x f) [] → T (covers m)
      → Inference P r5 (triple t k (sees t i) q ∷ []) (triple t k (sees t (chop (box (unsync x)) i)) q)
  i6 : {t k x : ℕ} {rel : Bool} {f : Value} → half P t k ≡ act (write (store rel) x f) []
      → Inference P r6 [] (triple t k (sees t (one x)) (sees t (newest x f)))
  i7 : {t k x u : ℕ} {rel : Bool} {f : Value} {i : Interval} → half P t k ≡ act (write (store rel) x f) []
      → Inference P r7 [] (triple t k (both_a (sees t (one x)) (sees u i)) (sees u (chop i (newest x f))))
  i8 : {t k x u : ℕ} {f : Value} {i j : Interval} → half P t k ≡ act (write (store true) x f) [] → T (only (not_word x) j)
      → Inference P r8 [] (triple t k (both_a (sees t (one x)) (both_a (sees u i) (sees t j))) (sees u (chop i (chop (box (unsync x)) j))))
  i9 : {t k x u : ℕ} {m : Mode} {f : Value} {e : Test} → half P t k ≡ act (write m x f) [] → T (not (returns m)) → T (only (not_flag x) e)
      → Inference P r9 [] (triple t k (both_a (sees u (box e)) (sees u (box (replace (word_by x f) e)))) (sees u (box e)))
  i10 : {t k x : ℕ} {m : Mode} {f : Value} {i : Interval} {q : Assertion} → half P t k ≡ act (write m x f) []
      → Inference P r10 (triple t k (sees t i) q ∷ []) (triple t k (sees t (chop (box (cov x)) i)) q)
  i11 : {t k x : ℕ} {f : Value} → half P t k ≡ act (write swap x f) []
      → Inference P r11 [] (triple t k (sees t (C x)) (sees t (newest x f)))
  i12 : {t k x u : ℕ} {f : Value} → half P t k ≡ act (write swap x f) []
      → Inference P r12 [] (triple t k (both_a (sees t (C x)) (sees u (C x))) (sees u (chop (box (cov x)) (newest x f))))
  i13 : {t k x u : ℕ} {m : Mode} {f : Value} {j : Interval} → half P t k ≡ act (write m x f) [] → T (covers m) → T (only (apart m x) j)
      → Inference P r13 [] (triple t k (both_a (sees t (C x)) (both_a (sees u (C x)) (sees t j)))
      (sees u (chop (box (cov x)) (chop (box (unsync x)) j))))
  i14 : {t k : ℕ} {a b q r : Assertion} → T (not (is_branch (half P t k)))
      → Inference P r14 (triple t k a q ∷ triple t k b r ∷ []) (triple t k (both_a a b) (both_a q r))
  i15 : {t k : ℕ} {a b q r : Assertion} → T (not (is_branch (half P t k)))
      → Inference P r15 (triple t k a q ∷ triple t k b r ∷ []) (triple t k (either_a a b) (either_a q r))
  i16 : {t k : ℕ} {a b q r : Assertion} → T (not (is_branch (half P t k)))
      → Inference P r16 (implies a b ∷ triple t k b q ∷ implies q r ∷ []) (triple t k a r)
  i47 : {t k x : ℕ} {m : Mode} {f : Value} {e : Test} → half P t k ≡ act (write m x f) [] → T (returns m)
      → Inference P r47 [] (triple t k (sees t (box (replace (reg_by (result_of m) (word x)) e))) (holds e))
  i48 : {t k x : ℕ} {m : Mode} {f : Value} → half P t k ≡ act (write m x f) [] → T (returns m)
      → Inference P r48 [] (triple t k (sees t (C x)) (sees t (newest x (fresh_value m f))))
  i49 : {t k x u : ℕ} {m : Mode} {f : Value} → half P t k ≡ act (write m x f) [] → T (returns m)
      → Inference P r49 [] (triple t k (both_a (sees t (C x)) (sees u (C x))) (sees u (chop (box (cov x)) (newest x (fresh_value m f)))))
  -- a pair's first half is a store, a releasing store or a swap: none of them returns the old value
  i50 : {t k x : ℕ} {m : Mode} {f : Value} {n : Note} {ns : List Note} {p q : Assertion} → P.code t k ≡ act (write m x f) (n ∷ ns)
      → T (not (returns m))
      → Inference P r50 (triple t k p (replace (notes (n ∷ ns)) q) ∷ []) (pair t k p q)
  i20 : {ps : List Statement} {a b : Assertion} → length ps ≤ Limits.premises → T (all is_imp ps)
      → T (entailed_by_table (map imp_of ps) (record { left = a; right = b })) → Inference P r20 ps (implies a b)
  i21 : {e f : Test} → T (entailed_by_rows P.range e f) → Inference P r21 [] (implies (holds e) (holds f))
  i22 : {t : ℕ} {i j : Interval} → Inference P r22 (inside i j ∷ []) (implies (sees t i) (sees t j))
  i23 : {t : ℕ} {e f : Test} → T (entailed_by_rows P.range e f) → Inference P r23 [] (implies (sees t (box e)) (holds f))
  i24 : {t : ℕ} {e f : Test} → T (entailed_by_rows P.range e f) → Inference P r24 [] (implies (holds e) (sees t (box f)))
  i25 : {t : ℕ} {i j : Interval} → Inference P r25 [] (implies (both_a (sees t i) (sees t j)) (sees t (both i j)))
  i26 : {t x : ℕ} → Inference P r26 [] (implies start (sees t (newest x (const (P.init x)))))
  i27 : {r : ℕ} → T (P.cleared r) → Inference P r27 [] (implies start (holds (equal (reg r) (const 0))))
  i30 : {e f : Test} → T (entailed_by_rows P.range e f) → Inference P r30 [] (inside (box e) (box f))
  i31 : {a b c : Interval} → Inference P r31 (inside a b ∷ inside b c ∷ []) (inside a c)
  i32 : {a b c d : Interval} → Inference P r32 (inside a b ∷ inside c d ∷ []) (inside (chop a c) (chop b d))
  i33 : {a b d : Interval} → Inference P r33 [] (inside (chop (chop a b) d) (chop a (chop b d)))
  i34 : {a b d : Interval} → Inference P r34 [] (inside (chop a (chop b d)) (chop (chop a b) d))
  i35 : {a b : Interval} → Inference P r35 [] (inside b (chop a b))
  i36 : {a b : Interval} → Inference P r36 [] (inside a (chop a b))
  i37 : {e : Test} → Inference P r37 [] (inside (chop (box e) (box e)) (box e))
  i38 : {k a b : Interval} → Inference P r38 [] (inside (both k (chop a b)) (chop (both k a) (both k b)))
  i39 : {a b : Interval} → Inference P r39 [] (inside (both a b) a)
  i40 : {a b : Interval} → Inference P r40 [] (inside (both a b) b)
  i41 : {a b c : Interval} → Inference P r41 (inside a b ∷ inside a c ∷ []) (inside a (both b c))
  i42 : {a b : Interval} → Inference P r42 [] (inside a (either a b))
  i43 : {a b : Interval} → Inference P r43 [] (inside b (either a b))
  i44 : {a b c : Interval} → Inference P r44 (inside a c ∷ inside b c ∷ []) (inside (either a b) c)
  i45 : {e f : Test} → Inference P r45 [] (inside (both (box e) (box f)) (box (and e f)))
  i46 : {a : Interval} → Inference P r46 [] (inside a a)
