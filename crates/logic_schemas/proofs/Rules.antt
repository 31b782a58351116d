-- A line fits its row of the table exactly if the rule gives what it says from its premises.
use mathlib.Core.Path.{refl, sym, subst, subst₂}
use mathlib.Core.Bool.{Bool, true, false, not}
use mathlib.Core.List.{List, [], ◌∷◌, map}
use Prim.Native.Nat.{ℕ}
use lib.Dec.{T, leb, leb→le, le→leb}
use lib.ListN.{length}
use Rattle.semantics.specs.Base.{upd, all}
use Rattle.semantics.specs.Limits
use Rattle.semantics.specs.Formula.{Value, Test, Assertion, Formula.const, Formula.word, Formula.cov, Formula.box, Formula.chop, Formula.sees, Formula.both_a, Formula.either_a, Formula.start, Formula.holds}
use Rattle.semantics.specs.Replace.{Note, notes, replace, reg_by, word_by}
use Rattle.logic.specs.Table.{entailed_by_table}
use Rattle.semantics.specs.Machine.{Program, Mode, Mode.store, Mode.swap, Mode.exchange, Mode.fetch_add, covers, returns, result_of, Access.none, Access.load, Access.write, Instr, Instr.act, Instr.branch}
use Rattle.logic.specs.Statement.{Statement, implies, triple, pair, is_branch, first, is_imp, imp_of}
use Rattle.logic_schemas.specs.Pattern.{Fill}
use Rattle.logic_schemas.specs.Rules
use Rattle.logic.specs.Rule.{Rule, r1, r2, r3, r4, r5, r6, r7, r8, r9, r10, r11, r12, r13, r14, r15, r16, r20, r21, r22, r23, r24, r25, r26, r27, r30, r31, r32, r33, r34, r35, r36, r37, r38, r39, r40, r41, r42, r43, r44, r45, r46, r47, r48, r49, r50}
use Rattle.logic_schemas.specs.Rules.{row}
use Rattle.logic.specs.Inference.{Inference, newest, fresh_value, C, keeps, i1, i2, i3, i4, i5_load, i5_swap, i6, i7, i8, i9, i10, i11, i12, i13, i14, i15, i16, i20, i21, i22, i23, i24, i25, i26, i27, i30, i31, i32, i33, i34, i35, i36, i37, i38, i39, i40, i41, i42, i43, i44, i45, i46, i47, i48, i49, i50}
use Rattle.logic_schemas.specs.Fits.{is_among, opcode, thread_of, point_of, found, fits}
use Rattle.semantics.proofs.Base.{and_left, and_right, and_both}
use Rattle.semantics.proofs.Encoding.{same_eq, same_refl}
use Rattle.logic_schemas.proofs.Fit.{fit, fit_back, Fit, as_assign, as_load, as_acquire, as_store, as_release, as_store_swap, as_write, as_swap, as_covering, as_returning, as_pair}

-- an assignment, or two
op_assign : (ns : List Note) → T (is_among (opcode (act none ns)) Rules.assigns)
op_assign [] = tt
op_assign (n ∷ []) = tt
op_assign (n ∷ m ∷ ns) = tt

-- an operation that is no branch
acts : (c : Instr) → T (is_among (opcode (first c)) Rules.actions) → T (not (is_branch (first c)))
acts (act none ns) h = tt
acts (act (load a r x) ns) h = tt
acts (act (write m x f) ns) h = tt
acts (branch e k) h = absurd h

op_acts : (c : Instr) → T (not (is_branch (first c))) → T (is_among (opcode (first c)) Rules.actions)
op_acts (act none []) h = tt
op_acts (act none (n ∷ [])) h = tt
op_acts (act none (n ∷ m ∷ ns)) h = tt
op_acts (act (load true r x) ns) h = tt
op_acts (act (load false r x) ns) h = tt
op_acts (act (write (store true) x f) ns) h = tt
op_acts (act (write (store false) x f) ns) h = tt
op_acts (act (write swap x f) ns) h = tt
op_acts (act (write (exchange r) x f) ns) h = tt
op_acts (act (write (fetch_add r) x f) ns) h = tt
op_acts (branch e k) h = absurd h

-- the operations of a load, a store, each kind of write; of what keeps an assertion
op_load : (acq : Bool) (r x : ℕ) → T (is_among (opcode (act (load acq r x) [])) Rules.loads)
op_load true r x = tt
op_load false r x = tt

op_store : (rel : Bool) (x : ℕ) (f : Value) → T (is_among (opcode (act (write (store rel) x f) [])) Rules.stores)
op_store true x f = tt
op_store false x f = tt

op_write : (m : Mode) (x : ℕ) (f : Value) → T (is_among (opcode (act (write m x f) [])) Rules.writes)
op_write (store true) x f = tt
op_write (store false) x f = tt
op_write swap x f = tt
op_write (exchange r) x f = tt
op_write (fetch_add r) x f = tt

op_store_swap : (m : Mode) (x : ℕ) (f : Value) → T (not (returns m)) → T (is_among (opcode (act (write m x f) [])) Rules.stores_swaps)
op_store_swap (store true) x f h = tt
op_store_swap (store false) x f h = tt
op_store_swap swap x f h = tt
op_store_swap (exchange r) x f h = absurd h
op_store_swap (fetch_add r) x f h = absurd h

op_covering : (m : Mode) (x : ℕ) (f : Value) → T (covers m) → T (is_among (opcode (act (write m x f) [])) Rules.covering)
op_covering (store b) x f h = absurd h
op_covering swap x f h = tt
op_covering (exchange r) x f h = tt
op_covering (fetch_add r) x f h = tt

op_acquiring : (m : Mode) (x : ℕ) (f : Value) → T (covers m) → T (is_among (opcode (act (write m x f) [])) Rules.acquiring)
op_acquiring (store b) x f h = absurd h
op_acquiring swap x f h = tt
op_acquiring (exchange r) x f h = tt
op_acquiring (fetch_add r) x f h = tt

op_returning : (m : Mode) (x : ℕ) (f : Value) → T (returns m) → T (is_among (opcode (act (write m x f) [])) Rules.returning)
op_returning (store b) x f h = absurd h
op_returning swap x f h = absurd h
op_returning (exchange r) x f h = tt
op_returning (fetch_add r) x f h = tt

op_kept : (c : Instr) (a : Assertion) → T (keeps (first c) a) → T (is_among (opcode (first c)) Rules.accesses)
op_kept (act none ns) a h = absurd h
op_kept (act (load true r x) ns) a h = tt
op_kept (act (load false r x) ns) a h = tt
op_kept (act (write (store true) x f) ns) a h = tt
op_kept (act (write (store false) x f) ns) a h = tt
op_kept (act (write swap x f) ns) a h = tt
op_kept (act (write (exchange r) x f) ns) a h = tt
op_kept (act (write (fetch_add r) x f) ns) a h = tt
op_kept (branch e k) a h = absurd h

op_pair : (m : Mode) (x : ℕ) (f : Value) (n : Note) (ns : List Note) → T (not (returns m))
    → T (is_among (opcode (act (write m x f) (n ∷ ns))) Rules.pairs)
op_pair (store true) x f n ns h = tt
op_pair (store false) x f n ns h = tt
op_pair swap x f n ns h = tt
op_pair (exchange r) x f n ns h = absurd h
op_pair (fetch_add r) x f n ns h = absurd h

module _ (P : Program) where
  -- the row's shapes, filled in any way: the rule
  pub rule-of : (n : Rule) (σ : Fill) (s : Statement) (ps : List Statement) → Fit P (thread_of s) (point_of s) σ (row n) s ps
      → Inference P n ps s
  rule-of r1 σ s ps g = subst₂ (Inference P r1) g.premises g.says (i1 g.side.0)
  rule-of r2 σ s ps g =
      subst₂ (Inference P r2) g.premises g.says (as_assign (P.code (thread_of s) (point_of s)) g.op (λ ns e.
      subst (λ (a : Assertion). Inference P r2 [] (triple (thread_of s) (point_of s) a (σ.assertion 1)))
      (sym (same_eq (σ.assertion 0) (replace (notes ns) (σ.assertion 1)) (rw e at g.side.0))) (i2 {q = σ.assertion 1} e)))
  rule-of r3 σ s ps g =
      subst₂ (Inference P r3) g.premises g.says (as_load (P.code (thread_of s) (point_of s)) g.op (λ acq r x e.
      subst (λ (a : Test). Inference P r3 [] (triple (thread_of s) (point_of s) (sees (thread_of s) (box a)) (holds (σ.test 2))))
      (sym (same_eq (σ.test 3) (replace (reg_by r (word x)) (σ.test 2)) (rw e at g.side.0))) (i3 {e = σ.test 2} e)))
  rule-of r4 σ s ps g =
      subst₂ (Inference P r4) g.premises g.says (as_load (P.code (thread_of s) (point_of s)) g.op (λ acq r x e.
      subst (λ (a : Test). Inference P r4 (triple (thread_of s) (point_of s) (sees (thread_of s) (σ.interval 0)) (σ.assertion 1) ∷ [])
      (triple (thread_of s) (point_of s) (sees (thread_of s) (chop (box a) (σ.interval 0)))
      (either_a (holds (σ.test 2)) (σ.assertion 1))))
      (sym (same_eq (σ.test 3) (replace (reg_by r (word x)) (σ.test 2)) (rw e at g.side.0))) (i4 {e = σ.test 2} e)))
  rule-of r5 σ s ps g =
      subst₂ (Inference P r5) g.premises g.says
      (as_acquire (P.code (thread_of s) (point_of s)) g.op (λ r x e. rw e (i5_load e)) (λ m x f e c. rw e (i5_swap e c)))
  rule-of r6 σ s ps g =
      subst₂ (Inference P r6) g.premises g.says (as_store (P.code (thread_of s) (point_of s)) g.op (λ rel x f e. rw e (i6 e)))
  rule-of r7 σ s ps g =
      subst₂ (Inference P r7) g.premises g.says (as_store (P.code (thread_of s) (point_of s)) g.op (λ rel x f e. rw e (i7 e)))
  rule-of r8 σ s ps g =
      subst₂ (Inference P r8) g.premises g.says
      (as_release (P.code (thread_of s) (point_of s)) g.op (λ x f e. rw e (i8 e (rw e at g.side.0))))
  rule-of r9 σ s ps g =
      subst₂ (Inference P r9) g.premises g.says (as_store_swap (P.code (thread_of s) (point_of s)) g.op (λ m x f e c.
      subst
      (λ (a : Test). Inference P r9 [] (triple (thread_of s) (point_of s) (both_a (sees σ.u (box (σ.test 2))) (sees σ.u (box a)))
      (sees σ.u (box (σ.test 2)))))
      (sym (same_eq (σ.test 3) (replace (word_by x f) (σ.test 2)) (rw e at g.side.0)))
      (i9 {e = σ.test 2} e c (rw e at g.side.1.0))))
  rule-of r10 σ s ps g =
      subst₂ (Inference P r10) g.premises g.says (as_write (P.code (thread_of s) (point_of s)) g.op (λ m x f e. rw e (i10 e)))
  rule-of r11 σ s ps g =
      subst₂ (Inference P r11) g.premises g.says (as_swap (P.code (thread_of s) (point_of s)) g.op (λ x f e. rw e (i11 e)))
  rule-of r12 σ s ps g =
      subst₂ (Inference P r12) g.premises g.says (as_swap (P.code (thread_of s) (point_of s)) g.op (λ x f e. rw e (i12 e)))
  rule-of r13 σ s ps g =
      subst₂ (Inference P r13) g.premises g.says
      (as_covering (P.code (thread_of s) (point_of s)) g.op (λ m x f e c. rw e (i13 e c (rw e at g.side.0))))
  rule-of r14 σ s ps g = subst₂ (Inference P r14) g.premises g.says (i14 (acts (P.code (thread_of s) (point_of s)) g.op))
  rule-of r15 σ s ps g = subst₂ (Inference P r15) g.premises g.says (i15 (acts (P.code (thread_of s) (point_of s)) g.op))
  rule-of r16 σ s ps g = subst₂ (Inference P r16) g.premises g.says (i16 (acts (P.code (thread_of s) (point_of s)) g.op))
  rule-of r20 σ s ps g =
      subst (Inference P r20 ps) g.says
      (i20 (leb→le (length ps) Limits.premises (and_left (leb (length ps) Limits.premises) (all is_imp ps) g.premises))
      (and_right (leb (length ps) Limits.premises) (all is_imp ps) g.premises)
      (subst (λ (z : Statement). T (entailed_by_table (map imp_of ps) (imp_of z))) (sym g.says) g.side.0))
  rule-of r21 σ s ps g = subst₂ (Inference P r21) g.premises g.says (i21 g.side.0)
  rule-of r22 σ s ps g = subst₂ (Inference P r22) g.premises g.says i22
  rule-of r23 σ s ps g = subst₂ (Inference P r23) g.premises g.says (i23 g.side.0)
  rule-of r24 σ s ps g = subst₂ (Inference P r24) g.premises g.says (i24 g.side.0)
  rule-of r25 σ s ps g = subst₂ (Inference P r25) g.premises g.says i25
  rule-of r26 σ s ps g =
      subst₂ (Inference P r26) g.premises g.says
      (subst (λ (n : Value). Inference P r26 [] (implies start (sees σ.u (newest σ.y n))))
      (sym (same_eq (σ.value 0) (const (P.init σ.y)) g.side.0)) i26)
  rule-of r27 σ s ps g = subst₂ (Inference P r27) g.premises g.says (i27 g.side.0)
  rule-of r30 σ s ps g = subst₂ (Inference P r30) g.premises g.says (i30 g.side.0)
  rule-of r31 σ s ps g = subst₂ (Inference P r31) g.premises g.says i31
  rule-of r32 σ s ps g = subst₂ (Inference P r32) g.premises g.says i32
  rule-of r33 σ s ps g = subst₂ (Inference P r33) g.premises g.says i33
  rule-of r34 σ s ps g = subst₂ (Inference P r34) g.premises g.says i34
  rule-of r35 σ s ps g = subst₂ (Inference P r35) g.premises g.says i35
  rule-of r36 σ s ps g = subst₂ (Inference P r36) g.premises g.says i36
  rule-of r37 σ s ps g = subst₂ (Inference P r37) g.premises g.says i37
  rule-of r38 σ s ps g = subst₂ (Inference P r38) g.premises g.says i38
  rule-of r39 σ s ps g = subst₂ (Inference P r39) g.premises g.says i39
  rule-of r40 σ s ps g = subst₂ (Inference P r40) g.premises g.says i40
  rule-of r41 σ s ps g = subst₂ (Inference P r41) g.premises g.says i41
  rule-of r42 σ s ps g = subst₂ (Inference P r42) g.premises g.says i42
  rule-of r43 σ s ps g = subst₂ (Inference P r43) g.premises g.says i43
  rule-of r44 σ s ps g = subst₂ (Inference P r44) g.premises g.says i44
  rule-of r45 σ s ps g = subst₂ (Inference P r45) g.premises g.says i45
  rule-of r46 σ s ps g = subst₂ (Inference P r46) g.premises g.says i46
  rule-of r47 σ s ps g =
      subst₂ (Inference P r47) g.premises g.says (as_returning (P.code (thread_of s) (point_of s)) g.op (λ m x f e c.
      subst (λ (a : Test). Inference P r47 [] (triple (thread_of s) (point_of s) (sees (thread_of s) (box a)) (holds (σ.test 2))))
      (sym (same_eq (σ.test 3) (replace (reg_by (result_of m) (word x)) (σ.test 2)) (rw e at g.side.0))) (i47 {e = σ.test 2} e c)))
  rule-of r48 σ s ps g =
      subst₂ (Inference P r48) g.premises g.says (as_returning (P.code (thread_of s) (point_of s)) g.op (λ m x f e c. rw e
      (subst
      (λ (n : Value). Inference P r48 [] (triple (thread_of s) (point_of s) (sees (thread_of s) (C x)) (sees (thread_of s) (newest x n))))
      (sym (same_eq (σ.value 0) (fresh_value m f) (rw e at g.side.0))) (i48 e c))))
  rule-of r49 σ s ps g =
      subst₂ (Inference P r49) g.premises g.says (as_returning (P.code (thread_of s) (point_of s)) g.op (λ m x f e c. rw e
      (subst
      (λ (n : Value). Inference P r49 [] (triple (thread_of s) (point_of s) (both_a (sees (thread_of s) (C x)) (sees σ.u (C x)))
      (sees σ.u (chop (box (cov x)) (newest x n)))))
      (sym (same_eq (σ.value 0) (fresh_value m f) (rw e at g.side.0))) (i49 e c))))
  rule-of r50 σ s ps g =
      subst₂ (Inference P r50) g.premises g.says (as_pair (P.code (thread_of s) (point_of s)) g.op (λ m x f n ns e c.
      subst (λ (a : Assertion). Inference P r50 (triple (thread_of s) (point_of s) (σ.assertion 2) a ∷ [])
      (pair (thread_of s) (point_of s) (σ.assertion 2) (σ.assertion 1)))
      (sym (same_eq (σ.assertion 0) (replace (notes (n ∷ ns)) (σ.assertion 1)) (rw e at g.side.0))) (i50 {q = σ.assertion 1} e c)))

  -- the rule: the row's shapes, filled with what is found in the line
  pub fits_of : (n : Rule) (s : Statement) (ps : List Statement) → Inference P n ps s
      → Fit P (thread_of s) (point_of s) (found (row n) s ps) (row n) s ps
  unfolding upd
  fits_of r1 s ps (i1 {t = t} {k = k} {p = p} c) = record { says = refl; premises = refl; op = op_kept (P.code t k) p c; side = (c, tt) }
  fits_of r2 s ps (i2 {ns = ns} {q = q} e) = record
      { says = refl; premises = refl; op = rw e (op_assign ns); side = (rw e (same_refl (replace (notes ns) q)), tt) }
  fits_of r3 s ps (i3 {r = r} {x = x} {acq = acq} {e = q} e) =
      record { says = refl; premises = refl; op = rw e (op_load acq r x); side = (rw e (same_refl (replace (reg_by r (word x)) q)), tt) }
  fits_of r4 s ps (i4 {r = r} {x = x} {acq = acq} {e = q} e) =
      record { says = refl; premises = refl; op = rw e (op_load acq r x); side = (rw e (same_refl (replace (reg_by r (word x)) q)), tt) }
  fits_of r5 s ps (i5_load e) = record { says = rw e; premises = refl; op = rw e tt; side = tt }
  fits_of r5 s ps (i5_swap {x = x} {m = m} {f = f} e c) =
      record { says = rw e; premises = refl; op = rw e (op_acquiring m x f c); side = tt }
  fits_of r6 s ps (i6 {x = x} {rel = rel} {f = f} e) = record { says = rw e; premises = refl; op = rw e (op_store rel x f); side = tt }
  fits_of r7 s ps (i7 {x = x} {rel = rel} {f = f} e) = record { says = rw e; premises = refl; op = rw e (op_store rel x f); side = tt }
  fits_of r8 s ps (i8 e c) = record { says = rw e; premises = refl; op = rw e tt; side = (rw e c, tt) }
  fits_of r9 s ps (i9 {x = x} {m = m} {f = f} {e = q} e d c) =
      record {
        says = refl;
        premises = refl;
        op = rw e (op_store_swap m x f d);
        side = (rw e (same_refl (replace (word_by x f) q)), (rw e c, tt));
      }
  fits_of r10 s ps (i10 {x = x} {m = m} {f = f} e) = record { says = rw e; premises = refl; op = rw e (op_write m x f); side = tt }
  fits_of r11 s ps (i11 e) = record { says = rw e; premises = refl; op = rw e tt; side = tt }
  fits_of r12 s ps (i12 e) = record { says = rw e; premises = refl; op = rw e tt; side = tt }
  fits_of r13 s ps (i13 {x = x} {m = m} {f = f} e d c) =
      record { says = rw e; premises = refl; op = rw e (op_covering m x f d); side = (rw e c, tt) }
  fits_of r14 s ps (i14 {t = t} {k = k} c) = record { says = refl; premises = refl; op = op_acts (P.code t k) c; side = tt }
  fits_of r15 s ps (i15 {t = t} {k = k} c) = record { says = refl; premises = refl; op = op_acts (P.code t k) c; side = tt }
  fits_of r16 s ps (i16 {t = t} {k = k} c) = record { says = refl; premises = refl; op = op_acts (P.code t k) c; side = tt }
  fits_of r20 s ps (i20 l i c) = record {
    says = refl;
    premises = and_both (leb (length ps) Limits.premises) (all is_imp ps) (le→leb (length ps) Limits.premises l) i;
    op = tt;
    side = (c, tt);
  }
  fits_of r21 s ps (i21 c) = record { says = refl; premises = refl; op = tt; side = (c, tt) }
  fits_of r22 s ps i22 = record { says = refl; premises = refl; op = tt; side = tt }
  fits_of r23 s ps (i23 c) = record { says = refl; premises = refl; op = tt; side = (c, tt) }
  fits_of r24 s ps (i24 c) = record { says = refl; premises = refl; op = tt; side = (c, tt) }
  fits_of r25 s ps i25 = record { says = refl; premises = refl; op = tt; side = tt }
  fits_of r26 s ps (i26 {x = x}) = record { says = refl; premises = refl; op = tt; side = (same_refl (const (P.init x)), tt) }
  fits_of r27 s ps (i27 c) = record { says = refl; premises = refl; op = tt; side = (c, tt) }
  fits_of r30 s ps (i30 c) = record { says = refl; premises = refl; op = tt; side = (c, tt) }
  fits_of r31 s ps i31 = record { says = refl; premises = refl; op = tt; side = tt }
  fits_of r32 s ps i32 = record { says = refl; premises = refl; op = tt; side = tt }
  fits_of r33 s ps i33 = record { says = refl; premises = refl; op = tt; side = tt }
  fits_of r34 s ps i34 = record { says = refl; premises = refl; op = tt; side = tt }
  fits_of r35 s ps i35 = record { says = refl; premises = refl; op = tt; side = tt }
  fits_of r36 s ps i36 = record { says = refl; premises = refl; op = tt; side = tt }
  fits_of r37 s ps i37 = record { says = refl; premises = refl; op = tt; side = tt }
  fits_of r38 s ps i38 = record { says = refl; premises = refl; op = tt; side = tt }
  fits_of r39 s ps i39 = record { says = refl; premises = refl; op = tt; side = tt }
  fits_of r40 s ps i40 = record { says = refl; premises = refl; op = tt; side = tt }
  fits_of r41 s ps i41 = record { says = refl; premises = refl; op = tt; side = tt }
  fits_of r42 s ps i42 = record { says = refl; premises = refl; op = tt; side = tt }
  fits_of r43 s ps i43 = record { says = refl; premises = refl; op = tt; side = tt }
  fits_of r44 s ps i44 = record { says = refl; premises = refl; op = tt; side = tt }
  fits_of r45 s ps i45 = record { says = refl; premises = refl; op = tt; side = tt }
  fits_of r46 s ps i46 = record { says = refl; premises = refl; op = tt; side = tt }
  fits_of r47 s ps (i47 {x = x} {m = m} {f = f} {e = q} e c) = record {
    says = refl;
    premises = refl;
    op = rw e (op_returning m x f c);
    side = (rw e (same_refl (replace (reg_by (result_of m) (word x)) q)), tt);
  }
  fits_of r48 s ps (i48 {x = x} {m = m} {f = f} e c) =
      record { says = rw e; premises = refl; op = rw e (op_returning m x f c); side = (rw e (same_refl (fresh_value m f)), tt) }
  fits_of r49 s ps (i49 {x = x} {m = m} {f = f} e c) =
      record { says = rw e; premises = refl; op = rw e (op_returning m x f c); side = (rw e (same_refl (fresh_value m f)), tt) }
  fits_of r50 s ps (i50 {x = x} {m = m} {f = f} {n = n} {ns = ns} {q = q} e c) = record {
    says = refl;
    premises = refl;
    op = rw e (op_pair m x f n ns c);
    side = (rw e (same_refl (replace (notes (n ∷ ns)) q)), tt);
  }

  -- a line fits its rule exactly if the rule gives what it says from its premises
  pub fits_rule : (n : Rule) (s : Statement) (ps : List Statement) → T (fits P n s ps) → Inference P n ps s
  fits_rule n s ps h = rule-of n (found (row n) s ps) s ps (fit P n s ps h)

  pub rule_fits : (n : Rule) (s : Statement) (ps : List Statement) → Inference P n ps s → T (fits P n s ps)
  rule_fits n s ps d = fit_back P n s ps (fits_of n s ps d)
