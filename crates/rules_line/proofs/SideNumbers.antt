-- What is asked of a side condition that is given by its number: every number asks for something.
use mathlib.Core.Path.{◌≡◌, refl}
use mathlib.Core.Bool.{Bool, true, cond}
use mathlib.Core.List.{List, []}
use Prim.Native.Nat.{ℕ, zero, suc, ◌≤◌}
use native.Mathlib.Omega.{arith}
use lib.Dec.{eqb}
use lib.ListN.{get_or}
use borrow.Author.Tests.{ne_eqb}
use Rattle.tables_rows.specs.ByRows.{table_t, line_of, premises_of}
use Rattle.image_frames.specs.Records.{bodies}
use Rattle.image_header.specs.Header.{cleared}
use Rattle.formula_match.specs.declared.bind.Bind.{Bind}
use Rattle.image_access.specs.declared.acting_instruction.Acting.{Acting}
use Rattle.rules_table.specs.RuleTable.{side_numbered}
use Rattle.rules_line.specs.NewValue.{fresh_is}
use Rattle.rules_line.specs.SideTests.{hole_of, number_in, tree_of, apart, keeps, stored_by, is_start}
use Rattle.rules_line.specs.SideConditions.{assigned_by, loaded_by, implications_of, of_names, asked}
use Rattle.rules_line.specs.declared.conclusion.Conclusion.{Conclusion}
use Rattle.rules_line.specs.declared.conclusion.Premises.{Premises}

module _ (s : List ℕ) (b : Bind) (a : Acting) (c : Conclusion) (p : Premises) where
  -- the side conditions of an instruction; a number that has none of its own is that of rules 8 and 13
  abbrev pub of_number : ℕ → Bool
  of_number n =
      cond (eqb n 1) (keeps a.operation a.word a.register (tree_of s (hole_of b 0)))
      (cond (eqb n 2) (assigned_by s b a)
      (cond (eqb n 3) (loaded_by s b a)
      (cond (eqb n 5) (stored_by s a.word a.formula (tree_of s (hole_of b 3)) (tree_of s (hole_of b 2)))
      (cond (eqb n 9) (fresh_is s a.operation a.register a.formula (tree_of s (hole_of b 0)))
      (apart a.operation a.word a.register (tree_of s (hole_of b 1)))))))

  -- all side conditions
  abbrev pub asked_of : ℕ → Bool
  asked_of n =
      cond (eqb n 0) true
      (cond (eqb n 6) (of_names s b)
      (cond (eqb n 7) (table_t (premises_of s (implications_of c p)) (line_of s (implications_of c p)))
      (cond (eqb n 8) (is_start (get_or (bodies s) 0 []) (number_in b 4) (tree_of s (hole_of b 0)))
      (cond (eqb n 10) (cleared (get_or (bodies s) 0 []) (number_in b 4))
      (of_number n)))))

  past : (n : ℕ) → 11 ≤ n → apart a.operation a.word a.register (tree_of s (hole_of b 1)) ≡ asked_of n
  past n h =
      let n0 : n ≡ 0 → ⊥ = omega arith in
      let n6 : n ≡ 6 → ⊥ = omega arith in
      let n7 : n ≡ 7 → ⊥ = omega arith in
      let n8 : n ≡ 8 → ⊥ = omega arith in
      let n10 : n ≡ 10 → ⊥ = omega arith in
      let n1 : n ≡ 1 → ⊥ = omega arith in
      let n2 : n ≡ 2 → ⊥ = omega arith in
      let n3 : n ≡ 3 → ⊥ = omega arith in
      let n5 : n ≡ 5 → ⊥ = omega arith in
      let n9 : n ≡ 9 → ⊥ = omega arith in
      rw (
        ne_eqb n 0 n0,
        ne_eqb n 6 n6,
        ne_eqb n 7 n7,
        ne_eqb n 8 n8,
        ne_eqb n 10 n10,
        ne_eqb n 1 n1,
        ne_eqb n 2 n2,
        ne_eqb n 3 n3,
        ne_eqb n 5 n5,
        ne_eqb n 9 n9,
      )

  pub asked_numbered : (n : ℕ) → asked s (side_numbered n) b a c p ≡ asked_of n
  unfolding asked
  asked_numbered zero = refl
  asked_numbered (suc zero) = refl
  asked_numbered (suc (suc zero)) = refl
  asked_numbered (suc (suc (suc zero))) = refl
  asked_numbered (suc (suc (suc (suc zero)))) = refl
  asked_numbered (suc (suc (suc (suc (suc zero))))) = refl
  asked_numbered (suc (suc (suc (suc (suc (suc zero)))))) = refl
  asked_numbered (suc (suc (suc (suc (suc (suc (suc zero))))))) = refl
  asked_numbered (suc (suc (suc (suc (suc (suc (suc (suc zero)))))))) = refl
  asked_numbered (suc (suc (suc (suc (suc (suc (suc (suc (suc zero))))))))) = refl
  asked_numbered (suc (suc (suc (suc (suc (suc (suc (suc (suc (suc zero)))))))))) = refl
  asked_numbered (suc (suc (suc (suc (suc (suc (suc (suc (suc (suc (suc n))))))))))) =
      past (suc (suc (suc (suc (suc (suc (suc (suc (suc (suc (suc n))))))))))) (omega arith)
