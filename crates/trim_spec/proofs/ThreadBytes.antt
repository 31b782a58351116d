-- A thread's instructions in bytes, and back.
use mathlib.Core.Path.{◌≡◌, refl, sym}
use mathlib.Core.Bool.{Bool, true, false, cond}
use mathlib.Core.List.{List, [], ◌∷◌, ◌++◌}
use Prim.Native.Nat.{ℕ, zero, suc, ◌+◌, ◌*◌, ◌≤◌}
use native.Mathlib.Omega.{arith}
use lib.ListN.{length, get_or, drop, length-append, length-drop, drop_of_length-le}
use lib.Seq.{drop_at, drop-drop}
use Rattle.logic.specs.Obligations.{flat}
use Rattle.limits.specs.Numbers.{has}
use Rattle.limits.proofs.Numbers.{has_true}
use Rattle.image_header.specs.declared.instruction.Half.{Half}
use Rattle.image_header.specs.declared.instruction.Instruction.{Instruction}
use Rattle.image_header.specs.Instruction.{twofold, instruction_size, half, no_half, second_half, instruction}
use Rattle.image_header.specs.Thread.{last_point, cut, begins, instructions, nothing, thread_size}
use Rattle.image_header.proofs.ThreadBranches.{begins_zero, begins_behind, instructions_length}
use Rattle.verdict_record.specs.Record.{two}
use Rattle.trim_spec.specs.Canonical.{Byte, Short, Bytes, Each, HalfFits, InstructionFits, ThreadFits}
use Rattle.trim_spec.specs.Encode.{half_bytes, instruction_bytes, thread_bytes}
use Rattle.trim_spec.proofs.EachMember.{each_nil, each_cons, each_tail, each_append, each_drop, each_flat}
use Rattle.trim_spec.proofs.U16Bytes.{word_two, two_bytes, byte_at, word_short, word_low, word_high, reads, reads_all}

-- from instructions

half_back : (h : Half) (r : List ℕ) → HalfFits h → half (half_bytes h ++ r) ≡ h
unfolding half half_bytes
half_back h r f = rw (word_two h.formula r f.formula)

half-bytes : (h : Half) → HalfFits h → Bytes (half_bytes h)
unfolding half_bytes
half-bytes h f =
    each_cons Byte 0 h.operation (h.a ∷ h.b ∷ two h.formula) f.operation
    (each_cons Byte 0 h.a (h.b ∷ two h.formula) f.a
    (each_cons Byte 0 h.b (two h.formula) f.b (two_bytes h.formula)))

module _ (i : Instruction) where
  instruction-size : length (instruction_bytes i) ≡ instruction_size i.operation
  unfolding instruction_bytes half_bytes instruction_size
  instruction-size = go (twofold i.operation) refl
    where
      go : (t : Bool) → twofold i.operation ≡ t → length (instruction_bytes i) ≡ instruction_size i.operation
      go true e = rw e
      go false e = rw e

  instruction-bytes : InstructionFits i → Bytes (instruction_bytes i)
  unfolding instruction_bytes
  instruction-bytes f =
      let s : List ℕ = cond (twofold i.operation) (half_bytes i.second) [] in
      each_cons Byte 0 i.operation (i.a ∷ i.b ∷ two i.formula ++ s) f.operation
      (each_cons Byte 0 i.a (i.b ∷ two i.formula ++ s) f.a
      (each_cons Byte 0 i.b (two i.formula ++ s) f.b
      (each_append Byte 0 (two i.formula) s (two_bytes i.formula) (behind (twofold i.operation)))))
    where
      behind : (t : Bool) → Bytes (cond t (half_bytes i.second) [])
      behind true = half-bytes i.second f.second
      behind false = each_nil Byte 0

  module _ (r : List ℕ) where
    instruction_first : get_or (instruction_bytes i ++ r) 0 0 ≡ i.operation
    unfolding instruction_bytes
    instruction_first = refl

    -- the next one begins behind it
    instruction_next : drop (instruction_size i.operation) (instruction_bytes i ++ r) ≡ r
    instruction_next = drop_at (instruction_bytes i) r (instruction_size i.operation) instruction-size

    instruction_back : InstructionFits i → instruction (instruction_bytes i ++ r) ≡ i
    unfolding instruction instruction_bytes second_half
    instruction_back f = go (twofold i.operation) refl
      where
        go : (t : Bool) → twofold i.operation ≡ t → instruction (instruction_bytes i ++ r) ≡ i
        go true e = rw (e, word_two i.formula (half_bytes i.second ++ r) f.formula, half_back i.second r f.second)
        go false e = rw (e, word_two i.formula r f.formula, f.single e)

cut_back : (l : List Instruction) → Each InstructionFits nothing l → cut (length l) (flat instruction_bytes l) ≡ l
unfolding cut
cut_back [] f = refl
cut_back (i ∷ l) f =
    let r : List ℕ = flat instruction_bytes l in
    let e = instruction_back i r (f 0 (omega arith)) in
    rw (instruction_first i r, e, instruction_next i r, cut_back l (each_tail InstructionFits nothing i l f))

begins_all : (l : List Instruction) → begins (flat instruction_bytes l) (length l) ≡ length (flat instruction_bytes l)
begins_all [] = begins_zero []
begins_all (i ∷ l) =
    let r : List ℕ = flat instruction_bytes l in
    let e = begins_behind (instruction_bytes i ++ r) (length l) in
    let d = length-append (instruction_bytes i) r in
    rw (e, instruction_first i r, instruction_next i r, begins_all l, d, instruction-size i)

size_most : (op : ℕ) → instruction_size op ≤ 10
unfolding instruction_size
size_most op = go (twofold op)
  where
    go : (t : Bool) → cond t 10 5 ≤ 10
    go true = omega arith
    go false = omega arith

instructions_most : (l : List Instruction) → length (flat instruction_bytes l) ≤ 10 * length l
instructions_most [] = omega arith
instructions_most (i ∷ l) =
    rw (length-append (instruction_bytes i) (flat instruction_bytes l), instruction-size i)
    (omega (arith, size_most i.operation, instructions_most l))

module _ (l : List Instruction) where
  pub thread_last : last_point (thread_bytes l) ≡ length l
  unfolding last_point thread_bytes
  thread_last = omega arith

  pub thread_instructions : ThreadFits l → instructions (thread_bytes l) ≡ l
  unfolding instructions thread_bytes
  thread_instructions f = rw (thread_last) (cut_back l f.each)

  pub thread-size : length (thread_bytes l) ≡ thread_size (thread_bytes l)
  unfolding thread_size thread_bytes
  thread-size = rw (thread_last, begins_all l) (omega arith)

  pub thread_has : has 1 (thread_bytes l) ≡ true
  unfolding has thread_bytes
  thread_has = refl

  pub thread-bytes : ThreadFits l → Bytes (thread_bytes l)
  unfolding thread_bytes
  thread-bytes f =
      each_cons Byte 0 (length l + 1) (flat instruction_bytes l) f.points
      (each_flat Byte 0 InstructionFits nothing instruction_bytes instruction-bytes l f.each)

  pub thread_short : ThreadFits l → Short (length (thread_bytes l) + 2)
  unfolding thread_bytes
  thread_short f = omega (arith, f.points, instructions_most l)

-- from bytes

module _ (b : List ℕ) (h : Bytes b) where
  half-fits : HalfFits (half b)
  unfolding half
  half-fits = record { operation = byte_at b h 0; a = byte_at b h 1; b = byte_at b h 2; formula = word_short b h 3 }

  half_again : half_bytes (half b) ≡ reads b 0 5
  unfolding half half_bytes
  half_again = rw (word_low b h 3, word_high b h 3)

module _ (b : List ℕ) (h : Bytes b) where
  abbrev op : ℕ
  op = get_or b 0 0

  second_fits : HalfFits (second_half op b)
  unfolding second_half
  second_fits = go (twofold op)
    where
      go : (t : Bool) → HalfFits (cond t (half (drop 5 b)) no_half)
      go true = half-fits (drop 5 b) (each_drop Byte 0 5 b h)
      go false = record { operation = omega arith; a = omega arith; b = omega arith; formula = omega arith }

  instruction_fits : InstructionFits (instruction b)
  unfolding instruction second_half
  instruction_fits = record {
    operation = byte_at b h 0;
    a = byte_at b h 1;
    b = byte_at b h 2;
    formula = word_short b h 3;
    second = second_fits;
    single = λ e. rw e;
  }

  instruction_again : instruction_size op ≤ length b → instruction_bytes (instruction b) ++ drop (instruction_size op) b ≡ b
  unfolding instruction instruction_bytes second_half instruction_size
  instruction_again = go (twofold op) refl
    where
      go : (t : Bool) → twofold op ≡ t → cond t 10 5 ≤ length b → instruction_bytes (instruction b) ++ drop (instruction_size op) b ≡ b
      go true e s =
          let r = reads_all (drop 5 b) 0 5 (rw (length-drop 5 b) (omega arith)) in
          let d = half_again (drop 5 b) (each_drop Byte 0 5 b h) in
          rw (e, word_low b h 3, word_high b h 3, d, ← drop-drop 5 5 b, r) (reads_all b 0 5 (omega arith))
      go false e s = rw (e, word_low b h 3, word_high b h 3) (reads_all b 0 5 s)

cut_fits : (n : ℕ) (b : List ℕ) → Bytes b → Each InstructionFits nothing (cut n b)
unfolding cut
cut_fits zero b h = each_nil InstructionFits nothing
cut_fits (suc n) b h =
    let r : List ℕ = drop (instruction_size (get_or b 0 0)) b in
    each_cons InstructionFits nothing (instruction b) (cut n r) (instruction_fits b h)
    (cut_fits n r (each_drop Byte 0 (instruction_size (get_or b 0 0)) b h))

cut_again : (n : ℕ) (b : List ℕ) → Bytes b → length b ≡ begins b n → flat instruction_bytes (cut n b) ≡ b
unfolding cut
cut_again zero b h e = sym (drop_of_length-le b {i = 0} (omega (arith, begins_zero b)))
cut_again (suc n) b h e =
    let k : ℕ = instruction_size (get_or b 0 0) in
    let q = begins_behind b n in
    let r = cut_again n (drop k b) (each_drop Byte 0 k b h) (rw (length-drop k b) (omega arith)) in
    rw r (instruction_again b h (omega arith))

module _ (b : List ℕ) (h : Bytes b) where
  pub thread-fits : ThreadFits (instructions b)
  unfolding instructions last_point
  thread-fits = record {
    points = omega (arith, instructions_length b, byte_at b h 0);
    each = cut_fits (last_point b) (drop 1 b) (each_drop Byte 0 1 b h);
  }

  pub thread_again : 1 ≤ get_or b 0 0 → has 1 b ≡ true → length b ≡ thread_size b → thread_bytes (instructions b) ≡ b
  unfolding thread_bytes thread_size instructions last_point
  thread_again p e d =
      let s : 1 ≤ length b = has_true 1 b e in
      let q : length (instructions b) + 1 ≡ get_or b 0 0 = omega (arith, instructions_length b) in
      rw (q, cut_again (last_point b) (drop 1 b) (each_drop Byte 0 1 b h) (rw (length-drop 1 b) (omega arith))) (reads_all b 0 1 s)
