-- The bytes of records as pieces, one behind the other.
use mathlib.Core.Path.{◌≡◌, refl, ◌∙◌}
use mathlib.Core.Bool.{Bool, true, false}
use mathlib.Core.List.{List, [], ◌∷◌, ◌++◌, map}
use Prim.Native.Nat.{ℕ, max, ◌+◌, ◌≤◌, ◌<◌}
use native.Mathlib.Omega.{arith}
use lib.ListN.{length, get_or, drop, length-map}
use Rattle.limits.specs.Numbers.{le16, numbers}
use Rattle.limits.proofs.Numbers.{numbers_length}
use Rattle.image_header.specs.Instruction.{twofold}
use Rattle.image_header.specs.declared.instruction.Instruction.{Instruction}
use Rattle.image_header.specs.Thread.{last_point, instructions, nothing}
use Rattle.image_header.proofs.ThreadBranches.{instructions_length}
use Rattle.image_bodies.specs.Line.{premises}
use Rattle.verdict_record.specs.Record.{two}
use Rattle.trim_spec.specs.Encode.{half_bytes, instruction_bytes, thread_bytes, number_bytes, line_bytes, claim_bytes}
use Rattle.trim_spec.specs.Parse.{line_record, claim_record}
use Rattle.trim_spec.specs.Trim.{half_by, instruction_by, line_by, claim_by}
use Rattle.trim_encode.specs.Pieces.{joined, number_piece, instruction_piece}
use Rattle.trim_encode.specs.Renumbered.{renewed, renewed_instruction, renewed_line, renewed_claim}
use Rattle.trim_encode.specs.Writing.{Puts, Room}
use Rattle.trim_encode.specs.declared.writer.Writer.{Writer}
use Rattle.trim_encode.proofs.FlatPieces.{flat_map, joined_flat}
use Rattle.trim_encode.proofs.Writes.{none_put, then_put, join_room, join_more}

pub numbers_joined : (t b : List ℕ) (n : ℕ) → joined (number_piece t b n) n ≡ number_bytes (map (renewed t) (numbers n b))
unfolding number_piece number_bytes
numbers_joined t b n =
    let e : length (numbers n b) ≡ n = numbers_length n b in
    rw (flat_map (renewed t) two (numbers n b))
    (rw e at (joined_flat (λ x. two (renewed t x)) 0 (numbers n b) (number_piece t b n) (λ i. refl)))

pub line_is : (f g b : List ℕ) → line_bytes (renewed_line f g (line_record b))
    ≡ (get_or b 0 0 ∷ get_or b 1 0 ∷ get_or b 2 0 ∷ two (renewed f (le16 (drop 3 b))))
    ++ (two (renewed f (le16 (drop 5 b))) ++ ((get_or b 7 0 ∷ []) ++ number_bytes (map (renewed g) (numbers (get_or b 7 0) (drop 8 b)))))
unfolding line_bytes renewed_line line_by line_record premises
line_is f g b =
    let e : length (map (renewed g) (numbers (get_or b 7 0) (drop 8 b))) ≡ get_or b 7 0 =
    length-map (numbers (get_or b 7 0) (drop 8 b)) (renewed g) ∙ numbers_length (get_or b 7 0) (drop 8 b) in
    rw e

pub claim_is : (g b : List ℕ) → claim_bytes (renewed_claim g (claim_record b))
    ≡ (get_or b 0 0 ∷ []) ++ (get_or b 1 0 ∷ get_or b 2 0 ∷ get_or b 3 0 ∷ two (renewed g (le16 (drop 4 b))))
unfolding claim_bytes renewed_claim claim_by claim_record
claim_is g b = refl

pub thread_is : (f b : List ℕ) → thread_bytes (map (renewed_instruction f) (instructions b))
    ≡ ((last_point b + 1) ∷ []) ++ joined (instruction_piece f b) (last_point b)
unfolding thread_bytes instruction_piece
thread_is f b =
    let e : length (instructions b) ≡ last_point b = instructions_length b in
    let j = joined_flat (λ i. instruction_bytes (renewed_instruction f i)) nothing (instructions b) (instruction_piece f b) (λ i. refl) in
    rw (length-map (instructions b) (renewed_instruction f), flat_map (renewed_instruction f) instruction_bytes (instructions b), ← j, e)

-- a list of numbers, one after the other
module _ (t b : List ℕ) (n : ℕ) (w v u : Writer) where
  pub numbers_none : Puts w w (joined (number_piece t b n) 0)
  unfolding joined
  numbers_none = none_put w

  module _ (i : ℕ) (p : Puts w v (joined (number_piece t b n) i)) where
    pub numbers_room : Room w (length (number_bytes (map (renewed t) (numbers n b)))) → i < n → Room v 2
    unfolding number_piece
    numbers_room room h = join_room (number_piece t b n) w v i n p h (rw (numbers_joined t b n) room)

    pub numbers_more : (x y : ℕ) → x ≡ get_or (numbers n b) i 0 → y ≡ renewed t x → Puts v u (two y) → Puts w u (joined (number_piece t b n) (i + 1))
    unfolding number_piece
    numbers_more x y ex ey q = join_more (number_piece t b n) w v u i p (rw (← ex, ← ey) q)

    pub numbers_all : i ≤ n → n ≤ i → Puts w v (number_bytes (map (renewed t) (numbers n b)))
    numbers_all h g = let e : i ≡ n = omega arith in rw (← numbers_joined t b n) (rw e at p)

pub ruleset writing_numbers = (numbers_none, numbers_room, numbers_more, numbers_all)

-- a claim
pub claim_size : (g b : List ℕ) → length (claim_bytes (renewed_claim g (claim_record b))) ≡ 6
claim_size g b = rw (claim_is g b)

pub claim_put : (w v u : Writer) (g b : List ℕ) (t x y z m n : ℕ) → t ≡ get_or b 0 0 → x ≡ get_or b 1 0 → y ≡ get_or b 2 0 → z ≡ get_or b 3 0
    → m ≡ le16 (drop 4 b) → n ≡ renewed g m → Puts w v (t ∷ []) → Puts v u (x ∷ y ∷ z ∷ two n)
    → Puts w u (claim_bytes (renewed_claim g (claim_record b)))
claim_put w v u g b t x y z m n et ex ey ez em en p q = rw (claim_is g b, ← et, ← ex, ← ey, ← ez, ← em, ← en) (then_put p q)

-- a line
module _ (f g b : List ℕ) where
  pub line_size : length (line_bytes (renewed_line f g (line_record b)))
      ≡ 8 + length (number_bytes (map (renewed g) (numbers (get_or b 7 0) (drop 8 b))))
  line_size = rw (line_is f g b) (omega arith)

  module _ (w v u r : Writer) (x y z m n m₂ n₂ k j : ℕ) (l : List ℕ) (el : l ≡ drop 8 b) (ej : j ≡ get_or b 7 0)
      (p : Puts w v (x ∷ y ∷ z ∷ two n)) (q : Puts v u (two n₂)) (s : Puts u r (k ∷ [])) where
    pub premises_room : Room w (length (line_bytes (renewed_line f g (line_record b))))
        → Room r (length (number_bytes (map (renewed g) (numbers j l))))
    premises_room room =
        let h = rw line_size at room in
        let a = p.end in let b = q.end in let c = s.end in let d = p.long in let e = q.long in let i = s.long in
        rw (el, ej) (omega arith)

    pub line_put : (after : Writer) → Puts r after (number_bytes (map (renewed g) (numbers j l))) → x ≡ get_or b 0 0 → y ≡ get_or b 1 0
        → z ≡ get_or b 2 0 → m ≡ le16 (drop 3 b) → n ≡ renewed f m → m₂ ≡ le16 (drop 5 b) → n₂ ≡ renewed f m₂ → k ≡ get_or b 7 0
        → Puts w after (line_bytes (renewed_line f g (line_record b)))
    line_put after t ex ey ez em en em2 en2 ek =
        let e : Puts r after (number_bytes (map (renewed g) (numbers (get_or b 7 0) (drop 8 b)))) = rw (ej, el) at t in
        rw (line_is f g b, ← ex, ← ey, ← ez, ← em, ← en, ← em2, ← en2) (then_put p (then_put q (then_put (rw ek at s) e)))

-- an instruction
module _ (f : List ℕ) (i : Instruction) (w v : Writer) (x y z n : ℕ) where
  pub instruction_room : Room w (length (instruction_bytes (renewed_instruction f i))) → Room w 5
  unfolding instruction_bytes renewed_instruction instruction_by
  instruction_room h = omega arith

  module _ (p : Puts w v (i.operation ∷ i.a ∷ i.b ∷ two n)) (e : n ≡ renewed f i.formula) (b : Bool) (eb : b ≡ twofold i.operation) where
    pub half_room : b ≡ true → Room w (length (instruction_bytes (renewed_instruction f i))) → Room v 5
    unfolding instruction_bytes renewed_instruction instruction_by half_bytes
    half_room is room =
        let h = rw (← eb, is) at room in
        let a = p.end in let d = p.long in omega arith

    pub both_put : (u : Writer) (m : ℕ) → b ≡ true → m ≡ renewed f i.second.formula
        → Puts v u (i.second.operation ∷ i.second.a ∷ i.second.b ∷ two m) → Puts w u (instruction_bytes (renewed_instruction f i))
    unfolding instruction_bytes renewed_instruction instruction_by half_by half_bytes
    both_put u m is em q = rw (← eb, is, ← e, ← em) (then_put p q)

    pub one_put : b ≡ false → Puts w v (instruction_bytes (renewed_instruction f i))
    unfolding instruction_bytes renewed_instruction instruction_by
    one_put is = rw (← eb, is, ← e) p

pub ruleset writing_instruction = (instruction_room, half_room, both_put, one_put)

-- a thread
module _ (f b : List ℕ) where
  pub thread_size : length (thread_bytes (map (renewed_instruction f) (instructions b)))
      ≡ 1 + length (joined (instruction_piece f b) (last_point b))
  thread_size = rw (thread_is f b) (omega arith)

  module _ (w v u : Writer) (x n i : ℕ) where
    pub points_room : Room w (length (thread_bytes (map (renewed_instruction f) (instructions b)))) → Room w 1
    points_room room = let h = rw thread_size at room in omega arith

    pub steps_none : Puts w w (joined (instruction_piece f b) 0)
    unfolding joined
    steps_none = none_put w

    module _ (en : n ≡ last_point b) (q : Puts v u (joined (instruction_piece f b) i)) where
      pub step_room : (c : Instruction) → Room w (length (thread_bytes (map (renewed_instruction f) (instructions b)))) → Puts w v (x ∷ [])
          → i < n → c ≡ get_or (instructions b) i nothing → Room u (length (instruction_bytes (renewed_instruction f c)))
      unfolding instruction_piece
      step_room c room p h ec =
          let k = rw thread_size at room in
          let a = p.end in let d = p.long in
          let m : Room v (length (joined (instruction_piece f b) n)) = rw en (omega arith) in
          rw ec (join_room (instruction_piece f b) v u i n q h m)

      pub step_more : (c : Instruction) (r : Writer) → c ≡ get_or (instructions b) i nothing → Puts u r (instruction_bytes (renewed_instruction f c))
          → Puts v r (joined (instruction_piece f b) (i + 1))
      unfolding instruction_piece
      step_more c r ec s = join_more (instruction_piece f b) v u r i q (rw (← ec) s)

      pub thread_put : i ≤ n → n ≤ i → x ≡ last_point b + 1 → Puts w v (x ∷ [])
          → Puts w u (thread_bytes (map (renewed_instruction f) (instructions b)))
      thread_put h g ex p =
          let e : i ≡ last_point b = omega arith in
          rw (thread_is f b, ← ex) (then_put p (rw e at q))

pub ruleset writing_thread = (points_room, steps_none, step_room, step_more, thread_put)

pub points_are : (b : List ℕ) (n x : ℕ) → n ≡ get_or b 0 0 → x ≡ max n 1 → x ≡ last_point b + 1
unfolding last_point
points_are b n x e h = omega arith
