-- The parts of a document, as its source writes them.
use mathlib.Core.Path.{◌≡◌, refl, ap, sym, ◌∙◌, subst}
use mathlib.Core.Bool.{true}
use mathlib.Core.List.{List, [], ◌∷◌, ◌++◌, map}
use Prim.Native.Nat.{ℕ, suc, ◌+◌, ◌<◌}
use native.Mathlib.Omega.{arith}
use lib.ListN.{length, get_or, drop, length-drop}
use Rattle.logic.specs.Obligations.{flat}
use Rattle.image_header.specs.Instruction.{ranged}
use Rattle.image_header.specs.declared.sizes.Sizes.{Sizes}
use Rattle.image_header.specs.declared.instruction.Instruction.{Instruction as Coded}
use Rattle.image_header.specs.Thread.{nothing}
use Rattle.verdict_record.specs.Record as Record
use Rattle.trim_spec.specs.Document.{LineRecord, ClaimRecord}
use Rattle.trim_spec.specs.Canonical.{Short, Shorts, Each, InstructionFits, LineFits, ClaimFits}
use Rattle.trim_spec.specs.Framed.{Framable}
use Rattle.trim_spec.specs.Encode.{entry, entries, instruction_bytes, thread_bytes, number_bytes, line_bytes, claim_bytes}
use Rattle.trim_spec.specs.Encode as Encode
use Rattle.source.specs.Source.{Point}
use Rattle.source.specs.Written.{two, framed, each, instruction, thread, assertions, line, claim}
use Rattle.source_agrees.specs.SourceOf.{points_of, threads_of, line_of, claim_of}
use Rattle.source_agrees.proofs.InstructionWritten.{two_same, typed_bytes}

-- numbers of two bytes
pub twos_same : (l : List ℕ) → Shorts l → flat two l ≡ number_bytes l
unfolding number_bytes
twos_same [] h = refl
twos_same (x ∷ l) h =
    ap (λ (b : List ℕ). b ++ flat two l) (two_same x (h 0 (omega arith)))
    ∙ ap (λ (b : List ℕ). Record.two x ++ b) (twos_same l (λ i b. h (suc i) (omega arith)))

pub line_same : (v : LineRecord) → LineFits v → line (line_of v) ≡ line_bytes v
unfolding line line_bytes
line_same v h = rw (two_same v.left h.left, two_same v.right h.right, twos_same v.premises h.premises) refl

pub claim_same : (c : ClaimRecord) → ClaimFits c → claim (claim_of c) ≡ claim_bytes c
unfolding claim claim_bytes
claim_same c h = rw (two_same c.line h.line) refl

-- one record, and records of one kind
pub framed_same : (k : ℕ) (b : List ℕ) → Short k → Framable b → framed k b ≡ Encode.framed (entry k b)
unfolding framed Encode.framed
framed_same k b h f = rw (two_same (2 + length b) (omega arith), two_same k h) refl

pub each_same : {A : Type 0} (k : ℕ) (f : A → List ℕ) (xs : List A) → Short k → Each Framable [] (map f xs)
    → each k f xs ≡ flat Encode.framed (map (entry k) (map f xs))
unfolding each
each_same k f [] h b = refl
each_same k f (x ∷ xs) h b =
    ap (λ (u : List ℕ). u ++ flat (λ y. framed k (f y)) xs) (framed_same k (f x) h (b 0 (omega arith)))
    ∙ ap (λ (u : List ℕ). Encode.framed (entry k (f x)) ++ u) (each_same k f xs h (λ i a. b (suc i) (omega arith)))

pub entries_same : {A : Type 0} (k : ℕ) (g : A → List ℕ) (xs : List A) → entries k g xs ≡ map (entry k) (map g xs)
entries_same k g [] = refl
entries_same k g (x ∷ xs) = ap (◌∷◌ (entry k (g x))) (entries_same k g xs)

-- of what is written alike
pub alike : {A B : Type 0} (k : ℕ) (f : A → List ℕ) (g : B → List ℕ) (xs : List A) (ys : List B) → map f xs ≡ map g ys → Short k
    → Each Framable [] (map g ys) → each k f xs ≡ flat Encode.framed (entries k g ys)
alike k f g xs ys e h b =
    each_same k f xs h (subst (Each Framable []) (sym e) b)
    ∙ ap (λ (m : List (List ℕ)). flat Encode.framed (map (entry k) m)) e ∙ ap (flat Encode.framed) (sym (entries_same k g ys))

-- what each is written as
pub mapped : {A B : Type 0} (F : B → Type 0) (d : B) (f : A → List ℕ) (g : B → List ℕ) (o : B → A) → ((x : B) → F x → f (o x) ≡ g x)
    → (xs : List B) → Each F d xs → map f (map o xs) ≡ map g xs
mapped F d f g o e [] h = refl
mapped F d f g o e (x ∷ xs) h =
    ap (λ (u : List ℕ). u ∷ map f (map o xs)) (e x (h 0 (omega arith))) ∙ ap (◌∷◌ (g x)) (mapped F d f g o e xs (λ i b. h (suc i) (omega arith)))

-- THREADS
points_length : (is : List Coded) (os : List ℕ) → length (points_of is os) ≡ length is
unfolding points_of
points_length [] os = refl
points_length (i ∷ is) os = ap suc (points_length is (drop 1 os))

abbrev doing : Point → List ℕ
doing p = instruction p.instruction

module _ (z : Sizes) (last : ℕ) where
  abbrev Fine : Coded → Type 0
  Fine i = (ranged last z i ≡ true) × InstructionFits i

  points_bytes : (is : List Coded) (os : List ℕ) → Each Fine nothing is → flat doing (points_of is os) ≡ flat instruction_bytes is
  unfolding points_of
  points_bytes [] os h = refl
  points_bytes (i ∷ is) os h =
      let f = h 0 (omega arith) in
      ap (λ (u : List ℕ). u ++ flat doing (points_of is (drop 1 os))) (typed_bytes z last i f.0 f.1)
      ∙ ap (λ (u : List ℕ). instruction_bytes i ++ u) (points_bytes is (drop 1 os) (λ k b. h (suc k) (omega arith)))

  pub thread_same : (is : List Coded) (os : List ℕ) (a : ℕ) → Each Fine nothing is
      → thread (record { points = points_of is os; last = a }) ≡ thread_bytes is
  unfolding thread thread_bytes
  thread_same is os a h = rw (points_length is os, points_bytes is os h) refl

-- THE OUTLINE, cut by threads
cut_one : (is : List Coded) (os : List ℕ) → length is < length os
    → (map (λ (p : Point). p.assertion) (points_of is os) ++ get_or os (length is) 0 ∷ []) ++ drop (length is + 1) os ≡ os
unfolding points_of
cut_one [] [] h = absurd (omega arith)
cut_one [] (o ∷ os) h = refl
cut_one (i ∷ is) [] h = absurd (omega arith)
cut_one (i ∷ is) (o ∷ os) h =
    let q : suc (length is) + 1 ≡ suc (length is + 1) = omega arith in
    rw q (ap (◌∷◌ o) (cut_one is os (omega arith)))

unfoldable pub total : List (List Coded) → ℕ
total [] = 0
total (is ∷ r) = length is + 1 + total r

pub outline_same : (r : List (List Coded)) (os : List ℕ) → length os ≡ total r → flat assertions (threads_of r os) ≡ os
unfolding threads_of assertions total
outline_same [] [] h = refl
outline_same [] (o ∷ os) h = absurd (omega arith)
outline_same (is ∷ r) os h =
    let n : length (drop (length is + 1) os) ≡ total r = length-drop (length is + 1) os ∙ omega arith in
    ap (λ (u : List ℕ). assertions (record { points = points_of is os; last = get_or os (length is) 0 }) ++ u)
    (outline_same r (drop (length is + 1) os) n)
    ∙ cut_one is os (omega arith)

pub threads_same : (z : Sizes) (r : List (List Coded)) (os : List ℕ) → Each (λ is. Each (Fine z (length is)) nothing is) [] r
    → map thread (threads_of r os) ≡ map thread_bytes r
unfolding threads_of
threads_same z [] os h = refl
threads_same z (is ∷ r) os h =
    ap (λ (u : List ℕ). u ∷ map thread (threads_of r (drop (length is + 1) os))) (thread_same z (length is) is os _ (h 0 (omega arith)))
    ∙ ap (◌∷◌ (thread_bytes is)) (threads_same z r (drop (length is + 1) os) (λ i b. h (suc i) (omega arith)))
