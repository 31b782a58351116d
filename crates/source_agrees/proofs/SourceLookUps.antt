-- Threads, points and assertions of the source of a document, looked up.
use mathlib.Core.Path.{◌≡◌, refl, ap, sym, ◌∙◌}
use mathlib.Core.Bool.{Bool, true, false, cond}
use mathlib.Core.List.{List, [], ◌∷◌, ◌++◌, map}
use Prim.Native.Nat.{ℕ, zero, suc, ◌+◌, ◌≤◌, ◌<◌}
use native.Mathlib.Omega.{arith}
use lib.ListN.{length, get_or, drop}
use lib.Seq.{drop-drop}
use lib.Dec.{eqb, leb}
use borrow.Author.Tests.{le-leb, lt-leb, leb-true, leb-false}
use Rattle.limits.specs.Numbers.{nth, within}
use Rattle.image_header.specs.declared.instruction.Instruction.{Instruction as Coded}
use Rattle.image_header.specs.Thread.{nothing}
use Rattle.source.specs.Source.{Register, Point, Thread}
use Rattle.source.specs.Written.{assertions}
use Rattle.source.specs.Meaning.{no_thread, no_point}
use Rattle.source_agrees.specs.SourceOf.{typed_of, points_of, threads_of, registers_of}

-- how many points stand before the thread with the number t, from 0
unfoldable pub before : List (List Coded) → ℕ → ℕ
before r zero = 0
before [] (suc t) = 0
before (is ∷ r) (suc t) = length is + 1 + before r t

unfoldable pub thread_from : List Coded → List ℕ → Thread
thread_from is os = record { points = points_of is os; last = get_or os (length is) 0 }

thread-at : (r : List (List Coded)) (os : List ℕ) (t : ℕ) → t < length r
    → get_or (threads_of r os) t no_thread ≡ thread_from (get_or r t []) (drop (before r t) os)
unfolding threads_of before thread_from
thread-at [] os t h = absurd (omega arith)
thread-at (is ∷ r) os zero h = refl
thread-at (is ∷ r) os (suc t) h =
    thread-at r (drop (length is + 1) os) t (omega arith)
    ∙ ap (thread_from (get_or r t [])) (drop-drop (before r t) (length is + 1) os)

pub thread_found : (r : List (List Coded)) (os : List ℕ) (t : ℕ) → t < length r
    → nth (threads_of r os) (suc t) no_thread ≡ thread_from (get_or r t []) (drop (before r t) os)
unfolding nth
thread_found r os t h = thread-at r os t h

pub point_found : (is : List Coded) (os : List ℕ) (k : ℕ) → k < length is
    → (get_or (points_of is os) k no_point).instruction ≡ typed_of (get_or is k nothing)
unfolding points_of
point_found [] os k h = absurd (omega arith)
point_found (i ∷ is) os zero h = refl
point_found (i ∷ is) os (suc k) h = point_found is (drop 1 os) k (omega arith)

said_at : (is : List Coded) (os : List ℕ) (k : ℕ) → length is < length os → k ≤ length is
    → get_or (map (λ (p : Point). p.assertion) (points_of is os) ++ get_or os (length is) 0 ∷ []) k 0 ≡ get_or os k 0
unfolding points_of
said_at is [] k g h = absurd (omega arith)
said_at [] (o ∷ os) zero g h = refl
said_at [] (o ∷ os) (suc k) g h = absurd (omega arith)
said_at (i ∷ is) (o ∷ os) zero g h = refl
said_at (i ∷ is) (o ∷ os) (suc k) g h = said_at is os k (omega arith) (omega arith)

pub assertion_found : (is : List Coded) (os : List ℕ) (k : ℕ) → length is < length os → k ≤ length is
    → get_or (assertions (thread_from is os)) k 0 ≡ get_or os k 0
unfolding assertions thread_from
assertion_found is os k g h = said_at is os k g h

pub points_count : (is : List Coded) (os : List ℕ) → length (points_of is os) ≡ length is
unfolding points_of
points_count [] os = refl
points_count (i ∷ is) os = ap suc (points_count is (drop 1 os))

-- a register's mark
abbrev pub is_cleared : Register → Bool
is_cleared r = r.cleared

leb_suc : (a b : ℕ) → leb a b ≡ leb (suc a) (suc b)
leb_suc a b = go (leb a b) refl
  where
    go : (x : Bool) → leb a b ≡ x → leb a b ≡ leb (suc a) (suc b)
    go true e = let h = leb-true a b e in e ∙ sym (le-leb (suc a) (suc b) (omega (arith, h)))
    go false e = let h = leb-false a b e in e ∙ sym (lt-leb (suc a) (suc b) (omega (arith, h)))

cleared_at : (os ms : List ℕ) (k : ℕ) → length os ≡ length ms
    → get_or (map is_cleared (registers_of os ms)) k true ≡ cond (leb (suc k) (length ms)) (eqb (get_or ms k 0) 1) true
unfolding registers_of
cleared_at [] [] k h = rw (lt-leb (suc k) 0 (omega arith)) refl
cleared_at [] (m ∷ ms) k h = absurd (omega arith)
cleared_at (o ∷ os) [] k h = absurd (omega arith)
cleared_at (o ∷ os) (m ∷ ms) zero h = rw (le-leb 1 (suc (length ms)) (omega arith)) refl
cleared_at (o ∷ os) (m ∷ ms) (suc k) h =
    cleared_at os ms k (omega arith) ∙ ap (λ (b : Bool). cond b (eqb (get_or ms k 0) 1) true) (leb_suc (suc k) (length ms))

pub cleared_found : (os ms : List ℕ) (r : ℕ) → length os ≡ length ms
    → nth (map is_cleared (registers_of os ms)) r true ≡ cond (within 1 (length ms) r) (eqb (nth ms r 0) 1) true
unfolding nth within
cleared_found os ms zero h = refl
cleared_found os ms (suc k) h = rw (le-leb 1 (suc k) (omega arith)) (cleared_at os ms k h)
