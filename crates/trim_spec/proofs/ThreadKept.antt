-- A thread of the trimmed image: the same instructions but for the numbers of their formulas, and it passes its check.
use mathlib.Core.Path.{◌≡◌, refl, ap, ◌∙◌}
use mathlib.Core.Bool.{Bool, true}
use mathlib.Core.List.{List, [], map}
use Prim.Native.Nat.{ℕ, zero, suc, ◌≤◌, ◌<◌}
use native.Mathlib.Omega.{arith}
use lib.ListN.{length, get_or, length-map}
use borrow.Author.Tests.{eq-eqb}
use Rattle.limits.specs.Limits as Limits
use Rattle.limits.specs.Numbers.{nth, within, every}
use Rattle.limits.proofs.PassedTests.{and_true, every_at}
use Rattle.image_header.specs.declared.sizes.Sizes.{Sizes}
use Rattle.image_header.specs.declared.instruction.Instruction.{Instruction}
use Rattle.image_header.specs.Instruction.{ranged}
use Rattle.image_header.specs.Thread.{last_point, instructions, nothing, numbered, thread_numbers}
use Rattle.image_bodies.specs.RecordPlaces.{thread_body}
use Rattle.image.specs.Decode.{sizes_of}
use Rattle.image_bodies.specs.ThreadBody.{sorted, owned, result_absent, thread_registers, thread}
use Rattle.image_meaning.proofs.PassedChecks.{unless_passed, also_passed}
use Rattle.image_meaning.proofs.RecordsChecked.{thread_passed}
use Rattle.trim_spec.specs.Document.{Document}
use Rattle.trim_spec.specs.Canonical.{Each, ThreadFits}
use Rattle.trim_spec.specs.Encode.{thread_bytes, bodies_of}
use Rattle.trim_spec.specs.Parse.{sizes}
use Rattle.trim_spec.proofs.ThreadBytes.{thread_last, thread_instructions, thread-size, thread_has}
use Rattle.trim_spec.proofs.BodyPlaces.{thread-at}
use Rattle.trim_spec.specs.Live.{renumbered}
use Rattle.trim_spec.specs.Trim.{instruction_by, trimmed_by}
use Rattle.trim_spec.proofs.Closed.{Stays}
use Rattle.trim_spec.proofs.Renumbered.{map_nth, threads_length}
use Rattle.trim_spec.proofs.CanonicalKept.{thread-fits}
use Rattle.trim_spec.proofs.ChecksPassed.{and_in, unless_in, also_in, every_made}
use Rattle.trim_spec.proofs.TrimPremises.{Trimming, threads_kept}
use Rattle.trim_spec.proofs.InstructionKept.{Stated, ranged_kept, sorted_kept, owned_kept, absent_kept}
use Rattle.image_frames.specs.Fault.{passed}

-- what holds of each member, by its number
pub each_nth : {A : Type 0} (F : A → Type 0) (d : A) (l : List A) (n : ℕ) → 1 ≤ n → n ≤ length l → Each F d l → F (nth l n d)
unfolding nth
each_nth F d l zero a b h = absurd (omega arith)
each_nth F d l (suc n) a b h = h n (omega arith)

-- what the check of a thread's bytes has found
record Found (z : Sizes) (l : List (List ℕ)) (t : ℕ) (b : List ℕ) : Type 0 where
  points : within 1 Limits.points (get_or b 0 0) ≡ true
  ranges : every (ranged (last_point b) z) (instructions b) ≡ true
  sorts : every (sorted l) (instructions b) ≡ true
  owns : every (owned l t) (instructions b) ≡ true
  absent : every (result_absent l) (instructions b) ≡ true

thread_found : (z : Sizes) (l : List (List ℕ)) (t : ℕ) (b : List ℕ) → thread z l t b ≡ passed → Found z l t b
unfolding thread thread_numbers numbered thread_registers
thread_found z l t b e =
    let h = also_passed _ _ e in
    let n = and_true (within 1 Limits.points (get_or b 0 0)) (every (ranged (last_point b) z) (instructions b))
    (unless_passed _ _ _ (unless_passed _ _ _ (unless_passed _ _ _ h.0).1).1).0 in
    let s = unless_passed _ _ _ h.1 in
    let o = unless_passed _ _ _ s.1 in
    record { points = n.0; ranges = n.1; sorts = s.0; owns = o.0; absent = (unless_passed _ _ _ o.1).0 }

module _ {u k : List Bool} {D : Document} (T : Trimming u k D) where
  abbrev E : Document
  E = trimmed_by u k D

  abbrev by : Instruction → Instruction
  by = instruction_by (renumbered u) (renumbered k)

  module _ (t : ℕ) (low : 1 ≤ t) (high : t ≤ length D.threads) where
    abbrev is : List Instruction
    is = nth D.threads t []

    pub old_body : thread_body (sizes D) (bodies_of D) t ≡ thread_bytes is
    old_body = thread-at D T.threads t low high

    pub new_body : thread_body (sizes E) (bodies_of E) t ≡ thread_bytes (map by is)
    new_body =
        thread-at E (threads_kept T) t low (omega (arith, threads_length u k D))
        ∙ ap thread_bytes (map_nth (λ (l : List Instruction). map by l) D.threads [] [] t refl)

    old_fits : ThreadFits is
    old_fits = each_nth ThreadFits [] D.threads t low high T.canonical.threads

    pub old_instructions : instructions (thread_bytes is) ≡ is
    old_instructions = thread_instructions is old_fits

    new_instructions : instructions (thread_bytes (map by is)) ≡ map by is
    new_instructions = thread_instructions (map by is) (thread-fits u k is old_fits)

    abbrev last : ℕ
    last = last_point (thread_bytes is)

    last_same : last_point (thread_bytes (map by is)) ≡ last
    last_same = rw (thread_last (map by is), thread_last is, length-map is by)

    found : Found (sizes D) (bodies_of D) t (thread_bytes is)
    unfolding sizes sizes_of
    found =
        let e = T.threads in
        let p = thread_passed (sizes D) (bodies_of D) T.checks t low (omega arith) in
        thread_found (sizes D) (bodies_of D) t (thread_bytes is) (rw old_body at p)

    -- a fact of each instruction of the document, for this thread's
    here : (F : Instruction → Type 0) → Each (λ l. Each F nothing l) [] D.threads → Each F nothing is
    here F h = each_nth (λ l. Each F nothing l) [] D.threads t low high h

    stated : (p : ℕ) → p < length is → Stated u last (sizes D) (get_or is p nothing)
    stated p b = record {
      first = here (λ i. Stays u i.formula) (λ n a p c. T.closed.instruction n p a c) p b;
      second = here (λ i. Stays u i.second.formula) (λ n a p c. T.closed.second n p a c) p b;
      single = (old_fits.each p b).single;
      ranges = every_at (ranged last (sizes D)) is p nothing (rw old_instructions at found.ranges) b;
    }

    -- a test of an instruction that stays passed
    every_kept : (p q : Instruction → Bool) → ((i : Instruction) → Stated u last (sizes D) i → p i ≡ true → q (by i) ≡ true)
        → every p (instructions (thread_bytes is)) ≡ true → every q (instructions (thread_bytes (map by is))) ≡ true
    every_kept p q h e =
        rw new_instructions (every_made p q by nothing is (λ n b. h (get_or is n nothing) (stated n b)) (rw old_instructions at e))

    points_kept : within 1 Limits.points (get_or (thread_bytes (map by is)) 0 0) ≡ true
    unfolding thread_bytes
    points_kept = rw (length-map is by) found.points

    ranges_kept : every (ranged (last_point (thread_bytes (map by is))) (sizes E)) (instructions (thread_bytes (map by is))) ≡ true
    ranges_kept =
        rw last_same (every_kept (ranged last (sizes D)) (ranged last (sizes E)) (λ i s e. ranged_kept T last i s) found.ranges)

    sorts_kept : every (sorted (bodies_of E)) (instructions (thread_bytes (map by is))) ≡ true
    sorts_kept = every_kept (sorted (bodies_of D)) (sorted (bodies_of E)) (λ i s e. sorted_kept T last i s ∙ e) found.sorts

    owns_kept : every (owned (bodies_of E) t) (instructions (thread_bytes (map by is))) ≡ true
    owns_kept = every_kept (owned (bodies_of D) t) (owned (bodies_of E) t) (λ i s e. owned_kept T last i s t ∙ e) found.owns

    absent_all : every (result_absent (bodies_of E)) (instructions (thread_bytes (map by is))) ≡ true
    absent_all = every_kept (result_absent (bodies_of D)) (result_absent (bodies_of E)) (λ i s e. absent_kept T last i s ∙ e) found.absent

    pub thread_kept : thread (sizes E) (bodies_of E) t (thread_body (sizes E) (bodies_of E) t) ≡ passed
    unfolding thread thread_numbers numbered thread_registers
    thread_kept =
        rw new_body
        (also_in _ _
        (unless_in _ _ _ (thread_has (map by is))
        (unless_in _ _ _ (eq-eqb _ _ (thread-size (map by is))) (unless_in _ _ _ (and_in _ _ points_kept ranges_kept) refl)))
        (unless_in _ _ _ sorts_kept (unless_in _ _ _ owns_kept (unless_in _ _ _ absent_all refl))))

    -- its last point
    pub last_kept : last_point (thread_body (sizes E) (bodies_of E) t) ≡ last_point (thread_body (sizes D) (bodies_of D) t)
    last_kept = rw (new_body, old_body) last_same

    -- its instructions
    pub instructions_kept : instructions (thread_body (sizes E) (bodies_of E) t) ≡ map by (instructions (thread_body (sizes D) (bodies_of D) t))
    instructions_kept = rw (new_body, old_body, new_instructions, old_instructions)
