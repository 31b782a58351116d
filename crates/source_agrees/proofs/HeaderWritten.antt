-- The header, as the source writes it.
use mathlib.Core.Path.{◌≡◌, refl, ap, sym, ◌∙◌}
use mathlib.Core.Bool.{true, cond, true≢false}
use mathlib.Core.List.{List, [], ◌∷◌, ◌++◌, map, append_assoc}
use Prim.Native.Nat.{ℕ, zero, suc, ◌+◌, ◌≤◌}
use native.Mathlib.Omega.{arith}
use lib.ListN.{length, take, drop, length-take, length-drop, take-append-drop}
use lib.Seq.{take_all, drop-drop}
use lib.Dec.{eqb}
use Rattle.limits.specs.Numbers.{has, within, every}
use Rattle.limits.proofs.PassedTests.{and_true, within_true}
use Rattle.image_header.specs.Header.{thread_count, value_range, start_values, owners, marks, header_size}
use Rattle.source.specs.Source.{Register}
use Rattle.source.specs.Written.{mark}
use Rattle.source_agrees.specs.SourceOf.{registers_of}

abbrev pub owner : Register → ℕ
owner r = r.owner

pub owners_same : (os ms : List ℕ) → map owner (registers_of os ms) ≡ os
unfolding registers_of
owners_same [] ms = refl
owners_same (o ∷ os) ms = ap (◌∷◌ o) (owners_same os (drop 1 ms))

one_mark : (m : ℕ) → m ≤ 1 → ◌≡◌ {A = ℕ} (cond (eqb m 1) 1 0) m
one_mark zero h = refl
one_mark (suc zero) h = refl
one_mark (suc (suc m)) h = absurd (omega arith)

pub marks_same : (os ms : List ℕ) → length os ≡ length ms → every (within 0 1) ms ≡ true → map mark (registers_of os ms) ≡ ms
unfolding registers_of mark every
marks_same [] [] h e = refl
marks_same [] (m ∷ ms) h e = absurd (omega arith)
marks_same (o ∷ os) [] h e = absurd (omega arith)
marks_same (o ∷ os) (m ∷ ms) h e =
    let d = and_true (within 0 1 m) (every (within 0 1) ms) e in
    ap (λ (x : ℕ). x ∷ map mark (registers_of os ms)) (one_mark m (within_true 0 1 m d.0).1)
    ∙ ap (◌∷◌ m) (marks_same os ms (omega arith) d.1)

pub registers_length : (os ms : List ℕ) → length (registers_of os ms) ≡ length os
unfolding registers_of
registers_length [] ms = refl
registers_length (o ∷ os) ms = ap suc (registers_length os (drop 1 ms))

-- three parts of a list that has no more
pub three : (w r : ℕ) (l : List ℕ) → length l ≡ w + r + r → (take w l ++ take r (drop w l)) ++ take r (drop (w + r) l) ≡ l
three w r l h =
    let e : take r (drop (w + r) l) ≡ drop r (drop w l) =
    take_all r (drop (w + r) l) (omega (arith, length-drop (w + r) l)) ∙ sym (drop-drop r w l) in
    append_assoc (take w l) (take r (drop w l)) (take r (drop (w + r) l))
    ∙ ap (λ (u : List ℕ). take w l ++ (take r (drop w l) ++ u)) e
    ∙ ap (λ (u : List ℕ). take w l ++ u) (take-append-drop r (drop w l))
    ∙ take-append-drop w l

abbrev regs : List ℕ → List Register
regs b = registers_of (owners b) (marks b)

abbrev written : List ℕ → List ℕ
written b =
    thread_count b ∷ length (start_values b) ∷ length (regs b) ∷ value_range b
    ∷ start_values b ++ map owner (regs b) ++ map mark (regs b)

module _ (t w r v : ℕ) (l : List ℕ) (h : length (t ∷ w ∷ r ∷ v ∷ l) ≡ header_size (t ∷ w ∷ r ∷ v ∷ l)) where
  abbrev b : List ℕ
  b = t ∷ w ∷ r ∷ v ∷ l

  behind : length l ≡ w + r + r
  unfolding header_size
  behind = omega (arith, h)

  owners_at : owners b ≡ take r (drop w l)
  unfolding owners
  owners_at = ap (take r) (sym (drop-drop w 4 b))

  marks_at : marks b ≡ take r (drop (w + r) l)
  unfolding marks
  marks_at =
      let q : 4 + w + r ≡ 4 + (w + r) = omega arith in
      ap (λ (k : ℕ). take r (drop k b)) q ∙ ap (take r) (sym (drop-drop (w + r) 4 b))

  starts_at : start_values b ≡ take w l
  unfolding start_values
  starts_at = refl

  starts_length : length (take w l) ≡ w
  starts_length = omega (arith, behind, length-take w l)

  owners_length : length (owners b) ≡ r
  owners_length = ap length owners_at ∙ omega (arith, behind, length-take r (drop w l), length-drop w l)

  marks_length : length (marks b) ≡ r
  marks_length = ap length marks_at ∙ omega (arith, behind, length-take r (drop (w + r) l), length-drop (w + r) l)

  header_made : every (within 0 1) (marks b) ≡ true → written b ≡ b
  header_made e =
      rw (
        registers_length (owners b) (marks b),
        owners_same (owners b) (marks b),
        marks_same (owners b) (marks b) (owners_length ∙ sym marks_length) e,
        owners_length,
        starts_at,
        starts_length,
      )
      (rw (owners_at, marks_at) (ap (λ (u : List ℕ). t ∷ w ∷ r ∷ v ∷ u) (three w r l behind)))

pub header_same : (b : List ℕ) → has 4 b ≡ true → length b ≡ header_size b → every (within 0 1) (marks b) ≡ true → written b ≡ b
unfolding has
header_same [] g h e = absurd (true≢false (sym g))
header_same (t ∷ []) g h e = absurd (true≢false (sym g))
header_same (t ∷ w ∷ []) g h e = absurd (true≢false (sym g))
header_same (t ∷ w ∷ r ∷ []) g h e = absurd (true≢false (sym g))
header_same (t ∷ w ∷ r ∷ v ∷ l) g h e = header_made t w r v l h e

pub marks_even : (b : List ℕ) → has 4 b ≡ true → length b ≡ header_size b → length (owners b) ≡ length (marks b)
unfolding has
marks_even [] g h = absurd (true≢false (sym g))
marks_even (t ∷ []) g h = absurd (true≢false (sym g))
marks_even (t ∷ w ∷ []) g h = absurd (true≢false (sym g))
marks_even (t ∷ w ∷ r ∷ []) g h = absurd (true≢false (sym g))
marks_even (t ∷ w ∷ r ∷ v ∷ l) g h = owners_length t w r v l h ∙ sym (marks_length t w r v l h)
