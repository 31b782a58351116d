-- Which lines stay: the ways through the code.
use mathlib.Core.Path.{◌≡◌, refl, ap, sym, ◌∙◌}
use mathlib.Core.Bool.{Bool, true, false, cond}
use mathlib.Core.List.{List, []}
use Prim.Native.Nat.{ℕ, zero, suc, ◌+◌, ◌-◌, ◌≤◌, ◌<◌}
use native.Mathlib.Omega.{arith}
use native.Mathlib.Numerals.{add-one, sub-one}
use lib.ListN.{length, get_or, set, drop, replicate, length-map, get_or-map}
use Rattle.limits.specs.Limits as Limits
use Rattle.limits.specs.Numbers.{nth, numbers}
use Rattle.image_header.specs.declared.sizes.Sizes.{Sizes}
use Rattle.image_bodies.specs.Line.{premises}
use Rattle.image_bodies.specs.PointCounts.{obligation_count}
use Rattle.image.specs.Decode.{record_count}
use Rattle.image_meaning.specs.Certificate.{line_body}
use Rattle.image_meaning.specs.Image.{claim_body}
use Rattle.image_access.specs.AccessPlaces.{claimed_in}
use Rattle.image_access.specs.declared.claim.Claimed.{Claimed}
use Rattle.trim_spec.specs.Document.{LineRecord}
use Rattle.trim_spec.specs.Canonical.{no_claim}
use Rattle.trim_spec.specs.Parse.{line_record, claim_record, document_of}
use Rattle.trim_spec.specs.Live.{marked_by, kept_to, kept}
use Rattle.trim_encode.specs.NamedNumbers.{claim_lines, with_premises}
use Rattle.trim_encode.proofs.MarkBranches.{noted_append, note_more, note_all}
use Rattle.trim_encode.proofs.DocumentBodies.{line_at, claim-at, lines_length, claims_length}

pub obligations_are : (z : Sizes) (l : List (List ℕ)) (b : List ℕ) (n : ℕ) (m after : List Bool)
    → b ≡ get_or l (z.formulas + z.threads + 1 + z.lines + 1) [] → n ≡ obligation_count z l
    → after ≡ marked_by m (numbers n b) → after ≡ marked_by m (document_of z l).obligations
unfolding document_of
obligations_are z l b n m after eb en e = rw (← eb, ← en) e

pub premises_are : (b c : List ℕ) (n : ℕ) (m after : List Bool) → c ≡ drop 8 b → n ≡ get_or b 7 0 → after ≡ marked_by m (numbers n c)
    → after ≡ marked_by m (premises b)
unfolding premises
premises_are b c n m after ec en e = rw (← ec, ← en) e

-- the claims, one after the other
module _ (z : Sizes) (l : List (List ℕ)) where
  pub claims-start : (m : List Bool) → marked_by m (claim_lines z l) ≡ marked_by m (drop 0 (claim_lines z l))
  claims-start m = refl

  module _ (whole : length l ≡ record_count z) where
    claimed_length : length (claim_lines z l) ≡ z.claims
    unfolding claim_lines
    claimed_length = length-map (document_of z l).claims (λ c. c.line) ∙ claims_length z l whole

    claimed_at : (i : ℕ) (c : Claimed) → i < z.claims → c ≡ claimed_in (claim_body z l i) → c.line ≡ get_or (claim_lines z l) i 0
    unfolding claim_lines claimed_in claim_record
    claimed_at i c h d =
        ap (λ (x : Claimed). x.line) d
        ∙ sym (get_or-map (λ c. c.line) (document_of z l).claims i no_claim ∙ ap (λ c. c.line) (claim-at z l i h))

    pub claims_more : (i : ℕ) (c : Claimed) (m₀ m after : List Bool) → i < z.claims
        → marked_by m₀ (claim_lines z l) ≡ marked_by m (drop i (claim_lines z l)) → c ≡ claimed_in (claim_body z l i)
        → after ≡ set m c.line true → marked_by m₀ (claim_lines z l) ≡ marked_by after (drop (i + 1) (claim_lines z l))
    claims_more i c m₀ m after h e d u =
        note_more (claim_lines z l) z.claims i c.line m after (marked_by m₀ (claim_lines z l)) h claimed_length e (claimed_at i c h d) u

    pub claims_all : (i : ℕ) (m₀ m : List Bool) → z.claims ≤ i → marked_by m₀ (claim_lines z l) ≡ marked_by m (drop i (claim_lines z l))
        → m ≡ marked_by m₀ (claim_lines z l)
    claims_all i m₀ m h e = note_all (claim_lines z l) z.claims i m (marked_by m₀ (claim_lines z l)) h claimed_length e

-- one line
module _ (z : Sizes) (l : List (List ℕ)) (n : ℕ) (m : List Bool) (b : Bool) (e : b ≡ get_or m n false) where
  pub line_noted : (c : List ℕ) (after : List Bool) → b ≡ true → c ≡ get_or l (z.formulas + z.threads + 1 + n) []
      → after ≡ marked_by m (premises c) → after ≡ with_premises z l n m
  unfolding with_premises line_body
  line_noted c after h d u = rw (← e, h, ← d) u

  pub line_passed : b ≡ false → m ≡ with_premises z l n m
  unfolding with_premises
  line_passed h = rw (← e, h)

-- from the last line down
module _ (z : Sizes) (l : List (List ℕ)) where
  abbrev lines : List LineRecord
  lines = (document_of z l).lines

  down_step : (n : ℕ) (m : List Bool) → suc n ≤ z.lines → kept_to lines (suc n) m ≡ kept_to lines n (with_premises z l (suc n) m)
  unfolding kept_to with_premises nth line_record
  down_step n m h =
      let b : n < z.lines = omega arith in
      ap (λ (v : LineRecord). kept_to lines n (cond (get_or m (suc n) false) (marked_by m v.premises) m)) (line_at z l n b)

  pub down_more : (n : ℕ) (g m after : List Bool) → 0 < n → n ≤ z.lines → g ≡ kept_to lines n m → after ≡ with_premises z l (n - 1 + 1) m
      → g ≡ kept_to lines (n - 1) after
  down_more zero g m after h b e d = absurd (omega arith)
  down_more (suc n) g m after h b e d = rw (d, sub-one (suc n), add-one n) (e ∙ down_step n m b)

  pub down_all : (n : ℕ) (g m : List Bool) → n ≤ 0 → g ≡ kept_to lines n m → m ≡ g
  unfolding kept_to
  down_all zero g m h e = sym e
  down_all (suc n) g m h e = absurd (omega arith)

pub kept_is : (z : Sizes) (l : List (List ℕ)) (m₀ m₁ m₂ m₃ : List Bool) → length l ≡ record_count z
    → m₀ ≡ replicate (suc Limits.lines) false → m₁ ≡ marked_by m₀ (document_of z l).obligations
    → m₂ ≡ marked_by m₁ (claim_lines z l) → m₃ ≡ kept_to (document_of z l).lines z.lines m₂ → m₃ ≡ kept (document_of z l)
unfolding kept claim_lines
kept_is z l m₀ m₁ m₂ m₃ whole e₀ e₁ e₂ e₃ =
    let named = noted_append (replicate (suc Limits.lines) false) (document_of z l).obligations (claim_lines z l) in
    rw (lines_length z l whole, named, ← e₀, ← e₁, ← e₂) e₃

pub ruleset live_lines_branches = (
  obligations_are,
  premises_are,
  claims-start,
  claims_more,
  claims_all,
  line_noted,
  line_passed,
  down_all,
  kept_is,
)
