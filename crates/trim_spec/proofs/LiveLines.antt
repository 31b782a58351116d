-- The lines that stay are those on which an obligation or a claim rests.
use mathlib.Core.Path.{◌≡◌, refl, ap, sym, ◌∙◌, subst}
use mathlib.Core.Bool.{Bool, true, false, cond}
use mathlib.Core.List.{List, map}
use mathlib.Core.Logic.{◌⊎◌, inl, inr}
use Prim.Native.Nat.{ℕ, zero, suc, ◌≤◌, ◌<◌}
use native.Mathlib.Omega.{arith}
use lib.Dec.{eqb}
use borrow.Author.Tests.{eqb-true, eqb-false}
use lib.ListN.{length, get_or, replicate, length-map, get_or-map}
use Rattle.limits.specs.Limits as Limits
use Rattle.limits.specs.Numbers.{nth}
use Rattle.trim_spec.specs.Document.{Document, LineRecord, ClaimRecord}
use Rattle.trim_spec.specs.Canonical.{no_line, no_claim}
use Rattle.trim_spec.specs.Live.{marked_by, kept_to, kept, named_lines}
use Rattle.trim_spec.specs.Rests.{Rests, obligation, claim, premise}
use Rattle.trim_spec.proofs.MarkCounts.{clash, noted_length, noted_keeps, noted_sets, noted_from, Found}
use Rattle.trim_spec.proofs.ListMembers.{found_at, found_left, found_right, found_either}

module _ (l : List LineRecord) where
  abbrev premises : ℕ → List ℕ
  premises n = (nth l n no_line).premises

  -- the marks behind line n
  abbrev next : ℕ → List Bool → List Bool
  next n m = cond (get_or m n false) (marked_by m (premises n)) m

  next_length : (b : Bool) (n : ℕ) (m : List Bool) → length (cond b (marked_by m (premises n)) m) ≡ length m
  next_length true n m = noted_length m (premises n)
  next_length false n m = refl

  next_keeps : (b : Bool) (n : ℕ) (m : List Bool) (i : ℕ) → get_or m i false ≡ true → get_or (cond b (marked_by m (premises n)) m) i false ≡ true
  next_keeps true n m i e = noted_keeps m (premises n) i e
  next_keeps false n m i e = e

  next_from : (b : Bool) (n : ℕ) (m : List Bool) (i : ℕ) → get_or m n false ≡ b → get_or (cond b (marked_by m (premises n)) m) i false ≡ true
      → (get_or m i false ≡ true) ⊎ ((get_or m n false ≡ true) × Found (premises n) i)
  next_from true n m i h e = go (noted_from m (premises n) i e)
    where
      go : (get_or m i false ≡ true) ⊎ Found (premises n) i → (get_or m i false ≡ true) ⊎ ((get_or m n false ≡ true) × Found (premises n) i)
      go (inl d) = inl d
      go (inr f) = inr (h, f)
  next_from false n m i h e = inl e

  pub kept_to_length : (n : ℕ) (m : List Bool) → length (kept_to l n m) ≡ length m
  unfolding kept_to
  kept_to_length zero m = refl
  kept_to_length (suc n) m = kept_to_length n (next (suc n) m) ∙ next_length (get_or m (suc n) false) (suc n) m

  pub kept_to_keeps : (n : ℕ) (m : List Bool) (i : ℕ) → get_or m i false ≡ true → get_or (kept_to l n m) i false ≡ true
  unfolding kept_to
  kept_to_keeps zero m i e = e
  kept_to_keeps (suc n) m i e = kept_to_keeps n (next (suc n) m) i (next_keeps (get_or m (suc n) false) (suc n) m i e)

  -- premises are lower lines
  abbrev pub Lower : Type 0
  Lower = (n i : ℕ) → 1 ≤ n → n ≤ length l → i < length (premises n) → get_or (premises n) i 0 < n

  module _ (lower : Lower) where
    lower_found : (n i : ℕ) → 1 ≤ n → n ≤ length l → Found (premises n) i → i < n
    lower_found n i a b f = subst (λ (x : ℕ). x < n) f.is (lower n f.place a b f.there)

    -- from line n down nothing above is set
    kept_to_above : (n : ℕ) (m : List Bool) (j : ℕ) → n ≤ length l → n ≤ j → get_or (kept_to l n m) j false ≡ true → get_or m j false ≡ true
    unfolding kept_to
    kept_to_above zero m j a b e = e
    kept_to_above (suc n) m j a b e = go (next_from (get_or m (suc n) false) (suc n) m j refl
        (kept_to_above n (next (suc n) m) j (omega arith) (omega arith) e))
      where
        go : (get_or m j false ≡ true) ⊎ ((get_or m (suc n) false ≡ true) × Found (premises (suc n)) j) → get_or m j false ≡ true
        go (inl d) = d
        go (inr p) = absurd (let h = lower_found (suc n) j (omega arith) a p.1 in omega arith)

    -- a line with a mark has its premises marked
    pub kept_to_closed : (n : ℕ) (m : List Bool) (j i : ℕ) → n ≤ length l → n < length m → 1 ≤ j → j ≤ n
        → get_or (kept_to l n m) j false ≡ true → i < length (premises j)
        → get_or (kept_to l n m) (get_or (premises j) i 0) false ≡ true
    unfolding kept_to
    kept_to_closed zero m j i a w b c e h = absurd (omega arith)
    kept_to_closed (suc n) m j i a w b c e h = go (eqb j (suc n)) refl
        (λ (q : j ≤ n). kept_to_closed n (next (suc n) m) j i (omega arith)
        (let r = next_length (get_or m (suc n) false) (suc n) m in omega arith) b q e h)
      where
        -- the line itself
        here : (x : Bool) → get_or m (suc n) false ≡ x → get_or (kept_to l n (cond x (marked_by m (premises (suc n))) m)) (suc n) false ≡ true
            → (k : ℕ) → k < length (premises (suc n))
            → get_or (kept_to l n (cond x (marked_by m (premises (suc n))) m)) (get_or (premises (suc n)) k 0) false ≡ true
        here true r d k g =
            kept_to_keeps n (marked_by m (premises (suc n))) (get_or (premises (suc n)) k 0)
            (noted_sets m (premises (suc n)) k g (let q = lower (suc n) k (omega arith) a g in omega arith))
        here false r d k g = absurd (clash (sym r ∙ kept_to_above n m (suc n) (omega arith) (omega arith) d))

        go : (x : Bool) → eqb j (suc n) ≡ x → (j ≤ n → get_or (kept_to l n (next (suc n) m)) (get_or (premises j) i 0) false ≡ true)
            → get_or (kept_to l n (next (suc n) m)) (get_or (premises j) i 0) false ≡ true
        go true q more =
            let r : suc n ≡ j = sym (eqb-true j (suc n) q) in
            subst (λ (x : ℕ). get_or (kept_to l n (next (suc n) m)) x false ≡ true → i < length (premises x)
            → get_or (kept_to l n (next (suc n) m)) (get_or (premises x) i 0) false ≡ true)
            r (λ d g. here (get_or m (suc n) false) refl d i g) e h
        go false q more = more (let r = eqb-false j (suc n) q in omega arith)

    -- what has a mark has it from the start, or stands among the premises of a line with one: each fact that premises take over
    pub kept_to_from : (Q : ℕ → Type 0) → ((n i : ℕ) → 1 ≤ n → n ≤ length l → Q n → i < length (premises n) → Q (get_or (premises n) i 0))
        → (n : ℕ) (m : List Bool) → n ≤ length l → ((j : ℕ) → get_or m j false ≡ true → Q j) → (j : ℕ) → get_or (kept_to l n m) j false ≡ true
        → Q j
    unfolding kept_to
    kept_to_from Q hand zero m a h j e = h j e
    kept_to_from Q hand (suc n) m a h j e = kept_to_from Q hand n (next (suc n) m) (omega arith)
        (λ k d. go k (next_from (get_or m (suc n) false) (suc n) m k refl d)) j e
      where
        go : (k : ℕ) → (get_or m k false ≡ true) ⊎ ((get_or m (suc n) false ≡ true) × Found (premises (suc n)) k) → Q k
        go k (inl d) = h k d
        go k (inr p) = subst Q p.1.is (hand (suc n) p.1.place (omega arith) a (h (suc n) p.0) p.1.there)

-- of a document

pub none-set : (n j : ℕ) → get_or (replicate n false) j false ≡ true → ⊥
none-set zero j e = clash e
none-set (suc n) zero e = clash e
none-set (suc n) (suc j) e = none-set n j e

pub replicate_length : {A : Type 0} (n : ℕ) (x : A) → length (replicate n x) ≡ n
replicate_length zero x = refl
replicate_length (suc n) x = ap suc (replicate_length n x)

-- what the checks leave of the lines that are named
pub record Named (D : Document) : Type 0 where
  pub few : length D.lines ≤ Limits.lines
  pub lower : Lower D.lines
  pub obligations : (i : ℕ) → i < length D.obligations → get_or D.obligations i 0 ≤ length D.lines
  pub claims : (i : ℕ) → i < length D.claims → (get_or D.claims i no_claim).line ≤ length D.lines

module _ (D : Document) where
  claim_found : (i : ℕ) → i < length D.claims → Found (map (λ c. c.line) D.claims) (get_or D.claims i no_claim).line
  claim_found i b = record {
    place = i;
    there = let q = length-map D.claims (λ (c : ClaimRecord). c.line) in omega arith;
    is = get_or-map (λ (c : ClaimRecord). c.line) D.claims i no_claim;
  }

  found_rests : (j : ℕ) → Found (named_lines D) j → Rests D j
  found_rests j f = go (found_either D.obligations (map (λ c. c.line) D.claims) j f)
    where
      go : Found D.obligations j ⊎ Found (map (λ c. c.line) D.claims) j → Rests D j
      go (inl g) = subst (Rests D) g.is (obligation g.place g.there)
      go (inr g) =
          let b : g.place < length D.claims = let q = length-map D.claims (λ (c : ClaimRecord). c.line) in let h = g.there in
          omega arith in
          subst (Rests D) (sym (get_or-map (λ (c : ClaimRecord). c.line) D.claims g.place no_claim) ∙ g.is) (claim g.place b)

  -- with w marks; there is one for each line
  module _ (N : Named D) (w : ℕ) (wide : length D.lines < w) where
    abbrev first : List Bool
    first = marked_by (replicate w false) (named_lines D)

    abbrev marks : List Bool
    marks = kept_to D.lines (length D.lines) first

    first_length : length first ≡ w
    first_length = noted_length (replicate w false) (named_lines D) ∙ replicate_length w false

    first_rests : (j : ℕ) → get_or first j false ≡ true → Rests D j
    first_rests j d = go (noted_from (replicate w false) (named_lines D) j d)
      where
        go : (get_or (replicate w false) j false ≡ true) ⊎ Found (named_lines D) j → Rests D j
        go (inl q) = absurd (none-set w j q)
        go (inr f) = found_rests j f

    marks_rest : (n : ℕ) → get_or marks n false ≡ true → Rests D n
    marks_rest n e = kept_to_from D.lines N.lower (Rests D) (λ k i a b r h. premise k i a b r h) (length D.lines) first
        (omega arith) first_rests n e

    named_marked : (n : ℕ) → n ≤ length D.lines → Found (named_lines D) n → get_or marks n false ≡ true
    named_marked n b f =
        kept_to_keeps D.lines (length D.lines) first n
        (subst (λ (x : ℕ). get_or first x false ≡ true) f.is
        (noted_sets (replicate w false) (named_lines D) f.place f.there
        (let q = replicate_length w false in let e = f.is in omega arith)))

    rests_marked : (n : ℕ) → Rests D n → (n ≤ length D.lines) × (get_or marks n false ≡ true)
    rests_marked n (obligation i b) = (
      N.obligations i b,
      named_marked _ (N.obligations i b)
          (found_left D.obligations (map (λ c. c.line) D.claims) _ (found_at D.obligations i b)),
    )
    rests_marked n (claim i b) = (
      N.claims i b,
      named_marked _ (N.claims i b)
          (found_right D.obligations (map (λ c. c.line) D.claims) _ (claim_found i b)),
    )
    rests_marked n (premise k i a b r h) = (
      let q = N.lower k i a b h in omega arith,
      kept_to_closed D.lines N.lower (length D.lines) first k i (omega arith) (let q = first_length in omega arith) a b
          (rests_marked k r).1 h,
    )

module _ (D : Document) where
  pub kept_length : length (kept D) ≡ suc Limits.lines
  unfolding kept
  kept_length =
      kept_to_length D.lines (length D.lines) (marked_by (replicate (suc Limits.lines) false) (named_lines D))
      ∙ noted_length (replicate (suc Limits.lines) false) (named_lines D) ∙ replicate_length (suc Limits.lines) false

  module _ (N : Named D) where
    wide : length D.lines < suc Limits.lines
    wide = let h = N.few in omega arith

    -- no line stays on which nothing rests
    pub kept_rests : (n : ℕ) → get_or (kept D) n false ≡ true → Rests D n
    unfolding kept
    kept_rests = marks_rest D N (suc Limits.lines) wide

    -- every line stays on which something rests
    pub rests_kept : (n : ℕ) → Rests D n → (n ≤ length D.lines) × (get_or (kept D) n false ≡ true)
    unfolding kept
    rests_kept = rests_marked D N (suc Limits.lines) wide
