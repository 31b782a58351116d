-- What a right finding says of obligations and claims, from `Judged` alone.
use mathlib.Core.Path.{◌≡◌, refl}
use mathlib.Core.Logic.{◌≢◌}
use Prim.Native.Nat.{ℕ, ◌<◌}
use native.Mathlib.Omega.{arith}
use Rattle.logic.specs.Obligations.{Obligation}
use Rattle.logic_outline.specs.Lines.{Justified}
use Rattle.logic_outline.specs.Verdict.{Image, accepted, unmet, denied, asks, forbids}
use Rattle.logic_outline.specs.Judged.{total, numbered, Meets, EachMet, Lacks, no_line, other_statement, not_justified, Sustains, EachSustained, Judged, each_met, first_unmet, first-denied}

module _ (D : Image) where
  -- an obligation that is met names a line; the line states what is wanted and is justified
  pub met_line : (k : ℕ) → Meets D k → D.named k ≢ 0
  met_line k h = h.there

  pub met_states : (k : ℕ) → Meets D k → asks D (numbered D k) ≡ (D.certificate.line (D.named k)).says
  met_states k h = h.says

  pub met_justified : (k : ℕ) → Meets D k → Justified D.program D.certificate (D.named k)
  met_justified k h = h.just

  -- a claim that is sustained names a line; the line concludes false from both assertions and is justified
  pub sustained_line : (i : ℕ) → Sustains D i → D.claims.line i ≢ 0
  sustained_line i h = h.there

  pub sustained_states : (i : ℕ) → Sustains D i → forbids D i ≡ (D.certificate.line (D.claims.line i)).says
  sustained_states i h = h.says

  pub sustained_justified : (i : ℕ) → Sustains D i → Justified D.program D.certificate (D.claims.line i)
  sustained_justified i h = h.just

  -- accepted: all obligations are met, all are counted, all claims are sustained
  pub accepted_each : (n : ℕ) → Judged D (accepted n) → (n ≡ total D) × (EachMet D × EachSustained D)
  accepted_each n (each_met h g) = (refl, (h, g))

  -- unmet: the count is the number of an obligation of the program
  pub unmet_inside : (c : ℕ) (o : Obligation) (l n : ℕ) → Judged D (unmet c o l n) → n < total D
  unmet_inside c o l n (first_unmet k b f q) = b

  -- it is the one named, with the line that it names
  pub unmet_named : (c : ℕ) (o : Obligation) (l n : ℕ) → Judged D (unmet c o l n) → (o ≡ numbered D n) × (l ≡ D.named n)
  unmet_named c o l n (first_unmet k b f q) = (refl, refl)

  -- all before it are met
  pub unmet_first : (c : ℕ) (o : Obligation) (l n : ℕ) → Judged D (unmet c o l n) → (i : ℕ) → i < n → Meets D i
  unmet_first c o l n (first_unmet k b f q) = f

  -- it lacks what the code says
  pub unmet_lacks : (c : ℕ) (o : Obligation) (l n : ℕ) → Judged D (unmet c o l n) → Lacks D o l c
  unmet_lacks c o l n (first_unmet k b f q) = q

  -- "20 no line; 21 line concludes something else; 22 line unjustified"
  pub lacks_line : (o : Obligation) (l c : ℕ) → Lacks D o l c → c ≡ 20 → l ≡ 0
  lacks_line o l c (no_line q) e = q
  lacks_line o l c (other_statement q r) e = absurd (omega arith)
  lacks_line o l c (not_justified q r u) e = absurd (omega arith)

  pub lacks_statement : (o : Obligation) (l c : ℕ) → Lacks D o l c → c ≡ 21 → (l ≢ 0) × (asks D o ≢ (D.certificate.line l).says)
  lacks_statement o l c (no_line q) e = absurd (omega arith)
  lacks_statement o l c (other_statement q r) e = (q, r)
  lacks_statement o l c (not_justified q r u) e = absurd (omega arith)

  pub lacks_justification : (o : Obligation) (l c : ℕ) → Lacks D o l c → c ≡ 22
      → (l ≢ 0) × ((asks D o ≡ (D.certificate.line l).says) × (Justified D.program D.certificate l → ⊥))
  lacks_justification o l c (no_line q) e = absurd (omega arith)
  lacks_justification o l c (other_statement q r) e = absurd (omega arith)
  lacks_justification o l c (not_justified q r u) e = (q, (r, u))

  -- denied: all obligations are met and counted, all claims before this one are sustained, this one is not
  pub denied_counted : (i n : ℕ) → Judged D (denied i n) → (n ≡ total D) × EachMet D
  denied_counted i n (first-denied k h b f g) = (refl, h)

  pub denied_inside : (i n : ℕ) → Judged D (denied i n) → i < D.claims.count
  denied_inside i n (first-denied k h b f g) = b

  pub denied_first : (i n : ℕ) → Judged D (denied i n) → (j : ℕ) → j < i → Sustains D j
  denied_first i n (first-denied k h b f g) = f

  pub denied_fails : (i n : ℕ) → Judged D (denied i n) → Sustains D i → ⊥
  denied_fails i n (first-denied k h b f g) = g
